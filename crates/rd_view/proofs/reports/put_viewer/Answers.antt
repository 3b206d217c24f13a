use Rattle.rd_view.proofs.Prelude.{◌∙◌, ◌++◌, ap, Viewer, heading_text}
use Rattle.rd_view.proofs.ReportLemmas.{both_appended}
use Rattle.rd_view.proofs.reports.put_viewer.Goals as goal

pub returns-in-Some : goal.returns-in-Some
returns-in-Some c =
    rw c.in-Some.is (both_appended c.put_report.result c.args.text.now.items c.extend_from_slice.new.self.items c.put_report.new.text.items (heading_text (Viewer c.args.viewer)) _
    (c.in_ok-extend_from_slice.ensures.items ∙ ap (λ t. c.args.text.now.items ++ t) (c.as_slice.ensures.value ∙ c.set_heading.ensures))
    (rw c.as_slice-in-Some.ensures.value at c.put_report.ensures))

pub returns-in-None : goal.returns-in-None
returns-in-None c =
    rw c.in-None.is (both_appended c.put_answer.result c.args.text.now.items c.extend_from_slice.new.self.items c.put_answer.new.text.items (heading_text (Viewer c.args.viewer)) _
    (c.in_ok-extend_from_slice.ensures.items ∙ ap (λ t. c.args.text.now.items ++ t) (c.as_slice.ensures.value ∙ c.set_heading.ensures)) c.put_answer.ensures)
