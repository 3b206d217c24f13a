use Rattle.rd_marks.proofs.Prelude.{◌++◌, length-append, map-append, journal}
use Rattle.rd_journal.proofs.Walks.{whole_run}
use Rattle.rd_marks.proofs.EntryLemmas.{events_can_run}
use Rattle.rd_marks.proofs.laws.the_events_of_a_session_can_run.Goals as goal

pub returns : goal.returns
returns g c =
    let j = journal c.args.session.now in
    let run = whole_run j c.world-world.ensures.runs in
    let few = c.world-world.ensures.few in
    simp map-append at (events_can_run j.start (j.live ++ j.undone) (record { few = simp length-append few; ran = run }))
