use Rattle.rd_journal.proofs.Prelude.{◌∙◌, arith, fact_passed_up, on_ok_weaker, on_err_weaker}
use Rattle.rd_journal.proofs.sessions.Session.switch.Goals as goal

pub returns-in_err-make_room_to_switch-clause-unchanged : goal.returns-in_err-make_room_to_switch-clause-unchanged
returns-in_err-make_room_to_switch-clause-unchanged g c = fact_passed_up c.from_residual.result c.make_room_to_switch.ensures.unchanged

pub replace_steps_after-requires : goal.replace_steps_after-requires
replace_steps_after-requires g c = grind arith

pub returns-clause-ok : goal.returns-clause-ok
returns-clause-ok g c = grind (arith, on_ok_weaker)

pub returns-clause-err : goal.returns-clause-err
returns-clause-err g c = grind arith

pub returns-clause-unchanged : goal.returns-clause-unchanged
returns-clause-unchanged g c =
    let ready = c.make_room_to_switch.ensures.unchanged in
    on_err_weaker c.replace_steps_after.result (λ same. record { journal = same.journal ∙ ready.journal; track = same.track ∙ ready.track }) c.replace_steps_after.ensures.unchanged
