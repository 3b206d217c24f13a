use Rattle.std.proofs.Common.{arith}
use Rattle.rd_step.proofs.Prelude.{contents, uses_passed_up, uses_too}
use Rattle.rd_step.proofs.PassedUp.{error_passed_up}
use Rattle.rd_step.proofs.WorldLemmas.{makes_access, refuses_access}
use Rattle.rd_step.proofs.fields.make_segment.Goals as goal

pub returns-in_err-name-clause-err : goal.returns-in_err-name-clause-err
returns-in_err-name-clause-err g c =
    error_passed_up _ c.in_err-name.field-0.0 c.from_residual.result c.from_residual.ensures.1
    (refuses_access c.args.space.now c.args.actor c.args.value c.in_err-name.field-0.0 c.requires.counted c.in_err-name.ensures.err)

pub returns-clause-ok : goal.returns-clause-ok
returns-clause-ok g c =
    makes_access c.args.space.now (contents c.make.new.self) c.args.actor c.args.value c.in_ok-name.name _ c.requires.counted c.in_ok-name.ensures.name c.in_ok-name.ensures.ok c.of_making.ensures

pub returns-in_err-name-clause-room : goal.returns-in_err-name-clause-room
returns-in_err-name-clause-room g c = grind (arith, uses_passed_up)

pub returns-clause-room : goal.returns-clause-room
returns-clause-room g c = grind (arith, uses_too)
