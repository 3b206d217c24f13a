use Rattle.std.proofs.Common.{sym, ◌∙◌}
use Rattle.rd_depend.proofs.Sharing.{no_write-no_interference, no_overlap-no_interference}
use Rattle.rd_depend.proofs.dependence.interfere.Goals as goal

pub returns-then-not-either_wrote : goal.returns-then-not-either_wrote
returns-then-not-either_wrote c = sym (no_write-no_interference c.args.a.now c.args.b.now (sym c.either_wrote.ensures ∙ c.if-not-either_wrote.true))

pub returns-then-not-some_overlap : goal.returns-then-not-some_overlap
returns-then-not-some_overlap c = sym (no_overlap-no_interference c.args.a.now c.args.b.now (sym c.some_overlap.ensures ∙ c.if-not-some_overlap.true))
