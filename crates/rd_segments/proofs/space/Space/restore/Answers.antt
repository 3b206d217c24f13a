use Rattle.std.proofs.Common.{sym, ◌∙◌}
use Rattle.rd_segments.proofs.SpaceLemmas.{array_restored}
use Rattle.rd_segments.proofs.space.Space.restore.Goals as goal

pub returns-in-None-default-default-clause-done : goal.returns-in-None-default-default-clause-done
returns-in-None-default-default-clause-done g c =
    array_restored c.args.self.now.makers.items c.args.self.now.qhead c.args.self.now.qtail c.args.self.now.array c.restore.new.self
    c.args.place c.args.content (sym c.is_of_array.ensures ∙ c.if-is_of_array.true) c.restore.ensures
