use Rattle.std.proofs.Common.{[], refl, sym}
use Rattle.std.proofs.lemmas.List.{append-nil}
use Rattle.rd_view_tests.proofs.tests.lock.calls.returns.Goals as goal

pub put_back-requires-clause-value : goal.put_back-requires-clause-value
put_back-requires-clause-value c = let h = c.requires.holds in record {
  rooted = refl;
  held = (h.0, c.args.numbers.entries.items, h.1, ([], sym (append-nil c.args.numbers.entries.items)));
}
