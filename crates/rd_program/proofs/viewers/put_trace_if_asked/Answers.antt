use Rattle.std.proofs.Common.{◌≡◌, [], false, rules, sym}
use Rattle.std.proofs.lemmas.List.{append-nil}
use Rattle.rd_program.proofs.ViewLemmas.{no_trace}
use Rattle.rd_program.proofs.viewers.put_trace_if_asked.Goals as goal

pub returns-then-not-asked : goal.returns-then-not-asked
returns-then-not-asked c = let off : c.args.asked ≡ false = search rules in ([], sym (append-nil c.args.text.now.items), no_trace c.args.asked _ off)
