use Rattle.rd_trace.proofs.Prelude.{arith}
use Rattle.rd_trace.proofs.SpellLemmas.{spell_each-more, spelled_at, part_passed_up}
use Rattle.rd_trace.proofs.spelled.parse_list.Goals as goal

pub returns-in_err-from_value : goal.returns-in_err-from_value
returns-in_err-from_value g c = grind (arith, part_passed_up, spelled_at)

pub loop-value-preserved : goal.loop-value-preserved
loop-value-preserved g c = grind (arith, spell_each-more)
