use Rattle.rd_view.proofs.Prelude.{take, AreParsed}
use Rattle.rd_view.proofs.viewing.parse_scripts.Given as goal

-- the scripts before this one were read
abbrev pub invariant-loop-script : goal.invariant-loop-script
invariant-loop-script l = AreParsed (take l.script-index l.scripts) l.said.items
