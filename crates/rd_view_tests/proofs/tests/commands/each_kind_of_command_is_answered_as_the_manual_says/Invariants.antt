use Rattle.rd_desk.specs.Desks.{IsViewerOf}
use Rattle.rd_view_tests.proofs.tests.commands.each_kind_of_command_is_answered_as_the_manual_says.Given as goal

-- each pass is one of its desk's
abbrev pub invariant-loop-line : goal.invariant-loop-line
invariant-loop-line g l = record {
  asking : IsViewerOf l.asked l.asking;
  trying : IsViewerOf l.tried l.trying;
}
