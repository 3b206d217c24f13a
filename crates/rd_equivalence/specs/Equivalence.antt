-- When an answer about the equivalence of two runs is right.
use Rattle.std.specs.Prelude.{◌↔◌, Bool, IsTrue, List}
use Rattle.rd_step.specs.Prelude.{World}
use Rattle.rd_step.specs.Equivalence.{IsEquivalent}
use Rattle.rd_step.specs.Run.{events, IsRunFrom}
use Rattle.rd_step.specs.declared.entries.Entry.{Entry}

-- the answer is right: for any start from which both lists are the entries of a run, it is true
-- exactly if their events are causally equivalent
abbrev pub DecidesEquivalence : List Entry → List Entry → Bool → Type 0
DecidesEquivalence a b same = (w : World) → IsRunFrom w a → IsRunFrom w b → IsTrue same ↔ IsEquivalent w (events a) (events b)
