-- The number of cells of a `Ring`, which is known only when the program runs.
use Rattle.std.specs.Prelude.{ℕ}
use Rattle.rd_marks.specs.declared.rings.Ring.{Ring}
use Rattle.rd_marks.specs.declared.rings.Ring.TheVariants.{Two, Four, Eight}

-- how many cells a ring has
abbrev pub ring_length : Ring → ℕ
ring_length Two = 2
ring_length Four = 4
ring_length Eight = 8
