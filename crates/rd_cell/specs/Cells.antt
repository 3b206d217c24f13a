-- Cells: equality, and the cells of a fresh segment.
use Rattle.std.specs.Prelude.{ℕ, Bool, true, ◌==◌, ◌&&◌, Option, None}
use Rattle.std.specs.Bool.{beq}
use Rattle.std.specs.Option.{option_eq}
use Rattle.rd_cell.specs.declared.cells.Cell.{Cell}

-- whether two cells are equal
abbrev pub cell_eq : Cell → Cell → Bool
cell_eq a b = beq a.safe b.safe && (a.idx == b.idx) && option_eq ◌==◌ a.val b.val

-- the cell with these words
abbrev pub cell_with : Bool → ℕ → Option ℕ → Cell
cell_with safe idx val = record { safe = safe; idx = idx; val = val }

-- cell u of a fresh segment: it is safe and empty, and has index u
abbrev pub fresh_cell : ℕ → Cell
fresh_cell u = cell_with true u None
