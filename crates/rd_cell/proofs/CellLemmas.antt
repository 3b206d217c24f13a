-- Cells that the test finds equal are equal.
use Rattle.rd_cell.proofs.Prelude.{◌≡◌, true, arith, Cell}
use Rattle.rd_cell.specs.Cells.{cell_eq}

-- two cells are equal if the test says so
pub cell_eq-true : (a b : Cell) → cell_eq a b ≡ true → a ≡ b
cell_eq-true a b h = grind arith
