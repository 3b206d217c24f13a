-- A cell, as the name of its two halves, in a well-formed world.
use Rattle.rd_step.proofs.Prelude.{◌≡◌, ℕ, true, false, ◌&&◌, nat_lt, Bool, ◌∙◌, ap₂, Option, Some, None, is_some, IfSome, arith, SegName, Place, Content, covers, share, operand, Contents, is_there, is_cell_place, World, Presence, belongs, content_fits, place_fits, IsWellFormed, cell_of_halves}
use Rattle.rd_cell.specs.declared.places.Place.TheVariants as place
use Rattle.rd_cell.specs.declared.contents.Content.TheVariants as content

-- a content that is not there is none
pub nothing_there : (o : Option Content) → is_some o ≡ false → o ≡ None
nothing_there o h = grind arith

-- a content that is there is some content
pub some_there : (o : Option Content) → is_some o ≡ true → (c : Content) × (o ≡ Some c)
some_there o h = grind arith

-- a well-formed world's map has no cell as a place
pub bare_cell : (w : World) → IsWellFormed w → (q : Place) → is_cell_place q ≡ true → w.at q ≡ None
bare_cell w formed (place.Cell s i) h = nothing_there (w.at (place.Cell s i)) (formed.places (place.Cell s i))
bare_cell w formed _ h = cc

-- What fits a place

-- an operand fits its place if every content fits its own
pub operand_fits : (R : ℕ) (there : Presence) (at : Contents) (p : Place) (c : Content) → ((q : Place) → place_fits R there q (at q) ≡ true)
    → operand at p ≡ Some c → content_fits R there p c ≡ true
operand_fits R there at p c fits h = grind arith

-- if a content fits a place, each place that this one covers gets a share that fits
pub share_fits : (R : ℕ) (there : Presence) (p : Place) (c : Content) (q : Place) → content_fits R there p c ≡ true → covers p q ≡ true
    → place_fits R there q (share p (Some c) q) ≡ true
share_fits R there p c q h k = grind arith

-- contents that fit one place give shares to the same places
pub same_kinds : (R : ℕ) (there : Presence) (p : Place) (c : Content) (o : Option Content) (q : Place) → content_fits R there p c ≡ true
    → IfSome o (λ d. content_fits R there p d ≡ true) → IfSome o (λ d. is_some (share p (Some d) q) ≡ is_some (share p (Some c) q))
same_kinds R there p c o q h k = grind arith

-- Places with an operand

-- whether there is a place for an operation: for a cell of the ring, its segment is there; any
-- other place belongs to the world
abbrev pub has_place : ℕ → Presence → Place → Bool
has_place R there (place.Cell s i) = nat_lt i R && there s
has_place R there p = belongs R there p

value_half_there : (R : ℕ) (there : Presence) (s : SegName) (i : ℕ) (o : Option Content) → is_some o ≡ true → place_fits R there (place.Val s i) o ≡ true
    → (val : Option ℕ) × (o ≡ Some (content.Val val))
value_half_there R there s i o h k = grind arith

index_half_there : (R : ℕ) (there : Presence) (s : SegName) (i : ℕ) (o : Option Content) → is_some o ≡ true → place_fits R there (place.Idx s i) o ≡ true
    → (safe : Bool) × (idx : ℕ) × (o ≡ Some (content.Idx safe idx))
index_half_there R there s i o h k = grind arith

-- a cell has an operand if both its halves are there
pub cell_there : (R : ℕ) (there : Presence) (at : Contents) (s : SegName) (i : ℕ) → ((q : Place) → place_fits R there q (at q) ≡ true)
    → is_some (at (place.Val s i)) ≡ true → is_some (at (place.Idx s i)) ≡ true → (c : Content) × (operand at (place.Cell s i) ≡ Some c)
cell_there R there at s i fits h k =
    let v = value_half_there R there s i (at (place.Val s i)) h (fits (place.Val s i)) in
    let x = index_half_there R there s i (at (place.Idx s i)) k (fits (place.Idx s i)) in
    (content.Cell (record { safe = x.0; idx = x.1; val = v.0 }), ap₂ cell_of_halves v.1 x.2)

-- an operation at this place has an operand
pub record HasOperand (w : World) (p : Place) : Type 0 where
  pub content : Content
  pub found : operand w.at p ≡ Some content
  pub fits : content_fits w.ring (is_there w.at) p content ≡ true

operand_of : (w : World) (p : Place) → IsWellFormed w → (c : Content) × (operand w.at p ≡ Some c) → HasOperand w p
operand_of w p formed found = record {
  content = found.0;
  found = found.1;
  fits = operand_fits w.ring (is_there w.at) w.at p found.0 formed.contents found.1;
}

-- in a well-formed world, a place for an operation has an operand
pub has_operand : (w : World) (p : Place) → IsWellFormed w → has_place w.ring (is_there w.at) p ≡ true → HasOperand w p
has_operand w (place.Cell s i) formed h =
    operand_of w (place.Cell s i) formed
    (cell_there w.ring (is_there w.at) w.at s i formed.contents (formed.places (place.Val s i) ∙ h) (formed.places (place.Idx s i) ∙ h))
has_operand w (place.Whole s) formed h = cc
has_operand w p formed h = operand_of w p formed (some_there (w.at p) (formed.places p ∙ h))
