use Rattle.rd_depend.proofs.Prelude.{◌≡◌, ap, ◌∙◌, arith, SegName, Place, index_half, At, search_key}
use Rattle.rd_depend.proofs.index.keys.Key.for_search.Goals as goal
use Rattle.rd_cell.specs.declared.places.Place.TheVariants as place

-- any place but the whole of a segment
other : (p : Place) → ((t : SegName) → p ≡ place.Whole t → ⊥) → At (index_half p) ≡ search_key p
other p h = grind arith

pub returns-in_default : goal.returns-in_default
returns-in_default c = ap At c.index_half.ensures ∙ other c.args.place c.in_default.not-Whole
