-- The start of a session as a JSON value, in a fresh world or in any other.
use Rattle.rd_trace.proofs.Prelude.{◌≡◌, ℕ, ◌≤◌, Some, None, Result, inl, inr, refl, sym, ap, ◌∙◌, subst, arith, IfOk, OnOk, Data, MOST_ACTORS, World, fresh_world, world_of_parts, first_flaw, Parts, SpellEach, items_by, segment_name_of, segment_name_data, SpellsActor, actor_data, SpellsSegmentList, segment_list_data, SpellsFreshStart, SpellsParts, IsStartValue, fresh_data, parts_data}
use Rattle.rd_trace.proofs.ArrayLemmas.{array_spelled}
use Rattle.rd_trace.specs.declared.starts.Start.TheVariants as start

-- what holds anyway holds if a call succeeds
pub on_ok : {T E P : Type 0} (r : Result T E) → P → OnOk r P
on_ok r h = grind arith

-- what follows from two facts about the result of a call, if it succeeds
pub both_ok : {T E Q : Type 0} (P W : T → Type 0) (r : Result T E) → IfOk r P → OnOk r Q → ((x : T) → P x → Q → W x) → IfOk r W
both_ok P W r p q f = grind arith

-- ---- what is written

-- the JSON value as which parts are written spells them, if the values of their members spell these
pub parts_spelled : {R : ℕ} (p : Parts R) → SpellEach SpellsActor (items_by actor_data p.actors.items) p.actors.items → segment_name_of (segment_name_data p.qhead) ≡ Some p.qhead
    → segment_name_of (segment_name_data p.qtail) ≡ Some p.qtail → SpellEach SpellsSegmentList (items_by segment_list_data p.segments.items) p.segments.items → SpellsParts (parts_data p) p
parts_spelled p actors qhead qtail segments = grind (arith, array_spelled p.array)

-- ---- the world of a start

module _ (w : World) where
  -- a fresh world is written as a fresh start
  pub fresh_start : (count n : ℕ) → w ≡ fresh_world w.ring count → count ≡ n → (d : Data) → d ≡ fresh_data n → 1 ≤ n → n ≤ MOST_ACTORS → IsStartValue w d
  fresh_start count n e same d is some few =
      let fresh = e ∙ ap (fresh_world w.ring) same in
      let spelled : SpellsFreshStart (fresh_data n) n = record { members = refl; fresh = record { number = refl; some = some; few = few } } in
      record { written = inl (n, fresh, some, few, is); spelled = (start.Fresh n, subst (λ x. SpellsFreshStart x n) (sym is) spelled, refl, sym fresh) }

  -- any other world is written as its parts
  pub other_start : (p : Parts w.ring) → world_of_parts p ≡ w → first_flaw p ≡ None → (d : Data) → d ≡ parts_data p → ((count : ℕ) × (w ≡ fresh_world w.ring count) → ⊥) → SpellsParts (parts_data p) p
      → IsStartValue w d
  other_start p parts flawless d is other spelled = record {
    written = inr ((λ count e. other (count, e)), p, flawless, parts, is);
    spelled = (start.Parts p, subst (λ x. SpellsParts x p) (sym is) spelled, flawless, parts);
  }
