-- Segments as JSON values: which cells are read.
use Rattle.rd_trace.proofs.Prelude.{◌≡◌, refl, ℕ, ◌+◌, ◌<◌, ◌≤◌, List, [], ◌∷◌, length, take, set, get_or, None, arith, add-one, take-suc-set, length-set, take_all, view, items_view, Cell, SegmentParts, Gives, SpellEach, cell_of_items, cell_of, SpellsSegment, Value, Data, Items, as_array, Option, Result, Ok, Err, Vec, Global, TraceFault, NoMemory, BadTrace, Reads, elements, itself, SpellEachOf, SpellsSegmentList, subst, sym}
use Rattle.rd_trace.proofs.SpellLemmas.{spell_each-more}

-- a list of another length than three spells no cell
pub spells_no_cell : (vs : List Value) → (length vs ≡ 3 → ⊥) → cell_of_items (items_view vs) ≡ None
spells_no_cell (a ∷ b ∷ c ∷ []) three = absurd (three refl)
spells_no_cell _ three = refl

-- ---- the cells of a ring: the first are those of the values at their places

pub record AreRead (n : ℕ) (vs : List Value) (cells : List Cell) (i : ℕ) : Type 0 where
  pub count : length cells ≡ n
  pub so_far : SpellEach (Gives cell_of) (items_view (take i vs)) (take i cells)

module _ (n : ℕ) (vs : List Value) (cells : List Cell) (i : ℕ) (h : AreRead n vs cells i) where
  pub one_more_cell : (v : Value) → i < length vs → v ≡ get_or vs i v → (c : Cell) → i < n → Gives cell_of (view v) c → AreRead n vs (set cells i c) (i + 1)
  one_more_cell v within is c room read = grind (arith, set, add-one, take-suc-set, length-set, spell_each-more)

  pub all_cells : length vs ≤ i → length vs ≡ n → SpellEach (Gives cell_of) (items_view vs) cells
  all_cells past count = grind (arith, take_all)

-- the result of reading a list of segments is the result of reading the JSON value that has it
pub segments_read : {R : ℕ} (d : Data) (o : Option Items) → o ≡ as_array d → (r : Result (Vec (SegmentParts R) Global) TraceFault) → Reads elements (SpellEachOf SpellsSegment o) r → Reads itself (SpellsSegmentList d) r
segments_read d o is (Ok v) h = subst (λ p. SpellEachOf SpellsSegment p v.items) is h
segments_read d o is (Err NoMemory) h = tt
segments_read d o is (Err BadTrace) h = λ v k. h v.items (subst (λ p. SpellEachOf SpellsSegment p v.items) (sym is) k)
segments_read d o is (Err _) h = absurd h
