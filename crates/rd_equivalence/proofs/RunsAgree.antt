-- The events of two runs from one world are equivalent exactly if the entries of one may be taken
-- out of the other.
use Rattle.rd_equivalence.proofs.Prelude.{AllByRecursion, ◌≡◌, true, false, refl, sym, ap, subst, List, [], ◌∷◌, ◌++◌, Ok, arith, list_any, or_from, depends, free_parts, World, step, IsFree, Entry, IsEquivalent, events, IsRunFrom, first_step, DecidesEquivalence}
use Rattle.rd_depend.proofs.Elements.{all-parts, map-nil}
use Rattle.rd_equivalence.proofs.FirstOfActor.{MayComeFirst}
use Rattle.rd_equivalence.proofs.Exactness.{comes_first, runs_on, equivalent_first}
use Rattle.rd_equivalence.proofs.TakingOut.{alike-same, IsApartFrom, Takes, TakesAll, takes_out}
use Rattle.rd_equivalence.proofs.KeysMeet.{MakingWrote, apart_of_free, free_of_apart}

-- A step of a run at the whole of a segment is its making, which wrote

making_wrote : (w v : World) (x : Entry) → step w x.event ≡ Ok (record { world = v; entry = x }) → MakingWrote x
making_wrote w v x k t e = grind arith

abbrev AllMakingsWrote : List Entry → Type 0
AllMakingsWrote xs = AllByRecursion MakingWrote xs

makings_wrote : (w : World) (xs : List Entry) → IsRunFrom w xs → AllMakingsWrote xs
makings_wrote w [] h = tt
makings_wrote w (x ∷ xs) h =
    let first = first_step w x xs h in
    (making_wrote w first.after x first.goes, makings_wrote first.after xs first.rest)

-- Free and apart

free-apart_from : (x : Entry) (ys : List Entry) → MakingWrote x → AllMakingsWrote ys → IsFree x ys → IsApartFrom x ys
free-apart_from x [] made_x made_y h = tt
free-apart_from x (y ∷ ys) made_x made_y h =
    let free = free_parts x y ys h in
    (apart_of_free x y made_x made_y.0 free.0, free-apart_from x ys made_x made_y.1 free.1)

apart_from-free : (x : Entry) (ys : List Entry) → IsApartFrom x ys → IsFree x ys
apart_from-free x [] h = refl
apart_from-free x (y ∷ ys) h = or_from (depends x y) (list_any (depends x) ys) (free_of_apart x y h.0) (apart_from-free x ys h.1)

-- What is equivalent may be taken out, one step after another

pub equivalent_taken : (w : World) (xs ys : List Entry) → IsRunFrom w xs → IsRunFrom w ys → IsEquivalent w (events xs) (events ys) → TakesAll xs ys
equivalent_taken w [] ys runs_x runs_y h = map-nil (λ (y : Entry). y.event) ys h
equivalent_taken w (x ∷ xs) ys runs_x runs_y h =
    let c = comes_first w x.event (events xs) ys runs_y h in
    let m = c.may in
    let first = first_step w x xs runs_x in
    let on = runs_on w x xs ys c.left first runs_y m in
    let makings = all-parts MakingWrote m.earlier (m.entry ∷ m.later) (makings_wrote w (m.earlier ++ m.entry ∷ m.later) (subst (λ (l : List Entry). IsRunFrom w l) m.stands runs_y)) in (
      c.left,
      takes_out m.earlier m.entry m.later m.stands (alike-same x m.entry (sym on.same)) (free-apart_from m.entry m.earlier makings.1.0 makings.0 m.free) m.leaves,
      equivalent_taken first.after xs c.left first.rest on.runs ((equivalent_first w x xs ys c.left first runs_y m).0 h),
    )

-- and the way back

taken-may_come_first : (x : Entry) (ys left : List Entry) → Takes x ys left → MayComeFirst x.event ys left
taken-may_come_first x ys left t = grind (arith, apart_from-free)

taken_same : (w : World) (xs ys : List Entry) → IsRunFrom w xs → IsRunFrom w ys → TakesAll xs ys → IsEquivalent w (events xs) (events ys)
taken_same w [] ys runs_x runs_y h = ap events h
taken_same w (x ∷ xs) ys runs_x runs_y h =
    let first = first_step w x xs runs_x in
    let m = taken-may_come_first x ys h.0 h.1 in
    grind (arith, first_step, taken-may_come_first, equivalent_first, runs_on, taken_same first.after xs h.0 first.rest (runs_on w x xs ys h.0 first runs_y m).runs h.2)

-- the answers

pub taken_equivalent : (a b : List Entry) → TakesAll a b → DecidesEquivalence a b true
taken_equivalent a b h w runs_a runs_b = (λ yes. taken_same w a b runs_a runs_b h, λ equivalent. refl)

pub untaken_different : (a b : List Entry) → (TakesAll a b → ⊥) → DecidesEquivalence a b false
untaken_different a b h w runs_a runs_b = (λ yes. cc, λ equivalent. absurd (h (equivalent_taken w a b runs_a runs_b equivalent)))
