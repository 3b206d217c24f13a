-- Taking out is transitive: if one list can be taken out of a second, and the second out of a
-- third, the first can be taken out of the third.
use Rattle.rd_equivalence.proofs.Prelude.{◌≡◌, ◌⊎◌, inl, inr, List, [], ◌∷◌, ◌++◌, refl, sym, subst, ◌∙◌, append_assoc, arith, Entry, AreAlike}
use Rattle.rd_depend.proofs.Elements.{all-append, all-parts}
use Rattle.rd_equivalence.proofs.TakingOut.{AreApart, apart-alike, IsApartFrom, Takes, TakesAll, takes_out}

takes-alike : (x y : Entry) (entries left : List Entry) → AreAlike x y → Takes y entries left → Takes x entries left
takes-alike x y entries left h t = grind (arith)

-- Where a step stands in two lists joined

-- the step is in the first of two lists joined
record StandsInFirst (xs ys earlier : List Entry) (x : Entry) (later : List Entry) : Type 0 where
  middle : List Entry
  first : xs ≡ earlier ++ x ∷ middle
  second : later ≡ middle ++ ys

-- the step is in the second of two lists joined
record StandsInSecond (xs ys earlier : List Entry) (x : Entry) (later : List Entry) : Type 0 where
  middle : List Entry
  first : earlier ≡ xs ++ middle
  second : ys ≡ middle ++ x ∷ later

in_either : (xs ys earlier : List Entry) (x : Entry) (later : List Entry) → xs ++ ys ≡ earlier ++ x ∷ later
    → StandsInFirst xs ys earlier x later ⊎ StandsInSecond xs ys earlier x later
in_either (z ∷ xs) ys (w ∷ earlier) x later h =
    let tail : xs ++ ys ≡ earlier ++ x ∷ later = cc in
    grind (arith, in_either xs ys earlier x later tail)
in_either xs ys earlier x later h = grind arith

-- Two steps that are apart may be taken out the one way round or the other

record TakesBoth (x y : Entry) (entries left : List Entry) : Type 0 where
  between : List Entry
  first : Takes x entries between
  second : Takes y between left

exchanged : (x y : Entry) (entries between left : List Entry) → AreApart y x → Takes x entries between → Takes y between left → TakesBoth y x entries left
exchanged x y entries between left apart t u = elim (in_either t.earlier t.later u.earlier u.entry u.later (sym t.leaves ∙ u.stands)) [
  | inl f ↦
      let parts = all-parts (AreApart t.entry) u.earlier (u.entry ∷ f.middle) (subst (IsApartFrom t.entry) f.first t.apart) in
      record {
        between = u.earlier ++ (f.middle ++ t.entry ∷ t.later);
        first = takes_out u.earlier u.entry (f.middle ++ t.entry ∷ t.later) (grind (arith, append_assoc)) u.alike u.apart refl;
        second =
            takes_out (u.earlier ++ f.middle) t.entry t.later (grind (arith, append_assoc)) t.alike
            (all-append (AreApart t.entry) u.earlier f.middle parts.0 parts.1.1) (grind (arith, append_assoc));
      }
  | inr s ↦
      let parts = all-parts (AreApart u.entry) t.earlier s.middle (subst (IsApartFrom u.entry) s.first u.apart) in
      record {
        between = (t.earlier ++ t.entry ∷ s.middle) ++ u.later;
        first =
            takes_out (t.earlier ++ t.entry ∷ s.middle) u.entry u.later (grind (arith, append_assoc)) u.alike
            (all-append (AreApart u.entry) t.earlier (t.entry ∷ s.middle) parts.0 (apart-alike y x u.entry t.entry u.alike t.alike apart, parts.1)) refl;
        second = takes_out t.earlier t.entry (s.middle ++ u.later) (grind (arith, append_assoc)) t.alike t.apart (grind (arith, append_assoc));
      }
]

-- a step of the list that is apart from those before it may be taken out first
takes_all-first : (earlier later entries : List Entry) (x : Entry) → IsApartFrom x earlier → TakesAll (earlier ++ x ∷ later) entries
    → (left : List Entry) × Takes x entries left × TakesAll (earlier ++ later) left
takes_all-first [] later entries x apart h = h
takes_all-first (y ∷ earlier) later entries x apart h =
    let rest = takes_all-first earlier later h.0 x apart.1 h.2 in
    let both = exchanged y x entries h.0 rest.0 apart.0 h.1 rest.1 in
    (both.between, both.first, (rest.0, both.second, rest.2))

pub takes_all-trans : (xs ys zs : List Entry) → TakesAll xs ys → TakesAll ys zs → TakesAll xs zs
takes_all-trans [] ys zs h k = subst (λ (l : List Entry). TakesAll l zs) h k
takes_all-trans (x ∷ xs) ys zs h k =
    let t = h.1 in
    let first = takes_all-first t.earlier t.later zs t.entry t.apart (subst (λ (l : List Entry). TakesAll l zs) t.stands k) in (
      first.0,
      takes-alike x t.entry zs first.0 t.alike first.1,
      takes_all-trans xs h.0 first.0 h.2 (subst (λ (l : List Entry). TakesAll l first.0) (sym t.leaves) first.2),
    )
