-- Taking out is symmetric: if one list can be taken out of another, step by step, the other can be
-- taken out of the one.
use Rattle.rd_equivalence.proofs.Prelude.{AllByRecursion, ◌≡◌, ◌≢◌, true, List, [], ◌∷◌, ◌++◌, refl, sym, ap, subst, arith, Entry, Key, is_under, AreAlike}
use Rattle.rd_equivalence.proofs.TouchedKeys.{wrote_under}

-- Steps that are alike

pub alike-same : (x y : Entry) → x ≡ y → AreAlike x y
alike-same x y h = grind arith

pub alike-sym : (x y : Entry) → AreAlike x y → AreAlike y x
alike-sym x y h = record { event = sym h.event; place = sym h.place; wrote = sym h.wrote }

-- steps that are alike touched and wrote under the same keys
pub touched-alike : (x y : Entry) → AreAlike x y → (k : Key) → is_under k x.place ≡ is_under k y.place
touched-alike x y h k = λ i. is_under k (h.place i)

pub wrote-alike : (x y : Entry) → AreAlike x y → (k : Key) → wrote_under k x.place x.wrote ≡ wrote_under k y.place y.wrote
wrote-alike x y h k = λ i. wrote_under k (h.place i) (h.wrote i)

-- Steps that may change places

-- two steps are of different actors, and neither wrote under a key where the other touched
pub record AreApart (x y : Entry) : Type 0 where
  pub actors : x.event.actor ≢ y.event.actor
  pub first : (k : Key) → wrote_under k x.place x.wrote ≡ true → is_under k y.place ≡ true → ⊥
  pub second : (k : Key) → is_under k x.place ≡ true → wrote_under k y.place y.wrote ≡ true → ⊥

-- the step x is apart from each of these
abbrev pub IsApartFrom : Entry → List Entry → Type 0
IsApartFrom x ys = AllByRecursion (AreApart x) ys

pub apart-sym : (x y : Entry) → AreApart x y → AreApart y x
apart-sym x y h = grind arith

-- if two steps are apart, so are two steps like them
pub apart-alike : (x y u v : Entry) → AreAlike x u → AreAlike y v → AreApart x y → AreApart u v
apart-alike x y u v h g a = grind arith

-- Taking out

-- the list has a step like x that is apart from those before it, and without it is `left`
pub record Takes (x : Entry) (entries left : List Entry) : Type 0 where
  pub earlier : List Entry
  pub entry : Entry
  pub later : List Entry
  pub stands : entries ≡ earlier ++ entry ∷ later
  pub alike : AreAlike x entry
  pub apart : IsApartFrom entry earlier
  pub leaves : left ≡ earlier ++ later

-- taking out, from the place in the list
pub takes_out : {x : Entry} {entries left : List Entry} (earlier : List Entry) (entry : Entry) (later : List Entry) → entries ≡ earlier ++ entry ∷ later
    → AreAlike x entry → IsApartFrom entry earlier → left ≡ earlier ++ later → Takes x entries left
takes_out earlier entry later stands alike apart leaves =
    record { earlier = earlier; entry = entry; later = later; stands = stands; alike = alike; apart = apart; leaves = leaves }

-- steps like these can be taken out of the other list one after another, and nothing is left
abbrev pub TakesAll : List Entry → List Entry → Type 0
TakesAll [] entries = entries ≡ []
TakesAll (x ∷ xs) entries = (left : List Entry) × Takes x entries left × TakesAll xs left

-- if a list can be taken out of another, it still can with a step put in where it is apart from
-- those before it, and a like step in front of the other list
takes_all-insert : (xs ys zs : List Entry) (x y : Entry) → AreAlike x y → IsApartFrom y xs → TakesAll (xs ++ ys) zs → TakesAll (xs ++ y ∷ ys) (x ∷ zs)
takes_all-insert [] ys zs x y alike apart h = (zs, takes_out [] x zs refl (alike-sym x y alike) tt refl, h)
takes_all-insert (q ∷ xs) ys zs x y alike apart h =
    let t = h.1 in (
      x ∷ h.0,
      takes_out (x ∷ t.earlier) t.entry t.later (ap (λ (l : List Entry). x ∷ l) t.stands) t.alike
          (apart-sym x t.entry (apart-alike y q x t.entry (alike-sym x y alike) t.alike apart.0), t.apart) (ap (λ (l : List Entry). x ∷ l) t.leaves),
      takes_all-insert xs ys h.0 x y alike apart.1 h.2,
    )

-- if one list can be taken out of another, the other can be taken out of it
pub takes_all-sym : (xs ys : List Entry) → TakesAll xs ys → TakesAll ys xs
takes_all-sym [] ys h = subst (λ (l : List Entry). TakesAll l []) (sym h) refl
takes_all-sym (x ∷ xs) ys h = grind (arith, takes_all-insert, takes_all-sym xs h.0 h.2)
