-- An entry that depends on no earlier one is the first of its actor, so a list has at most one such
-- entry of an event.
use Rattle.rd_equivalence.proofs.Prelude.{AllByRecursion, ◌≡◌, ◌≢◌, ℕ, refl, sym, ap, subst, List, [], ◌∷◌, ◌++◌, arith, rules, free_parts, IsFree, Event, Entry}

-- none of these entries is by this actor
abbrev pub HasNoneBy : ℕ → List Entry → Type 0
HasNoneBy n xs = AllByRecursion (λ (x : Entry). n ≢ x.event.actor) xs

-- the list has an entry of this event that depends on no earlier one, and without it is `left`
pub record MayComeFirst (e : Event) (entries left : List Entry) : Type 0 where
  pub earlier : List Entry
  pub entry : Entry
  pub later : List Entry
  pub stands : entries ≡ earlier ++ entry ∷ later
  pub its_event : entry.event ≡ e
  pub free : IsFree entry earlier
  pub leaves : left ≡ earlier ++ later

-- none of the entries on which x does not depend is by its actor
free_none_by : (x : Entry) (xs : List Entry) → IsFree x xs → HasNoneBy x.event.actor xs
free_none_by x [] h = tt
free_none_by x (y ∷ ys) h = let free = free_parts x y ys h in grind (arith, free_none_by x ys free.1)

-- two ways to cut a list around an entry are one: the entries before it, the entry itself and the
-- entries behind it are the same
pub record AreOne (xs ys zs us : List Entry) (y z : Entry) : Type 0 where
  pub before : xs ≡ zs
  pub itself : y ≡ z
  pub behind : ys ≡ us

first_of_actor-unique : (n : ℕ) (xs ys zs us : List Entry) (y z : Entry) → xs ++ y ∷ ys ≡ zs ++ z ∷ us → n ≡ y.event.actor
    → n ≡ z.event.actor → HasNoneBy n xs → HasNoneBy n zs → AreOne xs ys zs us y z
first_of_actor-unique n [] ys [] us y z h by_y by_z none_x none_z = record { before = refl; itself = cc; behind = cc }
first_of_actor-unique n [] ys (z' ∷ zs) us y z h by_y by_z none_x none_z = grind arith
first_of_actor-unique n (x' ∷ xs) ys [] us y z h by_y by_z none_x none_z = grind arith
first_of_actor-unique n (x' ∷ xs) ys (z' ∷ zs) us y z h by_y by_z none_x none_z =
    let l : xs ++ y ∷ ys ≡ zs ++ z ∷ us = cc in
    grind (arith, first_of_actor-unique n xs ys zs us y z l by_y by_z none_x.1 none_z.1)

actor_of_event : (e : Event) (x : Entry) → x.event ≡ e → e.actor ≡ x.event.actor
actor_of_event e x h = ap (λ (f : Event). f.actor) (sym h)

none_before : (e : Event) (x : Entry) (xs : List Entry) → x.event ≡ e → IsFree x xs → HasNoneBy e.actor xs
none_before e x xs h free = subst (λ (f : Event). HasNoneBy f.actor xs) h (free_none_by x xs free)

-- two entries of one event in a list, neither of which depends on an earlier one, are at the same
-- index
pub free_of_event-unique : (e : Event) (xs ys zs us : List Entry) (y z : Entry) → xs ++ y ∷ ys ≡ zs ++ z ∷ us → y.event ≡ e → z.event ≡ e
    → IsFree y xs → IsFree z zs → AreOne xs ys zs us y z
free_of_event-unique e xs ys zs us y z h of_y of_z free_y free_z = search (rules, first_of_actor-unique, actor_of_event, none_before, arith)
