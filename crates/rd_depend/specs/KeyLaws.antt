-- The laws of keys that `Eq` and `Hash` of `Key` cite, as lemmas with their proofs. The test of
-- equality holds only of equal keys and is an equivalence, and equal keys are hashed as the same
-- number.
use Rattle.std.proofs.Common.{◌≡◌, true, ap, subst}
use Rattle.std.specs.Cmp.{IsEquivalence, both_ways}
use Rattle.std.specs.Hash as fed
use Rattle.rd_cell.proofs.PlaceLemmas.{name_eq-true, name_eq-refl, place_eq-true, place_eq-refl}
use Rattle.rd_depend.specs.declared.index.keys.Key.{Key}
use Rattle.rd_depend.specs.declared.index.keys.Key.TheVariants.{At, In}
use Rattle.rd_depend.specs.Keys.{key_eq, key_number}

-- the test of equality holds only of equal keys
pub key_eq-true : (k q : Key) → key_eq k q ≡ true → k ≡ q
key_eq-true (At p) (At r) h = ap At (place_eq-true p r h)
key_eq-true (In s) (In t) h = ap In (name_eq-true s t h)
key_eq-true (At p) (In t) h = cc
key_eq-true (In s) (At r) h = cc

-- each key is equal to itself
pub key_eq-refl : (k : Key) → key_eq k k ≡ true
key_eq-refl (At p) = place_eq-refl p
key_eq-refl (In s) = name_eq-refl s

-- the test of equality is symmetric
pub key_eq-sym : (k q : Key) → key_eq k q ≡ key_eq q k
key_eq-sym k q = both_ways (key_eq k q) (key_eq q k)
    (λ h. subst (λ (x : Key). key_eq x k ≡ true) (key_eq-true k q h) (key_eq-refl k))
    (λ h. subst (λ (x : Key). key_eq x q ≡ true) (key_eq-true q k h) (key_eq-refl q))

-- the test of equality is an equivalence
pub key_equiv : IsEquivalence key_eq
key_equiv = record {
  refl = key_eq-refl;
  symm = key_eq-sym;
  congr = λ k q r h. ap (λ (x : Key). key_eq x r) (key_eq-true k q h);
}

-- equal keys are hashed as the same number
pub key_number-same : (k q : Key) → key_eq k q ≡ true → fed.u64 (key_number k) ≡ fed.u64 (key_number q)
key_number-same k q h = ap (λ (x : Key). fed.u64 (key_number x)) (key_eq-true k q h)
