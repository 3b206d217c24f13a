-- A comparison of two runs as it goes on over the steps of the first one.
use Rattle.rd_equivalence.proofs.Prelude.{drop_all, drop-cons, Entry, Key, Reached, DecidesEquivalence, Numbered, steps_by_actor, nothing_reached, KeepsOrder, IsUnmatched, ◌≡◌, ◌↔◌, ℕ, ◌<◌, ◌≤◌, Bool, false, IsTrue, List, [], ◌∷◌, length, drop, get_or, refl, sym, ap, subst, arith, length-append}
use Rattle.rd_equivalence.proofs.KeepingOrder.{kept_taken, taken_kept}
use Rattle.rd_equivalence.proofs.RunsAgree.{taken_equivalent, untaken_different}

-- the steps of the first run keep the order of the second
abbrev pub KeepsOrderOf : List Entry → List Entry → Type 0
KeepsOrderOf a b = KeepsOrder nothing_reached a (steps_by_actor b)

-- the first run keeps the order of the second exactly if its steps after the first k keep the order
-- of what is left
abbrev pub IsLeftToCompare : List Entry → List Entry → ℕ → (Key → Reached) → (ℕ → List Numbered) → Type 0
IsLeftToCompare a b k s left = KeepsOrderOf a b ↔ KeepsOrder s (drop k a) left

-- the answers

decided : (a b : List Entry) (same : Bool) → IsTrue same ↔ KeepsOrderOf a b → DecidesEquivalence a b same
decided a b same h = grind (arith, taken_equivalent, kept_taken, untaken_different, taken_kept)

pub differs_here : (a b : List Entry) (k : ℕ) (d : Entry) (s : Key → Reached) (left : ℕ → List Numbered) → k < length a
    → IsLeftToCompare a b k s left → IsUnmatched (get_or a k d) s left → DecidesEquivalence a b false
differs_here a b k d s left within h elsewhere =
    decided a b false (
      λ yes. cc,
      λ all.
          let rest = subst (λ (l : List Entry). KeepsOrder s l left) (drop-cons a k d within) (h.0 all) in
          absurd (elsewhere rest.0 rest.1 rest.2),
    )

pub decided_at_end : (a b : List Entry) (k : ℕ) (s : Key → Reached) (left : ℕ → List Numbered) (same : Bool) → length a ≤ k
    → IsLeftToCompare a b k s left → IsTrue same ↔ ((n : ℕ) → left n ≡ []) → DecidesEquivalence a b same
decided_at_end a b k s left same all h g =
    let none = drop_all k a all in
    decided a b same (
      λ yes. h.1 (subst (λ (l : List Entry). KeepsOrder s l left) (sym none) (g.0 yes)),
      λ kept. g.1 (subst (λ (l : List Entry). KeepsOrder s l left) none (h.0 kept)),
    )

pub some_and_none : (a b : List Entry) → (length a ≡ 0 → ⊥) → length b ≡ 0 → DecidesEquivalence a b false
some_and_none [] b some none = absurd (some refl)
some_and_none (x ∷ xs) [] some none =
    untaken_different (x ∷ xs) [] (λ h. omega (arith, ap length h.1.stands, length-append h.1.earlier (h.1.entry ∷ h.1.later)))
some_and_none (x ∷ xs) (y ∷ ys) some none = absurd (omega arith)
