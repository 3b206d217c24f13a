-- Lists of passes, and the members of their seats.
use Rattle.rd_lock.proofs.Prelude.{length, refl, drop, take, Ghosts, Lock, LockRule, Out, Pass, PassView, Splits, View, pass_view, newcomer, newcomers, numbers_from, view_of, ◌≡◌, ℕ, zero, suc, ◌+◌, ◌-◌, ◌<◌, List, [], ◌∷◌, ◌++◌, map, sym, ap, ◌∙◌, subst, arith, append_assoc, map-append}
use Rattle.rd_lock.proofs.Lists.{one_of}
use Rattle.rd_lock.proofs.Seats.{split_allowed}

pub numbers_more : (k n : ℕ) → numbers_from k (n + 1) ≡ numbers_from k n ++ (k + n) ∷ []
numbers_more k zero = grind arith
numbers_more k (suc n) = grind (arith, numbers_more (suc k) n)

-- there are n numbers from k on
pub length-numbers : (k n : ℕ) → length (numbers_from k n) ≡ n
length-numbers k zero = refl
length-numbers k (suc n) = ap suc (length-numbers (suc k) n)

module _ {E O : Type 0} where
  -- while fewer passes than seats are handed out, the first seat has the next one
  pub next_new : (seats : ℕ) (root : O) (first n : ℕ) → n < seats
      → newcomers {E = E} seats root first (n + 1) (seats - n) ≡ newcomer seats root first (n + 1) ∷ newcomers seats root first (n + 1 + 1) (seats - (n + 1))
  next_new seats root first n less = ap (newcomers seats root first (n + 1)) {y = suc (seats - (n + 1))} (omega arith) ∙ ap (λ k. newcomer seats root first (n + 1) ∷ newcomers seats root first k (seats - (n + 1))) (omega arith)

module _ {T E O : Type 0} (lock : Lock T E O) where
  open lock use {history, origin, seats, root}

  pub split_allowed_at : (id : ℕ) (v : View E O) (p : PassView E O) (ps : List (PassView E O)) → v.stage ≡ Out → v.members ≡ p ∷ ps → Splits (LockRule lock) id v (view_of (drop 1 v.members) Out) (view_of (take 1 v.members) Out)
  split_allowed_at id v p ps out is = subst (λ (x : View E O). Splits (LockRule lock) id x (view_of (drop 1 x.members) Out) (view_of (take 1 x.members) Out)) (λ i. view_of (sym is i) (sym out i))
      (split_allowed lock id p ps)

module _ {T E O : Type 0} {K : Ghosts T E O} where
  -- all members stay when the last pass leaves the list and its members go to the joined seat
  pub popped : (old new : List (Pass T E O K)) (x : Pass T E O K) (ps all : List (PassView E O)) → old ≡ new ++ x ∷ [] → map pass_view old ++ ps ≡ all → map pass_view new ++ (x.seat.me.0.members ++ ps) ≡ all
  popped old new x ps all is h = grind (arith, append_assoc, map-append, one_of)
