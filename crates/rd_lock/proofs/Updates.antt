-- Functions of numbers, changed at one argument.
use Rattle.std.proofs.Common.{◌≡◌, ◌≢◌, ℕ, cond, eqb, ap, eq-eqb, ne_eqb}

abbrev pub put : (ℕ → ℕ) → ℕ → ℕ → ℕ → ℕ
put f k x j = cond (eqb j k) x (f j)

pub put_here : (f : ℕ → ℕ) (k x j : ℕ) → j ≡ k → put f k x j ≡ x
put_here f k x j e = ap (λ b. cond b x (f j)) (eq-eqb j k e)

pub put_else : (f : ℕ → ℕ) (k x j : ℕ) → j ≢ k → put f k x j ≡ f j
put_else f k x j ne = ap (λ b. cond b x (f j)) (ne_eqb j k ne)
