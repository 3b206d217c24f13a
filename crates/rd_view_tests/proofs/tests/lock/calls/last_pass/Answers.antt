use Rattle.std.proofs.Common.{◌≡◌, ℕ, zero, suc, ◌+◌, ◌-◌, List, map, [], ◌∷◌, ◌++◌, refl, sym, ap, ◌∙◌, subst, arith}
use Rattle.std.specs.List.{AllByRecursion}
use Rattle.rd_lock.specs.declared.views.Recorded.{Ghosts}
use Rattle.rd_lock.specs.declared.passes.Pass.{Pass}
use Rattle.rd_lock.specs.Lists.{numbers_from}
use Rattle.rd_lock.specs.Locks.{number}
use Rattle.rd_lock.specs.Opening.{IsNewPass}
use Rattle.rd_lock.proofs.Lists.{every_back}
use Rattle.rd_view_tests.proofs.tests.lock.calls.last_pass.Goals as goal

module _ {T E O : Type 0} {K : Ghosts T E O} where
  -- the last of some passes that are numbered in order
  last_number : (k n : ℕ) (xs : List (Pass T E O K)) (x : Pass T E O K) → map number (xs ++ x ∷ []) ≡ numbers_from k (suc n) → (number x ≡ k + n) × (map number xs ≡ numbers_from k n)
  last_number k zero [] x is = let e : number x ≡ k = cc in (omega arith, refl)
  last_number k zero (y ∷ []) x is = cc
  last_number k zero (y ∷ z ∷ xs) x is = cc
  last_number k (suc n) [] x is = cc
  last_number k (suc n) (y ∷ xs) x is = let e : number y ≡ k = cc in let rest : map number (xs ++ x ∷ []) ≡ numbers_from (suc k) (suc n) = cc in
      let r = last_number (suc k) n xs x rest in let m = r.0 in (omega arith, (λ i. e i ∷ r.1 i))

  last_of : (count : ℕ) (xs : List (Pass T E O K)) (x : Pass T E O K) → map number (xs ++ x ∷ []) ≡ numbers_from 1 count → (number x ≡ count) × (map number xs ≡ numbers_from 1 (count - 1))
  last_of zero [] x is = cc
  last_of zero (y ∷ xs) x is = cc
  last_of (suc n) xs x is = let r = last_number 1 n xs x is in let m = r.0 in let one : n ≡ suc n - 1 = omega arith in (omega arith, r.1 ∙ ap (numbers_from 1) one)

pub returns-clause-own : goal.returns-clause-own
returns-clause-own g c = let is = c.in-Some.ensures.items in let pass = c.in-Some.pass in
    let new = (every_back _ c.pop.new.self.items (pass ∷ []) (subst (AllByRecursion (IsNewPass c.args.lock.now c.args.first)) is c.requires.each)).0 in
    (new.is_pass, new.is_out, (last_of c.args.count c.pop.new.self.items pass (ap (map number) (sym is) ∙ c.requires.numbers)).0)

pub returns-clause-numbers : goal.returns-clause-numbers
returns-clause-numbers g c = let is = c.in-Some.ensures.items in
    (last_of c.args.count c.pop.new.self.items c.in-Some.pass (ap (map number) (sym is) ∙ c.requires.numbers)).1
