-- Histories: what continues what a pass had seen, and whose entries are whose.
use Rattle.rd_lock.proofs.Prelude.{AllByRecursion, AreComparable, Continues, append-nil, put_by, with_positions, signed, ◌≡◌, ◌≢◌, ℕ, suc, ◌+◌, List, [], ◌∷◌, ◌++◌, length, sym, refl, ap, ◌∙◌, arith, append_assoc, add-zero, ne_eqb, eq-eqb}
use Rattle.rd_lock.proofs.Lists.{every_append, comparable}

module _ {E : Type 0} where
  pub Continues-itself : (pass : ℕ) (xs : List (ℕ × E)) → Continues pass xs xs
  Continues-itself pass xs = ([], sym (append-nil xs), tt)

  -- what holds of each entry that a pass signs holds of all signed entries
  pub signed_all : (P : ℕ × E → Type 0) (pass : ℕ) (es : List E) → ((e : E) → P (pass, e)) → AllByRecursion P (signed pass es)
  signed_all P pass [] each = tt
  signed_all P pass (e ∷ es) each = (each e, signed_all P pass es each)

  -- a history that continues an old one for this pass still does after another pass has put entries
  pub continues_on : (pass other : ℕ) (old log new : List (ℕ × E)) (es : List E) → other ≢ pass → Continues pass old log → new ≡ log ++ signed other es → Continues pass old new
  continues_on pass other old log new es ne c is = (
    c.0 ++ signed other es,
    is ∙ (ap (λ l. l ++ signed other es) c.1 ∙ append_assoc old c.0 (signed other es)),
    every_append (λ (e : ℕ × E). e.0 ≢ pass) c.0 (signed other es) c.2 (signed_all (λ (e : ℕ × E). e.0 ≢ pass) other es (λ e. ne)),
  )

  -- if one history continues what each of two passes has seen, one of them has seen a beginning of
  -- what the other has
  pub in_order : (pass other : ℕ) (xs ys log : List (ℕ × E)) → Continues pass xs log → Continues other ys log → AreComparable xs ys
  in_order pass other xs ys log a b = comparable xs ys log (a.0, sym a.1) (b.0, sym b.1)

  put_by-others : (pass k : ℕ) (xs : List (ℕ × E)) → AllByRecursion (λ (e : ℕ × E). e.0 ≢ pass) xs → put_by pass k xs ≡ []
  put_by-others pass k [] h = refl
  put_by-others pass k (x ∷ xs) h = rw (ne_eqb x.0 pass h.0) (put_by-others pass (suc k) xs h.1)

  put_by-append : (pass k : ℕ) (xs ys : List (ℕ × E)) → put_by pass k (xs ++ ys) ≡ put_by pass k xs ++ put_by pass (k + length xs) ys
  put_by-append pass k [] ys = ap (λ n. put_by pass n ys) (sym (add-zero k))
  put_by-append pass k (x ∷ xs) ys = grind (arith, put_by-append pass (suc k) xs ys)

  -- a history continues what a pass had seen, and more entries are put after it: the pass's own
  -- entries are those that it had, and then those among the new ones
  pub own_grows : (pass : ℕ) (old found es : List (ℕ × E)) → Continues pass old found → put_by pass 1 (found ++ es) ≡ put_by pass 1 old ++ put_by pass (1 + length found) es
  own_grows pass old found es c = rw (put_by-append pass 1 found es, c.1, put_by-append pass 1 old c.0, put_by-others pass (1 + length old) c.0 c.2, append-nil) refl

  put_by-signed : (pass k : ℕ) (es : List E) → put_by pass k (signed pass es) ≡ with_positions k es
  put_by-signed pass k [] = refl
  put_by-signed pass k (e ∷ es) = rw (eq-eqb pass pass refl) (ap (λ l. (k, e) ∷ l) (put_by-signed pass (suc k) es))

  -- the same if the pass puts the new entries itself: all of them are then its own
  pub own_signed : (pass : ℕ) (old found : List (ℕ × E)) (es : List E) → Continues pass old found → put_by pass 1 (found ++ signed pass es) ≡ put_by pass 1 old ++ with_positions (1 + length found) es
  own_signed pass old found es c = own_grows pass old found (signed pass es) c ∙ ap (λ l. put_by pass 1 old ++ l) (put_by-signed pass (1 + length found) es)

  pub own_same : (pass : ℕ) (old new : List (ℕ × E)) → Continues pass old new → put_by pass 1 new ≡ put_by pass 1 old
  own_same pass old new c = ap (put_by pass 1) (sym (append-nil new)) ∙ (own_grows pass old new [] c ∙ append-nil (put_by pass 1 old))
