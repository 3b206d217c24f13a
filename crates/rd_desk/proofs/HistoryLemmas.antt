-- What one more call makes of a history, and of the room of its list.
use Rattle.rd_desk.proofs.Prelude.{BookState, Call, Command, IsCapacity, IsLeftBy, IsLegal, IsObeyed, Refusal, book_state, Reply, viewer_entry, ∥∥₁_map, session_of, ◌≡◌, ◌+◌, ◌*◌, ◌^◌, ◌⊎◌, inl, inr, max, suc, arith, Ok, Err, OnOk, OnErr, ℕ, List, [], ◌∷◌, ◌++◌, sym, ap, map-append, ◌∙◌, subst, Result, journal, IsLastCall, IsRefusalOfAsk, LeavesHistory, DeskRefusal, length, length-append, add-one, refl}
use Rattle.std.specs.Prelude.{Some, IfErr, IfOk}
use Rattle.rd_desk.specs.Asking.{without_number}
use Rattle.rd_step.specs.Lists.{numbered}
use Rattle.rd_marks.specs.declared.books.Book.{Book}
use Rattle.rd_marks.proofs.Headlines.{book_runs}
use Rattle.rd_marks.proofs.ObeyLemmas.{one_more_obeyed}
use Rattle.std.proofs.lemmas.Nat.{pow_pos}

pub left_by_no_call : {R : ℕ} (b : BookState) (book : Book R) (es : List (ℕ × Call)) → es ≡ [] → book_state book ≡ b → IsLeftBy b es book
left_by_no_call b book es none same = ∣ record {
  answered = rw none same;
  start = ap (λ (s : BookState). s.session.start) same;
  is_run = book_runs book;
} ∣₁

-- if the entries led to the book, they also do with one more call that it answered as recorded
pub left_by_one_more_call : {R : ℕ} (viewer : ℕ) (b : BookState) (before after : Book R) (old new : List (ℕ × Call)) (c : Command) (answer : Result Reply Refusal)
    → IsLeftBy b old before → IsObeyed (book_state before) c (record { answer = answer; state = book_state after })
    → (book_state after).session.start ≡ (book_state before).session.start → new ≡ old ++ viewer_entry viewer c answer ∷ [] → IsLeftBy b new after
left_by_one_more_call viewer b before after old new c answer h k start is =
    ∥∥₁_map h (λ l. record {
      answered = rw (is, map-append, map-append) (one_more_obeyed b (book_state before) (book_state after) _ _ c answer l.answered k);
      start = start ∙ l.start;
      is_run = book_runs after;
    })

-- a history that was left by an answered call ends with this call, under its length
pub is_last_call : (viewer calls : ℕ) (found new : List (ℕ × Call)) (c : Command) (answer : Result Reply Refusal) → new ≡ found ++ viewer_entry viewer c answer ∷ [] → calls ≡ length new → IsLastCall new viewer c (calls, answer)
is_last_call viewer calls found new c answer is counted = rw (counted, is, length-append, add-one) (refl, last found) where
  last : (xs : List (ℕ × Call)) → numbered (xs ++ viewer_entry viewer c answer ∷ []) (suc (length xs)) ≡ Some (viewer_entry viewer c answer)
  last [] = refl
  last (x ∷ xs) = last xs

-- the same, if the call was answered; `calls` is its number
pub is_last_answer : (viewer calls : ℕ) (found new seen : List (ℕ × Call)) (c : Command) (r : Result (ℕ × Result Reply Refusal) DeskRefusal)
    → LeavesHistory viewer found c (without_number r) new → seen ≡ new → calls ≡ length new → IfOk r (λ call. call.0 ≡ calls) → IfOk r (IsLastCall seen viewer c)
is_last_answer viewer calls found new seen c (Ok call) is same counted numbered = rw (same, numbered) (is_last_call viewer calls found new c call.1 is.1 counted)
is_last_answer viewer calls found new seen c (Err refusal) is same counted numbered = tt

-- a refusal stays the same without a call's number
pub not_busy : (r : Result (ℕ × Result Reply Refusal) DeskRefusal) → IfErr (without_number r) IsRefusalOfAsk → IfErr r IsRefusalOfAsk
not_busy (Ok call) is = tt
not_busy (Err refusal) is = is

pub is_legal : {R : ℕ} (b : BookState) (book : Book R) (es : List (ℕ × Call)) → IsLeftBy b es book → IsLegal b es
is_legal b book es h = ∥∥₁_map h (λ l. (book_state book, journal (session_of book), l))

-- a list that is full at one of the capacities of `IsCapacity` has the next one after it has grown
next_capacity : (n : ℕ) → (n ≡ 0) ⊎ ((k : ℕ) × (n ≡ 4 * 2 ^ k)) → (n + max n 4 ≡ 0) ⊎ ((k : ℕ) × (n + max n 4 ≡ 4 * 2 ^ k))
next_capacity n (inl none) = inr (0, omega arith)
next_capacity n (inr (k, is)) = let some = pow_pos k in inr (suc k, omega arith)

-- the capacity of a full list is one of those of `IsCapacity`, whether it grew or memory was
-- refused
pub grown_capacity : {E : Type 0} (r : Result (Unit {0}) E) (old len new : ℕ) → IsCapacity old → len ≡ old
    → OnOk r (new ≡ max old (len + max len 4)) → OnErr r (new ≡ old) → IsCapacity new
grown_capacity (Ok x) old len new is full ok err = ∥∥₁_map is (λ s. let e : new ≡ old + max old 4 = omega arith in subst (λ n. (n ≡ 0) ⊎ ((k : ℕ) × (n ≡ 4 * 2 ^ k))) (sym e) (next_capacity old s))
grown_capacity (Err e) old len new is full ok err = subst IsCapacity (sym err) is
