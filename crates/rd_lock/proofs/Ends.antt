-- The first state of a table, and what its last state shows.
use Rattle.rd_lock.proofs.Prelude.{◌≡◌, ◌≢◌, ℕ, zero, suc, ◌+◌, ◌^◌, ◌<◌, ◌≤◌, List, [], ◌∷◌, sym, refl, ap, ◌∙◌, subst, inl, inr, ⊎_elim, arith, Option, Some, AllByRecursion, HaveDifferentPasses, HasAllUpTo, Continues, LockState, Final, IsEnded, IsEndedWith, IsIn, StateFits, Lock, LockRule, MemberFits, NamesUpTo, Out, PassView, Location, Seen, State, View, ViewFits, dite, get_elem?, home, newcomers, pass_numbers, opening, opening_view, single_slot, some, some-injective, some-ne-none, view_of, ℕ_discrete}
use Rattle.rd_lock.proofs.Lists.{every_from}
use Rattle.rd_lock.proofs.Looks.{out_fits}
use Rattle.rd_lock.proofs.Draws.{idle_home, no_ticket, taken_by}

module _ (E : Type 0) {O : Type 0} where
  later : (seats : ℕ) (root : O) (first k j n : ℕ) → k < j → AllByRecursion (λ (q : PassView E O). q.pass ≢ k) (newcomers seats root first j n)
  later seats root first k j zero low = tt
  later seats root first k j (suc n) low = ((λ e. omega arith), later seats root first k (suc j) n (omega arith))

  newcomers_apart : (seats : ℕ) (root : O) (first k n : ℕ) → HaveDifferentPasses {E = E} (newcomers seats root first k n)
  newcomers_apart seats root first k zero = tt
  newcomers_apart seats root first k (suc n) = (later seats root first k (suc k) n (omega arith), newcomers_apart seats root first (suc k) n)

  -- the numbers of n newcomers from k on are those from k to below k + n
  is_newcomer : (seats : ℕ) (root : O) (first k n j : ℕ) → k ≤ j → j < k + n → IsIn j (pass_numbers {E = E} (newcomers seats root first k n))
  is_newcomer seats root first k zero j low high = absurd (omega arith)
  is_newcomer seats root first k (suc n) j low high = dite (ℕ_discrete k j) (λ e. inl e) (λ ne. inr (is_newcomer seats root first (suc k) n j (omega arith) (omega arith)))

module _ {E O : Type 0} where
  -- a member with this number, which is in the list; what holds of each member holds of it
  of_number : (ps : List (PassView E O)) (k : ℕ) (P : PassView E O → Type 0) → IsIn k (pass_numbers ps) → AllByRecursion P ps → (p : PassView E O) × (p.pass ≡ k) × P p
  of_number [] k P h each = absurd h
  of_number (p ∷ ps) k P h each = ⊎_elim (λ (e : p.pass ≡ k). (p, e, each.0)) (λ (rest : IsIn k (pass_numbers ps)). of_number ps k P rest each.1) h

module _ {T E O : Type 0} (lock : Lock T E O) where
  open lock use {history, origin, seats, root}

  abbrev opened : T → ℕ → LockState T E
  opened x first = record { next = first; served = first; log = []; owner = λ _. 0; taker = λ _. 0; place = home x }

  newcomers_fit : (x : T) (first k n : ℕ) → 0 < k → k + n ≤ seats + 1 → AllByRecursion (MemberFits lock (opened x first) 0) (newcomers seats root first k n)
  newcomers_fit x first k zero low high = tt
  newcomers_fit x first k (suc n) low high = grind (arith, newcomers_fit x first (suc k) n (omega arith) (omega arith))

  first_view : (x : T) (first : ℕ) (j : ℕ) (v : View E O) → get_elem? (opening_view seats root first ∷ []) j ≡ some v → ViewFits lock (opened x first) j v
  first_view x first zero v at = subst (ViewFits lock (opened x first) 0) (some-injective (opening_view seats root first) v at)
      (out_fits lock (opened x first) 0 (newcomers seats root first 1 seats) (newcomers_fit x first 1 seats (omega arith) (omega arith)) (newcomers_apart E seats root first 1 seats))
  first_view x first (suc j) v at = absurd (some-ne-none v (sym at))

  pub opens : (x : T) (first : ℕ) → history x ≡ [] → origin x ≡ root → first ≤ 2 ^ 63 → LockRule lock (opening (first ∷ first ∷ []) (Some x ∷ []) (opening_view seats root first))
  opens x first empty rooted limit = (
    opened x first,
    refl,
    refl,
    record {
      order = omega arith;
      limit = limit;
      names = tt;
      each_view = first_view x first;
      each_pass = λ k low high. (opening_view seats root first, refl, is_newcomer E seats root first 1 seats k (omega arith) (omega arith));
      each_ticket = λ t low high. absurd (omega arith);
      is_placed = (empty, rooted);
    },
  )

  -- if one seat has all passes and is out, every ticket that was drawn is finished
  all_finished : (f : LockState T E) (views : List (View E O)) (id : ℕ) (ps : List (PassView E O)) → StateFits lock f views → get_elem? views id ≡ some (view_of ps Out)
      → HasAllUpTo seats (pass_numbers ps) → f.served ≡ f.next
  all_finished f views id ps kept at all = dite (ℕ_discrete f.served f.next) (λ e. e)
      (λ ne. let who = taken_by lock f views kept ne in let suits = who.3 in
      let mine = of_number ps who.1.pass (MemberFits lock f id) (all who.1.pass suits.numbered.0 suits.numbered.1) (kept.each_view id (view_of ps Out) at).members in
      absurd (no_ticket lock views id who.0 f.served (view_of ps Out) at refl who.2 (sym suits.owned ∙ (ap f.owner (sym mine.1) ∙ mine.2.owned))))

  last : (s : State (Option T) (View E O)) (r : LockRule lock s) (ps : List (PassView E O)) (ws : List ℕ) (xs : List (Option T)) → s.words ≡ ws → ((k : ℕ) (y : Option T) → get_elem? s.homes k ≡ some (some y) → get_elem? xs k ≡ some y)
      → AllByRecursion (λ (p : PassView E O). (p.next ≤ r.0.next) × (p.served ≤ r.0.served) × Continues p.pass p.seen r.0.log) ps → (HasAllUpTo seats (pass_numbers ps) → r.0.served ≡ r.0.next) → IsEndedWith lock ps ws xs
  last s r ps ws xs words values fits all served next slot first second only = let f = r.0 in let kept = r.3 in
      let a : f.served ≡ served = some-injective f.served served (ap (λ l. get_elem? l 0) (sym r.1 ∙ words) ∙ first) in let b : f.next ≡ next = some-injective f.next next (ap (λ l. get_elem? l 1) (sym r.1 ∙ words) ∙ second) in
      subst (λ (w : ℕ × ℕ). IsEnded lock ps w.0 w.1 slot) (λ i. (a i, b i)) (record {
        order = kept.order;
        limit = kept.limit;
        newest = every_from (λ p. (p.next ≤ f.next) × (p.served ≤ f.served) × Continues p.pass p.seen f.log) (λ p. (p.next ≤ f.next) × (p.served ≤ f.served)) (λ p h. (h.0, h.1)) ps fits;
        value = λ same. let there = idle_home lock f s.views kept same in let x : T = there.0 in (
          x,
          some-injective slot (Some x) (sym only ∙ values 0 (Some x) (ap (λ hs. get_elem? hs 0) (r.2 ∙ ap (λ (p : Location T). single_slot p) there.1))),
          there.3,
          subst (NamesUpTo seats) (sym there.2) kept.names,
          every_from (λ p. (p.next ≤ f.next) × (p.served ≤ f.served) × Continues p.pass p.seen f.log) (λ p. Continues p.pass p.seen (history x)) (λ p h. subst (Continues p.pass p.seen) (sym there.2) h.2) ps fits,
        );
        all = all;
      })

  -- the last state of a table that was closed with a seat
  pub ends : (id : ℕ) (v : View E O) (ws : List ℕ) (xs : List (Option T)) → v.stage ≡ Out → Final (Seen (LockRule lock) id v) ws xs → IsEndedWith lock v.members ws xs
  ends id v ws xs out (s, seen, words, _, values) = let f = seen.0.0 in let kept = seen.0.3 in let at : get_elem? s.views id ≡ some (view_of v.members Out) = seen.1 ∙ (λ i. some (view_of v.members (out i))) in
      last s seen.0 v.members ws xs words values
      (every_from (MemberFits lock f id) (λ p. (p.next ≤ f.next) × (p.served ≤ f.served) × Continues p.pass p.seen f.log) (λ p h. (h.words.0, h.words.1, h.continues)) v.members (kept.each_view id (view_of v.members Out) at).members)
      (all_finished f s.views id v.members kept at)

  -- the last state of a table that was closed without a seat
  pub ends_alone : (ws : List ℕ) (xs : List (Option T)) → 0 < seats → Final (LockRule lock) ws xs → IsEndedWith lock [] ws xs
  ends_alone ws xs some_seat (s, r, words, _, values) = last s r [] ws xs words values tt (λ all. absurd (all 1 (omega arith) (omega arith)))
