-- The release, which gives the value back.
use Rattle.rd_lock.proofs.Prelude.{AddsOwn, Allows, Continues, LockState, Holds, StateFits, KnowsOpening, Lock, LockRule, Me, MemberFits, NamesUpTo, Out, PassView, Location, Releases, View, get_elem?, gives, with_put, home, homes_after, only, signed, single_slot, some, some-injective, ticket, view_of, ◌≡◌, ◌≢◌, ℕ, ◌+◌, ◌%◌, ◌^◌, ◌<◌, ◌≤◌, List, [], ◌∷◌, ◌++◌, sym, refl, ap, ◌∙◌, subst, arith, Some, length, Option}
use Rattle.rd_lock.proofs.Lists.{one_of, every_append}
use Rattle.rd_lock.proofs.Histories.{Continues-itself, continues_on, signed_all}
use Rattle.rd_lock.proofs.Keeps.{allowed, moved, Owed, still}
use Rattle.rd_lock.proofs.Looks.{others_fit, one_seat, newest_served}

module _ {T E O : Type 0} (lock : Lock T E O) where
  open lock use {history, origin, seats, root}

  abbrev done : LockState T E → T → LockState T E
  done f x = record { next = f.next; served = f.served + 1; log = history x; owner = f.owner; taker = f.taker; place = home x }

  -- a member of another seat still fits, since no new entry is its own
  done_suits : (f : LockState T E) (id j : ℕ) (x : T) (es : List E) (p q : PassView E O) → MemberFits lock f id p → j ≢ id → history x ≡ f.log ++ signed p.pass es → MemberFits lock f j q → MemberFits lock (done f x) j q
  done_suits f id j x es p q mine ne added h = record {
    owned = h.owned;
    numbered = h.numbered;
    knows_opening = h.knows_opening;
    continues = continues_on q.pass p.pass q.seen f.log (history x) es (λ e. ne (sym h.owned ∙ (ap f.owner (sym e) ∙ mine.owned))) h.continues added;
    words = let low = h.words.1 in (h.words.0, omega arith);
    one_seat = λ one. absurd (ne (one_seat lock f id j p q one mine h));
  }

  gives_back : (id : ℕ) (p : PassView E O) (t : ℕ) (log : List (ℕ × E)) (x : T) (es : List E) (f : LockState T E) (views : List (View E O)) → history x ≡ log ++ signed p.pass es → origin x ≡ p.origin → StateFits lock f views
      → get_elem? views id ≡ some (view_of (p ∷ []) (Holds t log))
      → Owed lock id (view_of (p ∷ []) (Holds t log), (0, Some x) ∷ []) 0 (λ n. (n + 1) % 2 ^ 64) (Releases history origin (view_of (p ∷ []) (Holds t log), (0, Some x) ∷ [])) f views
  gives_back id p t log x es f views added root_is kept at = let v : View E O = view_of (p ∷ []) (Holds t log) in let fits = kept.each_view id v at in let mine = fits.members.0 in let stage = fits.stage in
      let g : LockState T E = done f x in let q : PassView E O = with_put (history x) (f.served + 1) p in let w : View E O = view_of (q ∷ []) Out in
      let t_is : t ≡ f.served = stage.0 in let below : t < f.next = stage.1 in let limit = kept.limit in let here : f.taker f.served ≡ id = ap f.taker (sym t_is) ∙ stage.2 in
      let more : history x ≡ f.log ++ signed p.pass es = added ∙ ap (λ l. l ++ signed p.pass es) stage.4 in let number = mine.numbered in
      let fresh : (f.served + 1) % 18446744073709551616 ≡ f.served + 1 = omega arith in (
        w,
        gives,
        g,
        ap (λ (n : ℕ). n ∷ f.next ∷ []) fresh,
        tt,
        subst (λ (l : Location T). homes_after (single_slot l) ((0, Some x) ∷ []) gives ≡ single_slot (home x)) (sym stage.3) refl,
        moved lock f g views id v w kept at (omega arith) limit
            (subst (NamesUpTo seats) (sym more) (every_append (λ (y : ℕ × E). (0 < y.0) × (y.0 ≤ seats)) f.log (signed p.pass es) kept.names (signed_all (λ (y : ℕ × E). (0 < y.0) × (y.0 ≤ seats)) p.pass es (λ e. number))))
            (record { members = (grind (arith, Continues-itself), tt); apart = (tt, tt); stage = tt; alone = tt }) refl refl
            (λ j u ne there h. others_fit lock f g j u (λ q. done_suits f id j x es p q mine ne more) (let away_is = stage.3 in λ s fit. grind arith) h)
            (λ u low high. still (λ z. ticket z.stage ≡ some u) views id (f.taker u) v w at (λ e. let same : t ≡ u = some-injective t u e in absurd (omega arith)) (kept.each_ticket u (omega arith) high))
            (refl, root_is ∙ mine.knows_opening.1),
        record {
          newest = newest_served lock f views id v kept fits;
          found = (t, log, refl, (subst (Continues p.pass p.seen) (sym stage.4) mine.continues, tt));
          after = (x, refl, refl);
        },
      )

  -- the release of a pass that holds, with a value that it may put back, is allowed
  pub release_allowed : (slots id : ℕ) (v : View E O) (m : Me (Option T) (View E O)) (x : T) (one : length v.members ≡ 1) (t : ℕ) (log : List (ℕ × E)) → KnowsOpening seats root (only v.members one) → origin x ≡ root
      → v.stage ≡ Holds t log → AddsOwn (only v.members one).pass log (history x) → m ≡ (v, (0, Some x) ∷ []) → Allows (LockRule lock) slots id m 0 (λ n. (n + 1) % 2 ^ 64) (Releases history origin m)
  release_allowed slots id v m x one t log knows rooted stage adds is = let p = only v.members one in let held : Me (Option T) (View E O) = (view_of (p ∷ []) (Holds t log), (0, Some x) ∷ []) in
      subst (λ (y : Me (Option T) (View E O)). Allows (LockRule lock) slots id y 0 (λ n. (n + 1) % 2 ^ 64) (Releases history origin y)) (sym (is ∙ (λ i. (view_of (one_of v.members one i) (stage i), (0, Some x) ∷ []))))
      (allowed lock slots id held 0 (λ n. (n + 1) % 2 ^ 64) (Releases history origin held) (λ f views kept at. gives_back id p t log x adds.0 f views adds.1 (rooted ∙ sym knows.1) kept at))
