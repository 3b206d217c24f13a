-- Draws of a ticket: in `take`, by a pass that waits afterwards, and in `try_take`, by one that
-- doesn't.
use Rattle.rd_lock.proofs.Prelude.{◌≡◌, ◌≢◌, ℕ, ◌+◌, ◌^◌, ◌<◌, eqb, List, [], ◌∷◌, set, sym, refl, ap, ◌∙◌, subst, arith, eq-eqb, ne_eqb, length, Option, AllByRecursion, Allows, Continues, Draws, LockState, HasTicket, Holds, IsAloneAt, IsFound, StateFits, IsPlaced, LoadsServed, Lock, LockRule, Me, MemberFits, Out, PassView, Location, Stage, StageFits, Tries, View, Waits, ℕ_discrete, after_next, away, dite, either, get_elem?, home, in_hand, keeps, with_next_seen, with_served_seen, only, set_here, some, some-ne-none, ticket, view_of}
use Rattle.rd_lock.proofs.Lists.{inside}
use Rattle.rd_lock.proofs.Updates.{put, put_here, put_else}
use Rattle.rd_lock.proofs.Keeps.{alone_with, allowed, moved, Owed, place_still, single, still, takes_home, unmoved}
use Rattle.rd_lock.proofs.Looks.{maps_fit, others_fit, one_seat, newest_next, next_kept}

module _ {T E O : Type 0} (lock : Lock T E O) where
  open lock use {history, origin, seats, root}

  -- a seat that neither waits nor holds has no ticket
  pub no_ticket : (views : List (View E O)) (id k t : ℕ) (v : View E O) → get_elem? views id ≡ some v → v.stage ≡ Out → HasTicket views k t → k ≢ id
  no_ticket views id k t v at out has e = grind arith

  -- the facts after the ticket n is drawn
  abbrev drawn : LockState T E → ℕ → Location T → LockState T E
  drawn f id place = record { next = f.next + 1; served = f.served; log = f.log; owner = f.owner; taker = put f.taker f.next id; place = place }

  -- the new facts are kept after a draw, whether the drawer then waits or holds
  drawn_kept : (f : LockState T E) (views : List (View E O)) (id : ℕ) (p : PassView E O) (s : Stage E) (place : Location T) → StateFits lock f views → get_elem? views id ≡ some (view_of (p ∷ []) Out) → f.next < 2 ^ 63
      → ticket s ≡ some f.next → StageFits lock (drawn f id place) id s → IsAloneAt s (p ∷ []) → ((j : ℕ) → j ≢ id → f.place ≡ away j → place ≡ away j)
      → IsPlaced lock (drawn f id place) (set views id (view_of (with_next_seen (f.next + 1) p ∷ []) s)) place
      → StateFits lock (drawn f id place) (set views id (view_of (with_next_seen (f.next + 1) p ∷ []) s))
  drawn_kept f views id p s place kept at room has stage alone stays with_positions = let v : View E O = view_of (p ∷ []) Out in let w : View E O = view_of (with_next_seen (f.next + 1) p ∷ []) s in
      let fits = kept.each_view id v at in let g = drawn f id place in let order = kept.order in
      moved lock f g views id v w kept at (omega arith) (omega arith) kept.names
      (maps_fit lock f g id (with_next_seen (f.next + 1)) v s (λ q. refl) (λ q h. grind arith) stage alone fits) refl refl
      (λ j u ne here h. others_fit lock f g j u (let mine = fits.members.0 in λ q fit. grind arith) (let stays_j = stays j ne in λ s fit. grind arith) h)
      (λ t low high. dite (ℕ_discrete t f.next)
      (λ e. (w, subst (λ (k : ℕ). get_elem? (set views id w) k ≡ some w) (sym (put_here f.taker f.next id t e)) (set_here views id w (inside views id v at)), has ∙ ap (λ (k : ℕ). some k) (sym e)))
      (λ ne. subst (λ (k : ℕ). HasTicket (set views id w) k t) (sym (put_else f.taker f.next id t ne))
      (still (λ u. ticket u.stage ≡ some t) views id (f.taker t) v w at (λ none_is. absurd (some-ne-none t (sym none_is))) (kept.each_ticket t low (omega arith)))))
      with_positions

  -- what a draw of ticket n makes of the word `next`
  abbrev draw : ℕ → ℕ → ℕ
  draw n x = either (eqb x n) (n + 1) x

  -- a pass in `take` that draws the ticket `next` waits with it afterwards
  waits : (id : ℕ) (p : PassView E O) (f : LockState T E) (views : List (View E O)) → StateFits lock f views → get_elem? views id ≡ some (view_of (p ∷ []) Out) → f.next < 2 ^ 63
      → Owed lock id (view_of (p ∷ []) Out, []) 1 (draw f.next) (Draws {T = T} f.next (view_of (p ∷ []) Out, [])) f views
  waits id p f views kept at room = let v : View E O = view_of (p ∷ []) Out in let stage : Stage E = Waits f.next in let order = kept.order in (
    after_next (f.next + 1) stage v,
    keeps,
    drawn f id f.place,
    rw (eq-eqb f.next f.next refl) refl,
    tt,
    refl,
    drawn_kept f views id p stage f.place kept at room refl (order, omega arith, put_here f.taker f.next id f.next refl) (p, refl) (λ j ne e. e)
        (place_still lock f (drawn f id f.place) views id v (after_next (f.next + 1) stage v) f.place at (λ e. absurd (cc)) refl refl kept.is_placed),
    record { newest = newest_next lock f views id v kept (kept.each_view id v at); won = λ _. refl; lost = λ miss. absurd (miss refl) },
  )

  -- the draw of `take` is allowed: it is won, or another seat has drawn the ticket, and then only
  -- what this one has seen of `next` changes
  pub draw_allowed : (slots id : ℕ) (m : Me (Option T) (View E O)) (n : ℕ) → length m.0.members ≡ 1 → m.0.stage ≡ Out → m.1 ≡ in_hand m.0.stage → n < 2 ^ 63
      → Allows (LockRule lock) slots id m 1 (λ x. either (eqb x n) (n + 1) x) (Draws n m)
  draw_allowed slots id m n one out hand room = let p = only m.0.members one in let v : View E O = view_of (p ∷ []) Out in let then = Draws {T = T} n (v, []) in
      subst (λ (y : Me (Option T) (View E O)). Allows (LockRule lock) slots id y 1 (draw n) (Draws n y)) (sym (single m one Out out hand)) (allowed lock slots id (v, []) 1 (draw n) then (λ f views kept at. dite (ℕ_discrete f.next n)
      (λ hit. subst (λ (k : ℕ). Owed lock id (v, []) 1 (draw k) (Draws {T = T} k (v, [])) f views) hit (waits id p f views kept at (omega arith)))
      (λ miss. unmoved lock id (v, []) 1 (draw n) then f views (after_next f.next Out v) (rw (ne_eqb f.next n miss) refl) (next_kept lock f views id v kept at)
      (record { newest = newest_next lock f views id v kept (kept.each_view id v at); won = λ hit. absurd (miss hit); lost = λ _. refl }))))

  -- while a ticket is drawn and not finished, some seat has the ticket `served`, by a pass that is
  -- its member
  pub taken_by : (f : LockState T E) (views : List (View E O)) → StateFits lock f views → f.served ≢ f.next → (k : ℕ) × (p : PassView E O) × HasTicket views k f.served × MemberFits lock f k p
  taken_by f views kept ne = let order = kept.order in let has = kept.each_ticket f.served (omega arith) (omega arith) in let k : ℕ = f.taker f.served in let theirs = kept.each_view k has.0 has.1 in
      let who = alone_with f.served has.0.stage has.0.members has.2 theirs.alone in (k, who.0, has, (subst (AllByRecursion (MemberFits lock f k)) who.1 theirs.members).0)

  -- in a lock of one seat, the ticket that its pass saw served is the next one
  alone_hits : (f : LockState T E) (views : List (View E O)) (id : ℕ) (p : PassView E O) → StateFits lock f views → get_elem? views id ≡ some (view_of (p ∷ []) Out) → seats ≡ 1 → f.next ≡ p.served
  alone_hits f views id p kept at one = let mine = (kept.each_view id (view_of (p ∷ []) Out) at).members.0 in let words = (mine.one_seat one).1 in dite (ℕ_discrete f.served f.next) (λ e. omega arith)
      (λ ne. let who = taken_by f views kept ne in absurd (no_ticket views id who.0 f.served (view_of (p ∷ []) Out) at refl who.2 (one_seat lock f id who.0 p who.1 one mine who.3)))

  pub found : (f : LockState T E) (id : ℕ) (x : T) (p : PassView E O) → (history x ≡ f.log) × (origin x ≡ root) → MemberFits lock f id p → IsFound history origin x p
  found f id x p at_home h = (at_home.1 ∙ sym h.knows_opening.1, subst (Continues p.pass p.seen) (sym at_home.0) h.continues)

  -- where no seat holds, the value is at home
  pub at_home : (f : LockState T E) (views : List (View E O)) (place : Location T) → StateFits lock f views → f.place ≡ place → ((k : ℕ) (v : View E O) → get_elem? views k ≡ some v → v.stage ≡ Holds f.served f.log → ⊥)
      → (x : T) × (place ≡ home x) × (history x ≡ f.log) × (origin x ≡ root)
  at_home f views (home x) kept is none = let h = subst (IsPlaced lock f views) is kept.is_placed in (x, refl, h.0, h.1)
  at_home f views (away k) kept is none = let h = subst (IsPlaced lock f views) is kept.is_placed in absurd (none k h.0 h.1 h.2)

  -- while every ticket that was drawn is finished, the value is at home
  pub idle_home : (f : LockState T E) (views : List (View E O)) → StateFits lock f views → f.served ≡ f.next → (x : T) × (f.place ≡ home x) × (history x ≡ f.log) × (origin x ≡ root)
  idle_home f views kept same = at_home f views f.place kept refl (λ k v here holds. let low = (subst (StageFits lock f k) holds (kept.each_view k v here).stage).1 in omega arith)

  -- a pass in `try_take` that draws the ticket `next` while it is served has the value afterwards
  won : (id : ℕ) (p : PassView E O) (f : LockState T E) (views : List (View E O)) → StateFits lock f views → get_elem? views id ≡ some (view_of (p ∷ []) Out) → f.next < 2 ^ 63 → f.served ≡ f.next
      → Owed lock id (view_of (p ∷ []) Out, []) 1 (draw f.next) (Tries history origin f.next (view_of (p ∷ []) Out, [])) f views
  won id p f views kept at room same = let v : View E O = view_of (p ∷ []) Out in let fits = kept.each_view id v at in let there = idle_home f views kept same in let x : T = there.0 in
      let at_home : (history x ≡ f.log) × (origin x ≡ root) = (there.2, there.3) in let stage : Stage E = Holds f.next (history x) in let w : View E O = after_next (f.next + 1) stage v in
      takes_home lock id v 1 (draw f.next) (Tries history origin f.next (v, [])) f (drawn f id (away id)) views w x there.1 refl (rw (eq-eqb f.next f.next refl) refl)
      (drawn_kept f views id p stage (away id) kept at room refl (sym same, omega arith, put_here f.taker f.next id f.next refl, refl, there.2) (p, refl)
      (λ j ne e. let never = sym there.1 ∙ e in cc) (w, set_here views id w (inside views id v at), (λ i. Holds (sym same i) (there.2 i))))
      (record { newest = newest_next lock f views id v kept fits; won = λ _. (x, (found f id x p at_home fits.members.0, tt), refl); lost = λ miss. absurd (miss refl) })

  -- the draw of `try_take`, after the load of the ticket that it expects, is allowed
  pub try_allowed : (slots id : ℕ) (m m1 : Me (Option T) (View E O)) (n : ℕ) → length m.0.members ≡ 1 → m.0.stage ≡ Out → m.1 ≡ in_hand m.0.stage → LoadsServed m n m1 → n < 2 ^ 63
      → Allows (LockRule lock) slots id m1 1 (λ x. either (eqb x n) (n + 1) x) (Tries history origin n m1)
  try_allowed slots id m m1 n one out hand loads room = let p = with_served_seen n (only m.0.members one) in let v : View E O = view_of (p ∷ []) Out in let then = Tries history origin n (v, []) in
      let is : m1 ≡ (v, []) = (subst (λ (y : Me (Option T) (View E O)). LoadsServed y n m1) (single m one Out out hand) loads).after in
      subst (λ (y : Me (Option T) (View E O)). Allows (LockRule lock) slots id y 1 (draw n) (Tries history origin n y)) (sym is) (allowed lock slots id (v, []) 1 (draw n) then (λ f views kept at.
      let fits = kept.each_view id v at in let words = fits.members.0.words.1 in let order = kept.order in dite (ℕ_discrete f.next n)
      (λ hit. subst (λ (k : ℕ). Owed lock id (v, []) 1 (draw k) (Tries history origin k (v, [])) f views) hit (won id p f views kept at (omega arith) (omega arith)))
      (λ miss. unmoved lock id (v, []) 1 (draw n) then f views (after_next f.next Out v) (rw (ne_eqb f.next n miss) refl) (next_kept lock f views id v kept at) (record {
        newest = newest_next lock f views id v kept fits;
        won = λ hit. absurd (miss hit);
        lost = λ _. (((λ one. miss (alone_hits f views id p kept at (sym fits.members.0.knows_opening.0 ∙ one))), tt), refl);
      }))))
