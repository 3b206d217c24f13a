-- Loads of the word `served` by a pass that waits.
use Rattle.rd_lock.proofs.Prelude.{◌≡◌, ℕ, List, [], ◌∷◌, sym, refl, ap, ◌∙◌, subst, arith, length, Option, Allows, LockState, Holds, StateFits, Lock, LockRule, Me, PassView, Polls, Stage, StageFits, View, Waits, ℕ_discrete, after_served, away, dite, get_elem?, in_hand, with_served_seen, only, set_here, some, ticket, view_of}
use Rattle.rd_lock.proofs.Lists.{inside}
use Rattle.rd_lock.proofs.Keeps.{allowed, moved, Owed, single, still, takes_home, unmoved}
use Rattle.rd_lock.proofs.Looks.{others_fit, served_suits, newest_served, served_kept}
use Rattle.rd_lock.proofs.Draws.{at_home, found}

module _ {T E O : Type 0} (lock : Lock T E O) where
  open lock use {history, origin, root}

  abbrev taken : LockState T E → ℕ → LockState T E
  taken f id = record { next = f.next; served = f.served; log = f.log; owner = f.owner; taker = f.taker; place = away id }

  served_takes : (id : ℕ) (p : PassView E O) (f : LockState T E) (views : List (View E O)) → StateFits lock f views → get_elem? views id ≡ some (view_of (p ∷ []) (Waits f.served))
      → Owed lock id (view_of (p ∷ []) (Waits f.served), []) 0 (λ n. n) (Polls history origin (view_of (p ∷ []) (Waits f.served), [])) f views
  served_takes id p f views kept at = let v : View E O = view_of (p ∷ []) (Waits f.served) in let fits = kept.each_view id v at in let there = at_home lock f views f.place kept refl (λ k u here holds. let theirs = subst (StageFits lock f k) holds (kept.each_view k u here).stage in let mine = fits.stage in grind arith) in let x : T = there.0 in
      let at_home : (history x ≡ f.log) × (origin x ≡ root) = (there.2, there.3) in let stage : Stage E = Holds f.served (history x) in let w : View E O = after_served f.served stage v in
      let g : LockState T E = taken f id in let mine = fits.stage in let suits = served_suits lock f id p kept.order fits.members.0 in
      takes_home lock id v 0 (λ n. n) (Polls history origin (v, [])) f g views w x there.1 refl refl
      (moved lock f g views id v w kept at kept.order kept.limit kept.names
      (record { members = (grind arith, tt); apart = (tt, tt); stage = (refl, mine.1, mine.2, refl, there.2); alone = (with_served_seen f.served p, refl) }) refl refl
      (λ j u ne here h. others_fit lock f g j u (λ q fit. grind arith) (let home_is = there.1 in λ s fit. grind arith) h)
      (λ t low high. still (λ u. ticket u.stage ≡ some t) views id (f.taker t) v w at (λ e. e) (kept.each_ticket t low high))
      (w, set_here views id w (inside views id v at), (λ i. Holds f.served (there.2 i))))
      (record { newest = newest_served lock f views id v kept fits; served = λ is. (x, (found lock f id x p at_home fits.members.0, tt), refl); waits = λ ne. absurd (ne refl) })

  pub poll_allowed : (slots id : ℕ) (m : Me (Option T) (View E O)) (t : ℕ) → length m.0.members ≡ 1 → m.0.stage ≡ Waits t → m.1 ≡ in_hand m.0.stage → Allows (LockRule lock) slots id m 0 (λ n. n) (Polls history origin m)
  poll_allowed slots id m t one waits hand = let p = only m.0.members one in let v : View E O = view_of (p ∷ []) (Waits t) in let then = Polls history origin (v, []) in
      subst (λ (y : Me (Option T) (View E O)). Allows (LockRule lock) slots id y 0 (λ n. n) (Polls history origin y)) (sym (single m one (Waits t) waits hand))
      (allowed lock slots id (v, []) 0 (λ n. n) then (λ f views kept at. let fits = kept.each_view id v at in dite (ℕ_discrete f.served t)
      (λ hit. subst (λ (k : ℕ). Owed lock id (view_of (p ∷ []) (Waits k), []) 0 (λ n. n) (Polls history origin (view_of (p ∷ []) (Waits k), [])) f views) hit
      (served_takes id p f views kept (at ∙ ap (λ (k : ℕ). some (view_of (p ∷ []) (Waits k))) (sym hit))))
      (λ miss. unmoved lock id (v, []) 0 (λ n. n) then f views (after_served f.served (Waits t) v) refl (served_kept lock f views id v kept at)
      (record { newest = newest_served lock f views id v kept fits; served = λ is. let same : t ≡ f.served = cc in absurd (miss (sym same)); waits = λ _. refl }))))
