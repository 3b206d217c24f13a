-- Joining two seats, and splitting one.
use Rattle.rd_lock.proofs.Prelude.{◌≡◌, ◌≢◌, ℕ, cond, eqb, List, [], ◌∷◌, ◌++◌, length, set, sym, refl, ap, ◌∙◌, subst, inl, inr, ⊎_elim, eq-eqb, ne_eqb, arith, LockState, HasPass, IsIn, Joins, Lock, LockRule, MemberFits, Out, PassView, Splits, View, ViewFits, at_last, at_longer, dite, get_elem?, pass_numbers, set_else, set_here, some, ◌⊎◌, some-injective, ticket, view_of, ℕ_discrete}
use Rattle.rd_lock.proofs.Lists.{inside, at_end, every_append, every_both, pairwise_append, every_from}
use Rattle.rd_lock.proofs.Updates.{put, put_here, put_else}
use Rattle.rd_lock.proofs.Keeps.{each_set, place_still, still}
use Rattle.rd_lock.proofs.Looks.{others_fit, out_fits}

module _ {E O : Type 0} where
  is_in_joined : (k : ℕ) (ps qs : List (PassView E O)) → IsIn k (pass_numbers ps) ⊎ IsIn k (pass_numbers qs) → IsIn k (pass_numbers (ps ++ qs))
  is_in_joined k [] qs h = grind arith
  is_in_joined k (p ∷ ps) qs h = grind (arith, is_in_joined k ps qs)

  -- after a join each pass is in the seat that has its view
  joined_passes : (views : List (View E O)) (id other : ℕ) (v w both spent : View E O) (seat k : ℕ) → other ≢ id → both.members ≡ w.members ++ v.members → get_elem? views id ≡ some v → get_elem? views other ≡ some w
      → HasPass views seat k → HasPass (set (set views id both) other spent) (cond (eqb seat other) id seat) k
  joined_passes views id other v w both spent seat k apart is at there has = let joining = set views id both in let at_id : get_elem? joining id ≡ some both = set_here views id both (inside views id v at) in
      let at_end : get_elem? (set joining other spent) id ≡ some both = set_else joining other id spent (λ e. apart (sym e)) ∙ at_id in dite (ℕ_discrete seat other)
      (λ e. subst (λ (j : ℕ). HasPass (set joining other spent) j k) (sym (ap (λ b. cond b id seat) (eq-eqb seat other e))) (
        both,
        at_end,
        subst (λ ps. IsIn k (pass_numbers ps)) (sym is) (is_in_joined k w.members v.members (inl (subst (λ (x : View E O). IsIn k (pass_numbers x.members)) (some-injective has.0 w (sym has.1 ∙ (ap (λ (j : ℕ). get_elem? views j) e ∙ there))) has.2))),
      ))
      (λ ne. subst (λ (j : ℕ). HasPass (set joining other spent) j k) (sym (ap (λ b. cond b id seat) (ne_eqb seat other ne)))
      (let r = still (λ x. IsIn k (pass_numbers x.members)) views id seat v both at (λ h. subst (λ ps. IsIn k (pass_numbers ps)) (sym is) (is_in_joined k w.members v.members (inr h))) has in (r.0, set_else joining other seat spent ne ∙ r.1, r.2)))

  -- after a split each pass is in the seat that has its view
  parted_passes : (views : List (View E O)) (id : ℕ) (p : PassView E O) (ps : List (PassView E O)) (owner : ℕ → ℕ) (k : ℕ) → get_elem? views id ≡ some (view_of (p ∷ ps) Out) → HasPass views (owner k) k
      → HasPass (set views id (view_of ps Out) ++ view_of (p ∷ []) Out ∷ []) (put owner p.pass (length (set views id (view_of ps Out))) k) k
  parted_passes views id p ps owner k at has = let left : View E O = view_of ps Out in let right : View E O = view_of (p ∷ []) Out in let leaving = set views id left in let new = length leaving in
      dite (ℕ_discrete k p.pass)
      (λ e. rw (put_here owner p.pass new k e) (right, at_last leaving right new refl, inl (sym e)))
      (λ ne. let r = still (λ x. IsIn k (pass_numbers x.members)) views id (owner k) (view_of (p ∷ ps) Out) left at (λ h. grind arith) has in
      rw (put_else owner p.pass new k ne) (r.0, at_longer leaving (right ∷ []) (owner k) r.0 r.1, r.2))

module _ {T E O : Type 0} (lock : Lock T E O) where
  open lock use {seats}

  -- the facts after the seat `other` has given its members to the seat `id`
  abbrev joined : LockState T E → ℕ → ℕ → LockState T E
  joined f id other = record { next = f.next; served = f.served; log = f.log; owner = λ p. cond (eqb (f.owner p) other) id (f.owner p); taker = f.taker; place = f.place }

  -- a member of any other seat still fits after the join
  stays : (f : LockState T E) (id other j : ℕ) (p : PassView E O) → j ≢ other → MemberFits lock f j p → MemberFits lock (joined f id other) j p
  stays f id other j p ne h = grind arith

  -- the join of two seats that are out is allowed, since neither has a ticket or the value
  pub join_allowed : (id other : ℕ) (v w : View E O) → v.stage ≡ Out → w.stage ≡ Out → Joins (LockRule lock) id v other w (view_of (w.members ++ v.members) Out) (view_of [] Out)
  join_allowed id other v w out out' s r at apart there = let f = r.0 in let kept = r.3 in let both : View E O = view_of (w.members ++ v.members) Out in let spent : View E O = view_of [] Out in
      let g = joined f id other in let views = set s.views id both in let was : get_elem? s.views other ≡ some w = sym (set_else s.views id other both apart) ∙ there in
      let mine = kept.each_view id v at in let theirs = kept.each_view other w was in (
        g,
        r.1,
        r.2,
        record {
          order = kept.order;
          limit = kept.limit;
          names = kept.names;
          each_view = each_set (ViewFits lock g) views other spent (record { members = tt; apart = tt; stage = tt; alone = tt }) (λ j u ne here. each_set (λ i x. i ≢ other → ViewFits lock g i x) s.views id both
              (λ _. out_fits lock g id (w.members ++ v.members)
              (every_append (MemberFits lock g id) w.members v.members (every_from (MemberFits lock f other) (MemberFits lock g id) (λ p h. grind arith) w.members theirs.members)
              (every_from (MemberFits lock f id) (MemberFits lock g id) (λ p. stays f id other id p (λ e. apart (sym e))) v.members mine.members))
              (pairwise_append (λ p q. q.pass ≢ p.pass) w.members v.members theirs.apart mine.apart (grind (arith, every_from))))
              (λ i x no at_i ne_i. others_fit lock f g i x (λ p. stays f id other i p ne_i) (λ s h. grind arith) (kept.each_view i x at_i)) j u here ne);
          each_pass = λ k low high. joined_passes s.views id other v w both spent (f.owner k) k apart refl at was (kept.each_pass k low high);
          each_ticket = λ t low high. let P : View E O → Type 0 = λ u. ticket u.stage ≡ some t in
              still P views other (f.taker t) w spent there (λ e. grind arith) (still P s.views id (f.taker t) v both at (λ e. grind arith) (kept.each_ticket t low high));
          is_placed = place_still lock f g views other w spent f.place there (λ e. absurd (cc)) refl refl (place_still lock f f s.views id v both f.place at (λ e. absurd (cc)) refl refl kept.is_placed);
        },
      )

  -- the facts after the pass has moved to the seat `new`
  abbrev parted : LockState T E → ℕ → ℕ → LockState T E
  parted f pass new = record { next = f.next; served = f.served; log = f.log; owner = put f.owner pass new; taker = f.taker; place = f.place }

  stays_in : (f : LockState T E) (j pass new : ℕ) (q : PassView E O) → q.pass ≢ pass → MemberFits lock f j q → MemberFits lock (parted f pass new) j q
  stays_in f j pass new q ne h = grind arith

  pub split_allowed : (id : ℕ) (p : PassView E O) (ps : List (PassView E O)) → Splits (LockRule lock) id (view_of (p ∷ ps) Out) (view_of ps Out) (view_of (p ∷ []) Out)
  split_allowed id p ps s r at = let f = r.0 in let kept = r.3 in let v : View E O = view_of (p ∷ ps) Out in let left : View E O = view_of ps Out in let right : View E O = view_of (p ∷ []) Out in
      let views = set s.views id left in let new = length views in let g = parted f p.pass new in let mine = kept.each_view id v at in let first = mine.members.0 in (
        g,
        r.1,
        r.2,
        record {
          order = kept.order;
          limit = kept.limit;
          names = kept.names;
          each_view = λ j w e. ⊎_elim (each_set (ViewFits lock g) s.views id left
              (out_fits lock g id ps (every_both (λ q. q.pass ≢ p.pass) (MemberFits lock f id) (MemberFits lock g id) (λ q ne. stays_in f id p.pass new q ne) ps mine.apart.0 mine.members.1) mine.apart.1)
              (λ i u ne here. others_fit lock f g i u (λ q h. stays_in f i p.pass new q (λ e. ne (sym h.owned ∙ (ap f.owner e ∙ first.owned))) h) (λ s h. grind arith) (kept.each_view i u here)) j w)
              (λ (z : (j ≡ new) × (right ≡ w)). subst (λ (x : ℕ × View E O). ViewFits lock g x.0 x.1) (λ i. (sym z.0 i, z.1 i)) (record { members = (grind arith, tt); apart = (tt, tt); stage = tt; alone = tt }))
              (at_end views right w j e);
          each_pass = λ k low high. parted_passes s.views id p ps f.owner k at (kept.each_pass k low high);
          each_ticket = λ t low high. let r = still (λ u. ticket u.stage ≡ some t) s.views id (f.taker t) v left at (λ e. e) (kept.each_ticket t low high) in (r.0, at_longer views (right ∷ []) (f.taker t) r.0 r.1, r.2);
          is_placed = let still_there = place_still lock f f s.views id v left f.place at (λ e. e) refl refl kept.is_placed in grind (arith, at_longer);
        },
      )
