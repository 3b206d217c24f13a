-- How a change of one seat's view keeps the rule.
use Rattle.rd_lock.proofs.Prelude.{◌≡◌, ◌≢◌, ℕ, ◌^◌, ◌<◌, ◌≤◌, List, [], ◌∷◌, get_or, set, sym, refl, ap, ◌∙◌, subst, Option, arith, Some, length, Act, Allows, LockState, HasPass, HasTicket, Holds, IsAloneAt, IsIn, StateFits, IsPlaced, Lock, LockRule, Me, NamesUpTo, Out, PassView, Location, Stage, Valid, View, ViewFits, ℕ_discrete, at_set, away, carried_after, dite, get_elem?, home, homes_after, in_hand, keeps, pass_numbers, only, set_else, set_here, single_slot, some, some-injective, some-ne-none, takes, ticket, view_of}
use Rattle.rd_lock.proofs.Lists.{inside, one_of}

module _ {E O : Type 0} where
  -- a seat that has a ticket has just one member
  pub alone_with : (t : ℕ) (s : Stage E) (ps : List (PassView E O)) → ticket s ≡ some t → IsAloneAt s ps → (p : PassView E O) × (ps ≡ p ∷ [])
  alone_with t Out ps e h = absurd (some-ne-none t (sym e))
  alone_with t _ ps e h = h

  -- after a change of one view, what held of some seat's view still does, if the change keeps it
  pub still : (P : View E O → Type 0) (views : List (View E O)) (id k : ℕ) (v w : View E O) → get_elem? views id ≡ some v → (P v → P w) → (u : View E O) × (get_elem? views k ≡ some u) × P u
      → (u : View E O) × (get_elem? (set views id w) k ≡ some u) × P u
  still P views id k v w at on (u, here, has) = dite (ℕ_discrete k id)
      (λ e. (w, subst (λ (j : ℕ). get_elem? (set views id w) j ≡ some w) (sym e) (set_here views id w (inside views id v at)), on (subst P (some-injective u v (sym here ∙ (ap (λ (j : ℕ). get_elem? views j) e ∙ at))) has)))
      (λ ne. (u, set_else views id k w ne ∙ here, has))

  -- after a change of one view, what holds of each other view and of the new one holds of each
  pub each_set : (P : ℕ → View E O → Type 0) (views : List (View E O)) (id : ℕ) (w : View E O) → P id w → ((j : ℕ) (u : View E O) → j ≢ id → get_elem? views j ≡ some u → P j u)
      → (j : ℕ) (u : View E O) → get_elem? (set views id w) j ≡ some u → P j u
  each_set P views id w mine others j u e = grind (arith, at_set)

module _ {T E O : Type 0} where
  -- what a seat with one member knows and has taken, given by the member and the stage
  pub single : (m : Me (Option T) (View E O)) (one : length m.0.members ≡ 1) (s : Stage E) → m.0.stage ≡ s → m.1 ≡ in_hand m.0.stage → m ≡ (view_of (only m.0.members one ∷ []) s, in_hand s)
  single m one s stage hand = λ i. (view_of (one_of m.0.members one i) (stage i), (hand ∙ ap (λ (x : Stage E). in_hand x) stage) i)

module _ {T E O : Type 0} (lock : Lock T E O) where
  open lock use {seats}

  -- what keeps the rule in a step that changes one view: the words are in order, the new view fits
  -- and has the same passes, and the other views still fit. Each ticket has its seat, and the value
  -- its place
  pub moved : (f g : LockState T E) (views : List (View E O)) (id : ℕ) (v w : View E O) → StateFits lock f views → get_elem? views id ≡ some v → g.served ≤ g.next → g.next ≤ 2 ^ 63 → NamesUpTo seats g.log → ViewFits lock g id w
      → g.owner ≡ f.owner → pass_numbers w.members ≡ pass_numbers v.members
      → ((j : ℕ) (u : View E O) → j ≢ id → get_elem? views j ≡ some u → ViewFits lock f j u → ViewFits lock g j u)
      → ((t : ℕ) → g.served ≤ t → t < g.next → HasTicket (set views id w) (g.taker t) t)
      → IsPlaced lock g (set views id w) g.place → StateFits lock g (set views id w)
  moved f g views id v w kept at order limit names mine owner passes others tickets place = record {
    order = order;
    limit = limit;
    names = names;
    each_view = each_set (ViewFits lock g) views id w mine (λ j u ne here. others j u ne here (kept.each_view j u here));
    each_pass = λ k low high. subst (λ (o : ℕ → ℕ). HasPass (set views id w) (o k) k) (sym owner)
        (still (λ x. IsIn k (pass_numbers x.members)) views id (f.owner k) v w at (subst (IsIn k) (sym passes)) (kept.each_pass k low high));
    each_ticket = tickets;
    is_placed = place;
  }

  -- the value is still in its place after a change of one view, unless that seat held and doesn't
  -- any more
  pub place_still : (f g : LockState T E) (views : List (View E O)) (id : ℕ) (v w : View E O) (place : Location T) → get_elem? views id ≡ some v → (v.stage ≡ Holds f.served f.log → w.stage ≡ Holds g.served g.log)
      → g.log ≡ f.log → g.served ≡ f.served → IsPlaced lock f views place → IsPlaced lock g (set views id w) place
  place_still f g views id v w (home x) at holds log served h = grind arith
  place_still f g views id v w (away k) at holds log served h = still (λ u. u.stage ≡ Holds g.served g.log) views id k v w at (λ e. holds (grind arith)) (grind arith)

  -- what has to be shown of a step on a word: after it, there are facts that its words and its slot
  -- agree with and that the views keep
  abbrev pub Owed : ℕ → Me (Option T) (View E O) → ℕ → (ℕ → ℕ) → (ℕ → Me (Option T) (View E O) → Type 0) → LockState T E → List (View E O) → Type 0
  Owed id me i F then f views = (w : View E O) × (a : Act (Option T)) × (g : LockState T E) × (set (f.served ∷ f.next ∷ []) i (F (get_or (f.served ∷ f.next ∷ []) i 0)) ≡ g.served ∷ g.next ∷ [])
      × Valid (single_slot f.place) me.1 a × (homes_after (single_slot f.place) me.1 a ≡ single_slot g.place) × StateFits lock g (set views id w) × then (get_or (f.served ∷ f.next ∷ []) i 0) (w, carried_after me.1 a)

  -- what has to be shown, for a step that moves neither the words nor the value
  pub unmoved : (id : ℕ) (me : Me (Option T) (View E O)) (i : ℕ) (F : ℕ → ℕ) (then : ℕ → Me (Option T) (View E O) → Type 0) (f : LockState T E) (views : List (View E O)) (w : View E O)
      → set (f.served ∷ f.next ∷ []) i (F (get_or (f.served ∷ f.next ∷ []) i 0)) ≡ f.served ∷ f.next ∷ [] → StateFits lock f (set views id w) → then (get_or (f.served ∷ f.next ∷ []) i 0) (w, me.1) → Owed id me i F then f views
  unmoved id me i F then f views w same kept after = (w, keeps, f, same, tt, refl, kept, after)

  -- what has to be shown, for a step that takes the value from home
  pub takes_home : (id : ℕ) (v : View E O) (i : ℕ) (F : ℕ → ℕ) (then : ℕ → Me (Option T) (View E O) → Type 0) (f g : LockState T E) (views : List (View E O)) (w : View E O) (x : T) → f.place ≡ home x → away id ≡ g.place
      → set (f.served ∷ f.next ∷ []) i (F (get_or (f.served ∷ f.next ∷ []) i 0)) ≡ g.served ∷ g.next ∷ [] → StateFits lock g (set views id w) → then (get_or (f.served ∷ f.next ∷ []) i 0) (w, (0, Some x) ∷ []) → Owed id (v, []) i F then f views
  takes_home id v i F then f g views w x there here words kept after = (w, takes 0 (Some x), g, words, rw there refl, rw (there, ← here) refl, kept, after)

  pub allowed : (slots id : ℕ) (me : Me (Option T) (View E O)) (i : ℕ) (F : ℕ → ℕ) (then : ℕ → Me (Option T) (View E O) → Type 0)
      → ((f : LockState T E) (views : List (View E O)) → StateFits lock f views → get_elem? views id ≡ some me.0 → Owed id me i F then f views) → Allows (LockRule lock) slots id me i F then
  allowed slots id me i F then owed s r _ at _ = let f = r.0 in let t = owed f s.views r.3 at in (
    t.0,
    t.1,
    subst (λ hs. Valid hs me.1 t.1) (sym r.2) t.4,
    (t.2, ap (λ ws. set ws i (F (get_or ws i 0))) r.1 ∙ t.3, ap (λ hs. homes_after hs me.1 t.1) r.2 ∙ t.5, t.6),
    subst (λ ws. then (get_or ws i 0) (t.0, carried_after me.1 t.1)) (sym r.1) t.7,
  )
