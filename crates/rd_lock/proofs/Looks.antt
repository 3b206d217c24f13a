-- Loads of the words, and views that change only in what their members know.
use Rattle.rd_lock.proofs.Prelude.{AllByRecursion, HaveDifferentPasses, ◌≡◌, ◌≢◌, ℕ, ◌^◌, ◌≤◌, List, map, set, sym, refl, ap, ◌∙◌, arith, Option, map-map, Allows, AreComparable, LockState, IsAloneAt, StateFits, IsNewestNext, IsNewestServed, LoadsNext, LoadsServed, Lock, LockRule, Me, MemberFits, Out, PassView, Stage, StageFits, View, ViewFits, after_next, after_served, get_elem?, with_next_seen, with_served_seen, pass_numbers, some, ticket, view_of}
use Rattle.rd_lock.proofs.Lists.{every_from, every_map, pairwise_map, pairwise_all}
use Rattle.rd_lock.proofs.Histories.{in_order}
use Rattle.rd_lock.proofs.Keeps.{allowed, moved, place_still, still, unmoved}

module _ {E O : Type 0} where
  alone_map : (k : PassView E O → PassView E O) (s : Stage E) (ps : List (PassView E O)) → IsAloneAt s ps → IsAloneAt s (map k ps)
  alone_map k Out ps h = tt
  alone_map k _ ps h = (k h.0, ap (map k) h.1)

module _ {T E O : Type 0} (lock : Lock T E O) where
  open lock use {seats}

  -- a view still fits if what each member knows is changed so that the member still fits
  pub maps_fit : (f g : LockState T E) (id : ℕ) (k : PassView E O → PassView E O) (v : View E O) (s : Stage E) → ((p : PassView E O) → (k p).pass ≡ p.pass) → ((p : PassView E O) → MemberFits lock f id p → MemberFits lock g id (k p))
      → StageFits lock g id s → IsAloneAt s v.members → ViewFits lock f id v → ViewFits lock g id (view_of (map k v.members) s)
  maps_fit f g id k v s same suits stage alone fits = record {
    members = every_map k (MemberFits lock g id) v.members (every_from (MemberFits lock f id) (λ p. MemberFits lock g id (k p)) suits v.members fits.members);
    apart = pairwise_map k (λ p q. q.pass ≢ p.pass) (λ p q. q.pass ≢ p.pass) (λ p q ne e. ne (sym (same q) ∙ (e ∙ same p))) v.members fits.apart;
    stage = stage;
    alone = alone_map k s v.members alone;
  }

  -- the view of a seat that is out fits if its members do
  pub out_fits : (f : LockState T E) (id : ℕ) (ps : List (PassView E O)) → AllByRecursion (MemberFits lock f id) ps → HaveDifferentPasses ps → ViewFits lock f id (view_of ps Out)
  out_fits f id ps members apart = record { members = members; apart = apart; stage = tt; alone = tt }

  -- another seat's view still fits if its members and its stage do
  pub others_fit : (f g : LockState T E) (j : ℕ) (u : View E O) → ((p : PassView E O) → MemberFits lock f j p → MemberFits lock g j p) → ((s : Stage E) → StageFits lock f j s → StageFits lock g j s)
      → ViewFits lock f j u → ViewFits lock g j u
  others_fit f g j u suits stays h = grind (arith, every_from)

  -- in a lock of one seat, any two passes are in the same seat
  pub one_seat : (f : LockState T E) (i j : ℕ) (p q : PassView E O) → seats ≡ 1 → MemberFits lock f i p → MemberFits lock f j q → j ≡ i
  one_seat f i j p q one a b = let x = a.numbered in let y = b.numbered in let same : q.pass ≡ p.pass = omega arith in sym b.owned ∙ (ap f.owner same ∙ a.owned)

  pub served_suits : (f : LockState T E) (id : ℕ) (p : PassView E O) → f.served ≤ f.next → MemberFits lock f id p → MemberFits lock f id (with_served_seen f.served p)
  served_suits f id p order h = grind arith

  pub newest_next : (f : LockState T E) (views : List (View E O)) (id : ℕ) (v : View E O) → StateFits lock f views → ViewFits lock f id v → IsNewestNext f.next v
  newest_next f views id v kept fits = (kept.limit, every_from (MemberFits lock f id) (λ p. p.next ≤ f.next) (λ p h. h.words.0) v.members fits.members)

  pub newest_served : (f : LockState T E) (views : List (View E O)) (id : ℕ) (v : View E O) → StateFits lock f views → ViewFits lock f id v → IsNewestServed f.served v
  newest_served f views id v kept fits = let a = kept.limit in let b = kept.order in (omega arith, every_from (MemberFits lock f id) (λ p. (p.served ≤ f.served) × (p.next ≤ 2 ^ 63)) (λ p h. let low = h.words.0 in (h.words.1, omega arith)) v.members fits.members)

  -- the rule is kept if a view changes only in what its members know
  knows_kept : (f : LockState T E) (views : List (View E O)) (id : ℕ) (v : View E O) (k : PassView E O → PassView E O) → ((p : PassView E O) → (k p).pass ≡ p.pass) → ((p : PassView E O) → MemberFits lock f id p → MemberFits lock f id (k p))
      → pass_numbers (map k v.members) ≡ pass_numbers v.members → StateFits lock f views → get_elem? views id ≡ some v → StateFits lock f (set views id (view_of (map k v.members) v.stage))
  knows_kept f views id v k same suits passes kept at = let fits = kept.each_view id v at in let w : View E O = view_of (map k v.members) v.stage in
      moved lock f f views id v w kept at kept.order kept.limit kept.names (maps_fit f f id k v v.stage same suits fits.stage fits.alone fits) refl passes (λ j u ne here h. h)
      (λ t low high. still (λ u. ticket u.stage ≡ some t) views id (f.taker t) v w at (λ e. e) (kept.each_ticket t low high))
      (place_still lock f f views id v w f.place at (λ e. e) refl refl kept.is_placed)

  -- the rule is kept after a load of the word `next`
  pub next_kept : (f : LockState T E) (views : List (View E O)) (id : ℕ) (v : View E O) → StateFits lock f views → get_elem? views id ≡ some v → StateFits lock f (set views id (after_next f.next v.stage v))
  next_kept f views id v = knows_kept f views id v (with_next_seen f.next) (λ p. refl) (λ p h. grind arith) (map-map (λ p. p.pass) (with_next_seen f.next) v.members)

  -- the rule is kept after a load of the word `served`
  pub served_kept : (f : LockState T E) (views : List (View E O)) (id : ℕ) (v : View E O) → StateFits lock f views → get_elem? views id ≡ some v → StateFits lock f (set views id (after_served f.served v.stage v))
  served_kept f views id v kept = knows_kept f views id v (with_served_seen f.served) (λ p. refl) (λ p. served_suits f id p kept.order) (map-map (λ p. p.pass) (with_served_seen f.served) v.members) kept

  pub load_next_allowed : (slots id : ℕ) (me : Me (Option T) (View E O)) → Allows (LockRule lock) slots id me 1 (λ n. n) (LoadsNext me)
  load_next_allowed slots id me = allowed lock slots id me 1 (λ n. n) (LoadsNext me) (λ f views kept at. unmoved lock id me 1 (λ n. n) (LoadsNext me) f views (after_next f.next me.0.stage me.0) refl
      (next_kept f views id me.0 kept at) (record { newest = newest_next f views id me.0 kept (kept.each_view id me.0 at); after = refl }))

  pub load_served_allowed : (slots id : ℕ) (me : Me (Option T) (View E O)) → Allows (LockRule lock) slots id me 0 (λ n. n) (LoadsServed me)
  load_served_allowed slots id me = allowed lock slots id me 0 (λ n. n) (LoadsServed me) (λ f views kept at. let fits = kept.each_view id me.0 at in
      unmoved lock id me 0 (λ n. n) (LoadsServed me) f views (after_served f.served me.0.stage me.0) refl (served_kept f views id me.0 kept at) (record {
        newest = newest_served f views id me.0 kept fits;
        after = refl;
        order = pairwise_all (MemberFits lock f id) (λ (p q : PassView E O). AreComparable p.seen q.seen) (λ p q a b. in_order p.pass q.pass p.seen q.seen f.log a.continues b.continues) me.0.members fits.members;
      }))
