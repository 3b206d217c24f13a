-- The index has the entries before the k-th and those gathered so far (`UnderWay`). So it finds
-- that the next entry depends on a gathered one exactly if this entry is in the closure. A number
-- is gathered or stays, and none is lost.
use Rattle.rd_journal.proofs.Prelude.{put_mid, vec_capacity, append-nil, drop-drop, drop_at, length-take-le, depends_on_any, Entry, HasRoomFor, at_numbers, ◌≡◌, ◌∙◌, ◌+◌, ◌-◌, ◌<◌, ◌≤◌, ℕ, List, [], ◌∷◌, ◌++◌, length, take, drop, set, Bool, refl, sym, ap, subst, arith, rules, length-append, length-drop, drop_of_length-le, take_all}
use Rattle.rd_journal.proofs.GatheringLoop.{live_of, live_of-length, UnderWay, next_one, first_gathered, before_next, joined, stayed, ended, carried}
use Rattle.rd_journal.proofs.RoomLemmas.{fits_one, fits_between}
use Rattle.rd_journal.proofs.Numbers.{order_below}
use Rattle.rd_journal.proofs.entries.gathering.move_closure_last.Goals as goal
use Rattle.rd_journal.proofs.entries.gathering.move_closure_last.Goals.{then-depends_on_any_after, else-depends_on_any_after}

-- what is told of the index is told of what is gathered
told : (before block : List Entry) (x : Entry) (b : Bool) (n : ℕ) → length before ≡ n → b ≡ depends_on_any (drop n (before ++ block)) x → depends_on_any block x ≡ b
told before block x b n len h = ap (λ (xs : List Entry). depends_on_any xs x) (sym (drop_at before block n len)) ∙ sym h

-- what the order is when the gathered numbers were put after those that stay
written : (n f live : ℕ) (now dm copied gathered : List ℕ) → n ≡ length now → dm ≡ now → copied ≡ gathered → f + length gathered ≡ live → live ≤ length now
    → let ys = put_mid f (live - f) dm copied in take n (ys ++ drop (length ys) now) ≡ take f now ++ (gathered ++ drop live now)
written n f live now dm copied gathered len same its number within = grind (arith, drop-drop, length-append, length-take-le, length-drop, drop_of_length-le, append-nil, take_all)

pub entry_in-step-requires : goal.entry_in-step-requires
entry_in-step-requires c = grind (arith, order_below)

pub push_reserved-requires-clause-room : goal.push_reserved-requires-clause-room
push_reserved-requires-clause-room c =
    let es = c.args.slab.now in
    let ns = c.args.order.now.items in
    let n = next_one es ns ns c.args.live (c.args.k - 1) c.index-first.result.now c.requires.ordered c.requires.within (omega (arith, c.requires.some, c.requires.position)) refl refl
    c.index-first.ensures in
    grind (arith, fits_one)

pub loop-next-init : goal.loop-next-init
loop-next-init c =
    let es = c.args.slab.now in
    let ns = c.args.order.now.items in
    let v = c.index-first.result.now in
    let n = next_one es ns ns c.args.live (c.args.k - 1) v c.requires.ordered c.requires.within (omega (arith, c.requires.some, c.requires.position)) refl refl
    c.index-first.ensures in
    let pushed : v ∷ [] ≡ c.push_reserved-2.new.self.items = sym (c.push_reserved-2.ensures.items ∙ ap (λ (ms : List ℕ). ms ++ v ∷ []) c.requires.none) in
    record {
      under_way =
          subst (λ (ms : List ℕ). UnderWay es ns ns ms c.args.index.now c.push_reserved.new.self c.args.k c.args.live (c.args.k - 1) c.args.k) pushed
          (first_gathered es ns c.args.index.now c.push_reserved.new.self c.args.k c.args.live v c.entry_in-step.result.now c.requires.ordered c.requires.some c.requires.position c.requires.within n
          c.entry_in-step.ensures c.requires.before c.push_reserved.ensures.put c.push_reserved.ensures.room);
      order = refl;
      place = c.push_reserved-2.ensures.capacity;
    }

pub entry_in-entry-requires : goal.entry_in-entry-requires
entry_in-entry-requires c = grind (arith, next_one)

pub depends_on_any_after-requires : goal.depends_on_any_after-requires
depends_on_any_after-requires c = grind (arith, live_of, live_of-length, length-append, length-take-le)

pub push_reserved-requires-then-depends_on_any_after-clause-room : goal.push_reserved-requires-then-depends_on_any_after-clause-room
push_reserved-requires-then-depends_on_any_after-clause-room c =
    let es = c.args.slab.now in
    let ns = c.args.order.now.items in
    let now = c.loop-next.order.items in
    let k = c.args.k in
    let L = live_of es ns c.args.live in
    let next = c.loop-next.next in
    let v = c.index-number.result.now in
    let x = c.entry_in-entry.result.now in
    let u = c.loop-next.invariant.under_way in
    let n = next_one es ns now c.args.live next v c.requires.ordered c.requires.within (omega (arith, c.loop-next-test.true)) u.long u.later c.index-number.ensures in
    let has = subst (λ (xs : List Entry). HasRoomFor c.args.index.now xs) (sym (append-nil (drop (k - 1) L))) c.requires.room in
    fits_one c.loop-next.index x (drop (k - 1) (at_numbers es (take c.loop-next.front now)) ++ (drop (next + 1) L ++ []))
    (fits_between c.loop-next.index (drop (k - 1) (at_numbers es (take c.loop-next.front now))) (drop (next + 1) L ++ []) x
    (before_next es ns now c.loop-next.gathered.items c.args.index.now c.loop-next.index k c.args.live c.loop-next.front next v x u n c.entry_in-entry.ensures [] has))

pub loop-next-preserved : goal.loop-next-preserved
loop-next-preserved c =
    let es = c.args.slab.now in
    let ns = c.args.order.now.items in
    let now = c.loop-next.order.items in
    let gathered = c.loop-next.gathered.items in
    let k = c.args.k in
    let live = c.args.live in
    let L = live_of es ns live in
    let front = c.loop-next.front in
    let next = c.loop-next.next in
    let v = c.index-number.result.now in
    let x = c.entry_in-entry.result.now in
    let u = c.loop-next.invariant.under_way in
    let low : next < live = omega (arith, c.loop-next-test.true) in
    let n = next_one es ns now live next v c.requires.ordered c.requires.within low u.long u.later c.index-number.ensures in
    let len : length (take (k - 1) L) ≡ k - 1 =
    length-take-le (k - 1) L (omega (arith, live_of-length es ns live c.requires.ordered c.requires.within, c.requires.position)) in
    let said =
    told (take (k - 1) L) (at_numbers es gathered) x c.depends_on_any_after.result (k - 1) len (c.depends_on_any_after.ensures (take (k - 1) L ++ at_numbers es gathered) u.indexed) in
    let later : drop (next + 1) now ≡ drop (next + 1) ns =
    sym (drop-drop 1 next now ∙ ap (λ (m : ℕ). drop m now) (omega arith)) ∙ ap (λ (ms : List ℕ). drop 1 ms) u.later ∙ (drop-drop 1 next ns ∙ ap (λ (m : ℕ). drop m ns) (omega arith)) in
    elim c.if-depends_on_any_after.branch [
      | then-depends_on_any_after w ↦
          record {
            under_way =
                carried es ns now (gathered ++ v ∷ []) c.args.index.now w.push_reserved-then-depends_on_any_after.new.self k live front (next + 1) _ _ _ _
                ((λ i. (w.order-is i).items)) ((λ i. (w.gathered-is i).items) ∙ w.push_reserved-then-depends_on_any_after-2.ensures.items) w.index-is w.front-is
                (joined es ns now gathered c.args.index.now c.loop-next.index w.push_reserved-then-depends_on_any_after.new.self k live front next v x u low n c.entry_in-entry.ensures
                (said ∙ w.if-depends_on_any_after.true) w.push_reserved-then-depends_on_any_after.ensures.put w.push_reserved-then-depends_on_any_after.ensures.room later);
            order = ap vec_capacity w.order-is ∙ c.loop-next.invariant.order;
            place = ap vec_capacity w.gathered-is ∙ w.push_reserved-then-depends_on_any_after-2.ensures.capacity ∙ c.loop-next.invariant.place;
          }
      | else-depends_on_any_after w ↦
          record {
            under_way =
                carried es ns (set now front v) gathered c.args.index.now c.loop-next.index k live (front + 1) (next + 1) _ _ _ _
                ((λ i. (w.order-is i).items)) ((λ i. (w.gathered-is i).items)) w.index-is w.front-is
                (stayed es ns now gathered c.args.index.now c.loop-next.index k live front next v x u low c.requires.within n c.entry_in-entry.ensures
                (said ∙ w.if-depends_on_any_after.false) later);
            order = ap vec_capacity w.order-is ∙ c.loop-next.invariant.order;
            place = ap vec_capacity w.gathered-is ∙ c.loop-next.invariant.place;
          }
    ]

pub returns : goal.returns
returns c =
    let u = c.loop-next.invariant.under_way in
    let put = written c.loop-next.order.len c.loop-next.front c.args.live c.loop-next.order.items c.deref_mut.result.now c.copy_from_slice.new.self c.loop-next.gathered.items (search rules)
    c.deref_mut.ensures.value (c.copy_from_slice.ensures.after ∙ c.deref.ensures.value) (omega (arith, u.number, u.within, c.loop-next-test.false))
    (omega (arith, u.long, c.requires.within)) in
    let e = ended c.args.slab.now c.args.order.now.items c.loop-next.order.items c.loop-next.gathered.items _ c.args.index.now c.loop-next.index c.args.k c.args.live c.loop-next.front
    c.loop-next.next u (omega (arith, c.loop-next-test.false)) c.requires.ordered c.requires.within put in
    grind arith
