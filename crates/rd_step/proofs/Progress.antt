-- Progress: the access for which an actor of a well-formed world asks suits its place, and the
-- answer leads the actor to another control point.
use Rattle.rd_step.proofs.Prelude.{◌≡◌, ◌≢◌, ℕ, ◌≤◌, Bool, true, false, if◌then◌else◌, nat_lt, nat_le, sym, ◌∙◌, ap, subst, arith, Option, Some, is_some, is_none, ok_or, Result, Ok, Err, IfOk, segment_holding, common_steps, cond_both, and_parts, IfOk-at_ok, MOST_SEGMENTS, Cell, SegName, Place, Wrote, ArrSlot, Content, Operation, Access, NoPlace, At, Make, Refusal, some_covers, is_nothing, written, is_there, operand, Effect, effect, Performed, operate, make, perform, compares_and_swaps, adds, performed_at, result_map, after_write-outside, written-covers, ok_or_ok, Act, Actor, Pc, Q5, A2, B2, need, need_at, after_take, after_at, after, words_fit_at, World, Event, Stepped, step, Presence, content_fits, record_fits, IsWellFormed, number_made, and_then_err, IsStepRefusal, SuitsContent, MovesOn, ChangesOnly, ◌⊎◌, inl, inr, with_actor}
use Rattle.rd_step.proofs.Halves.{has_place, has_operand}
use Rattle.rd_step.proofs.Fits.{NamesAndNumbersFit, record_fits-names_and_numbers, record_fits-words, record_fits-well_formed}
use Rattle.rd_step.proofs.Steps.{step_stages, with_actor-same, with_actor-other}
use Rattle.rd_cell.specs.declared.places.Place.TheVariants as place
use Rattle.rd_cell.specs.declared.contents.Content.TheVariants as content
use Rattle.rd_cell.specs.declared.operations.Answer.TheVariants as answer
use Rattle.rd_cell.specs.declared.refusal.Refusal.TheVariants as refusal
use Rattle.rd_actor.specs.declared.actors.Act.TheVariants as act

-- Contents by the kinds of their places

-- P holds of each content of the kind that this place holds
abbrev OfKind : Place → (Content → Type 0) → Type 0
OfKind place.QHead P = (s : SegName) → P (content.Name s)
OfKind place.QTail P = (s : SegName) → P (content.Name s)
OfKind (place.Head s) P = (n : ℕ) → P (content.Number n)
OfKind (place.Tail s) P = (closed : Bool) (n : ℕ) → P (content.Tail closed n)
OfKind (place.Next s) P = (m : Option SegName) → P (content.Next m)
OfKind (place.Cell s i) P = (x : Cell) → P (content.Cell x)
OfKind (place.Val s i) P = (val : Option ℕ) → P (content.Val val)
OfKind (place.Idx s i) P = (safe : Bool) (idx : ℕ) → P (content.Idx safe idx)
OfKind place.ArrHead P = (n : ℕ) → P (content.Number n)
OfKind place.ArrTail P = (n : ℕ) → P (content.Number n)
OfKind (place.ArrCell i) P = (x : ArrSlot) → P (content.Slot x)
OfKind (place.Whole s) P = P content.Whole

-- what holds of each content of a place's kind holds of each content that fits the place
at_kind : (R : ℕ) (there : Presence) (p : Place) (P : Content → Type 0) → OfKind p P → (c : Content) → content_fits R there p c ≡ true → P c
at_kind R there p P f c h = grind arith

-- The rows

-- an effect's answer leads to another control point, and it is refused only at the end of a counter
abbrev Goes : ℕ → Pc → Actor → Result Effect Refusal → Type 0
Goes R pc a (Ok e) = (after_at R pc a e.answer).0.pc ≢ pc
Goes R pc a (Err refusal.CounterEnd) = Unit {0}
Goes R pc a (Err refusal.ArrayEnd) = Unit {0}
Goes R pc a (Err _) = ⊥

-- the access of a row leads on, whatever content of the right kind it finds
abbrev Leads : ℕ → Pc → Actor → Access → Type 0
Leads R pc a NoPlace = ⊥
Leads R pc a (At p op) = OfKind p (λ c. Goes R pc a (effect op c))
Leads R pc a (Make x) = (s : SegName) → (after_at R pc a (answer.Made s)).0.pc ≢ pc

-- a choice between two control points other than z is other than z
choice_avoids : (b : Bool) (x y z : Pc) → x ≢ z → y ≢ z → (if b then x else y) ≢ z
choice_avoids b x y z h k = cond_both b x y (λ (pc : Pc). pc ≢ z) (λ e. h) (λ e. k)

-- a compare-and-swap leads on, if the row does when it won and when it lost
swaps_lead : (R : ℕ) (pc : Pc) (a : Actor) (b : Bool) (c : Content) → (after_at R pc a answer.Won).0.pc ≢ pc → (after_at R pc a answer.Lost).0.pc ≢ pc
    → Goes R pc a (compares_and_swaps b c)
swaps_lead R pc a b c won lost = grind arith

-- a fetch-and-add leads on, if the row does with the old content and may be refused at the limit
adds_lead : (R : ℕ) (pc : Pc) (a : Actor) (limit n : ℕ) (end : Refusal) (old new : Content) → Goes R pc a (Err end)
    → (after_at R pc a (answer.Found old)).0.pc ≢ pc → Goes R pc a (adds limit n end old new)
adds_lead R pc a limit n end old new may h = cond_both (nat_lt n limit) _ _ (λ (r : Result Effect Refusal). Goes R pc a r) (λ e. h) (λ e. may)

take_leads : (a : Actor) (v : Option ℕ) → is_some v ≡ true → (after_take v a).0.pc ≢ Q5
take_leads a v h = grind arith

swap_in_leads : (R : ℕ) (a : Actor) (slot : ArrSlot) → (after_at R A2 a (answer.Found (content.Slot slot))).0.pc ≢ A2
swap_in_leads R a slot = grind arith

swap_out_leads : (R : ℕ) (a : Actor) (slot : ArrSlot) → (after_at R B2 a (answer.Found (content.Slot slot))).0.pc ≢ B2
swap_out_leads R a slot = grind arith

-- each row leads on, if the actor's words fit it
row_leads : (R : ℕ) (pc : Pc) (a : Actor) → words_fit_at pc a ≡ true → IfOk (need_at R pc a) (Leads R pc a)
row_leads R pc a w = grind (arith, common_steps, swaps_lead, adds_lead, choice_avoids, is_none, nat_le, nat_lt, is_some, take_leads, and_parts, swap_in_leads, swap_out_leads)

-- The places of accesses are there

-- the place on which an access operates is there
abbrev IsAtPlace : ℕ → Presence → Access → Type 0
IsAtPlace R there (At p op) = has_place R there p ≡ true
IsAtPlace R there _ = Unit {0}

-- the place of each row's access is there, if the actor's names and words fit
row_place : (R : ℕ) (there : Presence) (pc : Pc) (a : Actor) → 1 ≤ R → NamesAndNumbersFit R there a → words_fit_at pc a ≡ true
    → IfOk (need_at R pc a) (IsAtPlace R there)
row_place R there pc a some f w = grind arith

-- A step

-- the operation of the actor's row finds a content at p, and its effect leads the actor on
record WorksOn (w : World) (a : Actor) (p : Place) (op : Operation) : Type 0 where
  pub content : Content
  pub found : operand w.at p ≡ Some content
  pub goes : Goes w.ring a.pc a (effect op content)

-- in a well-formed world, the operation of an actor's row finds its content and leads on
works_on : (w : World) (a : Actor) (p : Place) (op : Operation) → 1 ≤ w.ring → IsWellFormed w → record_fits w.ring (is_there w.at) a ≡ true
    → need_at w.ring a.pc a ≡ Ok (At p op) → WorksOn w a p op
works_on w a p op some formed fits needs =
    let there = is_there w.at in
    let words = record_fits-words w.ring there a fits in
    let place : IsAtPlace w.ring there (At p op) =
    IfOk-at_ok (IsAtPlace w.ring there) needs (row_place w.ring there a.pc a some (record_fits-names_and_numbers w.ring there a fits) words) in
    let leads : Leads w.ring a.pc a (At p op) = IfOk-at_ok (Leads w.ring a.pc a) needs (row_leads w.ring a.pc a words) in
    let on = has_operand w p formed place in
    record { content = on.content; found = on.found; goes = at_kind w.ring there p (λ c. Goes w.ring a.pc a (effect op c)) leads on.content on.fits }

-- an access ends well: its actor goes on to another control point, or the refusal is one of a step
abbrev Ends : ℕ → Actor → Act → Result Performed Refusal → Type 0
Ends R a act (Ok did) = (after R a act did.answer).0.pc ≢ a.pc
Ends R a act (Err refusal) = IsStepRefusal refusal

goes_ends : (R : ℕ) (a : Actor) (p : Place) (c : Content) (r : Result Effect Refusal) → Goes R a.pc a r → Ends R a act.Go (result_map (performed_at p c) r)
goes_ends R a p c r h = grind arith

make_ends : (R : ℕ) (a : Actor) (s : SegName) (x : ℕ) → Leads R a.pc a (Make x) → Ends R a act.Go (make s (segment_holding R x))
make_ends R a s x h = cond_both (nat_lt s.n MOST_SEGMENTS) _ _ (λ (r : Result Performed Refusal). Ends R a act.Go r) (λ e. h s) (λ e. tt)

-- every act but `Go` has no access, and moves its actor to another control point
other_acts : (R : ℕ) (a : Actor) (x : Act) (y : Access) → need R a x ≡ Ok y
    → (x ≡ act.Go) ⊎ ((y ≡ NoPlace) × ((after R a x answer.Nothing).0.pc ≢ a.pc))
other_acts R a x y h = grind arith

go_ends : (actor : ℕ) (w : World) (a : Actor) (y : Access) → 1 ≤ w.ring → IsWellFormed w → record_fits w.ring (is_there w.at) a ≡ true
    → need_at w.ring a.pc a ≡ Ok y → Ends w.ring a act.Go (perform w.ring actor w.at y)
go_ends actor w a NoPlace some formed fits needs = grind arith
go_ends actor w a (At p op) some formed fits needs =
    let on = works_on w a p op some formed fits needs in
    subst (λ (o : Option Content). Ends w.ring a act.Go (operate p op o)) (sym on.found) (goes_ends w.ring a p on.content (effect op on.content) on.goes)
go_ends actor w a (Make x) some formed fits needs =
    make_ends w.ring a (record { maker = actor; n = number_made w.at actor }) x
    (IfOk-at_ok (Leads w.ring a.pc a) needs (row_leads w.ring a.pc a (record_fits-words w.ring (is_there w.at) a fits)))

-- in a well-formed world, the access for which an actor asks ends well
access_ends : (actor : ℕ) (w : World) (a : Actor) (x : Act) (y : Access) → 1 ≤ w.ring → IsWellFormed w → record_fits w.ring (is_there w.at) a ≡ true
    → need w.ring a x ≡ Ok y → Ends w.ring a x (perform w.ring actor w.at y)
access_ends actor w a x y some formed fits needs = grind (arith, other_acts, go_ends)

-- The laws

need_refused : (R : ℕ) (a : Actor) (act : Act) (refusal : Refusal) → need R a act ≡ Err refusal → IsStepRefusal refusal
need_refused R a act refusal h = grind arith

-- a well-formed world refuses a step only for the causes in `IsStepRefusal`
pub refused_in_cases : (w : World) (e : Event) (cause : Refusal) → 1 ≤ w.ring → IsWellFormed w → step w e ≡ Err cause → IsStepRefusal cause
refused_in_cases w e cause some formed h =
    and_then_err (ok_or (w.actor e.actor) refusal.NoActor) _ cause h (no_actor (w.actor e.actor)) (λ a there h1.
    let has = ok_or_ok (w.actor e.actor) refusal.NoActor a there in
    and_then_err (need w.ring a e.act) _ cause h1 (need_refused w.ring a e.act cause) (λ x needs h2.
    and_then_err (perform w.ring e.actor w.at x) _ cause h2
    (λ does. subst (Ends w.ring a e.act) does (access_ends e.actor w a e.act x some formed (record_fits-well_formed w e.actor a formed has) needs))
    (λ did does h3. cc)))
  where
    no_actor : (o : Option Actor) → ok_or o refusal.NoActor ≡ Err cause → IsStepRefusal cause
    no_actor o l = grind arith

-- the operation for which an actor of a well-formed world asks suits the content of its place
pub suits_content : (w : World) (n : ℕ) (a : Actor) (x : Act) (p : Place) (op : Operation) → 1 ≤ w.ring → IsWellFormed w
    → w.actor n ≡ Some a → need w.ring a x ≡ Ok (At p op) → SuitsContent w.at p op
suits_content w n a x p op some formed has needs =
    elim (other_acts w.ring a x (At p op) needs) [
      | inl go ↦
          let on = works_on w a p op some formed (record_fits-well_formed w n a formed has) (ap (need w.ring a) (sym go) ∙ needs) in
          record { content = on.content; found = on.found; suits = suit (effect op on.content) on.goes }
      | inr other ↦ absurd (cc (other.0))
    ]
  where
    suit : (r : Result Effect Refusal) → Goes w.ring a.pc a r → r ≡ Err refusal.NoSuchPlace → ⊥
    suit r h k = grind arith

moved_on : (n : ℕ) (a next b c : Actor) (actors : ℕ → Option Actor) → actors n ≡ Some a → next.pc ≢ a.pc → actors n ≡ Some b
    → with_actor n next actors n ≡ Some c → b.pc ≡ c.pc → ⊥
moved_on n a next b c actors has ne old new same = grind (arith, with_actor-same)

-- a step leaves its actor at another control point
pub moves_on : (w : World) (e : Event) (s : Stepped) → 1 ≤ w.ring → IsWellFormed w → step w e ≡ Ok s → MovesOn e w s.world
moves_on w e s some formed h =
    let t = step_stages w e s h in
    let ends : Ends w.ring t.a e.act (Ok t.did) =
    subst (Ends w.ring t.a e.act) t.does (access_ends e.actor w t.a e.act t.access some formed (record_fits-well_formed w e.actor t.a formed t.has) t.needs) in
    subst (λ (x : Stepped). MovesOn e w x.world) t.ends
    (λ b c old new same. moved_on e.actor t.a (after w.ring t.a e.act t.did.answer).0 b c w.actor t.has ends old new same)

nothing_written : (p : Option Place) (w : Wrote) (q : Place) → is_nothing w ≡ true → some_covers (written p w) q ≡ false
nothing_written p w q h = grind arith

-- a step changes only places that its entry's place covers, and one actor
pub changes_only : (w : World) (e : Event) (s : Stepped) → step w e ≡ Ok s → ChangesOnly e s.entry w s.world
changes_only w e s h =
    let t = step_stages w e s h in grind (arith, after_write-outside, written-covers, nothing_written, with_actor-other)
