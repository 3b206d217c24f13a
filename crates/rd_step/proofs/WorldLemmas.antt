-- The code's world and its step, as the model's.
use Rattle.rd_step.proofs.Prelude.{◌≡◌, ℕ, zero, suc, ◌-◌, ◌<◌, ◌≤◌, true, false, nat_lt, inl, inr, sym, ◌∙◌, ap, arith, List, length, set, slice_get, Option, Some, None, is_some, IsSome, IsTrue, is_ok, IsOk, Result, Ok, lt-ltb, le-ltb, leb-true, segment_holding, cases_lt, cond-true, cond-false, COUNTER_END, MOST_SEGMENTS, MOST_CELLS, MOST_ACTORS, SegName, Place, Access, Make, Done, Refusal, Contents, is_there, perform, restore, everywhere, HasEffect, Space, contents, room, list_count, Actor, OpReply, need, after, World, Event, with_actor, step, world_of_fields, numbered, is_make, makes_segment, IsRefused, Presence, may_be_there, is_actor, IsWellFormed, IfOk-at_ok, number_made, Makes, RefusesMaking, making_count, counts, there_below, absent_from, slice_get-is_some, IsRepresentable, IsLast, made_segment_at}
use Rattle.rd_actor.proofs.Representable.{representable}
use Rattle.rd_step.specs.declared.worlds.World.{World as CodeWorld}
use Rattle.rd_step.proofs.Actors.{numbered-set, numbered-within}
use Rattle.rd_step.proofs.Fits.{record_fits-names_and_numbers, record_fits-words, access_fits, need_fits, record_fits-well_formed}
use Rattle.rd_cell.specs.Access.{access_keeps_limits}
use Rattle.rd_cell.specs.declared.places.Place.TheVariants as place
use Rattle.rd_cell.specs.declared.places.Wrote.TheVariants as wrote
use Rattle.rd_cell.specs.declared.operations.Answer.TheVariants as answer

-- Accesses

-- the model and the space count the same number of a maker's segments
made_in : {R : ℕ} (space : Space R) (m : ℕ) → making_count space m ≤ MOST_SEGMENTS → number_made (contents space) m ≡ making_count space m
made_in space m few = counts space.makers.items space.qhead space.qtail space.array m few

-- a segment that the space made is the effect of the model's making
pub makes_access : {R : ℕ} (old : Space R) (new : Contents) (actor x : ℕ) (name : SegName) (done : Done) → making_count old actor ≤ MOST_SEGMENTS
    → name ≡ record { maker = actor; n = making_count old actor } → Makes name (segment_holding R x) (contents old) new
    → done ≡ record { place = Some (place.Whole name); old = None; answer = answer.Made name; wrote = wrote.Place }
    → HasEffect everywhere (perform R actor (contents old) (Make x)) done (contents old) new
makes_access {R} old new actor x name done few is m notes = grind (arith, made_in)

-- a making by an actor below its limit is not refused by the model
may_make : {R : ℕ} (space : Space R) (actor x : ℕ) → making_count space actor ≤ MOST_SEGMENTS → making_count space actor < MOST_SEGMENTS
    → IsOk (perform R actor (contents space) (Make x))
may_make {R} space actor x few below = grind (arith, is_ok, cond-true, nat_lt, lt-ltb, made_in)

-- a making that the space refuses is refused as the model or want of room refuses it
pub refuses_access : {R : ℕ} (space : Space R) (actor x : ℕ) (e : Refusal) → making_count space actor ≤ MOST_SEGMENTS
    → RefusesMaking (making_count space actor) (room space actor) e
    → IsRefused (perform R actor (contents space) (Make x)) true (room space actor) e
refuses_access {R} space actor x e few h = grind (arith, cond-false, nat_lt, le-ltb, made_in, may_make)

-- Taking a segment away

-- the number of a segment that is there is below its maker's count
below_count : {R : ℕ} (space : Space R) (s : SegName) → is_there (contents space) s ≡ true → s.n < making_count space s.maker
below_count space s h =
    elim (cases_lt s.n (making_count space s.maker))
    [ inl lt ↦ lt | inr past ↦ absurd (cc (absent_from space.makers.items space.qhead space.qtail space.array s.maker s.n past, h)) ]

-- the number of a segment that is not there is at least its maker's count
at_count : {R : ℕ} (space : Space R) (m n : ℕ) → is_there (contents space) (record { maker = m; n = n }) ≡ false → making_count space m ≤ n
at_count space m n h =
    elim (cases_lt n (making_count space m))
    [ inl lt ↦ absurd (cc (there_below space.makers.items space.qhead space.qtail space.array m n lt, h)) | inr past ↦ past ]

-- the maker of a last segment has made one
pub last_some : {R : ℕ} (space : Space R) (s : SegName) → IsLast (contents space) s → 0 < making_count space s.maker
last_some space s h = let k = below_count space s h.here in omega arith

-- removing the maker's last segment is putting back nothing at the whole of it
pub last_taken : {R : ℕ} (old : Space R) (new : Contents) (s : SegName) → IsLast (contents old) s
    → new ≡ restore (Some (place.Whole (record { maker = s.maker; n = making_count old s.maker - 1 }))) None (contents old)
    → new ≡ restore (Some (place.Whole s)) None (contents old)
last_taken old new s h gone = grind (arith, below_count, at_count)

-- the place of a step that made segment s is the whole of s
pub made_whole : (p : Place) (s : SegName) → made_segment_at (Some p) None ≡ Some s → p ≡ place.Whole s
made_whole p s h = grind arith

-- Actors

-- writing at index n - 1 replaces the record of actor n
pub set_record : (xs : List Actor) (n m : ℕ) (a : Actor) → m ≡ n → IsSome (numbered xs n) → numbered (set xs (m - 1) a) ≡ with_actor n a (numbered xs)
set_record xs zero m a e h = cc
set_record xs (suc n) m a e h =
    let p : m - 1 ≡ n = omega arith in
    ap (λ (k : ℕ). numbered (set xs k a)) p ∙ numbered-set xs n a (let l : suc n - 1 < length xs = numbered-within xs (suc n) h in omega arith)

-- an index is below the list's length exactly if an actor is there
pub actor_within : (xs : List Actor) (len : ℕ) → len ≡ length xs → (n : ℕ) → (IsSome (slice_get xs n) → n < len) × (n < len → IsSome (slice_get xs n))
actor_within xs len e n = (
  (λ h. let l : suc n - 1 < length xs = numbered-within xs (suc n) h in omega arith),
  (λ h. let l : n < length xs = omega arith in slice_get-is_some xs n l),
)

too_many : (xs : List Actor) → ((n : ℕ) → is_some (numbered xs n) ≡ true → n ≤ MOST_ACTORS) → MOST_ACTORS < length xs → ⊥
too_many xs most many = let bad : suc MOST_ACTORS ≤ MOST_ACTORS = most (suc MOST_ACTORS) (slice_get-is_some xs MOST_ACTORS many) in absurd (omega arith)

-- a well-formed world has at most 16 actors
pub few_actors : (R : ℕ) (space : Space R) (xs : List Actor) → IsWellFormed (world_of_fields space xs) → length xs ≤ MOST_ACTORS
few_actors R space xs formed = grind (arith, too_many)

-- The step

-- an actor that is there has a list of segments
pub some_maker : {R : ℕ} (space : Space R) (xs : List Actor) (n : ℕ) → list_count space ≡ suc (length xs) → IsSome (numbered xs n) → n < list_count space
some_maker space xs n lists_are h = grind (arith, numbered-within)

no_such : {R : ℕ} (space : Space R) (xs : List Actor) (n : ℕ) → may_be_there (is_actor (numbered xs)) n MOST_SEGMENTS ≡ true → ⊥
no_such space xs n h = grind arith

-- in a well-formed world, no maker has made more than 65,535 segments
few_made : {R : ℕ} (space : Space R) (xs : List Actor) (n : ℕ) → IsWellFormed (world_of_fields space xs) → making_count space n ≤ MOST_SEGMENTS
few_made space xs n formed =
    elim (cases_lt MOST_SEGMENTS (making_count space n)) [
      | inl many ↦
          absurd (no_such space xs n (formed.made.makers (record { maker = n; n = MOST_SEGMENTS }) (there_below space.makers.items space.qhead space.qtail space.array n MOST_SEGMENTS many)))
      | inr few ↦ few
    ]

access_suited : (R : ℕ) (there : Presence) (x : Access) → access_fits R there x ≡ true → access_keeps_limits x ≡ true
access_suited R there x h = grind arith

-- the operation for which an actor that is there asks suits its place
need_suits : (R : ℕ) (space : Space R) (xs : List Actor) (e : Event) (a : Actor) (x : Access) → IsWellFormed (world_of_fields space xs)
    → numbered xs e.actor ≡ Some a → need R a e.act ≡ Ok x → access_keeps_limits x ≡ true
need_suits R space xs e a x formed has needs =
    let there = is_there (contents space) in
    let fits = record_fits-well_formed (world_of_fields space xs) e.actor a formed has in
    access_suited R there x (IfOk-at_ok (λ (y : Access). access_fits R there y ≡ true) needs (need_fits R there a e.act fits))

-- the numbers in the access for which an actor of a well-formed world asks fit the program's words:
-- its h plus R is below 2^64, and its words fit its control point
representable_here : (R : ℕ) (space : Space R) (xs : List Actor) (e : Event) (a : Actor) → IsWellFormed (world_of_fields space xs) → R ≤ MOST_CELLS
    → numbered xs e.actor ≡ Some a → IsRepresentable R a e.act
representable_here R space xs e a formed small has =
    let there = is_there (contents space) in
    let fits = record_fits-well_formed (world_of_fields space xs) e.actor a formed has in
    let h = leb-true a.h COUNTER_END (record_fits-names_and_numbers R there a fits).h in
    representable R a e.act (omega arith) (record_fits-words R there a fits)

-- the model's actor asks for the access that the code's table gives
pub needs_by : {R : ℕ} (self : CodeWorld R) (e : Event) (a : Actor) (r : Result Access Refusal) → numbered self.actors.items e.actor ≡ Some a
    → (IsRepresentable R a e.act → r ≡ need R a e.act) → need R a e.act ≡ r
needs_by {R} self e a r has by = sym (by (representable_here R self.space self.actors.items e a self.well_formed self.small has))

-- an actor's access meets the requirements of `perform`
pub may_perform : {R : ℕ} (self : CodeWorld R) (e : Event) (a : Actor) (x : Access) → numbered self.actors.items e.actor ≡ Some a → need R a e.act ≡ Ok x
    → (R ≤ MOST_CELLS) × ((e.actor < list_count self.space) × ((making_count self.space e.actor ≤ MOST_SEGMENTS) × IsTrue (access_keeps_limits x)))
may_perform {R} self e a x has needs = (
  self.small,
  (
    some_maker self.space self.actors.items e.actor self.makers (ap is_some has),
    (few_made self.space self.actors.items e.actor self.well_formed, need_suits R self.space self.actors.items e a x self.well_formed has needs),
  ),
)

-- an event makes a segment exactly if its actor's access does
pub makes_by : (w : World) (e : Event) (a : Actor) (x : Access) → w.actor e.actor ≡ Some a → need w.ring a e.act ≡ Ok x
    → makes_segment w e ≡ is_make x
makes_by w e a x has needs = grind arith

-- if an actor's access is refused, so is its step, for the same cause
pub step_refuses : (R : ℕ) (space : Space R) (xs : List Actor) (e : Event) (a : Actor) (x : Access) (refusal : Refusal)
    → numbered xs e.actor ≡ Some a → need R a e.act ≡ Ok x
    → IsRefused (perform R e.actor (contents space) x) (is_make x) (room space e.actor) refusal
    → IsRefused (step (world_of_fields space xs) e) (makes_segment (world_of_fields space xs) e) (room space e.actor) refusal
step_refuses R space xs e a x refusal has needs h = grind arith

-- the step that the code makes is the model's step
pub step_goes : (R : ℕ) (old new : Space R) (xs ys : List Actor) (e : Event) (a : Actor) (x : Access) (done : Done) (next : Actor × Option OpReply)
    → numbered xs e.actor ≡ Some a → need R a e.act ≡ Ok x → HasEffect everywhere (perform R e.actor (contents old) x) done (contents old) (contents new)
    → next ≡ after R a e.act done.answer → numbered ys ≡ with_actor e.actor next.0 (numbered xs)
    → step (world_of_fields old xs) e ≡ Ok (record {
      world = world_of_fields new ys;
      entry = record { event = e; place = done.place; wrote = done.wrote; answer = done.answer; reply = next.1; old_actor = a; old_content = done.old };
    })
step_goes R old new xs ys e a x done next has needs accesses goes actors = grind arith

-- spaces with the same contents make the same world
pub same_world : {R : ℕ} (old new : Space R) (xs : List Actor) → contents new ≡ contents old → world_of_fields new xs ≡ world_of_fields old xs
same_world {R} old new xs same = λ i. record { ring = R; at = same i; actor = numbered xs }
