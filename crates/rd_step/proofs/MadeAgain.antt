-- Making the step of an entry again from what the entry keeps.
use Rattle.rd_step.proofs.Prelude.{◌≡◌, ℕ, ◌≤◌, true, inl, inr, refl, arith, List, Option, Some, IsTrue, Result, Ok, Err, IfOk, IfErr, fun_ext, Access, Done, Refusal, is_nothing, Performed, contents_after, perform, everywhere, HasEffect, Space, contents, room, Actor, OpReply, need, after, World, Entry, with_actor, step, world_of_fields, numbered, is_make, makes_segment, IsRefused}
use Rattle.rd_step.proofs.Progress.{changes_only}
use Rattle.rd_step.proofs.Steps.{step_stages}

-- the step of the entry x leads from w to v: its access, what that did, and the world after it
pub record Leaves (w v : World) (x : Entry) : Type 0 where
  pub has : w.actor x.event.actor ≡ Some x.old_actor
  pub access : Access
  pub needs : need w.ring x.old_actor x.event.act ≡ Ok access
  pub did : Performed
  pub does : perform w.ring x.event.actor w.at access ≡ Ok did
  pub ring : v.ring ≡ w.ring
  pub places : v.at ≡ contents_after did w.at
  pub actors : v.actor ≡ with_actor x.event.actor (after w.ring x.old_actor x.event.act x.answer).0 w.actor

-- an entry's step has these parts
pub leaves : (w v : World) (x : Entry) → step w x.event ≡ Ok (record { world = v; entry = x }) → Leaves w v x
leaves w v x h = let t = step_stages w x.event (record { world = v; entry = x }) h in grind arith

-- the access of the entry's step, done again, is refused neither by the model nor for lack of room
pub not_refused : (R : ℕ) (space : Space R) (xs : List Actor) (v : World) (x : Entry) (access : Access) (refusal : Refusal)
    → step (world_of_fields space xs) x.event ≡ Ok (record { world = v; entry = x }) → need R x.old_actor x.event.act ≡ Ok access
    → (IsTrue (makes_segment (world_of_fields space xs) x.event) → 1 ≤ room space x.event.actor)
    → IsRefused (perform R x.event.actor (contents space) access) (is_make access) (room space x.event.actor) refusal → ⊥
not_refused R space xs v x access refusal h needs has_room (inl refused) = let l = leaves (world_of_fields space xs) v x h in grind arith
not_refused R space xs v x access refusal h needs has_room (inr lacks) = grind arith

made_again : (R : ℕ) (old new : Space R) (xs ys : List Actor) (v : World) (x : Entry) (next : Actor × Option OpReply)
    → step (world_of_fields old xs) x.event ≡ Ok (record { world = v; entry = x })
    → next ≡ after R x.old_actor x.event.act x.answer → numbered ys ≡ with_actor x.event.actor next.0 (numbered xs)
    → v.at ≡ contents new → step (world_of_fields old xs) x.event ≡ Ok (record { world = world_of_fields new ys; entry = x })
made_again R old new xs ys v x next h goes_on actors places = let l = leaves (world_of_fields old xs) v x h in grind arith

-- a step that only read is made again by setting its actor's record alone
pub read_again : (R : ℕ) (space : Space R) (xs ys : List Actor) (v : World) (x : Entry) (next : Actor × Option OpReply)
    → step (world_of_fields space xs) x.event ≡ Ok (record { world = v; entry = x })
    → next ≡ after R x.old_actor x.event.act x.answer → numbered ys ≡ with_actor x.event.actor next.0 (numbered xs)
    → is_nothing x.wrote ≡ true → step (world_of_fields space xs) x.event ≡ Ok (record { world = world_of_fields space ys; entry = x })
read_again R space xs ys v x next h goes_on actors reads =
    made_again R space space xs ys v x next h goes_on actors
    ((changes_only (world_of_fields space xs) x.event (record { world = v; entry = x }) h).reading reads)

-- any step is made again by doing its access, which is not refused, and setting its actor's record
pub access_again : (R : ℕ) (old new : Space R) (xs ys : List Actor) (v : World) (x : Entry) (next : Actor × Option OpReply) (access : Access) (r : Result Done Refusal)
    → step (world_of_fields old xs) x.event ≡ Ok (record { world = v; entry = x })
    → (IsTrue (makes_segment (world_of_fields old xs) x.event) → 1 ≤ room old x.event.actor)
    → next ≡ after R x.old_actor x.event.act x.answer → numbered ys ≡ with_actor x.event.actor next.0 (numbered xs)
    → need R x.old_actor x.event.act ≡ Ok access
    → IfOk r (λ done. HasEffect everywhere (perform R x.event.actor (contents old) access) done (contents old) (contents new))
    → IfErr r (λ e. IsRefused (perform R x.event.actor (contents old) access) (is_make access) (room old x.event.actor) e)
    → step (world_of_fields old xs) x.event ≡ Ok (record { world = world_of_fields new ys; entry = x })
access_again R old new xs ys v x next access (Ok done) h has_room goes_on actors needs accesses refused =
    let l = leaves (world_of_fields old xs) v x h in
    let same : l.access ≡ access = cc (l.needs, needs) in
    let does : perform R x.event.actor (contents old) access ≡ Ok l.did = grind arith in
    let did : l.did ≡ accesses.performed = cc (does, accesses.performs) in
    let left : contents new ≡ contents_after accesses.performed (contents old) = fun_ext (λ q. accesses.leaves q refl) in
    grind (arith, made_again)
access_again R old new xs ys v x next access (Err refusal) h has_room goes_on actors needs accesses refused =
    absurd (not_refused R old xs v x access refusal h needs has_room refused)
