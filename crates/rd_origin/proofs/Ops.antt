-- The call that an actor is in: a step keeps it or ends it, and a put is made in it.
use Rattle.rd_origin.proofs.Prelude.{◌≡◌, ℕ, Bool, true, false, Option, Some, None, arith, Answer, Op, value_to_put, is_call, argument, after, Actor}
use Rattle.rd_actor.specs.declared.actors.Act.{Act}
use Rattle.rd_actor.specs.declared.actors.Op.TheVariants as op
use Rattle.rd_origin.proofs.Rows.{IsStill}
use Rattle.rd_actor.specs.declared.actors.Act.TheVariants as act

-- the call that an act begins
abbrev pub called : Act → Option Op
called (act.Enq x) = Some (op.Enq x)
called act.Deq = Some op.Deq
called (act.AEnq x) = Some (op.AEnq x)
called act.ADeq = Some op.ADeq
called _ = None

-- an act that begins no call keeps the actor's call or ends it
pub after_still : (R : ℕ) (a : Actor) (act : Act) (answer : Answer) → is_call act ≡ false → IsStill a.op (after R a act answer).0.op
after_still R a act answer h = grind arith

-- an act that begins a call leaves the actor in that call
pub after_call : (R : ℕ) (a : Actor) (act : Act) (answer : Answer) → is_call act ≡ true → (after R a act answer).0.op ≡ called act
after_call R a act answer h = grind arith

-- whether the call is an enqueue, on either queue
abbrev pub puts_values : Option Op → Bool
puts_values (Some (op.Enq x)) = true
puts_values (Some (op.AEnq x)) = true
puts_values _ = false

-- an enqueue puts the argument of the act that began it
pub argued : (act : Act) (o : Option Op) → puts_values o ≡ true → IsStill (called act) o → argument act ≡ Some (value_to_put o)
argued act o h k = grind arith
