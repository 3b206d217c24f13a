-- How an actor goes on at each row of the table: it keeps its call or ends it, and hands a value
-- out where it may take one.
use Rattle.rd_origin.proofs.Prelude.{◌≡◌, ◌⊎◌, ℕ, Option, Some, None, arith, Answer, OpReply, Op, Pc, Q5, B2, after_at, Actor}
use Rattle.rd_actor.specs.declared.actors.OpReply.TheVariants as op_reply

-- p is the call o, or none
abbrev pub IsStill : Option Op → Option Op → Type 0
IsStill o p = (p ≡ o) ⊎ (p ≡ None)

-- the value that a reply hands out; none if it hands out none
abbrev pub value_in : Option OpReply → Option ℕ
value_in (Some (op_reply.Value v)) = Some v
value_in _ = None

-- this is a control point at which an actor may take a value
abbrev pub IsTaker : Pc → Type 0
IsTaker pc = (pc ≡ Q5) ⊎ (pc ≡ B2)

-- a reply at this control point hands out no value, unless an actor may take one there
abbrev pub HandsOut : Pc → Actor × Option OpReply → Type 0
HandsOut pc next = (value_in next.1 ≡ None) ⊎ IsTaker pc

-- an actor at this control point keeps its call or ends it, and hands out a value only where it may
abbrev pub GoesOn : Pc → Actor → Actor × Option OpReply → Type 0
GoesOn pc a next = IsStill a.op next.0.op × HandsOut pc next

-- each row keeps the call or ends it, and only two rows hand a value out
pub row_goes : (R : ℕ) (pc : Pc) (a : Actor) (answer : Answer) → GoesOn pc a (after_at R pc a answer)
row_goes R pc a answer = grind arith
