-- A step that takes a value found it in its cell.
use Rattle.rd_origin.proofs.Prelude.{◌≡◌, ℕ, Some, Ok, arith, Place, Contents, Performed, World, Stepped, step, Pc, need_at, after_at, Event, step_stages, Actor}
use Rattle.rd_origin.proofs.Rows.{IsTaker, row_goes}
use Rattle.rd_origin.proofs.Values.{held_at}
use Rattle.rd_origin.proofs.Steps.{AtNone}
use Rattle.rd_actor.specs.declared.actors.OpReply.TheVariants as op_reply

-- if an access makes an actor at this control point reply this value, the access's cell had the
-- value
abbrev TakesFrom : ℕ → Contents → Actor → Place → ℕ → Pc → Performed → Type 0
TakesFrom R at a cell u pc did = (after_at R pc a did.answer).1 ≡ Some (op_reply.Value u) → did.place ≡ Some cell → held_at at cell ≡ Some u

-- if the access of the row at pc makes the actor reply u, the access's cell had u
abbrev RowTakes : ℕ → ℕ → Contents → Actor → Place → ℕ → Pc → Type 0
RowTakes R n at a cell u pc = AtNone R n at (TakesFrom R at a cell u pc) (need_at R pc a)

taker_takes : (R n : ℕ) (at : Contents) (a : Actor) (cell : Place) (u : ℕ) (pc : Pc) → IsTaker pc → RowTakes R n at a cell u pc
taker_takes R n at a cell u pc h = grind arith

-- if a step replies this value, the cell that is its place had the value before
pub taken_held : (w : World) (e : Event) (s : Stepped) (cell : Place) (u : ℕ) → step w e ≡ Ok s
    → s.entry.reply ≡ Some (op_reply.Value u) → s.entry.place ≡ Some cell → held_at w.at cell ≡ Some u
taken_held w e s cell u goes replies place =
    let t = step_stages w e s goes in
    let row = (row_goes w.ring t.a.pc t.a t.did.answer).1 in
    let takes = taker_takes w.ring e.actor w.at t.a cell u t.a.pc in grind arith
