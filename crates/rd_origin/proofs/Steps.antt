-- After a step that puts nothing into a cell, the cell has its value or none.
use Rattle.rd_origin.proofs.Prelude.{◌≡◌, ◌⊎◌, ℕ, Bool, false, not, ◌&&◌, Option, Result, Ok, IfOk, arith, IfOk-at_ok, Place, Access, Refusal, Contents, is_nothing, Performed, perform, OpReply, need, World, Stepped, step, no_access, Pc, E8, E12, A2, need_at, Event, step_stages, has_first_cell, puts_into, Actor, Act, need_for_call, need_for_choice, is_at, puts_from, step_outcome}
use Rattle.rd_origin.proofs.Values.{HoldsOnly, LeavesOnly, AccessKeeps, kept_access}
use Rattle.rd_actor.specs.declared.actors.Act.TheVariants as act

-- The rows that put

-- this is a control point at which an actor may put a value
abbrev pub IsPutter : Pc → Type 0
IsPutter pc = (pc ≡ E8) ⊎ (pc ≡ A2) ⊎ (pc ≡ E12)

-- every other row has an access that writes no value, or only the one that it found
row_kind : (R : ℕ) (pc : Pc) (a : Actor) → IfOk (need_at R pc a) AccessKeeps ⊎ IsPutter pc
row_kind R pc a = grind arith

-- whether an access made at this control point put a value into the cell
abbrev pub puts_by : Pc → Place → Performed → Bool
puts_by E8 cell did = not (is_nothing did.wrote) && is_at did.place cell
puts_by A2 cell did = is_at did.place cell
puts_by E12 cell did = has_first_cell did.place cell
puts_by _ cell did = false

-- a step's entry is a put exactly if its access was one
pub same_puts : (w : World) (e : Event) (a : Actor) (did : Performed) (next : Actor × Option OpReply) (cell : Place) (pc : Pc)
    → puts_from pc cell (step_outcome w e a did next).entry ≡ puts_by pc cell did
same_puts w e a did next cell pc = grind arith

-- An access that is no put leaves the value

-- if the access is no put into the cell, the cell has this value or none afterwards
abbrev LeavesUnless : ℕ → Contents → Pc → Place → Performed → Type 0
LeavesUnless v at pc q did = puts_by pc q did ≡ false → LeavesOnly v at q did

-- if the row's access is no put into the cell, the cell has this value or none afterwards
abbrev RowLeaves : ℕ → ℕ → ℕ → Contents → Place → Actor → Pc → Type 0
RowLeaves v R n at q a pc = IfOk (need_at R pc a) (λ x. IfOk (perform R n at x) (LeavesUnless v at pc q))

unless : (v : ℕ) (at : Contents) (pc : Pc) (q : Place) (r : Result Performed Refusal) → IfOk r (LeavesOnly v at q) → IfOk r (LeavesUnless v at pc q)
unless v at pc q r h = grind arith

unless_row : (v R n : ℕ) (at : Contents) (q : Place) (pc : Pc) (r : Result Access Refusal) → IfOk r AccessKeeps → HoldsOnly v at q
    → IfOk r (λ x. IfOk (perform R n at x) (LeavesUnless v at pc q))
unless_row v R n at q pc r k h = grind (arith, unless, kept_access)

put_row_leaves : (v R n : ℕ) (at : Contents) (q : Place) (a : Actor) (pc : Pc) → IsPutter pc → HoldsOnly v at q → RowLeaves v R n at q a pc
put_row_leaves v R n at q a pc h k = grind arith

row_leaves : (v R n : ℕ) (at : Contents) (q : Place) (a : Actor) (pc : Pc) → HoldsOnly v at q → RowLeaves v R n at q a pc
row_leaves v R n at q a pc h = grind (arith, row_kind, unless_row, put_row_leaves)

-- P holds of what the access does, if neither the access nor asking for it is refused
abbrev pub AtNone : ℕ → ℕ → Contents → (Performed → Type 0) → Result Access Refusal → Type 0
AtNone R n at P r = IfOk r (λ x. IfOk (perform R n at x) P)

-- what holds of no access holds of the access of a call
pub call_at_none : (R n : ℕ) (at : Contents) (P : Performed → Type 0) → P no_access → (pc : Pc) → AtNone R n at P (need_for_call pc)
call_at_none R n at P h pc = grind arith

-- what holds of no access holds of the access of a choice
pub choice_at_none : (R n : ℕ) (at : Contents) (P : Performed → Type 0) → P no_access → (pc : Pc) → AtNone R n at P (need_for_choice pc)
choice_at_none R n at P h pc = grind arith

act_leaves : (v R n : ℕ) (at : Contents) (q : Place) (a : Actor) (act : Act) → HoldsOnly v at q → AtNone R n at (LeavesUnless v at a.pc q) (need R a act)
act_leaves v R n at q a act.Go h = row_leaves v R n at q a a.pc h
act_leaves v R n at q a (act.Starve b) h = choice_at_none R n at (LeavesUnless v at a.pc q) (λ e. h) a.pc
act_leaves v R n at q a x h = call_at_none R n at (LeavesUnless v at a.pc q) (λ e. h) a.pc

-- after a step that puts nothing into the cell, the cell has its value or none
pub value_stays : (w : World) (e : Event) (s : Stepped) (q : Place) (v : ℕ) → step w e ≡ Ok s → puts_into q s.entry ≡ false
    → HoldsOnly v w.at q → HoldsOnly v s.world.at q
value_stays w e s q v goes other h =
    let t = step_stages w e s goes in
    let by_access : IfOk (perform w.ring e.actor w.at t.access) (LeavesUnless v w.at t.a.pc q) =
    IfOk-at_ok (λ (x : Access). IfOk (perform w.ring e.actor w.at x) (LeavesUnless v w.at t.a.pc q)) t.needs (act_leaves v w.ring e.actor w.at q t.a e.act h) in
    grind (arith, same_puts)
