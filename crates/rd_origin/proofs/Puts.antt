-- After a put, the cell has the value of the enqueue that its actor is in, or none.
use Rattle.rd_origin.proofs.Prelude.{◌≡◌, ℕ, true, sym, ◌∙◌, ap, subst, Option, Some, Ok, arith, Place, Contents, Performed, need, World, Stepped, step, IsWellFormed, Pc, value_to_put, Event, step_stages, puts_into, is_there, Actor, Act, after, words_fit_at, record_fits, actor_fits}
use Rattle.rd_step.proofs.Fits.{record_fits-words}
use Rattle.rd_origin.proofs.Ops.{puts_values}
use Rattle.rd_origin.proofs.Values.{HoldsOnly, LeavesOnly}
use Rattle.rd_origin.proofs.Steps.{IsPutter, puts_by, same_puts, AtNone}

-- if the access is a put into the cell, the value in the cell afterwards, if it has one, is v
abbrev PutsOnly : ℕ → Contents → Pc → Place → Performed → Type 0
PutsOnly v at pc q did = puts_by pc q did ≡ true → LeavesOnly v at q did

putter : (pc : Pc) (q : Place) (did : Performed) → puts_by pc q did ≡ true → IsPutter pc
putter pc q did h = grind arith

act_puts : (R n : ℕ) (at : Contents) (q : Place) (a : Actor) (act : Act) → IsPutter a.pc → AtNone R n at (PutsOnly (value_to_put a.op) at a.pc q) (need R a act)
act_puts R n at q a act k = grind arith

-- an actor that may put a value is in an enqueue
putter_op : (pc : Pc) (a : Actor) → IsPutter pc → words_fit_at pc a ≡ true → puts_values a.op ≡ true
putter_op pc a h k = grind arith

-- a put into the cell: its actor is in an enqueue, and afterwards the cell has the enqueue's value,
-- or none
pub record Put (w : World) (e : Event) (s : Stepped) (q : Place) : Type 0 where
  pub a : Actor
  pub has : w.actor e.actor ≡ Some a
  pub puts : puts_values a.op ≡ true
  pub holds : HoldsOnly (value_to_put a.op) s.world.at q

-- every step that puts a value into a cell is such a put
pub put : (w : World) (e : Event) (s : Stepped) (q : Place) → IsWellFormed w → step w e ≡ Ok s → puts_into q s.entry ≡ true → Put w e s q
put w e s q formed goes h =
    let t = step_stages w e s goes in
    let puts : puts_by t.a.pc q t.did ≡ true =
    sym (same_puts w e t.a t.did (after w.ring t.a e.act t.did.answer) q t.a.pc) ∙ ap (λ (x : Stepped). puts_into q x.entry) t.ends ∙ h in
    let stands = putter t.a.pc q t.did puts in
    let fits : record_fits w.ring (is_there w.at) t.a ≡ true = subst (λ (o : Option Actor). actor_fits w.ring (is_there w.at) o ≡ true) t.has (formed.actors e.actor) in
    let words = record_fits-words w.ring (is_there w.at) t.a fits in
    let by_access = act_puts w.ring e.actor w.at q t.a e.act stands in
    grind (arith, putter_op)
