-- Where a value that a step took came from (the table of control points is Morrison and Afek's,
-- 2013, in our profile). Positions are counted from 1.
use Rattle.std.specs.Option.{option_map_or}
use Rattle.std.specs.Prelude.{ℕ, ◌-◌, ◌==◌, ◌&&◌, not, Bool, true, false, if◌then◌else◌, List, length, take, ok_or, option_and_then, Option, Some, None, Result, Ok, Err}
use Rattle.rd_step.specs.Prelude.{Place, name_eq, place_eq, is_nothing, Refusal, Act, OpReply, and_then}
use Rattle.rd_step.specs.Lists.{numbered}
use Rattle.rd_step.specs.declared.entries.Entry.{Entry}
use Rattle.rd_actor.specs.declared.actors.Act.TheVariants as act
use Rattle.rd_actor.specs.declared.actors.OpReply.TheVariants as op_reply
use Rattle.rd_actor.specs.declared.actors.Pc.{Pc}
use Rattle.rd_actor.specs.declared.actors.Pc.TheVariants.{E8, E12, A2}
use Rattle.rd_origin.specs.declared.origins.Origin.{Origin}
use Rattle.rd_origin.specs.Positions.{last_position}
use Rattle.rd_cell.specs.declared.places.Place.TheVariants as place
use Rattle.rd_cell.specs.declared.refusal.Refusal.TheVariants as refusal

-- whether a reply hands out a value; a step with such a reply is a take
abbrev pub hands_out_value : Option OpReply → Bool
hands_out_value (Some (op_reply.Value v)) = true
hands_out_value _ = false

-- whether an act begins a call
abbrev pub is_call : Act → Bool
is_call act.Go = false
is_call (act.Starve b) = false
is_call _ = true

-- whether there is a place, and it is this cell of a segment or slot of the array
abbrev pub is_at : Option Place → Place → Bool
is_at touched cell = option_map_or (λ p. place_eq p cell) touched false

-- whether there is a place, it is the whole of a segment, and this cell is the cell 0 of that
-- segment
abbrev pub has_first_cell : Option Place → Place → Bool
has_first_cell (Some (place.Whole s)) (place.Cell t i) = name_eq s t && (i == 0)
has_first_cell _ _ = false

-- whether a step from this control point put a value into the cell: by a CAS2 there that won (E8),
-- by a swap there (A2), or by making the segment whose cell 0 it is (E12). No step from another
-- control point puts a value
abbrev pub puts_from : Pc → Place → Entry → Bool
puts_from E8 cell x = not (is_nothing x.wrote) && is_at x.place cell
puts_from A2 cell x = is_at x.place cell
puts_from E12 cell x = has_first_cell x.place cell
puts_from _ cell x = false

-- whether the step put a value into this cell of a segment or slot of the array
abbrev pub puts_into : Place → Entry → Bool
puts_into cell x = puts_from x.old_actor.pc cell x

-- whether this actor begins a call in the step
abbrev pub begins_call : ℕ → Entry → Bool
begins_call actor x = (actor == x.event.actor) && is_call x.event.act

-- the position of the last put into this cell before position k; none if there is no such put, or
-- if no cell is given
abbrev pub last_put : List Entry → ℕ → Option Place → Option ℕ
last_put entries k taken = option_and_then (λ cell. last_position (puts_into cell) (take (k - 1) entries)) taken

-- the position of the call in which the put at this position was made: the last call before it that
-- the put's actor began; none if there is no such call, or no put
abbrev pub last_call : List Entry → Option ℕ → Option ℕ
last_call entries put =
    option_and_then (λ j. option_and_then (λ x. last_position (begins_call x.event.actor) (take (j - 1) entries)) (numbered entries j)) put

-- the origin of the value that the step at position k, counted from 1, took: the positions of its
-- call, its put and its take. `NoSuchStep`, with the number of steps, if there is no step at k;
-- `NotATake` if it took no value
abbrev pub origin_in : List Entry → ℕ → Result Origin Refusal
origin_in entries k =
    and_then (ok_or (numbered entries k) (refusal.NoSuchStep (length entries))) (λ x.
    let put = last_put entries k x.place in
    if hands_out_value x.reply then Ok (record { call = last_call entries put; put = put; take = k }) else Err refusal.NotATake)

-- the argument of an act that begins an enqueue, on either queue; none for any other act
abbrev pub argument : Act → Option ℕ
argument (act.Enq x) = Some x
argument (act.AEnq x) = Some x
argument _ = None
