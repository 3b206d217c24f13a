-- Which words fit an actor's control point, one row for each control point. `Actor` in
-- src/actors.rt explains the words.
use Rattle.std.specs.Prelude.{Bool, true, false, not, ◌==◌, ◌&&◌, ◌||◌, nat_lt, nat_le, Option, Some, is_some, is_none}
use Rattle.rd_cell.specs.declared.limits.TheConstants.{SLOTS}
use Rattle.rd_cell.specs.Places.{root, name_eq}
use Rattle.rd_actor.specs.declared.actors.Actor.{Actor}
use Rattle.rd_actor.specs.declared.actors.Op.{Op}
use Rattle.rd_actor.specs.declared.actors.Op.TheVariants as op
use Rattle.rd_actor.specs.declared.actors.Pc.{Pc}
use Rattle.rd_actor.specs.declared.actors.Pc.TheVariants.{Idle, E1, E2, E3, E4, E5, E6, E7, E8, E9, E10, E11, E12, E13, E14, Q1, Q2, Q3, Q4, Q5, Q6, Q7, Q8, Q9, Q10, Q11, Q12, Q13, Q14, A1, A2, B1, B2, B3}

-- whether this is an enqueue that is not on the array; false if there is no call
abbrev pub is_enqueue : Option Op → Bool
is_enqueue (Some (op.Enq x)) = true
is_enqueue _ = false

-- whether this is a dequeue that is not on the array; false if there is no call
abbrev pub is_dequeue : Option Op → Bool
is_dequeue (Some op.Deq) = true
is_dequeue _ = false

-- whether this is an enqueue on the array; false if there is no call
abbrev pub is_array_enqueue : Option Op → Bool
is_array_enqueue (Some (op.AEnq x)) = true
is_array_enqueue _ = false

-- whether this is a dequeue on the array; false if there is no call
abbrev pub is_array_dequeue : Option Op → Bool
is_array_dequeue (Some op.ADeq) = true
is_array_dequeue _ = false

-- whether all words except the control point are those of the idle record
abbrev pub has_idle_words : Actor → Bool
has_idle_words a =
    is_none a.op && name_eq a.crq root && name_eq a.new root && name_eq a.next root && (a.t == 0) && (a.h == 0)
    && not a.closed && is_none a.val && not a.safe && (a.idx == 0) && (a.pass == 0)

-- whether the actor is in an enqueue that is not on the array, with pass 0
abbrev pub is_in_enqueue : Actor → Bool
is_in_enqueue a = is_enqueue a.op && (a.pass == 0)

-- whether the actor is in a dequeue that is not on the array, in pass 1 or 2 over its segment
abbrev pub is_in_pass : Actor → Bool
is_in_pass a = is_dequeue a.op && ((a.pass == 1) || (a.pass == 2))

-- whether an actor's words fit this control point
abbrev pub words_fit_at : Pc → Actor → Bool
words_fit_at Idle a = has_idle_words a
words_fit_at E1 a = is_in_enqueue a
words_fit_at E2 a = is_in_enqueue a
words_fit_at E3 a = is_in_enqueue a
words_fit_at E4 a = is_in_enqueue a
words_fit_at E5 a = is_in_enqueue a
words_fit_at E6 a = is_in_enqueue a
words_fit_at E7 a = is_in_enqueue a && is_none a.val && not a.safe && nat_le a.idx a.t
words_fit_at E8 a = is_in_enqueue a && is_none a.val && nat_le a.idx a.t
words_fit_at E9 a = is_in_enqueue a
words_fit_at E10 a = is_in_enqueue a
words_fit_at E11 a = is_in_enqueue a
words_fit_at E12 a = is_in_enqueue a
words_fit_at E13 a = is_in_enqueue a
words_fit_at E14 a = is_in_enqueue a
words_fit_at Q1 a = is_dequeue a.op && nat_le a.pass 2
words_fit_at Q2 a = is_in_pass a
words_fit_at Q3 a = is_in_pass a
words_fit_at Q4 a = is_in_pass a
words_fit_at Q5 a = is_in_pass a && is_some a.val && (a.idx == a.h)
words_fit_at Q6 a = is_in_pass a && is_some a.val && nat_lt a.idx a.h
words_fit_at Q7 a = is_in_pass a && is_none a.val && nat_le a.idx a.h
words_fit_at Q8 a = is_in_pass a
words_fit_at Q9 a = is_in_pass a
words_fit_at Q10 a = is_in_pass a
words_fit_at Q11 a = is_in_pass a
words_fit_at Q12 a = is_in_pass a && not a.closed && nat_lt a.t a.h
words_fit_at Q13 a = is_dequeue a.op && (a.pass == 1)
words_fit_at Q14 a = is_dequeue a.op && (a.pass == 2)
words_fit_at A1 a = is_array_enqueue a.op && (a.pass == 0)
words_fit_at A2 a = is_array_enqueue a.op && (a.pass == 0) && nat_lt a.t SLOTS
words_fit_at B1 a = is_array_dequeue a.op && (a.pass == 0)
words_fit_at B2 a = is_array_dequeue a.op && (a.pass == 0) && nat_lt a.h SLOTS
words_fit_at B3 a = is_array_dequeue a.op && (a.pass == 0) && nat_lt a.h SLOTS

-- whether an actor's words fit the control point where it is
abbrev pub words_fit : Actor → Bool
words_fit a = words_fit_at a.pc a
