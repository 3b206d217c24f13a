-- The table of control points, one row for each control point: the access for which an actor asks
-- there, and how it goes on. The words of an actor `a` are explained at `Actor` in src/actors.rt:
-- `a.crq` is the segment on which it works, `a.t` a tail counter that it read, and `a.h` a head
-- counter.
use Rattle.std.specs.Prelude.{ℕ, ◌+◌, ◌%◌, ◌^◌, ◌<◌, Bool, true, false, ◌==◌, ◌&&◌, ◌||◌, nat_lt, nat_le, if◌then◌else◌, Option, Some, None, is_some, is_none, Result, Ok, Err}
use Rattle.std.specs.Bool.{beq}
use Rattle.rd_cell.specs.declared.places.Place.TheVariants as place
use Rattle.rd_cell.specs.declared.contents.ArrSlot.TheVariants as slot
use Rattle.rd_cell.specs.declared.contents.Content.TheVariants as content
use Rattle.rd_cell.specs.declared.access.Access.{Access}
use Rattle.rd_cell.specs.declared.access.Access.TheVariants.{NoPlace, At, Make}
use Rattle.rd_cell.specs.declared.operations.Operation.TheVariants.{Read, ReadValue, ReadSafeAndIndex, Add, AddArray, Close, CasName, CasNext, CasTail, Cas2, Swap}
use Rattle.rd_cell.specs.declared.operations.Answer.{Answer}
use Rattle.rd_cell.specs.declared.operations.Answer.TheVariants as answer
use Rattle.rd_cell.specs.declared.refusal.Refusal.{Refusal}
use Rattle.rd_cell.specs.declared.refusal.Refusal.TheVariants as refusal
use Rattle.rd_cell.specs.Cells.{cell_with}
use Rattle.rd_actor.specs.declared.actors.Act.{Act}
use Rattle.rd_actor.specs.declared.actors.Act.TheVariants as act
use Rattle.rd_actor.specs.declared.actors.Actor.{Actor}
use Rattle.rd_actor.specs.declared.actors.Op.{Op}
use Rattle.rd_actor.specs.declared.actors.Op.TheVariants as op
use Rattle.rd_actor.specs.declared.actors.OpReply.{OpReply}
use Rattle.rd_actor.specs.declared.actors.OpReply.TheVariants as op_reply
use Rattle.rd_actor.specs.declared.actors.Pc.{Pc}
use Rattle.rd_actor.specs.declared.actors.Pc.TheVariants.{Idle, E1, E2, E3, E4, E5, E6, E7, E8, E9, E10, E11, E12, E13, E14, Q1, Q2, Q3, Q4, Q5, Q6, Q7, Q8, Q9, Q10, Q11, Q12, Q13, Q14, A1, A2, B1, B2, B3}
use Rattle.rd_actor.specs.Actors.{idle, calling}

-- the value that an enqueue puts, on either queue; 0 in a dequeue or without a call. Where a row
-- asks for it, an actor whose words fit is in an enqueue (`words_fit_at`)
abbrev pub value_to_put : Option Op → ℕ
value_to_put (Some (op.Enq x)) = x
value_to_put (Some (op.AEnq x)) = x
value_to_put (Some op.Deq) = 0
value_to_put (Some op.ADeq) = 0
value_to_put None = 0

-- the access for which an actor at this control point asks, over rings of R cells, or the refusal
-- if it has none
abbrev pub need_at : ℕ → Pc → Actor → Result Access Refusal
need_at R E1 a = Ok (At place.QTail Read)
need_at R E2 a = Ok (At (place.Next a.crq) Read)
need_at R E3 a = Ok (At place.QTail (CasName a.crq a.next))
need_at R E4 a = Ok (At (place.Tail a.crq) Add)
need_at R E5 a = Ok (At (place.Val a.crq (a.t % R)) ReadValue)
need_at R E6 a = Ok (At (place.Idx a.crq (a.t % R)) ReadSafeAndIndex)
need_at R E7 a = Ok (At (place.Head a.crq) Read)
need_at R E8 a = Ok (At (place.Cell a.crq (a.t % R)) (Cas2 (cell_with a.safe a.idx None) (cell_with true a.t (Some (value_to_put a.op)))))
need_at R E9 a = Ok (At (place.Head a.crq) Read)
need_at R E10 a = Err refusal.NeedsChoice
need_at R E11 a = Ok (At (place.Tail a.crq) Close)
need_at R E12 a = Ok (Make (value_to_put a.op))
need_at R E13 a = Ok (At (place.Next a.crq) (CasNext a.new))
need_at R E14 a = Ok (At place.QTail (CasName a.crq a.new))
need_at R Q1 a = Ok (At place.QHead Read)
need_at R Q2 a = Ok (At (place.Head a.crq) Add)
need_at R Q3 a = Ok (At (place.Val a.crq (a.h % R)) ReadValue)
need_at R Q4 a = Ok (At (place.Idx a.crq (a.h % R)) ReadSafeAndIndex)
need_at R Q5 a = Ok (At (place.Cell a.crq (a.h % R)) (Cas2 (cell_with a.safe a.idx a.val) (cell_with a.safe (a.h + R) None)))
need_at R Q6 a = Ok (At (place.Cell a.crq (a.h % R)) (Cas2 (cell_with a.safe a.idx a.val) (cell_with false a.idx a.val)))
need_at R Q7 a = Ok (At (place.Cell a.crq (a.h % R)) (Cas2 (cell_with a.safe a.idx None) (cell_with a.safe (a.h + R) None)))
need_at R Q8 a = Ok (At (place.Tail a.crq) Read)
need_at R Q9 a = Ok (At (place.Tail a.crq) Read)
need_at R Q10 a = Ok (At (place.Head a.crq) Read)
need_at R Q11 a = Ok (At (place.Tail a.crq) Read)
need_at R Q12 a = Ok (At (place.Tail a.crq) (CasTail a.t a.h))
need_at R Q13 a = Ok (At (place.Next a.crq) Read)
need_at R Q14 a = Ok (At place.QHead (CasName a.crq a.next))
need_at R A1 a = Ok (At place.ArrTail AddArray)
need_at R A2 a = Ok (At (place.ArrCell a.t) (Swap (slot.Value (value_to_put a.op))))
need_at R B1 a = Ok (At place.ArrHead AddArray)
need_at R B2 a = Ok (At (place.ArrCell a.h) (Swap slot.Top))
need_at R B3 a = Ok (At place.ArrTail Read)
need_at R Idle a = Err refusal.Idle

-- the access of a call at this control point: none at Idle; elsewhere the call is refused with
-- `NotIdle`
abbrev pub need_for_call : Pc → Result Access Refusal
need_for_call Idle = Ok NoPlace
need_for_call _ = Err refusal.NotIdle

-- the access of a choice at this control point: none at E10; elsewhere the choice is refused, with
-- `Idle` at Idle, else with `NoChoice`
abbrev pub need_for_choice : Pc → Result Access Refusal
need_for_choice Idle = Err refusal.Idle
need_for_choice E10 = Ok NoPlace
need_for_choice _ = Err refusal.NoChoice

-- the one access for which an actor asks by this act, over rings of R cells, or why it is refused
abbrev pub need : ℕ → Actor → Act → Result Access Refusal
need R a act.Go = need_at R a.pc a
need R a (act.Starve b) = need_for_choice a.pc
need R a _ = need_for_call a.pc

-- the numbers in this row's access fit the words of the program: the index of a cell's next round
-- is below 2^64 (Q5, Q7), and the number of an array slot is a byte (A2, B2). In all other rows
-- they fit anyway, for rings of at most 64 cells
abbrev pub IsRepresentableAt : ℕ → Pc → Actor → Type 0
IsRepresentableAt R Q5 a = a.h + R < 2 ^ 64
IsRepresentableAt R Q7 a = a.h + R < 2 ^ 64
IsRepresentableAt R A2 a = a.t < 2 ^ 8
IsRepresentableAt R B2 a = a.h < 2 ^ 8
IsRepresentableAt R _ a = Unit {0}

-- the numbers in the access for which an actor asks by this act fit the words of the program; calls
-- and choices have no access, and so no number
abbrev pub IsRepresentable : ℕ → Actor → Act → Type 0
IsRepresentable R a act.Go = IsRepresentableAt R a.pc a
IsRepresentable R a _ = Unit {0}

-- the control point after a pass that found its segment empty: after pass 1 Q13, which reads the
-- next segment, otherwise (after pass 2) Q14, which moves the queue's head
abbrev pub pc_after_empty_pass : Actor → Pc
pc_after_empty_pass a = if a.pass == 1 then Q13 else Q14

-- the record of an enqueue that read a cell's safe bit and index. It tries the cell if the cell is
-- empty and its index is at most the position: at once if the cell is safe (E8), else after a look
-- at the head (E7). It passes by any other cell, and looks whether the ring is full (E9)
abbrev pub after_enqueue_reads_index : Actor → Bool → ℕ → Actor
after_enqueue_reads_index a safe idx =
    record a { safe = safe; idx = idx; pc = if is_none a.val && nat_le idx a.t then (if safe then E8 else E7) else E9 }

-- the record of a dequeue that read a cell's safe bit and index. It goes on to take the value of
-- its position (Q5), to mark the cell unsafe if the value is older (Q6), or to move an empty cell
-- on to the next round (Q7). It passes by a cell whose index is past its position (Q8)
abbrev pub after_dequeue_reads_index : Actor → Bool → ℕ → Actor
after_dequeue_reads_index a safe idx =
    record a { safe = safe; idx = idx; pc = if nat_lt a.h idx then Q8 else (if is_some a.val then (if idx == a.h then Q5 else Q6) else Q7) }

-- the record of a repair that read the tail again: it starts over if the tail changed (Q9), ends if
-- the tail is closed or at least the head, and else tries to raise it (Q12)
abbrev pub after_repair_check : Actor → Bool → ℕ → Actor
after_repair_check a closed count =
    record a { pc = if beq closed a.closed && (count == a.t) then (if a.closed || nat_le a.h a.t then pc_after_empty_pass a else Q12) else Q9 }

-- the record and reply of a dequeue that took this value: its call is over, and it replies the
-- value. Without a value the record stays, and there is no reply
abbrev pub after_take : Option ℕ → Actor → Actor × Option OpReply
after_take (Some v) a = (idle, Some (op_reply.Value v))
after_take None a = (a, None)

-- the next record of an actor that goes on from this control point with an answer, and its reply if
-- its call is over. The last row, which changes nothing, is for Idle and E10, which have no access,
-- and for answers that a row's access never gives. No step of a well-formed world comes to it,
-- since each leads to another control point (`laws::steps_move_their_actors` of rd_step)
abbrev pub after_at : ℕ → Pc → Actor → Answer → Actor × Option OpReply
after_at R E1 a (answer.Found (content.Name s)) = (record a { crq = s; pc = E2 }, None)
after_at R E2 a (answer.Found (content.Next (Some m))) = (record a { next = m; pc = E3 }, None)
after_at R E2 a (answer.Found (content.Next None)) = (record a { pc = E4 }, None)
after_at R E3 a _ = (record a { pc = E1 }, None)
-- E4: on to the cell of the position drawn, or to a segment of its own if the ring is closed
after_at R E4 a (answer.Found (content.Tail closed count)) = (record a { t = count; pc = if closed then E12 else E5 }, None)
after_at R E5 a (answer.Value v) = (record a { val = v; pc = E6 }, None)
after_at R E6 a (answer.SafeAndIndex safe idx) = (after_enqueue_reads_index a safe idx, None)
-- E7: tries the unsafe cell if the head is at most its position
after_at R E7 a (answer.Found (content.Number g)) = (record a { pc = if nat_le g a.t then E8 else E9 }, None)
after_at R E8 a answer.Won = (idle, Some op_reply.Enqueued)
after_at R E8 a answer.Lost = (record a { pc = E9 }, None)
-- E9: on to close the ring if it is full, else to choose whether it starves
after_at R E9 a (answer.Found (content.Number g)) = (record a { h = g; pc = if nat_le (g + R) a.t then E11 else E10 }, None)
after_at R E11 a _ = (record a { pc = E12 }, None)
after_at R E12 a (answer.Made s) = (record a { new = s; pc = E13 }, None)
after_at R E13 a answer.Won = (record a { pc = E14 }, None)
after_at R E13 a answer.Lost = (record a { pc = E1 }, None)
after_at R E14 a _ = (idle, Some op_reply.Enqueued)
after_at R Q1 a (answer.Found (content.Name s)) = (record a { crq = s; pass = 1; pc = Q2 }, None)
after_at R Q2 a (answer.Found (content.Number g)) = (record a { h = g; pc = Q3 }, None)
after_at R Q3 a (answer.Value v) = (record a { val = v; pc = Q4 }, None)
after_at R Q4 a (answer.SafeAndIndex safe idx) = (after_dequeue_reads_index a safe idx, None)
after_at R Q5 a answer.Won = after_take a.val a
after_at R Q5 a answer.Lost = (record a { pc = Q3 }, None)
after_at R Q6 a answer.Won = (record a { pc = Q8 }, None)
after_at R Q6 a answer.Lost = (record a { pc = Q3 }, None)
after_at R Q7 a answer.Won = (record a { pc = Q8 }, None)
after_at R Q7 a answer.Lost = (record a { pc = Q3 }, None)
-- Q8: on to repair the tail if the tail counter is at most one past its position, else draws the
-- next one
after_at R Q8 a (answer.Found (content.Tail closed count)) = (record a { t = count; pc = if nat_le count (a.h + 1) then Q9 else Q2 }, None)
after_at R Q9 a (answer.Found (content.Tail closed count)) = (record a { closed = closed; t = count; pc = Q10 }, None)
after_at R Q10 a (answer.Found (content.Number g)) = (record a { h = g; pc = Q11 }, None)
after_at R Q11 a (answer.Found (content.Tail closed count)) = (after_repair_check a closed count, None)
after_at R Q12 a answer.Won = (record a { pc = pc_after_empty_pass a }, None)
after_at R Q12 a answer.Lost = (record a { pc = Q9 }, None)
after_at R Q13 a (answer.Found (content.Next None)) = (idle, Some op_reply.Empty)
after_at R Q13 a (answer.Found (content.Next (Some m))) = (record a { next = m; pass = 2; pc = Q2 }, None)
after_at R Q14 a _ = (record a { pc = Q1 }, None)
after_at R A1 a (answer.Found (content.Number u)) = (record a { t = u; pc = A2 }, None)
-- A2: over if the slot was empty, else draws the next position
after_at R A2 a (answer.Found (content.Slot slot.Empty)) = (idle, Some op_reply.Enqueued)
after_at R A2 a (answer.Found (content.Slot _)) = (record a { pc = A1 }, None)
after_at R B1 a (answer.Found (content.Number g)) = (record a { h = g; pc = B2 }, None)
-- B2: replies the value that was in the slot; without one, looks at the tail
after_at R B2 a (answer.Found (content.Slot (slot.Value v))) = (idle, Some (op_reply.Value v))
after_at R B2 a (answer.Found (content.Slot _)) = (record a { pc = B3 }, None)
-- B3: over if the tail counter is at most one past its position, else draws the next one
after_at R B3 a (answer.Found (content.Number u)) = if nat_le u (a.h + 1) then (idle, Some op_reply.Empty) else (record a { pc = B1 }, None)
after_at R _ a _ = (a, None)

-- the actor's next record after this act and answer, over rings of R cells, and its reply if its
-- call is over
abbrev pub after : ℕ → Actor → Act → Answer → Actor × Option OpReply
after R a (act.Enq x) _ = (calling E1 (op.Enq x), None)
after R a act.Deq _ = (calling Q1 op.Deq, None)
after R a (act.AEnq x) _ = (calling A1 (op.AEnq x), None)
after R a act.ADeq _ = (calling B1 op.ADeq, None)
after R a act.Go said = after_at R a.pc a said
after R a (act.Starve b) _ = (record a { pc = if b then E11 else E4 }, None)
