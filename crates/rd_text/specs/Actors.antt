-- The words of an actor in a reply. Each word of its record stands after a space and its name; a
-- bit is 0 or 1.
use Rattle.std.specs.Prelude.{ℕ, List, ◌++◌, codes, Option, Some, None}
use Rattle.rd_step.specs.Prelude.{Actor}
use Rattle.rd_actor.specs.declared.actors.Op.{Op}
use Rattle.rd_actor.specs.declared.actors.Op.TheVariants as op
use Rattle.rd_actor.specs.Labels.{label}
use Rattle.rd_text.specs.Texts.{spaced_number, bit_number}
use Rattle.rd_text.specs.Contents.{segment_name_words, value_words}

-- the words of the call that an actor is in, or `none` if it is in none
abbrev pub op_words : Option Op → List ℕ
op_words None = codes "none"
op_words (Some (op.Enq x)) = codes "enq" ++ spaced_number x
op_words (Some op.Deq) = codes "deq"
op_words (Some (op.AEnq x)) = codes "aenq" ++ spaced_number x
op_words (Some op.ADeq) = codes "adeq"

-- `actor`, and the words of an actor's control point and its call
abbrev pub point_and_call_words : Actor → List ℕ
point_and_call_words a = codes "actor " ++ label a.pc ++ codes " " ++ op_words a.op

-- the words of the segments in an actor's record: crq, new and next
abbrev pub crq_new_and_next_words : Actor → List ℕ
crq_new_and_next_words a = codes " crq " ++ segment_name_words a.crq ++ codes " new " ++ segment_name_words a.new ++ codes " next " ++ segment_name_words a.next

-- the words of the counters in an actor's record, t and h, and of its closed bit
abbrev pub counter_words : Actor → List ℕ
counter_words a = codes " t" ++ spaced_number a.t ++ codes " h" ++ spaced_number a.h ++ codes " closed" ++ spaced_number (bit_number a.closed)

-- the words of an actor's val, safe, idx and pass
abbrev pub cell_read_and_pass_words : Actor → List ℕ
cell_read_and_pass_words a =
    codes " val " ++ value_words a.val ++ codes " safe" ++ spaced_number (bit_number a.safe) ++ codes " idx" ++ spaced_number a.idx
    ++ codes " pass" ++ spaced_number a.pass

-- all words of the reply that shows an actor
abbrev pub actor_words : Actor → List ℕ
actor_words a = point_and_call_words a ++ crq_new_and_next_words a ++ counter_words a ++ cell_read_and_pass_words a
