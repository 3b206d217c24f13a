-- Which commands are events, and the reply to such a command. `Commands.antt` defines which answers
-- an event may have.
use Rattle.std.specs.Prelude.{Option, Some, None}
use Rattle.rd_actor.specs.declared.actors.Act.TheVariants as act
use Rattle.rd_step.specs.declared.entries.Event.{Event}
use Rattle.rd_marks.specs.declared.commands.Command.{Command}
use Rattle.rd_marks.specs.declared.commands.Command.TheVariants.{Enq, Deq, ArrayEnq, ArrayDeq, Go, Starve}
use Rattle.rd_marks.specs.declared.replies.EventReply.{EventReply}
use Rattle.rd_marks.specs.declared.replies.Reply.{Reply}
use Rattle.rd_marks.specs.declared.replies.Reply.TheVariants.{Applied}

-- the event that a command makes happen, or None if it is no event
abbrev pub as_event : Command → Option Event
as_event (Enq actor value) = Some (record { actor = actor; act = act.Enq value })
as_event (Deq actor) = Some (record { actor = actor; act = act.Deq })
as_event (ArrayEnq actor value) = Some (record { actor = actor; act = act.AEnq value })
as_event (ArrayDeq actor) = Some (record { actor = actor; act = act.ADeq })
as_event (Go actor) = Some (record { actor = actor; act = act.Go })
as_event (Starve actor choice) = Some (record { actor = actor; act = act.Starve choice })
as_event _ = None

-- the reply to a command that is an event, from the reply to that event
abbrev pub as_reply : EventReply → Reply
as_reply done = Applied done.step done.reply
