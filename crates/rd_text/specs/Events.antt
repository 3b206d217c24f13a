-- The words that spell an event.
use Rattle.std.specs.Prelude.{ℕ, List}
use Rattle.rd_actor.specs.declared.actors.Act.TheVariants as act
use Rattle.rd_step.specs.Prelude.{Act}
use Rattle.rd_step.specs.declared.entries.Event.{Event}
use Rattle.rd_marks.specs.declared.commands.Command.{Command}
use Rattle.rd_marks.specs.declared.commands.Command.TheVariants.{Enq, Deq, ArrayEnq, ArrayDeq, Go, Starve}
use Rattle.rd_text.specs.Spelling.{spelling}

-- the command that makes this actor do this act
abbrev pub command_of_act : ℕ → Act → Command
command_of_act actor (act.Enq x) = Enq actor x
command_of_act actor act.Deq = Deq actor
command_of_act actor (act.AEnq x) = ArrayEnq actor x
command_of_act actor act.ADeq = ArrayDeq actor
command_of_act actor act.Go = Go actor
command_of_act actor (act.Starve choice) = Starve actor choice

-- the words of an event: the line that makes it happen, without a line feed
abbrev pub event_words : Event → List ℕ
event_words e = spelling (command_of_act e.actor e.act)
