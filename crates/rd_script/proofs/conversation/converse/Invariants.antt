use Rattle.rd_script.proofs.Prelude.{devices}
use Rattle.rd_script.proofs.ConversationLemmas.{IsGoingOn}
use Rattle.rd_script.proofs.conversation.converse.Given as goal

-- as many lines as were counted were read and answered, and a line can be answered
abbrev pub invariant-loop-done : goal.invariant-loop-done
invariant-loop-done g l = record {
  going_on : IsGoingOn g.A.Answerer.text_of g.A.Answerer.answers l.initial.answerer l.answerer
      (devices g.S.Source g.K.Sink l.initial.reader l.reader l.initial.writer l.writer) l.done;
  ready : g.A.Answerer.can_answer l.answerer;
}
