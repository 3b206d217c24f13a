-- The words of a step: its event; the place, kind and answer of its access; and the result of the
-- call that it ended.
use Rattle.std.specs.Option.{option_map_or}
use Rattle.std.specs.Prelude.{ℕ, List, ◌++◌, codes, Option, Some, None}
use Rattle.rd_cell.specs.declared.operations.Answer.TheVariants as answer
use Rattle.rd_actor.specs.declared.actors.OpReply.TheVariants as op_reply
use Rattle.rd_step.specs.Prelude.{Answer, OpReply, Place, Wrote}
use Rattle.rd_step.specs.declared.entries.Entry.{Entry}
use Rattle.rd_text.specs.Texts.{spaced_number}
use Rattle.rd_text.specs.Events.{event_words}
use Rattle.rd_text.specs.Contents.{segment_name_words, value_words, tail_word, index_words, content_words}
use Rattle.rd_text.specs.Spelling.{place_words}
use Rattle.rd_cell.specs.declared.places.Wrote.TheVariants as wrote

-- the words of a step's place, or a hyphen if it has none
abbrev pub step_place_words : Option Place → List ℕ
step_place_words o = option_map_or place_words o (codes "-")

-- the words for what a step did at its place: it read, wrote, or wrote only the index half; `none`
-- if it has no place
abbrev pub access_kind_words : Option Place → Wrote → List ℕ
access_kind_words None _ = codes "none"
access_kind_words (Some place) wrote.Nothing = codes "read"
access_kind_words (Some place) wrote.Place = codes "wrote"
access_kind_words (Some place) wrote.Index = codes "wrote index"

-- the words of the answer of an access, or a hyphen if that is nothing
abbrev pub access_answer_words : Answer → List ℕ
access_answer_words answer.Nothing = codes "-"
access_answer_words (answer.Found content) = content_words content
access_answer_words (answer.Value value) = value_words value
access_answer_words (answer.SafeAndIndex safe idx) = index_words safe idx
access_answer_words (answer.WasClosed closed) = codes "was " ++ tail_word closed
access_answer_words answer.Won = codes "won"
access_answer_words answer.Lost = codes "lost"
access_answer_words (answer.Made s) = codes "made " ++ segment_name_words s

-- the words of the result of a call
abbrev pub result_words : OpReply → List ℕ
result_words op_reply.Enqueued = codes "enqueued"
result_words (op_reply.Value x) = codes "value" ++ spaced_number x
result_words op_reply.Empty = codes "empty"

-- the words of the result of the call that a step ended, or a hyphen if it ended none
abbrev pub step_result_words : Option OpReply → List ℕ
step_result_words o = option_map_or result_words o (codes "-")

-- the words of a step's place, and of the kind and answer of its access, with semicolons between
abbrev pub access_words : Entry → List ℕ
access_words e = step_place_words e.place ++ codes "; " ++ access_kind_words e.place e.wrote ++ codes "; " ++ access_answer_words e.answer

-- all words of the step of this number, from its entry
abbrev pub step_words : ℕ → Entry → List ℕ
step_words number e = codes "step" ++ spaced_number number ++ codes "; " ++ event_words e.event ++ codes "; " ++ access_words e ++ codes "; " ++ step_result_words e.reply
