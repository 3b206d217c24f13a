-- The text of each answer: one line, ended by a line feed.
use Rattle.std.specs.Option.{option_map_or}
use Rattle.std.specs.Prelude.{ℕ, List, [], ◌∷◌, ◌++◌, codes, Option, Some, None, Result, Ok, Err}
use Rattle.rd_step.specs.Prelude.{OpReply}
use Rattle.rd_origin.specs.declared.origins.Origin.{Origin}
use Rattle.rd_marks.specs.Names.{bytes_of}
use Rattle.rd_marks.specs.declared.replies.Reply.{Reply}
use Rattle.rd_marks.specs.declared.replies.Reply.TheVariants as reply
use Rattle.rd_text.specs.declared.answers.AnyRefusal.{AnyRefusal}
use Rattle.rd_text.specs.Texts.{number_or_hyphen, spaced_number, yes_or_no}
use Rattle.rd_text.specs.Contents.{content_words}
use Rattle.rd_text.specs.Actors.{actor_words}
use Rattle.rd_text.specs.Steps.{result_words, step_words}
use Rattle.rd_text.specs.Refusals.{any_refusal_words}

-- a space and the words of the result of the call that an event ended, or nothing if it ended none
abbrev pub ended_call_words : Option OpReply → List ℕ
ended_call_words o = option_map_or (λ r. codes " " ++ result_words r) o []

-- the words of an origin: the numbers of the call's first step, the put and the take
abbrev pub origin_words : Origin → List ℕ
origin_words origin =
    codes "origin call " ++ number_or_hyphen origin.call ++ codes " put " ++ number_or_hyphen origin.put ++ codes " take" ++ spaced_number origin.take

-- this word, a space, and the number, or `none` if there is no number
abbrev pub number_or_none : List ℕ → Option ℕ → List ℕ
number_or_none word None = word ++ codes " none"
number_or_none word (Some n) = word ++ spaced_number n

-- the words of a reply
abbrev pub reply_words : Reply → List ℕ
reply_words (reply.Applied step ended) = codes "ok" ++ spaced_number step ++ ended_call_words ended
reply_words (reply.At live undone) = codes "at" ++ spaced_number live ++ spaced_number undone
reply_words (reply.Marked len) = codes "marked" ++ spaced_number len
reply_words reply.Dropped = codes "dropped"
reply_words (reply.Marks count) = codes "marks" ++ spaced_number count
reply_words (reply.Mark name len) = codes "mark " ++ bytes_of name ++ spaced_number len
reply_words (reply.Same same) = codes "same " ++ yes_or_no same
reply_words (reply.Origin origin) = origin_words origin
reply_words (reply.Writer step) = number_or_none (codes "writer") step
reply_words (reply.Content content) = codes "is " ++ content_words content
reply_words (reply.Actor actor) = actor_words actor
reply_words (reply.Step number entry) = step_words number entry

-- the answer to a line: a reply, or a refusal
abbrev pub LineAnswer : Type 0
LineAnswer = Result Reply AnyRefusal

-- the words of an answer to a line
abbrev pub answer_words : LineAnswer → List ℕ
answer_words (Ok r) = reply_words r
answer_words (Err refusal) = codes "refused " ++ any_refusal_words refusal

-- the line of an answer, with its line feed
abbrev pub answer_text : LineAnswer → List ℕ
answer_text answer = answer_words answer ++ 10 ∷ []
