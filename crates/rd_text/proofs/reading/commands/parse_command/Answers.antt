-- The line is its words with spaces between them. So it spells what its keyword and the words
-- after it read as (`says_words`). A line that spells a command in range is read as this command
-- (`said_as_spelled`).
use Rattle.rd_text.proofs.Prelude.{common_steps, take_rest, arith}
use Rattle.rd_text.proofs.PartLemmas.{first_and_others}
use Rattle.rd_text.proofs.SayLemmas.{too_many_words, says_words, said_as_spelled}
use Rattle.rd_text.proofs.reading.commands.parse_command.Goals as goal

pub returns-in_default-clause-says : goal.returns-in_default-clause-says
returns-in_default-clause-says c = too_many_words c.args.line.now c.if-line-gt-MOST_LINE_BYTES.false c.in_default.ensures.none

pub returns-in_default-clause-one : goal.returns-in_default-clause-one
returns-in_default-clause-one c = grind (arith, said_as_spelled, too_many_words)

pub returns-in_default-of-clause-says : goal.returns-in_default-of-clause-says
returns-in_default-of-clause-says c = grind arith

pub returns-in_default-of-clause-one : goal.returns-in_default-of-clause-one
returns-in_default-of-clause-one c = grind arith

pub returns-clause-says : goal.returns-clause-says
returns-clause-says c = grind (arith, common_steps, first_and_others, take_rest, says_words)

pub returns-clause-one : goal.returns-clause-one
returns-clause-one c = grind (arith, common_steps, first_and_others, take_rest, said_as_spelled, says_words)
