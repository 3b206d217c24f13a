use Rattle.rd_text.proofs.Prelude.{arith, decimal, IsAscii-decimal, IsUtf8-from_ascii}
use Rattle.rd_text.proofs.NumeralLemmas.{begins_as_number, read_as_spelled, none_spelled}
use Rattle.rd_text.proofs.reading.numbers.parse_u64.Goals as goal

pub returns-then-has_plus_or_leading_zero-clause-unspelled : goal.returns-then-has_plus_or_leading_zero-clause-unspelled
returns-then-has_plus_or_leading_zero-clause-unspelled c n small e = begins_as_number n small (rw e at c.has_plus_or_leading_zero.ensures.yes c.if-has_plus_or_leading_zero.true)

pub returns-in_default-from_utf8-clause-unspelled : goal.returns-in_default-from_utf8-clause-unspelled
returns-in_default-from_utf8-clause-unspelled c n small e = c.in_default-from_utf8.ensures.cases.0 (rw e (IsUtf8-from_ascii (decimal n) (IsAscii-decimal n small)))

pub returns-clause-spelled : goal.returns-clause-spelled
returns-clause-spelled c =
    let no = c.has_plus_or_leading_zero.ensures.no c.if-has_plus_or_leading_zero.false in
    read_as_spelled c.args.word.now c.in-Ok.digits.now c.parse.result c.ok.result c.in-Ok.ensures.cases.0 c.parse.ensures.value.0 c.ok.ensures.value no.0 no.1

pub returns-clause-unspelled : goal.returns-clause-unspelled
returns-clause-unspelled c = grind (arith, none_spelled)
