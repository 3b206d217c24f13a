-- The words that the arm of a kind reads are the arguments of this kind's places: if it reads
-- none, no place of this kind has these arguments.
use Rattle.rd_text.proofs.Prelude.{arith, common_steps}
use Rattle.rd_text.proofs.reading.places.PlaceKind.place.Goals as goal

pub returns-in_err-segment-in-Cell : goal.returns-in_err-segment-in-Cell
returns-in_err-segment-in-Cell c = grind (arith, common_steps)

pub returns-in_err-segment-in-Value : goal.returns-in_err-segment-in-Value
returns-in_err-segment-in-Value c = grind (arith, common_steps)

pub returns-in_err-segment-in-Index : goal.returns-in_err-segment-in-Index
returns-in_err-segment-in-Index c = grind (arith, common_steps)

pub returns-in-QHead : goal.returns-in-QHead
returns-in-QHead c = grind (arith, common_steps)

pub returns-in-QTail : goal.returns-in-QTail
returns-in-QTail c = grind (arith, common_steps)

pub returns-in-Head : goal.returns-in-Head
returns-in-Head c = grind (arith, common_steps)

pub returns-in-Tail : goal.returns-in-Tail
returns-in-Tail c = grind (arith, common_steps)

pub returns-in-Next : goal.returns-in-Next
returns-in-Next c = grind (arith, common_steps)

pub returns-in_ok-segment-in-Cell : goal.returns-in_ok-segment-in-Cell
returns-in_ok-segment-in-Cell c = grind (arith, common_steps)

pub returns-in_ok-segment-in-Value : goal.returns-in_ok-segment-in-Value
returns-in_ok-segment-in-Value c = grind (arith, common_steps)

pub returns-in_ok-segment-in-Index : goal.returns-in_ok-segment-in-Index
returns-in_ok-segment-in-Index c = grind (arith, common_steps)

pub returns-in-Whole : goal.returns-in-Whole
returns-in-Whole c = grind (arith, common_steps)

pub returns-in-ArrHead : goal.returns-in-ArrHead
returns-in-ArrHead c = grind (arith, common_steps)

pub returns-in-ArrTail : goal.returns-in-ArrTail
returns-in-ArrTail c = grind (arith, common_steps)

pub returns-in-ArrCell : goal.returns-in-ArrCell
returns-in-ArrCell c = grind (arith, common_steps)
