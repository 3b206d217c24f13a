use Rattle.std.proofs.lemmas.List.{length-replicate}
use Rattle.std.proofs.lemmas.List.Elements.{All-replicate}
use Rattle.rd_segments.proofs.Prelude.{◌≡◌, refl, SLOTS, replicate}
use Rattle.rd_segments.proofs.ArrayLemmas.{array_fresh}
use Rattle.rd_segments.proofs.array.ArrayParts.fresh.Goals as goal
use Rattle.rd_cell.specs.declared.contents.ArrSlot.TheVariants as slot

pub returns : goal.returns
returns c = array_fresh (replicate SLOTS slot.Empty) (length-replicate SLOTS slot.Empty) (All-replicate (λ x. x ≡ slot.Empty) SLOTS slot.Empty refl)
