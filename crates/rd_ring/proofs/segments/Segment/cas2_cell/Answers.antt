use Rattle.rd_ring.proofs.Prelude.{◌≡◌, ◌<◌, ℕ, false, None, refl, sym, ◌∙◌, ap, arith, length, set, get_or, Some, slice_get-get_or, Cell}
use Rattle.rd_ring.proofs.SegmentLemmas.{cell_swapped}
use Rattle.rd_ring.proofs.segments.Segment.cas2_cell.Goals as goal

pub returns : goal.returns
returns g c =
    let cells = c.args.self.now.cells in
    let empty : Cell = record { safe = false; idx = 0; val = None } in
    let sized : length cells ≡ g.row.R = c.args.self.now.sized in
    let within : c.args.i < length cells = omega arith in
    cell_swapped c.args.self.now _ c.args.i (get_or cells c.from.result empty) c.cas2-won.new.self c.args.old c.args.new c.cas2-won.result within
    (slice_get-get_or cells c.args.i empty within ∙ ap (λ (k : ℕ). Some (get_or cells k empty)) (sym c.from.ensures))
    refl refl (ap (λ (k : ℕ). set cells k c.cas2-won.new.self) c.from-2.ensures) refl refl
    c.cas2-won.ensures.won c.cas2-won.ensures.swapped c.cas2-won.ensures.unchanged
