-- What became of a view.
use Rattle.std.proofs.Common.{◌≡◌, Bool, true, false, [], refl, true≢false}
use Rattle.rd_marks.specs.BookState.{BookState}
use Rattle.rd_program.specs.Viewers.{IsTraceIfAsked}

-- a trace that was not asked for is empty
pub no_trace : (asked : Bool) (b : BookState) → asked ≡ false → IsTraceIfAsked asked b []
no_trace false b off = refl
no_trace true b off = absurd (true≢false off)
