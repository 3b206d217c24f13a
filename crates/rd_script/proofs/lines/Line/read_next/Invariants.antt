use Rattle.rd_script.proofs.LineLemmas.{HasBegun}
use Rattle.rd_script.proofs.lines.Line.read_next.Given as goal

abbrev pub invariant-loop-length : goal.invariant-loop-length
invariant-loop-length g l =
    HasBegun (g.S.Source.bytes l.initial.reader) (g.S.Source.bytes l.reader) (g.S.Source.has_failed l.reader) l.self l.length
