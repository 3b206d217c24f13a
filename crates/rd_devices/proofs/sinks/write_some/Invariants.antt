use Rattle.std.specs.Io.KnownBytes.{Keeps}
use Rattle.rd_devices.proofs.sinks.write_some.Given as goal

-- nothing was taken yet
abbrev pub invariant-loop : goal.invariant-loop
invariant-loop g l = record {
  kept : Keeps (g.W.Write.contents l.initial.writer) (g.W.Write.contents l.writer);
}
