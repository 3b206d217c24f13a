use Rattle.std.proofs.Common.{◌≡◌, ◌-◌, ◌≤◌, false, length, take}
use Rattle.std.specs.Io.KnownBytes.{Appends}
use Rattle.rd_devices.proofs.sinks.write_all.Given as goal

-- this many bytes were taken
abbrev pub invariant-loop-done : goal.invariant-loop-done
invariant-loop-done g l = record {
  works : g.K.Sink.has_failed l.writer ≡ false;
  took : Appends (g.K.Sink.contents l.initial.writer) (g.K.Sink.contents l.writer) (take l.done l.text);
  within : l.done ≤ length l.text;
}

abbrev pub decreases-loop-done : goal.decreases-loop-done
decreases-loop-done g l = length l.text - l.done
