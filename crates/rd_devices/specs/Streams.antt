-- What a call does to the streams that it reads and writes, from what these are before and after.
use Rattle.std.specs.Prelude.{◌≡◌, ℕ, Bool, false, List, Option}
use Rattle.std.specs.Io.KnownBytes.{Keeps, prepend_known}
use Rattle.rd_devices.specs.declared.sources.ReadSource.{ReadSource}
use Rattle.rd_devices.specs.declared.sinks.WriteSink.{WriteSink}
use Rattle.rd_devices.specs.declared.sources.Source.{Ghosts as SourceOf}
use Rattle.rd_devices.specs.declared.sinks.Sink.{Ghosts as SinkOf}
use Rattle.rd_devices.specs.Portions.{pending_bytes}

-- the contract-only members of a `ReadSource`, over readers that have these bytes left
abbrev pub reader_source : {R : Type 0} → (R → Option (List ℕ)) → SourceOf (ReadSource R)
reader_source remaining = record { bytes = λ s. prepend_known (pending_bytes s.portion) (remaining s.inner); has_failed = λ s. s.failed }

-- the contract-only members of a `WriteSink`, over writers that have taken these bytes
abbrev pub writer_sink : {W : Type 0} → (W → Option (List ℕ)) → SinkOf (WriteSink W)
writer_sink contents = record { contents = λ s. contents s.inner; has_failed = λ s. s.failed }

-- how a call changed a source or a sink: the bytes that a source has left, or that a sink has
-- taken, before the call and after it (None where they aren't known), and whether it has failed by
-- then
pub record Stream : Type 0 where
  pub before : Option (List ℕ)
  pub after : Option (List ℕ)
  pub failed : Bool

-- the stream of a sink, which was `old` before a call and is `new` after it; `sink` gives the
-- contract-only members of its type
abbrev pub sink_stream : {K : Type 0} → SinkOf K → K → K → Stream
sink_stream sink old new = record { before = sink.contents old; after = sink.contents new; failed = sink.has_failed new }

-- how a call changed its reader (`input`) and its writer (`output`)
pub record Devices : Type 0 where
  pub input : Stream
  pub output : Stream

-- the devices of a call, from its reader and writer before it, and after it (`reader'`, `writer'`);
-- `source` and `sink` give the contract-only members of their types
abbrev pub devices : {S K : Type 0} → SourceOf S → SinkOf K → S → S → K → K → Devices
devices source sink reader reader' writer writer' = record {
  input = record { before = source.bytes reader; after = source.bytes reader'; failed = source.has_failed reader' };
  output = sink_stream sink writer writer';
}

-- a stream was not used: no byte was read or written, and it has not failed
abbrev pub IsUnused : Stream → Type 0
IsUnused s = Keeps s.before s.after × (s.failed ≡ false)

-- a stream got nothing: it has what it had, and has failed exactly if it had failed before
-- (`had_failed`)
abbrev pub GetsNothing : Bool → Stream → Type 0
GetsNothing had_failed s = (s.after ≡ s.before) × (s.failed ≡ had_failed)
