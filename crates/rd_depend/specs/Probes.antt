-- The count of probes.
use Rattle.std.specs.Prelude.{ℕ}
use Rattle.rd_depend.specs.declared.index.probes.Probes.{Probes}

-- the number of probes that were counted
abbrev pub probe_count : Probes → ℕ
probe_count probes = probes.count
