-- The bytes that a portion of a source has left.
use Rattle.std.specs.Prelude.{ℕ, List, slice_range}
use Rattle.rd_devices.specs.declared.portions.Portion.{Portion}

-- the bytes of a portion that were read from the device and not given yet
abbrev pub pending_bytes : Portion → List ℕ
pending_bytes portion = slice_range portion.bytes portion.given portion.filled
