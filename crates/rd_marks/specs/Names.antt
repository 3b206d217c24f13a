-- The bytes of a bookmark's name, and when two names are equal.
use Rattle.std.specs.Prelude.{ℕ, Bool, nat_eq, List}
use Rattle.std.specs.Cmp.Lexicographic.{pointwise}
use Rattle.rd_marks.specs.declared.names.MarkName.{MarkName}

-- the bytes of a name
abbrev pub bytes_of : MarkName → List ℕ
bytes_of name = name.text.bytes

-- whether two names have the same bytes
abbrev pub mark_name_eq : MarkName → MarkName → Bool
mark_name_eq a b = pointwise nat_eq a.text.bytes b.text.bytes
