-- Which bytes spell a bookmark's name.
use Rattle.std.specs.Prelude.{ℕ, Bool, ◌==◌, ◌&&◌, ◌||◌, not, nat_lt, List, length}
use Rattle.std.specs.List.{list_all}
use Rattle.std.specs.Char.{is_ascii_lowercase, is_ascii_digit}
pub use Rattle.rd_cell.specs.declared.limits.TheConstants.{MOST_MARKS, MOST_NAME_BYTES}

-- whether this byte may be in a name: a-z, 0-9 and the hyphen
abbrev pub is_name_byte : ℕ → Bool
is_name_byte b = is_ascii_lowercase b || is_ascii_digit b || (b == 45)

-- whether these bytes spell a bookmark's name: 1 to 16 bytes that may be in one
abbrev pub is_mark_name : List ℕ → Bool
is_mark_name bytes = not (length bytes == 0) && not (nat_lt MOST_NAME_BYTES (length bytes)) && list_all is_name_byte bytes
