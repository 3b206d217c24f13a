-- Whole numbers, bits, texts and lists in JSON values. In a value that serde_json reads, an object
-- has each key once, and a number from 2^64 on is a float.
use Rattle.std.specs.Prelude.{ℕ, List, nat_le, if◌then◌else◌, Bool, Option, Some, None, option_map, option_and_then}
use Rattle.serde_json.specs.Data.{Data, Items}
use Rattle.serde_json.specs.Events.{members_len}
use Rattle.serde_json.specs.Find.{get, as_bool, as_number, as_str, as_array, as_object, as_u64}

-- the whole number from 0 to 2^64 - 1 that a JSON value is; none for any other value
abbrev pub whole_number : Data → Option ℕ
whole_number d = option_and_then as_u64 (as_number d)

-- the whole number from 0 to 255 that a JSON value is; none for any other value
abbrev pub byte_number : Data → Option ℕ
byte_number d = option_and_then (λ n. if nat_le n 255 then Some n else None) (whole_number d)

-- the whole number from 0 to 2^32 - 1 that a JSON value is; none for any other value
abbrev pub u32_number : Data → Option ℕ
u32_number d = option_and_then (λ n. if nat_le n 4294967295 then Some n else None) (whole_number d)

-- the number of members of a JSON object; none for any other value
abbrev pub member_count : Data → Option ℕ
member_count d = option_map members_len (as_object d)

-- the whole number from 0 to 2^64 - 1 at a key of an object; none if it has none there
abbrev pub number_at : List ℕ → Data → Option ℕ
number_at key d = option_and_then whole_number (get key d)

-- the whole number from 0 to 255 at a key of an object; none if it has none there
abbrev pub byte_at : List ℕ → Data → Option ℕ
byte_at key d = option_and_then byte_number (get key d)

-- the bit, a JSON boolean, at a key of an object; none if it has none there
abbrev pub bit_at : List ℕ → Data → Option Bool
bit_at key d = option_and_then as_bool (get key d)

-- the text at a key of an object; none if it has no text there
abbrev pub text_at : List ℕ → Data → Option (List ℕ)
text_at key d = option_and_then as_str (get key d)

-- the items of the list at a key of an object; none if it has no list there
abbrev pub items_at : List ℕ → Data → Option Items
items_at key d = option_and_then as_array (get key d)
