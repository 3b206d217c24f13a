-- A name is ASCII, so it is text.
use Rattle.rd_marks.proofs.Prelude.{◌≡◌, ℕ, ◌<◌, ◌==◌, true, not, nat_lt, ◌&&◌, List, length, arith, list_all, and_parts, nat_tests, is_mark_name, is_name_byte, MOST_NAME_BYTES, IsUtf8-from_ascii}
use Rattle.std.specs.Str.{IsUtf8}
use Rattle.std.proofs.lemmas.List.Sums.{AllPass-from_list_all}
use Rattle.std.proofs.lemmas.Str.Ascii.{IsAscii-from_all}

name_byte_small : (b : ℕ) → is_name_byte b ≡ true → b < 128
name_byte_small b h = grind (arith, nat_tests)

-- bytes that spell a name are UTF-8
pub name_is_text : (bs : List ℕ) → is_mark_name bs ≡ true → IsUtf8 bs
name_is_text bs h =
    let p = and_parts (not (length bs == 0) && not (nat_lt MOST_NAME_BYTES (length bs))) (list_all is_name_byte bs) h in
    IsUtf8-from_ascii bs (IsAscii-from_all bs (λ k d inside. name_byte_small _ (AllPass-from_list_all is_name_byte bs p.1 k d inside)))
