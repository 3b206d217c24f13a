-- The length of a bookmark's name.
use Rattle.rd_text.proofs.Prelude.{◌≡◌, ℕ, ◌≤◌, true, List, length, arith, nat_tests, is_mark_name}

-- a bookmark's name has at most 16 bytes
pub length_mark_name : (bytes : List ℕ) → is_mark_name bytes ≡ true → length bytes ≤ 16
length_mark_name bytes h = grind (arith, nat_tests)
