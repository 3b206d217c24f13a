-- Reading a line, byte by byte.
use Rattle.rd_script.proofs.Prelude.{Consumes-trans, ◌≡◌, ◌≢◌, ℕ, ◌+◌, Bool, false, List, [], ◌∷◌, ◌++◌, length, Option, Some, None, sym, ◌∙◌, ap, length-append, Consumes, Line, GivesByte, IsOneLine, Holds, ReadsLast}
use Rattle.std.proofs.SliceLists.{all_by_recursion_push}

-- the source has given `count` bytes of a line, none of them a line feed, and the buffer stands for
-- them
pub record HasBegun (old now : Option (List ℕ)) (failed : Bool) (line : Line) (count : ℕ) : Type 0 where
  pub text : List ℕ
  pub is_one : IsOneLine text
  pub held : Holds line text
  pub took : Consumes old now text
  pub works : failed ≡ false
  pub counted : length text ≡ count

-- the line goes on with one more byte that is no line feed
pub goes_on : {old now : Option (List ℕ)} (new : Option (List ℕ)) {failed failed' : Bool} {line line' : Line} {count : ℕ} (byte : ℕ) → HasBegun old now failed line count → GivesByte now new (Some byte) → byte ≢ 10 → ((text : List ℕ) → Holds line text → Holds line' (text ++ byte ∷ [])) → failed' ≡ false → HasBegun old new failed' line' (count + 1)
goes_on {old} {now} new {count = count} byte b gives n pushes works = record {
  text = b.text ++ byte ∷ [];
  is_one = all_by_recursion_push (λ x. x ≢ 10) b.text byte b.is_one n;
  held = pushes b.text b.held;
  took = Consumes-trans old now new b.text (byte ∷ []) b.took gives;
  works = works;
  counted = length-append b.text (byte ∷ []) ∙ ap (λ k. k + 1) b.counted;
}

-- if at least one byte was given, the end of the source ends the last line
pub is_last : {old now : Option (List ℕ)} (new : Option (List ℕ)) {failed : Bool} {line : Line} {count : ℕ} → HasBegun old now failed line count → GivesByte now new None → count ≢ 0 → ReadsLast old new line
is_last {old} {now} new b gives n = record {
  read = record {
    text = b.text;
    is_one = b.is_one;
    held = b.held;
    took = Consumes-trans old now new b.text [] b.took gives.0;
  };
  some = λ e. n (sym b.counted ∙ ap length e);
  ended = gives.1;
}
