-- Keywords and kinds of places: each has a text of its own, which finds it among all of them.
use Rattle.rd_text.proofs.Prelude.{◌≡◌, ◌≢◌, ◌∙◌, ℕ, suc, ◌<◌, true≢false, List, [], ◌∷◌, length, Option, Some, None, if◌then◌else◌, nat_eq, slice_index_or, refl, sym, ap, arith, Keyword, PlaceKind, keyword_text, kind_text, unwrap_or, is_some}
use Rattle.rd_text.specs.declared.reading.keywords.Keyword.TheVariants as keyword
use Rattle.rd_text.specs.declared.reading.places.PlaceKind.TheVariants as kind
use Rattle.rd_text.specs.declared.reading.keywords.TheConstants.Keyword.{ALL as keywords}
use Rattle.rd_text.specs.declared.reading.places.TheConstants.PlaceKind.{ALL as kinds}
use Rattle.std.specs.Cmp.Lexicographic.{pointwise, same_text}

-- the first of these whose text is the word
abbrev first_with : {K : Type 0} → (K → List ℕ) → List ℕ → List K → Option K
first_with text word [] = None
first_with text word (k ∷ ks) = if pointwise nat_eq word (text k) then Some k else first_with text word ks

-- if no text is the word, none is found
none_first : {K : Type 0} (text : K → List ℕ) (word : List ℕ) (d : K) (ks : List K) → ((i : ℕ) → i < length ks → word ≢ text (slice_index_or ks i d)) → first_with text word ks ≡ None
none_first text word d [] none = refl
none_first text word d (k ∷ ks) none =
    let others = none_first text word d ks (λ i below. none (suc i) (omega (arith, below))) in
    let first = none 0 (omega arith) in
    grind (arith, same_text)

-- Things each of which is found by its own text
module _ {K : Type 0} (text : K → List ℕ) (all : List K) (found : (k : K) → first_with text (text k) all ≡ Some k) where
  -- two things with one text are equal
  one_of_text : (k m : K) → text k ≡ text m → k ≡ m
  one_of_text k m e = ap (λ o. unwrap_or o k) (sym (found k) ∙ ap (λ word. first_with text word all) e ∙ found m)

  -- a word that is no text in the list is the text of no thing
  none_of_text : (word : List ℕ) (d : K) → ((i : ℕ) → i < length all → word ≢ text (slice_index_or all i d)) → (k : K) → word ≢ text k
  none_of_text word d none k e = true≢false (sym (ap is_some (ap (λ w. first_with text w all) e ∙ found k)) ∙ ap is_some (none_first text word d all none))

keyword_is_found : (k : Keyword) → first_with keyword_text (keyword_text k) keywords ≡ Some k
keyword_is_found k = grind arith

kind_is_found : (k : PlaceKind) → first_with kind_text (kind_text k) kinds ≡ Some k
kind_is_found k = grind arith

-- two keywords with one text are equal, and a word that is no text in the list is no keyword's
pub one_keyword : (k m : Keyword) → keyword_text k ≡ keyword_text m → k ≡ m
one_keyword k m e = one_of_text keyword_text keywords keyword_is_found k m e

pub none_of_keywords : (word : List ℕ) → ((i : ℕ) → i < length keywords → word ≢ keyword_text (slice_index_or keywords i keyword.Go)) → (k : Keyword) → word ≢ keyword_text k
none_of_keywords word none k = none_of_text keyword_text keywords keyword_is_found word keyword.Go none k

-- two kinds of places with one text are equal, and a word that is no text in the list is no kind's
pub one_kind : (k m : PlaceKind) → kind_text k ≡ kind_text m → k ≡ m
one_kind k m e = one_of_text kind_text kinds kind_is_found k m e

pub none_of_kinds : (word : List ℕ) → ((i : ℕ) → i < length kinds → word ≢ kind_text (slice_index_or kinds i kind.QHead)) → (k : PlaceKind) → word ≢ kind_text k
none_of_kinds word none k = none_of_text kind_text kinds kind_is_found word kind.QHead none k
