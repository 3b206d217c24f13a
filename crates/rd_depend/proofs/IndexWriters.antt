-- The last writer of a place, from the last positions up to a number in the lists of the place and
-- its segment.
use Rattle.rd_depend.proofs.Prelude.{nat_lt, common_steps, Place, some_overlap, Entry, DependIndex, is_under, is_under_some, search_key, value_key_of_place, whole_key, IsAscending, before_first, last_or, later, ListKey, touched_or_written, is_listed_for, positions_from, positions, kept, IsIndexOf, one_further, last_position, writes_to, ◌≡◌, ℕ, suc, ◌+◌, ◌-◌, ◌<◌, ◌≤◌, Bool, true, false, ◌||◌, List, [], ◌∷◌, length, get_or, take, Option, Some, None, refl, ap, ◌∙◌, arith}
use Rattle.rd_depend.proofs.IndexCuts.{positions-up_to}
use Rattle.rd_depend.proofs.IndexFirst.{kept-ascends, kept-short, overlaps-keys}

-- the last of the first i + 1 positions is the one at index i
last-taken : (o : Option ℕ) (ps : List ℕ) (i d : ℕ) → i < length ps → last_or o (take (suc i) ps) ≡ Some (get_or ps i d)
last-taken o (p ∷ ps) (suc i) d within = last-taken (Some p) ps i d (omega arith)
last-taken o ps i d within = grind arith

pub last-among : (ps : List ℕ) (number look found : ℕ) → 0 < number → number ≤ length ps → look ≡ get_or ps (number - 1) look → found ≡ look
    → Some found ≡ last_or None (take number ps)
last-among ps number look found h1 h2 h3 h4 = grind (arith, last-taken)

-- the last of the positions that pass a test is the last position

abbrev moved : Option ℕ → ℕ → Option ℕ → Option ℕ
moved o m None = o
moved o m (Some j) = Some (m + j)

last-from : (o : Option ℕ) (test : Entry → Bool) (m n : ℕ) (es : List Entry) → n ≡ suc m → last_or o (positions_from test n es) ≡ moved o m (last_position test es)
last-from o test m n [] h = refl
last-from o test m n (x ∷ xs) h =
    let e : n + 1 ≡ suc (suc m) = omega arith in
    grind (arith, last-from (Some n) test (suc m) (n + 1) xs e, last-from o test (suc m) (n + 1) xs e)

last-is : (test : Entry → Bool) (es : List Entry) → last_or None (positions test es) ≡ last_position test es
last-is test es = grind (arith, last-from None test 0 1 es refl)

-- the greater of what two tests find last is what either test finds last
later-last : (t u v : Entry → Bool) → ((y : Entry) → v y ≡ (t y || u y)) → (es : List Entry)
    → later (last_position t es) (last_position u es) ≡ last_position v es
later-last t u v h [] = refl
later-last t u v h (x ∷ xs) = grind (arith, later-last t u v h xs)

-- what the searches find

pub last_in : (index : DependIndex) (es : List Entry) → IsIndexOf index es → (t : ListKey) (n : ℕ) (r : Option ℕ)
    → (IsAscending (kept index t) → length (kept index t) < 131072 → r ≡ last_or None (before_first (nat_lt n) (kept index t))) → r ≡ last_position (is_listed_for t) (take n es)
last_in index es is t n r found = grind (arith, common_steps, kept-ascends, kept-short, positions-up_to, last-is)

some_overlap-swap : (o p : Option Place) → some_overlap o p ≡ some_overlap p o
some_overlap-swap o p = grind arith

-- a search without a key finds nothing
pub none_last : (es : List Entry) → last_position (λ (y : Entry). false) es ≡ None
none_last [] = refl
none_last (x ∷ xs) = ap (one_further false) (none_last xs)

-- the last of what is found under the three keys is the last step that wrote the place, or one of
-- the places that it names
pub last_at : (p : Place) (es : List Entry) (value own whole both all : Option ℕ)
    → value ≡ last_position (λ y. is_under_some (value_key_of_place p) (touched_or_written true y)) es → own ≡ last_position (λ y. is_under (search_key p) (touched_or_written true y)) es
    → whole ≡ last_position (λ y. is_under_some (whole_key p) (touched_or_written true y)) es → both ≡ later own whole → all ≡ later value both
    → all ≡ last_position (writes_to p) es
last_at p es value own whole both all a b c two three =
    let rest = λ (y : Entry). is_under (search_key p) (touched_or_written true y) || is_under_some (whole_key p) (touched_or_written true y) in
    let in_two : both ≡ last_position rest es = two ∙ (λ i. later (b i) (c i)) ∙ later-last _ _ rest (λ y. refl) es in
    three ∙ (λ i. later (a i) (in_two i)) ∙ later-last _ rest (writes_to p) (λ y. some_overlap-swap (touched_or_written true y) (Some p) ∙ overlaps-keys p (touched_or_written true y)) es
