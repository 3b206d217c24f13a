-- What the code keeps while it compares two runs is right after one more step.
use Rattle.rd_equivalence.proofs.Prelude.{common_steps, slice_get_past, and_from, and_parts, map-append, reverse-append, option_to_list, set, is_nothing, slice_get-set_same, slice_get-set_other, Entry, Key, NumberedStep, Reached, is_value_written, key_eq, place_key, value_key, segment_key, key_eq-true, key_eq-sym, is_whole_segment, raised, with_step_under, IsInOrder, IsAfter, remaining_in, reached_or_nothing, with_first, list_at, items_of, ◌≡◌, ◌↔◌, ℕ, ◌<◌, ◌≤◌, Bool, true, false, not, ◌&&◌, if◌then◌else◌, cond, IsTrue, List, [], ◌∷◌, ◌++◌, length, map, reverse, Vec, Global, Option, Some, IsSome, MatchOption, refl, sym, ap, subst, ◌∙◌, arith}

-- How far steps reached, under one key and under all

-- writing a new value under one key, and none under the others, is adding a step under that key
pub inserted_under : (old new : Key → Option Reached) (key : Key) (r : Reached) (w : Bool) (i : ℕ) → ((k : Key) → new k ≡ cond (key_eq key k) (Some r) (old k))
    → r ≡ raised (reached_or_nothing key (old key)) w i
    → (λ k. reached_or_nothing k (new k)) ≡ with_step_under (Some key) w i (λ q. reached_or_nothing q (old q))
inserted_under old new key r w i news its = λ j k. (ap (reached_or_nothing k) (news k) ∙ by k (key_eq key k) (key_eq-true key k) (key_eq-sym k key)) j
  where
    s : Key → Reached
    s q = reached_or_nothing q (old q)

    by : (k : Key) (b : Bool) → (b ≡ true → key ≡ k) → key_eq k key ≡ b → reached_or_nothing k (cond b (Some r) (old k)) ≡ (if key_eq k key then raised (s k) w i else s k)
    by k true same e = its ∙ ap (λ (q : Key). raised (s q) w i) (same refl) ∙ ap (λ (b : Bool). if b then raised (s k) w i else s k) (sym e)
    by k false same e = ap (λ (b : Bool). if b then raised (s k) w i else s k) (sym e)

-- whether a step comes after all earlier ones under a key is decided by values equal to these
pub after_as : (p : Bool) (s t : Key → Reached) (k l : Option Key) (w u : Bool) (i : ℕ) → s ≡ t → k ≡ l → w ≡ u → IsTrue p ↔ IsAfter s k w i → IsTrue p ↔ IsAfter t l u i
after_as p s t k l w u i states keys wrote h =
    subst (λ (r : Key → Reached). IsTrue p ↔ IsAfter r l u i) states
    (subst (λ (o : Option Key). IsTrue p ↔ IsAfter s o u i) keys (subst (λ (b : Bool). IsTrue p ↔ IsAfter s k b i) wrote h))

-- a step is in order if it is in order under each of its keys, as it is added under one after
-- another
pub all_after : (s : Key → Reached) (x : Entry) (i : ℕ) (p v g : Bool) → IsTrue p ↔ IsAfter s (place_key x.place) (not (is_nothing x.wrote)) i
    → IsTrue v ↔ IsAfter (with_step_under (place_key x.place) (not (is_nothing x.wrote)) i s) (value_key x.place) (is_value_written x.wrote) i
    → IsTrue g ↔ IsAfter (with_step_under (value_key x.place) (is_value_written x.wrote) i (with_step_under (place_key x.place) (not (is_nothing x.wrote)) i s)) (segment_key x.place) (is_whole_segment x.place) i
    → IsTrue (p && v && g) ↔ IsInOrder s x i
all_after s x i p v g by_place by_value by_segment = grind (arith, and_parts, and_from)

-- The lists by actor, each with its first step last

abbrev pub Lists : Type 0
Lists = List (Vec NumberedStep Global)

-- a step that is pushed is in front of those left of its actor
pub pushed : (lists : Lists) (a : ℕ) (list : Vec NumberedStep Global) (p : NumberedStep) (n : ℕ) → a < length lists → list.items ≡ list_at lists a ++ p ∷ []
    → remaining_in (set lists a list) n ≡ with_first (remaining_in lists) a (p.at, p.entry.now) n
pushed lists a list p n within h = grind (arith, slice_get-set_same, slice_get-set_other, map-append, reverse-append)

-- a step that is popped was in front of those left of its actor
popped : (lists : Lists) (a : ℕ) (list : Vec NumberedStep Global) (p : NumberedStep) (n : ℕ) → a < length lists → list_at lists a ≡ list.items ++ p ∷ []
    → remaining_in lists n ≡ with_first (remaining_in (set lists a list)) a (p.at, p.entry.now) n
popped lists a list p n within h = grind (arith, slice_get-set_same, slice_get-set_other, map-append, reverse-append)

-- what is popped is in front of those left of the actor, or none is left
pub popped_or_none : (lists : Lists) (a : ℕ) (list : Vec NumberedStep Global) (o : Option NumberedStep) → a < length lists → list_at lists a ≡ list.items ++ option_to_list o
    → (0 < length (list_at lists a) → IsSome o)
    → MatchOption o (remaining_in lists a ≡ []) (λ p. (n : ℕ) → remaining_in lists n ≡ with_first (remaining_in (set lists a list)) a (p.at, p.entry.now) n)
popped_or_none lists a list o within items some = grind (arith, common_steps, popped)

pub none_left_past_end : (lists : Lists) (n : ℕ) → length lists ≤ n → remaining_in lists n ≡ []
none_left_past_end lists n h = ap (λ (o : Option (Vec NumberedStep Global)). reverse (map (λ (p : NumberedStep). (p.at, p.entry.now)) (items_of o))) (slice_get_past lists n h)
