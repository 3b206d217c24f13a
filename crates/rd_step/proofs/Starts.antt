-- The worlds with which a session may begin are well-formed.
use Rattle.rd_step.proofs.Prelude.{◌≡◌, ◌↔◌, ℕ, suc, ◌<◌, ◌≤◌, Bool, true, if◌then◌else◌, nat_lt, inl, inr, refl, sym, ◌∙◌, ap, arith, List, length, get_or, slice_get, All, IsSome, Option, Some, None, is_some, le-leb, lt-ltb, le-ltb, common_steps, cases_lt, cond-true, cond-false, and_from, slice_get_past, MOST_ACTORS, Place, is_there, Space, contents, Actor, idle, poised, World, world_of_fields, numbered, Presence, belongs, place_fits, record_fits, actor_fits, is_actor, IsNumbered, AreMade, IsWellFormed, index_end, slice_get-get_or, fresh_space, actors_by, fresh_world, poised_world}
use Rattle.rd_step.proofs.Rows.{idle_record}

-- a list of `count` actors, each with the record that its number gives
pub list_actors : (xs : List Actor) (each : ℕ → Actor) (count : ℕ) → length xs ≡ count
    → ((n : ℕ) → n < count → slice_get xs n ≡ Some (each (suc n))) → numbered xs ≡ actors_by each count
list_actors xs each count len all = grind (arith, cond-true, nat_lt, lt-ltb, slice_get_past, cond-false, le-ltb)

-- which segments a fresh space has: the root
abbrev there_first : ℕ → Presence
there_first R = is_there (fresh_space R)

made_first : (R : ℕ) (actors : ℕ → Bool) → AreMade actors (there_first R)
made_first R actors = grind arith

places_first : (R : ℕ) (p : Place) → is_some (fresh_space R p) ≡ belongs R (there_first R) p
places_first R p = grind arith

contents_first : (R : ℕ) (p : Place) → place_fits R (there_first R) p (fresh_space R p) ≡ true
contents_first R p = grind arith

-- this many actors are numbered from 1
numbered_by : (each : ℕ → Actor) (count : ℕ) → 1 ≤ count → count ≤ MOST_ACTORS → IsNumbered (is_actor (actors_by each count))
numbered_by each count some few = grind arith

fits_by : (R : ℕ) (each : ℕ → Actor) (count : ℕ) → ((n : ℕ) → record_fits R (there_first R) (each n) ≡ true) → (n : ℕ)
    → actor_fits R (there_first R) (actors_by each count n) ≡ true
fits_by R each count fits n = grind arith

-- a world with a fresh space and this many actors whose records fit is well-formed
starts_well : (R : ℕ) (each : ℕ → Actor) (count : ℕ) → 1 ≤ count → count ≤ MOST_ACTORS → ((n : ℕ) → record_fits R (there_first R) (each n) ≡ true)
    → IsWellFormed (record { ring = R; at = fresh_space R; actor = actors_by each count })
starts_well R each count some few fits = grind (arith, common_steps, numbered_by, made_first, places_first, contents_first, fits_by)

poised_fits : (R n : ℕ) → record_fits R (there_first R) (poised n) ≡ true
poised_fits R n = and_from _ _ (and_from _ _ refl (and_from _ _ refl (le-leb 0 (index_end R) (omega arith)))) refl

-- the fresh world is well-formed
pub fresh_formed : (R count : ℕ) → 1 ≤ count → count ≤ MOST_ACTORS → IsWellFormed (fresh_world R count)
fresh_formed R count some few = starts_well R (λ n. idle) count some few (λ n. idle_record R (there_first R) refl)

-- the poised world is well-formed
pub poised_formed : (R count : ℕ) → 1 ≤ count → count ≤ MOST_ACTORS → IsWellFormed (poised_world R count)
poised_formed R count some few = starts_well R poised count some few (λ n. poised_fits R n)

-- a fresh space and such a list of actors make that world
pub fields_make : {R : ℕ} (space : Space R) (xs : List Actor) (each : ℕ → Actor) (count : ℕ) → contents space ≡ fresh_space R → length xs ≡ count
    → ((n : ℕ) → n < count → slice_get xs n ≡ Some (each (suc n)))
    → world_of_fields space xs ≡ record { ring = R; at = fresh_space R; actor = actors_by each count }
fields_make {R} space xs each count fresh len all = λ i. record { ring = R; at = fresh i; actor = list_actors xs each count len all i }

-- ---- when a world is fresh: the space is, and the actors are idle

-- a list of idle actors is that of a fresh world
pub idle_actors : (xs : List Actor) → All (λ x. x ≡ idle) xs → numbered xs ≡ actors_by (λ n. idle) (length xs)
idle_actors xs all = list_actors xs (λ n. idle) (length xs) refl (λ n within. slice_get-get_or xs n idle within ∙ ap Some (all n idle within))

some_idle : (b : Bool) (x : Actor) → Some x ≡ (if b then Some idle else None) → x ≡ idle
some_idle b x h = grind arith

-- all actors of a fresh world are idle
pub all_idle : (xs : List Actor) (count : ℕ) → numbered xs ≡ actors_by (λ n. idle) count → All (λ x. x ≡ idle) xs
all_idle xs count e k d within =
    some_idle (nat_lt k count) (get_or xs k d) (sym (slice_get-get_or xs k d within) ∙ ap (λ (at : ℕ → Option Actor). at (suc k)) e)

-- a fresh world has just one number of actors
pub one_count : (R count n : ℕ) (w : World) → w ≡ fresh_world R count → ((k : ℕ) → IsSome (w.actor (suc k)) ↔ (k < n)) → count ≡ n
one_count R count n w e there =
    elim (cases_lt n count) [
      | inl h ↦ grind (arith, there n)
      | inr h ↦ elim (cases_lt count n) [ inl k ↦ grind (arith, there count) | inr k ↦ omega arith ]
    ]
