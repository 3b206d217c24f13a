-- Accesses that do not interfere commute.
use Rattle.rd_cell.proofs.Prelude.{◌≡◌, ℕ, Bool, true, false, inl, inr, refl, sym, ◌∙◌, ap, subst, Option, Some, None, is_some, IfSome, Result, Ok, Err, IfOk, arith, cases_Bool, both_ways, or_parts, IfOk-at_ok, fun_ext, SegName, Cell, Content, Operation, Refusal, covers, some_covers, some_overlap, written, interfere, Contents, cell_of_halves, share, after_some_write, operand, Effect, effect, wrote_by, Performed, contents_after, number_made, performed_at, operate, make, perform, result_map}
use Rattle.rd_cell.specs.declared.places.Place.{Place}
use Rattle.rd_cell.specs.declared.places.Place.TheVariants as place
use Rattle.rd_cell.specs.declared.contents.Content.TheVariants as content
use Rattle.rd_cell.specs.declared.access.Access.{Access}
use Rattle.rd_cell.specs.declared.access.Access.TheVariants.{NoPlace, At, Make}
use Rattle.rd_cell.proofs.PlaceLemmas.{some_overlap_of_covers, written-covers}
use Rattle.rd_cell.proofs.CountLemmas.{number_made-same}

-- Writes

-- a write leaves the content of every place that it doesn't cover
pub after_write-outside : (p : Option Place) (given at : Contents) (q : Place) → some_covers p q ≡ false → after_some_write p given at q ≡ at q
after_write-outside p given at q h = grind arith

-- a write gives every place that it covers its content in `given`
pub after_write-inside : (p : Option Place) (given at : Contents) (q : Place) → some_covers p q ≡ true → after_some_write p given at q ≡ given q
after_write-inside p given at q h = grind arith

-- a place's content after a write depends only on that place's content before it
pub after_write-same : (p : Option Place) (given at at' : Contents) (q : Place) → at q ≡ at' q
    → after_some_write p given at q ≡ after_some_write p given at' q
after_write-same p given at at' q h = grind arith

-- What an operation works on

-- if two contents make a cell, they are that cell's two halves
pub halves_of_cell : (a b : Option Content) (c : Content) → cell_of_halves a b ≡ Some c
    → (x : Cell) × (c ≡ content.Cell x) × (a ≡ Some (content.Val x.val)) × (b ≡ Some (content.Idx x.safe x.idx))
halves_of_cell a b c h = grind arith

-- whether a place is a cell: such a place is none of the map
abbrev pub is_cell_place : Place → Bool
is_cell_place (place.Cell s i) = true
is_cell_place _ = false

-- if p has this operand, each place of the map that p covers has its share of the operand
pub operand-covered : (p : Place) (at : Contents) (c : Content) (q : Place) → operand at p ≡ Some c → (is_cell_place q ≡ true → at q ≡ None)
    → covers p q ≡ true → at q ≡ share p (Some c) q
operand-covered p at c q h n k = grind arith

-- the operand at p is the same if all places that p covers have the same content
pub operand-same : (p : Place) (at at' : Contents) → ((q : Place) → covers p q ≡ true → at q ≡ at' q) → operand at p ≡ operand at' p
operand-same p at at' same = grind arith

-- Two accesses that don't interfere: neither wrote a place that the other touches

-- whether one access interferes with another
abbrev pub interferes : Performed → Performed → Bool
interferes d e = interfere d.place d.wrote e.place e.wrote

-- the first access leaves every place that the second touched, if they don't interfere
touched_places_stay : (d e : Performed) (at : Contents) (r : Place) → interferes d e ≡ false → some_covers e.place r ≡ true
    → contents_after d at r ≡ at r
touched_places_stay d e at r h k =
    elim (cases_Bool (some_covers (written d.place d.wrote) r)) [
      | inl m ↦
          absurd (both_ways (some_overlap (written d.place d.wrote) e.place)
          (or_parts (some_overlap (written d.place d.wrote) e.place) (some_overlap d.place (written e.place e.wrote)) h).0
          (some_overlap_of_covers (written d.place d.wrote) e.place r m k))
      | inr m ↦ after_write-outside (written d.place d.wrote) d.given at r m
    ]

-- two accesses that don't interfere leave the same content at each place in either order
contents_after-commutes-at : (d e : Performed) (at : Contents) (r : Place) → interferes d e ≡ false
    → contents_after e (contents_after d at) r ≡ contents_after d (contents_after e at) r
contents_after-commutes-at d e at r h = grind (arith, touched_places_stay, written-covers, after_write-same, after_write-outside)

-- two accesses that don't interfere leave the same contents in either order
pub contents_after-commutes : (d e : Performed) (at : Contents) → interferes d e ≡ false
    → contents_after e (contents_after d at) ≡ contents_after d (contents_after e at)
contents_after-commutes d e at h = fun_ext (λ r. contents_after-commutes-at d e at r h)

-- A maker's makings are independent of other makers

-- if K holds of what an operation writes, P holds of a place's content after it, if P held before
-- and holds of the place's share of each content of which K holds
pub holds_after_effect : (P : Option Content → Type 0) (K : Content → Type 0) (p : Place) (c : Content) (e : Effect) (at : Contents) (q : Place) → P (at q)
    → IfSome e.writes K → ((d : Content) → K d → covers p q ≡ true → P (share p (Some d) q)) → P (contents_after (performed_at p c e) at q)
holds_after_effect P K p c e at q was writes new = by e.writes writes
  where
    by : (o : Option Content) → IfSome o K → P (after_some_write (written (Some p) (wrote_by c o)) (share p o) at q)
    by None k = was
    by (Some d) k =
        let place : Option Place = written (Some p) (wrote_by c (Some d)) in
        elim (cases_Bool (some_covers place q)) [
          | inl m ↦ subst P (sym (after_write-inside place (share p (Some d)) at q m)) (new d k (written-covers (Some p) (wrote_by c (Some d)) q m))
          | inr m ↦ subst P (sym (after_write-outside place (share p (Some d)) at q m)) was
        ]

-- an operation at a place that is there adds and removes no place, if what it writes is of the kind
-- that was there
pub performed_at-keeps_places : (p : Place) (c : Content) (e : Effect) (at : Contents) (q : Place) → operand at p ≡ Some c → (is_cell_place q ≡ true → at q ≡ None)
    → IfSome e.writes (λ d. is_some (share p (Some d) q) ≡ is_some (share p (Some c) q))
    → is_some (contents_after (performed_at p c e) at q) ≡ is_some (at q)
performed_at-keeps_places p c e at q h bare kind =
    holds_after_effect (λ o. is_some o ≡ is_some (at q)) (λ d. is_some (share p (Some d) q) ≡ is_some (share p (Some c) q)) p c e at q refl kind
    (λ d k within. k ∙ sym (ap is_some (operand-covered p at c q h bare within)))

-- an effect at p writes nothing, or a content that gives place q a share exactly if the old one did
abbrev KeepsKind : Place → Content → Place → Effect → Type 0
KeepsKind p c q e = IfSome e.writes (λ d. is_some (share p (Some d) q) ≡ is_some (share p (Some c) q))

-- a place that gets all of a content has a content after each write, as it had before
plain_kind : (r : Result Effect Refusal) → IfOk r (λ e. IfSome e.writes (λ d. true ≡ true))
plain_kind r = grind arith

-- every operation on a cell that isn't refused writes a cell, if it writes
cell_kind : (s : SegName) (i : ℕ) (op : Operation) (x : Cell) (q : Place) → IfOk (effect op (content.Cell x)) (KeepsKind (place.Cell s i) (content.Cell x) q)
cell_kind s i op x q = grind arith

-- every operation that isn't refused keeps the kind of its place's content
effect_kind : (p : Place) (op : Operation) (at : Contents) (c : Content) (q : Place) → operand at p ≡ Some c → IfOk (effect op c) (KeepsKind p c q)
effect_kind p op at c q h = grind (arith, halves_of_cell, cell_kind, plain_kind)

-- an effect, if not refused, adds and removes no place, if it keeps the kind of the content
effect-keeps_places : (p : Place) (c : Content) (r : Result Effect Refusal) (at : Contents) (q : Place) → operand at p ≡ Some c → (is_cell_place q ≡ true → at q ≡ None)
    → IfOk r (KeepsKind p c q) → IfOk (result_map (performed_at p c) r) (λ did. is_some (contents_after did at q) ≡ is_some (at q))
effect-keeps_places p c (Err x) at q h bare kind = tt
effect-keeps_places p c (Ok e) at q h bare kind = performed_at-keeps_places p c e at q h bare kind

-- an operation adds and removes no place
pub operate-keeps_places : (p : Place) (op : Operation) (o : Option Content) (at : Contents) (q : Place) → operand at p ≡ o → (is_cell_place q ≡ true → at q ≡ None)
    → IfOk (operate p op o) (λ did. is_some (contents_after did at q) ≡ is_some (at q))
operate-keeps_places p op o at q h bare = grind (arith, effect-keeps_places, effect_kind)

-- a making by one actor adds and removes no segment of another maker
make-keeps_other_makers : (actor n : ℕ) (given at : Contents) (maker k : ℕ) → (actor ≡ maker → ⊥)
    → IfOk (make (record { maker = actor; n = n }) given) (λ did. is_some (contents_after did at (place.Head (record { maker = maker; n = k }))) ≡ is_some (at (place.Head (record { maker = maker; n = k }))))
make-keeps_other_makers actor n given at maker k ne = grind arith

-- an access by one actor adds and removes no segment of another maker
pub perform-keeps_other_makers : (R actor : ℕ) (at : Contents) (x : Access) (maker k : ℕ) → (actor ≡ maker → ⊥)
    → IfOk (perform R actor at x) (λ did. is_some (contents_after did at (place.Head (record { maker = maker; n = k }))) ≡ is_some (at (place.Head (record { maker = maker; n = k }))))
perform-keeps_other_makers R actor at x maker k ne = grind (arith, operate-keeps_places, make-keeps_other_makers)

-- an access by one actor leaves the number of segments that another maker has made
pub number_made-after : (R actor : ℕ) (at : Contents) (x : Access) (did : Performed) (maker : ℕ) → (actor ≡ maker → ⊥)
    → perform R actor at x ≡ Ok did → number_made (contents_after did at) maker ≡ number_made at maker
number_made-after R actor at x did maker ne h =
    number_made-same (contents_after did at) at maker (λ k.
    let q = place.Head (record { maker = maker; n = k }) in
    IfOk-at_ok (λ (d : Performed). is_some (contents_after d at q) ≡ is_some (at q)) h (perform-keeps_other_makers R actor at x maker k ne))

-- The law

-- the place on which an access operates; none for a making or without an access
abbrev pub place_of : Access → Option Place
place_of NoPlace = None
place_of (At p op) = Some p
place_of (Make x) = None

-- an access does the same in two maps if its place has the same operand there, and its actor has
-- made as many segments
perform_same : (R actor : ℕ) (at at' : Contents) (x : Access)
    → ((p : Place) → place_of x ≡ Some p → operand at p ≡ operand at' p) → number_made at actor ≡ number_made at' actor
    → perform R actor at x ≡ perform R actor at' x
perform_same R actor at at' x same count = grind arith

-- what an operation did names its place
pub operate-place : (p : Place) (op : Operation) (o : Option Content) → IfOk (operate p op o) (λ did. did.place ≡ Some p)
operate-place p op o = grind arith

-- what a making did names the whole of the segment
pub make-place : (s : SegName) (given : Contents) → IfOk (make s given) (λ did. did.place ≡ Some (place.Whole s))
make-place s given = grind arith

-- what an access did names the place on which it operated
pub perform-place : (R actor : ℕ) (at : Contents) (x : Access) (did : Performed) (p : Place) → perform R actor at x ≡ Ok did
    → place_of x ≡ Some p → did.place ≡ Some p
perform-place R actor at x did p h e = grind arith

-- an access y by actor b does the same with or without an earlier access by actor a, if what y did
-- in some map doesn't interfere with that access
pub perform-unaffected : (R a b : ℕ) (at there : Contents) (x y : Access) (d e : Performed) → (a ≡ b → ⊥)
    → perform R a at x ≡ Ok d → perform R b there y ≡ Ok e → interferes d e ≡ false
    → perform R b (contents_after d at) y ≡ perform R b at y
perform-unaffected R a b at there x y d e ne h k free =
    perform_same R b (contents_after d at) at y
    (λ p own. operand-same p (contents_after d at) at (λ q covered.
    touched_places_stay d e at q free (subst (λ (o : Option Place). some_covers o q ≡ true) (sym (perform-place R b there y e p k own)) covered)))
    (number_made-after R a at x d b ne h)
