-- The parts of a world.
use Rattle.rd_step.proofs.Prelude.{◌≡◌, ℕ, suc, ◌≤◌, ◌∙◌, sym, ap, subst, List, Vec, length, None, SegmentParts, MOST_CELLS, SegName, Actor, Space, contents, list_count, ListOf, contents_of_parts, Parts, World, world_of_fields, numbered, IsWellFormed, world_of_parts, first_flaw, head_name, tail_name, array_words, Global, ArrayParts}
use Rattle.rd_step.proofs.Accepted.{accepted}

-- these segments and actors describe the space and the actors of a world
pub record AreTaken {R : ℕ} (segments : Vec (ListOf (SegmentParts R)) Global) (listed : Vec Actor Global) (space : Space R) (actors : List Actor) : Type 0 where
  pub same : contents_of_parts segments.items (head_name space) (tail_name space) (array_words space) ≡ contents space
  pub number : length segments.items ≡ list_count space
  pub actors_are : listed.items ≡ actors
  pub small : R ≤ MOST_CELLS

-- the parts that have these segments, actors, names and array
abbrev pub taken : {R : ℕ} (segments : Vec (ListOf (SegmentParts R)) Global) (listed : Vec Actor Global) (qhead qtail : SegName) (array : ArrayParts) → R ≤ MOST_CELLS → Parts R
taken segments listed qhead qtail array small = record { actors = listed; segments = segments; qhead = qhead; qtail = qtail; array = array; small = small }

-- the world of these parts is the world of the space and the actors
pub world_taken : {R : ℕ} (segments : Vec (ListOf (SegmentParts R)) Global) (listed : Vec Actor Global) (qhead qtail : SegName) (array : ArrayParts)
    (space : Space R) (actors : List Actor) (h : AreTaken segments listed space actors)
    → qhead ≡ head_name space → qtail ≡ tail_name space → array ≡ array_words space
    → world_of_parts (taken segments listed qhead qtail array h.small) ≡ world_of_fields space actors
world_taken {R} segments listed qhead qtail array space actors h eh et ea =
    let at : contents_of_parts segments.items qhead qtail array ≡ contents space =
    (λ i. contents_of_parts segments.items (eh i) (et i) (ea i)) ∙ h.same
    in
    λ i. record { ring = R; at = at i; actor = numbered (h.actors_are i) }

-- the parts of a well-formed world have no flaw
pub taken_unflawed : {R : ℕ} (segments : Vec (ListOf (SegmentParts R)) Global) (listed : Vec Actor Global) (qhead qtail : SegName) (array : ArrayParts)
    (space : Space R) (actors : List Actor) (h : AreTaken segments listed space actors)
    → qhead ≡ head_name space → qtail ≡ tail_name space → array ≡ array_words space
    → list_count space ≡ suc (length actors) → IsWellFormed (world_of_fields space actors)
    → first_flaw (taken segments listed qhead qtail array h.small) ≡ None
taken_unflawed {R} segments listed qhead qtail array space actors h eh et ea number formed =
    accepted R (taken segments listed qhead qtail array h.small) (h.number ∙ number ∙ ap (λ (xs : List Actor). suc (length xs)) (sym h.actors_are))
    (subst (λ (w : World). IsWellFormed w) (sym (world_taken segments listed qhead qtail array space actors h eh et ea)) formed)
