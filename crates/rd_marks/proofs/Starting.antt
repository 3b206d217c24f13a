-- Lists that begin other lists, and the entries of a node.
use Rattle.rd_marks.proofs.Prelude.{◌≡◌, ℕ, ◌<◌, ◌≤◌, sym, ap, ◌∙◌, List, length, take, length-take, arith, length-map, length-take-le, take-map, take-take, Entry, Begins, Node, Stretch, stretch_list, entries_at, IsWithin, events}
use Rattle.rd_marks.proofs.StretchLists.{list_past}

pub begins_shorter : {X : Type 0} (xs ys : List X) → Begins xs ys → length xs ≤ length ys
begins_shorter xs ys h = omega (arith, ap length h, length-take (length xs) ys)

pub begins_trans : {X : Type 0} (xs ys zs : List X) → Begins xs ys → Begins ys zs → Begins xs zs
begins_trans xs ys zs h k = sym (take-take (length xs) (length ys) zs (begins_shorter xs ys h)) ∙ ap (take (length xs)) k ∙ h

pub event_length : (xs : List Entry) → length (events xs) ≡ length xs
event_length xs = length-map xs (λ (x : Entry). x.event)

-- if entries begin others, so do their events
pub begins_events : (xs ys : List Entry) → Begins xs ys → Begins (events xs) (events ys)
begins_events xs ys h = ap (λ (n : ℕ). take n (events ys)) (event_length xs) ∙ take-map (λ (x : Entry). x.event) (length xs) ys ∙ ap events h

-- the first n events are the events of the first n entries
pub events_of_first : (n : ℕ) (xs : List Entry) → take n (events xs) ≡ events (take n xs)
events_of_first n xs = take-map (λ (x : Entry). x.event) n xs

module _ (ss : List Stretch) where
  -- a node has as many entries as its number says
  pub entries_length : (p : Node) → IsWithin ss p → length (entries_at ss p) ≡ p.number
  entries_length p within = length-take-le p.number (stretch_list ss p.stretch) within

  pub events_length : (p : Node) → IsWithin ss p → length (events (entries_at ss p)) ≡ p.number
  events_length p within = event_length (entries_at ss p) ∙ entries_length p within

  -- a node with entries is in a stretch
  pub stretch_within : (p : Node) → IsWithin ss p → 0 < p.number → p.stretch < length ss
  stretch_within p within some = grind (arith, list_past)

  -- the first events of a node are the first ones of its stretch's list
  pub first_events : (p : Node) (n : ℕ) → n ≤ p.number → take n (events (entries_at ss p)) ≡ take n (events (stretch_list ss p.stretch))
  first_events p n h = events_of_first n (entries_at ss p) ∙ ap events (take-take n p.number (stretch_list ss p.stretch) h) ∙ sym (events_of_first n (stretch_list ss p.stretch))

  -- a node of the same stretch with no more entries begins the entries of the node
  pub fewer_begin : (p q : Node) → IsWithin ss p → q.stretch ≡ p.stretch → q.number ≤ p.number → IsWithin ss q × Begins (entries_at ss q) (entries_at ss p)
  fewer_begin p q within same fewer = grind (arith, within, fewer, length-take-le q.number (stretch_list ss p.stretch), take-take q.number p.number (stretch_list ss p.stretch))
