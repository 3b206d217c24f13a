-- Well-formed worlds.
use Rattle.std.specs.Option.{option_map_or}
use Rattle.std.specs.Prelude.{◌≡◌, ℕ, zero, suc, ◌+◌, ◌≤◌, Bool, true, false, not, ◌==◌, ◌&&◌, nat_lt, nat_le, Option, is_some, IsTrue}
use Rattle.rd_ring.specs.Prelude.{COUNTER_END, MOST_SEGMENTS, SLOTS, MOST_ACTORS, SegName, Place, Content, root, is_there, can_hold}
use Rattle.rd_actor.specs.declared.actors.Actor.{Actor}
use Rattle.rd_actor.specs.Words.{words_fit}
use Rattle.rd_step.specs.World.{World}
use Rattle.rd_cell.specs.declared.places.Place.TheVariants as place
use Rattle.rd_cell.specs.declared.contents.Content.TheVariants as content

-- a test of segment names: whether the segment is there
abbrev pub Presence : Type 0
Presence = SegName → Bool

-- whether a place belongs to a world with rings of R cells: the queue's ends and the array's places
-- do, and the places of each segment that is there. A cell and the whole of a segment only name
-- several places, and don't
abbrev pub belongs : ℕ → Presence → Place → Bool
belongs R there place.QHead = true
belongs R there place.QTail = true
belongs R there (place.Head s) = there s
belongs R there (place.Tail s) = there s
belongs R there (place.Next s) = there s
belongs R there (place.Val s i) = nat_lt i R && there s
belongs R there (place.Idx s i) = nat_lt i R && there s
belongs R there place.ArrHead = true
belongs R there place.ArrTail = true
belongs R there (place.ArrCell i) = nat_lt i SLOTS
belongs R there _ = false

-- whether the segment that a next names is there; true if it names none
abbrev pub next_fits : Presence → Option SegName → Bool
next_fits there next = option_map_or there next true

-- whether the segment that a content names is there; true if it names none
abbrev pub segments_named_fit : Presence → Content → Bool
segments_named_fit there (content.Name s) = there s
segments_named_fit there (content.Next m) = next_fits there m
segments_named_fit there _ = true

-- the greatest index over rings of R cells: the greatest position, 2^62, one round on
abbrev pub index_end : ℕ → ℕ
index_end R = COUNTER_END + R

-- whether the index in a content is at most `end`; true if it has none
abbrev pub index_within : ℕ → Content → Bool
index_within end (content.Cell c) = nat_le c.idx end
index_within end (content.Idx safe idx) = nat_le idx end
index_within end _ = true

-- whether a content fits its place, over rings of R cells: the place can hold it, the segment that
-- it names, if any, is there, and its index, if it has one, is at most `index_end R`
abbrev pub content_fits : ℕ → Presence → Place → Content → Bool
content_fits R there p c = can_hold p c && segments_named_fit there c && index_within (index_end R) c

-- whether the content of a place fits it; true if the place has none
abbrev pub place_fits : ℕ → Presence → Place → Option Content → Bool
place_fits R there p o = option_map_or (content_fits R there p) o true

-- whether the segments that an actor's words name are there
abbrev pub names_fit : Presence → Actor → Bool
names_fit there a = there a.crq && there a.new && there a.next

-- whether an actor's t and h are at most 2^62, and its idx at most `end`
abbrev pub numbers_within : ℕ → Actor → Bool
numbers_within end a = nat_le a.t COUNTER_END && nat_le a.h COUNTER_END && nat_le a.idx end

-- whether an actor's record fits a world with rings of R cells: the segments that it names are
-- there, its numbers are not past their ends, and its words fit its control point
abbrev pub record_fits : ℕ → Presence → Actor → Bool
record_fits R there a = names_fit there a && numbers_within (index_end R) a && words_fit a

-- whether an actor's record fits; true if there is no such actor
abbrev pub actor_fits : ℕ → Presence → Option Actor → Bool
actor_fits R there o = option_map_or (record_fits R there) o true

-- there are 1 to 16 actors, numbered from 1 without a gap
pub record IsNumbered (is_actor : ℕ → Bool) : Type 0 where
  pub first : IsTrue (is_actor 1)
  pub from_one : IsTrue (not (is_actor 0))
  pub to_most : (n : ℕ) → IsTrue (is_actor n) → n ≤ MOST_ACTORS
  pub no_gap : (n : ℕ) → IsTrue (is_actor (suc (suc n))) → IsTrue (is_actor (suc n))

-- whether a segment with this maker and number may be there: number 0 of maker 0, which is the
-- root, or one of the first 65,535 of an actor
abbrev pub may_be_there : (ℕ → Bool) → ℕ → ℕ → Bool
may_be_there is_actor zero n = n == 0
may_be_there is_actor (suc m) n = is_actor (suc m) && nat_lt n MOST_SEGMENTS

-- the root is there, each other segment is one of the first 65,535 of an actor, and a maker's
-- segments are numbered from 0 without a gap
pub record AreMade (is_actor : ℕ → Bool) (there : Presence) : Type 0 where
  pub rooted : IsTrue (there root)
  pub makers : (s : SegName) → IsTrue (there s) → IsTrue (may_be_there is_actor s.maker s.n)
  pub no_gap : (m n : ℕ) → IsTrue (there (record { maker = m; n = suc n })) → IsTrue (there (record { maker = m; n = n }))

-- whether there is an actor of this number
abbrev pub is_actor : (ℕ → Option Actor) → ℕ → Bool
is_actor actors n = is_some (actors n)

-- a world is well-formed, whatever the size of its rings: the actors are `numbered` from 1, and the
-- segments are `made` by them
pub record IsWellFormed (w : World) : Type 0 where
  pub numbered : IsNumbered (is_actor w.actor)
  pub made : AreMade (is_actor w.actor) (is_there w.at)
  -- exactly the places that belong to the world are there
  pub places : (p : Place) → is_some (w.at p) ≡ belongs w.ring (is_there w.at) p
  -- the content of each place and the record of each actor fit
  pub contents : (p : Place) → IsTrue (place_fits w.ring (is_there w.at) p (w.at p))
  pub actors : (n : ℕ) → IsTrue (actor_fits w.ring (is_there w.at) (w.actor n))
