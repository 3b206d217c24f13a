-- The start of a session as a JSON value: the number of actors of a fresh world, or the parts of
-- any other world.
use Rattle.std.specs.Prelude.{◌≡◌, ◌≤◌, ◌⊎◌, ℕ, List, codes, Option, Some, None}
use Rattle.serde_json.specs.Data.{Data, number, array, object, unsigned, Items, no_members, member}
use Rattle.serde_json.specs.Find.{get}
use Rattle.rd_step.specs.Prelude.{World, MOST_ACTORS}
use Rattle.rd_step.specs.Starts.{fresh_world}
use Rattle.rd_step.specs.Parts.{world_of_parts, first_flaw}
use Rattle.rd_step.specs.declared.parts.Parts.{Parts}
use Rattle.rd_step.specs.declared.flaws.Flaw.{Flaw}
use Rattle.rd_trace.specs.Numbers.{member_count, number_at}
use Rattle.rd_trace.specs.Spelled.{SpellEachAt, items_by}
use Rattle.rd_trace.specs.Names.{segment_name_at, segment_name_data}
use Rattle.rd_trace.specs.Actors.{SpellsActor, actor_data}
use Rattle.rd_trace.specs.Segments.{SpellsSegmentList, segment_list_data}
use Rattle.rd_trace.specs.Arrays.{SpellsArray, array_data}
use Rattle.rd_trace.specs.declared.starts.Start.{Start}
use Rattle.rd_trace.specs.declared.starts.Start.TheVariants as start

-- an object has this number of actors, 1 to 16, at this key
pub record HasActorCount (key : List ℕ) (d : Data) (count : ℕ) : Type 0 where
  pub number : number_at key d ≡ Some count
  pub some : 1 ≤ count
  pub few : count ≤ MOST_ACTORS

-- a JSON value spells a fresh start: it is an object of one member, the number of actors of the
-- fresh world
pub record SpellsFreshStart (d : Data) (count : ℕ) : Type 0 where
  pub members : member_count d ≡ Some 1
  pub fresh : HasActorCount (codes "fresh") d count

-- if the start is fresh, it has 1 to 16 actors; parts of a world may have any number of actors
abbrev pub IsFreshCountInRange : {R : ℕ} → Start R → Type 0
IsFreshCountInRange (start.Fresh count) = (1 ≤ count) × (count ≤ MOST_ACTORS)
IsFreshCountInRange (start.Parts p) = Unit {0}

-- a JSON value spells parts of a world: it is an object of just five members, one for each of the
-- parts
pub record SpellsParts {R : ℕ} (d : Data) (p : Parts R) : Type 0 where
  pub members : member_count d ≡ Some 5
  pub actors : SpellEachAt SpellsActor (codes "actors") d p.actors.items
  pub array : (e : Data) × (get (codes "array") d ≡ Some e) × SpellsArray e p.array
  pub qhead : segment_name_at (codes "qhead") d ≡ Some p.qhead
  pub qtail : segment_name_at (codes "qtail") d ≡ Some p.qtail
  pub segments : SpellEachAt SpellsSegmentList (codes "segments") d p.segments.items

-- a JSON value spells a start, a fresh one or the parts of a world
abbrev pub SpellsStart : {R : ℕ} → Data → Start R → Type 0
SpellsStart d (start.Fresh count) = SpellsFreshStart d count
SpellsStart d (start.Parts p) = SpellsParts d p

-- the world of a start: the fresh world with its actors, or the world of its parts
abbrev pub start_world : {R : ℕ} → Start R → World
start_world {R} (start.Fresh count) = fresh_world R count
start_world (start.Parts p) = world_of_parts p

-- the first condition of a well-formed world that the parts of a start fail; none if they meet all,
-- and for a fresh start
abbrev pub start_flaw : {R : ℕ} → Start R → Option Flaw
start_flaw (start.Fresh count) = None
start_flaw (start.Parts p) = first_flaw p

-- a JSON value spells a start that has no flaw, and whose world is this one
abbrev pub SpellsWorld : World → Data → Type 0
SpellsWorld w d = (begun : Start w.ring) × SpellsStart d begun × (start_flaw begun ≡ None) × (start_world begun ≡ w)

-- the JSON value as which the fresh start with this many actors is written
abbrev pub fresh_data : ℕ → Data
fresh_data count = object (member (codes "fresh") (number (unsigned count)) no_members)

-- the JSON object of a world's parts, from the values of the parts
abbrev pub parts_object : Items → Data → Data → Data → Items → Data
parts_object actors slots qhead qtail segments = object (
    member (codes "actors") (array actors)
    (member (codes "array") slots
    (member (codes "qhead") qhead
    (member (codes "qtail") qtail
    (member (codes "segments") (array segments) no_members)))))

-- the JSON value as which parts of a world are written
abbrev pub parts_data : {R : ℕ} → Parts R → Data
parts_data p = parts_object (items_by actor_data p.actors.items) (array_data p.array) (segment_name_data p.qhead) (segment_name_data p.qtail) (items_by segment_list_data p.segments.items)

-- the start in this world may be written as this JSON value: as a fresh start, if the world is the
-- fresh one of 1 to 16 actors; or, if the world isn't fresh for any number of actors, as parts of
-- it that have no flaw
abbrev pub IsStartWrittenAs : World → Data → Type 0
IsStartWrittenAs w d =
    ((count : ℕ) × (w ≡ fresh_world w.ring count) × (1 ≤ count) × (count ≤ MOST_ACTORS) × (d ≡ fresh_data count))
    ⊎ (((count : ℕ) → w ≡ fresh_world w.ring count → ⊥) × (p : Parts w.ring) × (first_flaw p ≡ None) × (world_of_parts p ≡ w) × (d ≡ parts_data p))

-- the start in this world may be written as this JSON value, and the value spells it
pub record IsStartValue (w : World) (d : Data) : Type 0 where
  pub written : IsStartWrittenAs w d
  pub spelled : SpellsWorld w d
