-- A world that is put together from parts, and the first flaw of such parts.
use Rattle.std.specs.Prelude.{◌≡◌, ℕ, suc, Bool, not, ◌==◌, ◌&&◌, nat_le, if◌then◌else◌, length, Option, Some, None, is_some}
use Rattle.std.specs.List.{list_all}
use Rattle.rd_ring.specs.Prelude.{MOST_SEGMENTS, SLOTS, MOST_ACTORS}
use Rattle.rd_ring.specs.declared.parts.SegmentParts.{SegmentParts}
use Rattle.rd_ring.specs.Segments.{counters_fit}
use Rattle.rd_segments.specs.declared.array.ArrayParts.{ArrayParts}
use Rattle.rd_segments.specs.Lists.{by_name, segment_count}
use Rattle.rd_segments.specs.Parts.{contents_of_parts, each_segment}
use Rattle.rd_actor.specs.Words.{words_fit}
use Rattle.rd_step.specs.World.{World}
use Rattle.rd_step.specs.declared.parts.Parts.{Parts}
use Rattle.rd_step.specs.declared.flaws.Flaw.{Flaw}
use Rattle.rd_step.specs.declared.flaws.Flaw.TheVariants.{Makers, PlaceNames, ActorNames, Counters, Indexes, ArrayCounters, ActorNumbers, ActorWords}
use Rattle.rd_step.specs.declared.flaws.Unassembled.{Unassembled}
use Rattle.rd_step.specs.declared.flaws.Unassembled.TheVariants as unassembled
use Rattle.rd_step.specs.Lists.{numbered}
use Rattle.rd_step.specs.WellFormed.{Presence, index_end, next_fits, names_fit, numbers_within}

-- the model's world that these parts describe
abbrev pub world_of_parts : {R : ℕ} → Parts R → World
world_of_parts {R} p = record { ring = R; at = contents_of_parts p.segments.items p.qhead p.qtail p.array; actor = numbered p.actors.items }

-- for each name, whether the parts have a segment with it
abbrev pub has_segment : {R : ℕ} → Parts R → Presence
has_segment p s = is_some (by_name p.segments.items s)

-- condition 1: there are 1 to 16 actors, and a list of segments for each maker from 0 to their
-- number. Maker 0's list has one segment, the root, and each other list at most 65,535
abbrev pub makers_fit : {R : ℕ} → Parts R → Bool
makers_fit p =
    nat_le 1 (length p.actors.items) && nat_le (length p.actors.items) MOST_ACTORS
    && (length p.segments.items == suc (length p.actors.items)) && (segment_count p.segments.items 0 == 1)
    && list_all (λ list. nat_le (length list.items) MOST_SEGMENTS) p.segments.items

-- condition 2: the queue's ends, and each next that is set, name a segment that is there
abbrev pub place_names_fit : {R : ℕ} → Parts R → Bool
place_names_fit p = has_segment p p.qhead && has_segment p p.qtail && each_segment (λ s. next_fits (has_segment p) s.next) p.segments.items

-- condition 3: each actor's words name segments that are there
abbrev pub actor_names_fit : {R : ℕ} → Parts R → Bool
actor_names_fit p = list_all (names_fit (has_segment p)) p.actors.items

-- condition 5: the index of each of a segment's cells is at most `end`
abbrev pub indexes_fit : {R : ℕ} → ℕ → SegmentParts R → Bool
indexes_fit end s = list_all (λ c. nat_le c.idx end) s.cells

-- condition 6: the array's counters are at most 64
abbrev pub array_fits : ArrayParts → Bool
array_fits a = nat_le a.head SLOTS && nat_le a.tail SLOTS

-- the first condition of a well-formed world that these parts fail, in the order of the conditions;
-- none if they meet all
abbrev pub first_flaw : {R : ℕ} → Parts R → Option Flaw
first_flaw {R} p =
    if not (makers_fit p) then Some Makers
    else if not (place_names_fit p) then Some PlaceNames
    else if not (actor_names_fit p) then Some ActorNames
    else if not (each_segment counters_fit p.segments.items) then Some Counters
    else if not (each_segment (indexes_fit (index_end R)) p.segments.items) then Some Indexes
    else if not (array_fits p.array) then Some ArrayCounters
    else if not (list_all (numbers_within (index_end R)) p.actors.items) then Some ActorNumbers
    else if not (list_all words_fit p.actors.items) then Some ActorWords
    else None

-- the number of a flaw, 1 to 8
abbrev pub flaw_number : Flaw → ℕ
flaw_number Makers = 1
flaw_number PlaceNames = 2
flaw_number ActorNames = 3
flaw_number Counters = 4
flaw_number Indexes = 5
flaw_number ArrayCounters = 6
flaw_number ActorNumbers = 7
flaw_number ActorWords = 8

-- why no world is put together from these parts: a flaw is the first that they have, and `NoMemory`
-- is the cause only if they have none
abbrev pub RefusesParts : {R : ℕ} → Parts R → Unassembled → Type 0
RefusesParts p (unassembled.Flaw flaw) = first_flaw p ≡ Some flaw
RefusesParts p unassembled.NoMemory = first_flaw p ≡ None
