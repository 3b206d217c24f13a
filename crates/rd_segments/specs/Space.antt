-- The space as public contracts see it.
use Rattle.std.specs.Prelude.{ℕ, length, vec_capacity}
use Rattle.rd_ring.specs.Prelude.{SegName, Contents}
use Rattle.rd_segments.specs.declared.array.ArrayParts.{ArrayParts}
use Rattle.rd_segments.specs.declared.space.Space.{Space}
use Rattle.rd_segments.specs.Lists.{segment_count}
use Rattle.rd_segments.specs.Room.{MakersRoom, makers_room as room_of_lists, room_of_maker}
use Rattle.rd_segments.specs.SpaceFields.{contents_of_fields}

-- the content of each place of the space
abbrev pub contents : {R : ℕ} → Space R → Contents
contents s = contents_of_fields s.makers.items s.qhead s.qtail s.array

-- the number of makers that have a list
abbrev pub list_count : {R : ℕ} → Space R → ℕ
list_count s = length s.makers.items

-- the number of makers' lists for which the space has memory
abbrev pub list_capacity : {R : ℕ} → Space R → ℕ
list_capacity s = vec_capacity s.makers

-- the number of segments that a maker has made and that are still there; 0 if it has no list. The
-- root counts as made by maker 0
abbrev pub making_count : {R : ℕ} → Space R → ℕ → ℕ
making_count s m = segment_count s.makers.items m

-- the number of further segments for which a maker's list has room, so that making them needs no
-- memory; 0 if it has no list
abbrev pub room : {R : ℕ} → Space R → ℕ → ℕ
room s m = room_of_maker s.makers.items m

-- the room of all makers of the space
abbrev pub makers_room : {R : ℕ} → Space R → MakersRoom
makers_room s = room_of_lists s.makers.items

-- the name of the segment at the queue's head
abbrev pub head_name : {R : ℕ} → Space R → SegName
head_name s = s.qhead

-- the name of the segment at the queue's tail
abbrev pub tail_name : {R : ℕ} → Space R → SegName
tail_name s = s.qtail

-- the words of the array
abbrev pub array_words : {R : ℕ} → Space R → ArrayParts
array_words s = s.array
