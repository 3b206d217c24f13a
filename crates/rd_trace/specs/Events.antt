-- Events as JSON values: which values spell which events, and the value as which an event is
-- written.
use Rattle.std.specs.Prelude.{ℕ, List, codes, bytes_eq, if◌then◌else◌, Option, Some, None, option_map, option_and_then}
use Rattle.serde_json.specs.Data.{Data, boolean, number, string, array, unsigned, Items, no_items, item}
use Rattle.serde_json.specs.Find.{as_bool, as_str, as_array}
use Rattle.rd_step.specs.Prelude.{Act}
use Rattle.rd_actor.specs.declared.actors.Act.TheVariants as act
use Rattle.rd_step.specs.declared.entries.Event.{Event}
use Rattle.rd_trace.specs.Numbers.{whole_number, byte_number}

-- the act of a word that takes no value; none for any other word
abbrev pub act_of_word : List ℕ → Option Act
act_of_word word =
    if bytes_eq word (codes "go") then Some act.Go
    else if bytes_eq word (codes "deq") then Some act.Deq
    else if bytes_eq word (codes "adeq") then Some act.ADeq
    else None

-- the act of a word that takes a number to enqueue or a choice, with this JSON value; none for any
-- other word, or if the value is of another kind
abbrev pub act_with_value : List ℕ → Data → Option Act
act_with_value word d =
    if bytes_eq word (codes "enq") then option_map act.Enq (whole_number d)
    else if bytes_eq word (codes "aenq") then option_map act.AEnq (whole_number d)
    else if bytes_eq word (codes "starve") then option_map act.Starve (as_bool d)
    else None

-- the event of this act and this actor; none if one of them is missing
abbrev pub event_of_act_and_actor : Option Act → Option ℕ → Option Event
event_of_act_and_actor asked actor = option_and_then (λ known. option_map (λ n. record { actor = n; act = known }) actor) asked

-- the event that the items of a list spell: its word and its actor, and the number or the choice if
-- its word takes one; none if they spell none
abbrev pub event_of_items : Items → Option Event
event_of_items (item word (item actor no_items)) = event_of_act_and_actor (option_and_then act_of_word (as_str word)) (byte_number actor)
event_of_items (item word (item actor (item d no_items))) = event_of_act_and_actor (option_and_then (λ w. act_with_value w d) (as_str word)) (byte_number actor)
event_of_items _ = None

-- the event that a JSON value spells; none if it spells none
abbrev pub event_of : Data → Option Event
event_of d = option_and_then event_of_items (as_array d)

-- the JSON value of an event whose word takes no value: a list of the word and the actor
abbrev pub event_pair : List ℕ → ℕ → Data
event_pair word actor = array (item (string word) (item (number (unsigned actor)) no_items))

-- the JSON value of an event whose word takes a number or a choice: a list of the word, the actor
-- and that number or choice
abbrev pub event_triple : List ℕ → ℕ → Data → Data
event_triple word actor d = array (item (string word) (item (number (unsigned actor)) (item d no_items)))

-- the JSON value of an event, from its actor and its act
abbrev pub event_array : ℕ → Act → Data
event_array actor (act.Enq x) = event_triple (codes "enq") actor (number (unsigned x))
event_array actor act.Deq = event_pair (codes "deq") actor
event_array actor (act.AEnq x) = event_triple (codes "aenq") actor (number (unsigned x))
event_array actor act.ADeq = event_pair (codes "adeq") actor
event_array actor act.Go = event_pair (codes "go") actor
event_array actor (act.Starve choice) = event_triple (codes "starve") actor (boolean choice)

-- the JSON value as which an event is written
abbrev pub event_data : Event → Data
event_data e = event_array e.actor e.act
