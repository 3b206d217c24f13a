-- Actors as JSON values: an object with a member for each part of an actor's record.
use Rattle.std.specs.Option.{option_map_or}
use Rattle.std.specs.Prelude.{◌≡◌, ℕ, List, codes, bytes_eq, if◌then◌else◌, Option, Some, None, option_map, option_and_then}
use Rattle.serde_json.specs.Data.{Data, null, boolean, number, string, array, object, unsigned, Items, no_items, item, no_members, member}
use Rattle.serde_json.specs.Find.{get, as_str, as_u64}
use Rattle.rd_actor.specs.declared.actors.Actor.{Actor}
use Rattle.rd_actor.specs.declared.actors.Op.{Op}
use Rattle.rd_actor.specs.declared.actors.Op.TheVariants as op
use Rattle.rd_actor.specs.Labels.{label}
use Rattle.rd_trace.specs.Numbers.{whole_number, member_count, number_at, byte_at, bit_at, text_at}
use Rattle.rd_trace.specs.Names.{segment_name_at, segment_name_data}

-- what a JSON value spells as the value of a cell or an actor, where `null` is `Some None`, no
-- value; none if the JSON value is neither `null` nor a whole number
abbrev pub val_of : Data → Option (Option ℕ)
val_of null = Some None
val_of (number n) = option_map Some (as_u64 n)
val_of _ = None

-- the JSON value as which the value of a cell or an actor is written; `null` for no value
abbrev pub val_data : Option ℕ → Data
val_data o = option_map_or (λ x. number (unsigned x)) o null

-- the call that a word spells without a number after it, in the form of `op_of`; none for any other
-- word
abbrev pub op_of_word : List ℕ → Option (Option Op)
op_of_word word =
    if bytes_eq word (codes "deq") then Some (Some op.Deq)
    else if bytes_eq word (codes "adeq") then Some (Some op.ADeq)
    else None

-- the call that a word and a number spell, in the form of `op_of`; none for any other word
abbrev pub op_of_word_and_number : List ℕ → ℕ → Option (Option Op)
op_of_word_and_number word x =
    if bytes_eq word (codes "enq") then Some (Some (op.Enq x))
    else if bytes_eq word (codes "aenq") then Some (Some (op.AEnq x))
    else None

-- the call that the items of a list spell, in the form of `op_of`: a word, or a word and a number;
-- none if they spell none
abbrev pub op_of_items : Items → Option (Option Op)
op_of_items (item word no_items) = option_and_then op_of_word (as_str word)
op_of_items (item word (item d no_items)) = option_and_then (λ w. option_and_then (op_of_word_and_number w) (whole_number d)) (as_str word)
op_of_items _ = None

-- the call that a JSON value spells, where `null` is `Some None`, no call; none if the value spells
-- neither
abbrev pub op_of : Data → Option (Option Op)
op_of null = Some None
op_of (array ds) = op_of_items ds
op_of _ = None

-- the JSON value as which a call is written; `null` for no call
abbrev pub op_data : Option Op → Data
op_data None = null
op_data (Some (op.Enq x)) = array (item (string (codes "enq")) (item (number (unsigned x)) no_items))
op_data (Some op.Deq) = array (item (string (codes "deq")) no_items)
op_data (Some (op.AEnq x)) = array (item (string (codes "aenq")) (item (number (unsigned x)) no_items))
op_data (Some op.ADeq) = array (item (string (codes "adeq")) no_items)

-- a JSON value spells an actor: it is an object of just twelve members, one for each part of the
-- actor's record
pub record SpellsActor (d : Data) (a : Actor) : Type 0 where
  pub members : member_count d ≡ Some 12
  pub closed : bit_at (codes "closed") d ≡ Some a.closed
  pub crq : segment_name_at (codes "crq") d ≡ Some a.crq
  pub h : number_at (codes "h") d ≡ Some a.h
  pub idx : number_at (codes "idx") d ≡ Some a.idx
  pub new : segment_name_at (codes "new") d ≡ Some a.new
  pub next : segment_name_at (codes "next") d ≡ Some a.next
  pub op : option_and_then op_of (get (codes "op") d) ≡ Some a.op
  pub pass : byte_at (codes "pass") d ≡ Some a.pass
  pub pc : text_at (codes "pc") d ≡ Some (label a.pc)
  pub safe : bit_at (codes "safe") d ≡ Some a.safe
  pub t : number_at (codes "t") d ≡ Some a.t
  pub val : option_and_then val_of (get (codes "val") d) ≡ Some a.val

-- the JSON value as which an actor is written
abbrev pub actor_data : Actor → Data
actor_data a = object (
    member (codes "closed") (boolean a.closed)
    (member (codes "crq") (segment_name_data a.crq)
    (member (codes "h") (number (unsigned a.h))
    (member (codes "idx") (number (unsigned a.idx))
    (member (codes "new") (segment_name_data a.new)
    (member (codes "next") (segment_name_data a.next)
    (member (codes "op") (op_data a.op)
    (member (codes "pass") (number (unsigned a.pass))
    (member (codes "pc") (string (label a.pc))
    (member (codes "safe") (boolean a.safe)
    (member (codes "t") (number (unsigned a.t))
    (member (codes "val") (val_data a.val) no_members))))))))))))
