-- Which accesses and answers fit. An actor whose record fits asks for an access that fits.
use Rattle.rd_step.proofs.Prelude.{nat_lt, ◌≡◌, ℕ, Bool, true, ◌&&◌, nat_le, arith, Option, Some, IfOk, and_parts, SLOTS, COUNTER_END, SegName, Place, Access, NoPlace, At, Make, Answer, Operation, AddArray, CasName, CasNext, Cas2, Act, Actor, Pc, need, need_at, words_fit, Presence, names_fit, numbers_within, record_fits, actor_fits, index_end, subst, World, IsWellFormed, is_there}
use Rattle.rd_cell.specs.Operations.{keeps_limits}
use Rattle.rd_cell.specs.declared.contents.Content.TheVariants as content
use Rattle.rd_cell.specs.declared.operations.Answer.TheVariants as answer

-- A record that fits, by its parts

-- the names and numbers of a record that fits, each by itself
pub record NamesAndNumbersFit (R : ℕ) (there : Presence) (a : Actor) : Type 0 where
  pub crq : there a.crq ≡ true
  pub new : there a.new ≡ true
  pub next : there a.next ≡ true
  pub t : nat_le a.t COUNTER_END ≡ true
  pub h : nat_le a.h COUNTER_END ≡ true
  pub idx : nat_le a.idx (index_end R) ≡ true

-- a record that fits has these parts
pub record_fits-names_and_numbers : (R : ℕ) (there : Presence) (a : Actor) → record_fits R there a ≡ true → NamesAndNumbersFit R there a
record_fits-names_and_numbers R there a fits = grind arith

-- the words of a record that fits fit its control point
pub record_fits-words : (R : ℕ) (there : Presence) (a : Actor) → record_fits R there a ≡ true → words_fit a ≡ true
record_fits-words R there a fits = (and_parts (names_fit there a && numbers_within (index_end R) a) (words_fit a) fits).1

-- conversely, these parts and words that fit make a record that fits
pub record_fits-from_both : (R : ℕ) (there : Presence) (a : Actor) → NamesAndNumbersFit R there a → words_fit a ≡ true → record_fits R there a ≡ true
record_fits-from_both R there a f words = grind arith

-- the record of an actor of a well-formed world fits
pub record_fits-well_formed : (w : World) (n : ℕ) (a : Actor) → IsWellFormed w → w.actor n ≡ Some a → record_fits w.ring (is_there w.at) a ≡ true
record_fits-well_formed w n a formed has = subst (λ (o : Option Actor). actor_fits w.ring (is_there w.at) o ≡ true) has (formed.actors n)

-- What fits goes on to fit if more segments are there

-- each segment that is there at first is there afterwards
abbrev pub Grows : Presence → Presence → Type 0
Grows there there' = (s : SegName) → there s ≡ true → there' s ≡ true

-- a record that fits goes on to fit if more segments are there
pub record_grows : (R : ℕ) (there there' : Presence) (a : Actor) → Grows there there' → record_fits R there a ≡ true
    → record_fits R there' a ≡ true
record_grows R there there' a more h = grind arith

-- an actor whose record fits goes on to fit if more segments are there
pub actor_grows : (R : ℕ) (there there' : Presence) (o : Option Actor) → Grows there there' → actor_fits R there o ≡ true
    → actor_fits R there' o ≡ true
actor_grows R there there' o more h = grind arith

-- The access for which an actor asks

-- whether the name or the index that an operation would write fits
abbrev pub new_fits : ℕ → Presence → Operation → Bool
new_fits R there (CasName old new) = there new
new_fits R there (CasNext new) = there new
new_fits R there (Cas2 old new) = nat_le new.idx (index_end R)
new_fits R there _ = true

-- whether an operation keeps the limits of its place, and what it would write there fits
abbrev pub op_fits : ℕ → Presence → Place → Operation → Bool
op_fits R there p op = keeps_limits p op && new_fits R there op

-- whether an access fits: its operation does; true if it has none
abbrev pub access_fits : ℕ → Presence → Access → Bool
access_fits R there NoPlace = true
access_fits R there (At p op) = op_fits R there p op
access_fits R there (Make x) = true

-- whether an answer fits: a segment that it names is there, and its numbers are not past their ends
abbrev pub answer_fits : ℕ → Presence → Answer → Bool
answer_fits R there (answer.Found (content.Name s)) = there s
answer_fits R there (answer.Found (content.Number g)) = nat_le g COUNTER_END
answer_fits R there (answer.Found (content.Tail closed count)) = nat_le count COUNTER_END
answer_fits R there (answer.Found (content.Next (Some m))) = there m
answer_fits R there (answer.SafeAndIndex safe idx) = nat_le idx (index_end R)
answer_fits R there (answer.Made s) = there s
answer_fits R there _ = true

-- whether the array has a slot for the position that a fetch-and-add on it drew; true for all other
-- operations
abbrev pub has_slot : Operation → Answer → Bool
has_slot AddArray (answer.Found (content.Number g)) = nat_lt g SLOTS
has_slot _ _ = true

-- whether the array has a slot for the position that this access drew there; true for all other
-- accesses
abbrev pub drew_slot : Access → Answer → Bool
drew_slot (At p op) answer = has_slot op answer
drew_slot _ answer = true

-- each row of an actor whose names and numbers fit has an access that fits
need_at_fits : (R : ℕ) (there : Presence) (pc : Pc) (a : Actor) → NamesAndNumbersFit R there a
    → IfOk (need_at R pc a) (λ x. access_fits R there x ≡ true)
need_at_fits R there pc a f = grind arith

-- an actor whose record fits asks for an access that fits
pub need_fits : (R : ℕ) (there : Presence) (a : Actor) (act : Act) → record_fits R there a ≡ true
    → IfOk (need R a act) (λ x. access_fits R there x ≡ true)
need_fits R there a act h = grind (arith, need_at_fits, record_fits-names_and_numbers)
