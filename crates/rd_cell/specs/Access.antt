-- What each access does to the contents of all places.
use Rattle.std.specs.Prelude.{◌≡◌, ◌<◌, ◌≤◌, ℕ, zero, suc, ◌+◌, Bool, true, nat_lt, if◌then◌else◌, Option, Some, None, ok_or, Result, Ok, Err}
use Rattle.rd_cell.specs.declared.limits.TheConstants.{MOST_SEGMENTS}
use Rattle.rd_cell.specs.declared.places.SegName.{SegName}
use Rattle.rd_cell.specs.declared.places.Place.{Place}
use Rattle.rd_cell.specs.declared.places.Place.TheVariants as place
use Rattle.rd_cell.specs.declared.places.Wrote.{Wrote}
use Rattle.rd_cell.specs.declared.places.Wrote.TheVariants as wrote
use Rattle.rd_cell.specs.declared.contents.Content.{Content}
use Rattle.rd_cell.specs.declared.operations.Operation.{Operation}
use Rattle.rd_cell.specs.declared.operations.Answer.{Answer}
use Rattle.rd_cell.specs.declared.operations.Answer.TheVariants as answer
use Rattle.rd_cell.specs.declared.access.Access.{Access}
use Rattle.rd_cell.specs.declared.access.Access.TheVariants.{NoPlace, At, Make}
use Rattle.rd_cell.specs.declared.access.Done.{Done}
use Rattle.rd_cell.specs.declared.refusal.Refusal.{Refusal}
use Rattle.rd_cell.specs.declared.refusal.Refusal.TheVariants as refusal
use Rattle.rd_cell.specs.Places.{place_eq, written}
use Rattle.rd_cell.specs.Contents.{is_there, Contents, share, after_some_write, restore, operand, segment_holding}
use Rattle.rd_cell.specs.Operations.{Effect, effect, wrote_by, keeps_limits}
use Rattle.rd_cell.specs.Results.{and_then, result_map}

-- what an access did: its `place` and that place's `old` content, each none if there is none; its
-- `answer`; which part of the place it `wrote`; and `given`, which has the new content of each
-- place that it wrote, and means nothing elsewhere
pub record Performed : Type 0 where
  pub place : Option Place
  pub old : Option Content
  pub answer : Answer
  pub wrote : Wrote
  pub given : Contents

-- the contents of all places after this access, given those before it
abbrev pub contents_after : Performed → Contents → Contents
contents_after did = after_some_write (written did.place did.wrote) did.given

-- the part of what an access did that the entry of its step records
abbrev pub done_of : Performed → Done
done_of did = record { place = did.place; old = did.old; answer = did.answer; wrote = did.wrote }

-- the number of the maker's first segment, from number n on, that is not there. The first argument
-- says how many names are tried at most; if all of them are there, the answer is the number after
-- the last
unfoldable pub number_made_from : ℕ → Contents → ℕ → ℕ → ℕ
number_made_from zero at maker n = n
number_made_from (suc more) at maker n =
    if is_there at (record { maker = maker; n = n }) then number_made_from more at maker (n + 1) else n

-- the number of segments that the maker has made, which its next one gets as its number: the first
-- number, from 0 on, of which it has no segment, or 65,535 if it has all below that
unfoldable pub number_made : Contents → ℕ → ℕ
number_made at maker = number_made_from MOST_SEGMENTS at maker 0

-- what a step without an access did: nothing
abbrev pub no_access : Performed
no_access = record { place = None; old = None; answer = answer.Nothing; wrote = wrote.Nothing; given = λ q. None }

-- what an operation with this effect did at a place that had this content
abbrev pub performed_at : Place → Content → Effect → Performed
performed_at p c e = record { place = Some p; old = Some c; answer = e.answer; wrote = wrote_by c e.writes; given = share p e.writes }

-- what an operation does at a place with this content; `NoSuchPlace` without a content, and
-- otherwise refused as `effect` refuses it
abbrev pub operate : Place → Operation → Option Content → Result Performed Refusal
operate p op o = and_then (ok_or o refusal.NoSuchPlace) (λ c. result_map (performed_at p c) (effect op c))

-- what the making of this segment does: it writes all places of the segment, with the contents
-- `given`; `SegmentsEnd` if its number is 65,535 or more
abbrev pub make : SegName → Contents → Result Performed Refusal
make s given =
    if nat_lt s.n MOST_SEGMENTS
    then Ok (record { place = Some (place.Whole s); old = None; answer = answer.Made s; wrote = wrote.Place; given = given })
    else Err refusal.SegmentsEnd

-- what an access by this actor does over rings of R cells, if `at` has the content of each place
-- before it
abbrev pub perform : ℕ → ℕ → Contents → Access → Result Performed Refusal
perform R actor at NoPlace = Ok no_access
perform R actor at (At p op) = operate p op (operand at p)
perform R actor at (Make x) = make (record { maker = actor; n = number_made at actor }) (segment_holding R x)

-- whether the operation of this access keeps the limits of its place; true without an operation
abbrev pub access_keeps_limits : Access → Bool
access_keeps_limits (At p op) = keeps_limits p op
access_keeps_limits _ = true

-- the access whose result is `does` wasn't refused and took place: `performed` is what it did,
-- `done` is what the entry of its step records, and each place at which we look has in `new` the
-- content that the access leaves there, given `old`
pub record HasEffect (looked_at : Place → Bool) (does : Result Performed Refusal) (done : Done) (old new : Contents) : Type 0 where
  pub performed : Performed
  pub performs : does ≡ Ok performed
  pub keeps : done_of performed ≡ done
  pub leaves : (q : Place) → looked_at q ≡ true → new q ≡ contents_after performed old q

-- the test that every place passes: we look at all places
abbrev pub everywhere : Place → Bool
everywhere q = true

-- the operation was done at this place, and left its effect at each place at which we look
abbrev pub Operates : (Place → Bool) → Place → Operation → Done → Contents → Contents → Type 0
Operates looked_at p op done old new = HasEffect looked_at (operate p op (operand old p)) done old new

-- the operation was done at this place, which has no parts such as a cell's halves, and turned its
-- old content into the new one; no other place is looked at
abbrev pub OperatesOnContent : Place → Operation → Done → Content → Content → Type 0
OperatesOnContent p op done old new = HasEffect (place_eq p) (operate p op (Some old)) done (λ q. Some old) (λ q. Some new)

-- this segment was made, its places have the contents `given`, and no other place changed
abbrev pub Makes : SegName → Contents → Contents → Contents → Type 0
Makes s given old new =
    HasEffect everywhere (make s given) (record { place = Some (place.Whole s); old = None; answer = answer.Made s; wrote = wrote.Place }) old new

-- the new contents are the old ones with this content put back at the place or, if it is none, with
-- the places that this place covers removed. They are compared only at the places at which we look
abbrev pub Restores : (Place → Bool) → Place → Option Content → Contents → Contents → Type 0
Restores looked_at p o old new = (q : Place) → looked_at q ≡ true → new q ≡ restore (Some p) o old q

-- this refusal can be why a maker that has made `number` segments, and has room for `room` more,
-- makes no further one: `SegmentsEnd` if it has made 65,535 or more, `NoMemory` if it has made
-- fewer and has no room, and no other refusal
abbrev pub RefusesMaking : ℕ → ℕ → Refusal → Type 0
RefusesMaking number room refusal.SegmentsEnd = MOST_SEGMENTS ≤ number
RefusesMaking number room refusal.NoMemory = (number < MOST_SEGMENTS) × (room ≡ 0)
RefusesMaking number room _ = ⊥
