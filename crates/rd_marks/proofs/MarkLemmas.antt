-- The marks of a list of names with entries: looking one up, adding one and removing one.
use Rattle.rd_marks.specs.declared.commands.Command.TheVariants.{GotoMark}
use Rattle.rd_marks.proofs.Prelude.{inr, is_ok, ◌⊎◌, ◌≢◌, suc, Result, Err, IsOk, IfErr, ne_eqb, ◌≡◌, ℕ, Bool, true, false, cond, map, refl, sym, ap, ◌∙◌, subst, List, [], ◌∷◌, ◌++◌, length, is_some, option_map, Option, Some, All, slice_get, arith, lookup, remove_entry, remove_key, map-id, Entry, Event, MarkName, mark_name_eq, eq-eqb, false≢true, get_or_from_slice_get, slice_get-map, slice_get_within, Refusal, World, MOST_MARKS, Begins, Mark, BookState, events_by_name, mark, goto_mark, GotoMakesSteps, AnswersSame, marks_of, events, Node, book_state, state, entries_at, stretches_in, LacksRoomForEvents, MayRefuseIfGoto, NeedsCopy, Book, numbered, Ok}
use Rattle.std.proofs.lemmas.Map.Entries.{All-lookup}
use Rattle.std.proofs.lemmas.Map.Views.{All-map-remove_entry}
use Rattle.rd_cell.specs.declared.refusal.Refusal.TheVariants as refusal

-- the mark with a name and the events of its entries
abbrev pub mark_of : MarkName × List Entry → Mark
mark_of l = record { name = l.0; events = events l.1 }

-- a mark's name, and the number of its events
abbrev pub name_and_length : Mark → MarkName × ℕ
name_and_length m = (m.name, length m.events)

-- the book with these marks and its old session
abbrev pub with_marks : BookState → List Mark → BookState
with_marks b ms = record { session = b.session; marks = ms }

-- removing an entry commutes with a map over the values
pub removed_mapped : {K V W : Type 0} (f : V → W) (test : K → Bool) (ms : List (K × V)) → map (λ m. (m.0, f m.1)) (remove_entry test ms) ≡ remove_entry test (map (λ m. (m.0, f m.1)) ms)
removed_mapped f test [] = refl
removed_mapped f test (m ∷ ms) = grind (arith, cond, removed_mapped f test ms)

-- a fact about all entries holds of those that are left after a removal
pub all_without : {K V : Type 0} (test : K → Bool) (P : K × V → Type 0) (ms : List (K × V)) → All P ms → All P (remove_entry test ms)
all_without test P ms h = subst (All P) (map-id (remove_entry test ms)) (All-map-remove_entry test (λ m. m) P ms (subst (All P) (sym (map-id ms)) h))

pub all_found : {K V : Type 0} (test : K → Bool) (P : V → Type 0) (ms : List (K × V)) (v : V) → All (λ m. P m.1) ms → lookup test ms ≡ Some v → P v
all_found test P ms v h found = rw found at (All-lookup P test ms h)

pub all_at : {X : Type 0} (P : X → Type 0) (xs : List X) (k : ℕ) (x : X) → All P xs → slice_get xs k ≡ Some x → P x
all_at P xs k x h at = subst P (get_or_from_slice_get xs k x x at) (h k x (slice_get_within xs k x at))

module _ (name : MarkName) where
  -- looking up a name finds the events of its mark
  pub found_events : (ls : List (MarkName × List Entry)) → events_by_name (marks_of ls) name ≡ option_map (λ xs. events xs) (lookup (mark_name_eq name) ls)
  found_events [] = refl
  found_events (l ∷ ls) = grind (arith, option_map, cond, found_events ls)

  -- the lookup of a name finds something exactly if there is a mark of that name
  pub found_marked : (ls : List (MarkName × List Entry)) → is_some (events_by_name (marks_of ls) name) ≡ is_some (lookup (mark_name_eq name) ls)
  found_marked ls = grind (arith, found_events ls)

  -- without the entry of a name, there are just the marks without its mark
  pub marks_without : (ls : List (MarkName × List Entry)) → marks_of (remove_entry (mark_name_eq name) ls) ≡ remove_key (λ m. mark_name_eq name m.name) (marks_of ls)
  marks_without [] = refl
  marks_without (l ∷ ls) = grind (arith, cond, marks_without ls)

-- What the result of a lookup tells of the marks
module _ {X : Type 0} (f : X → List Entry) (name : MarkName) (ls : List (MarkName × List Entry)) (o : Option X) (b : Bool) (found : option_map f o ≡ lookup (mark_name_eq name) ls) (is : b ≡ is_some o) where
  pub found_at : is_some (events_by_name (marks_of ls) name) ≡ b
  found_at = grind (arith, found_marked name ls, found, is)

-- a mark is set if its name is new and there are fewer than MOST_MARKS
pub mark_goes : (b : BookState) (name : MarkName) → is_some (events_by_name b.marks name) ≡ false → length b.marks ≢ MOST_MARKS
    → mark b name ≡ Ok (with_marks b (b.marks ++ record { name = name; events = b.session.live } ∷ []))
mark_goes b name new few = rw (new, ne_eqb (length b.marks) MOST_MARKS few) refl

-- if nothing is found, a removal leaves the list as it is
pub none_removed : {K V : Type 0} (test : K → Bool) (ms : List (K × V)) → is_some (lookup test ms) ≡ false → remove_entry test ms ≡ ms
none_removed test [] h = refl
none_removed test (m ∷ ms) h = grind (arith, cond, none_removed test ms)

-- going to a mark that exists can only be refused with NoMemory, and only if it makes steps
pub goto_not_done : {X : Type 0} (P : Type 0) (r : Result X Refusal) (b : BookState) (name : MarkName) (es : List Event) → events_by_name b.marks name ≡ Some es
    → IfErr r (λ cause. (cause ≡ refusal.NoMemory) × P) → (Begins es b.session.live → IsOk r)
    → IfErr r (λ cause. (goto_mark b name ≡ Err cause) ⊎ ((cause ≡ refusal.NoMemory) × GotoMakesSteps b name))
goto_not_done P r b name es there h goes = grind arith

-- The comparison of two marks

module _ (w : World) (o p : Option (List Event)) where
  pub both_there : (es fs : List Event) (said : Result Bool Refusal) → o ≡ Some es → p ≡ Some fs → AnswersSame w (Some es) (Some fs) said → AnswersSame w o p said
  both_there es fs said h k a = rw (h, k) a

-- The mark of a number

-- looking up the i-th mark finds the mark of the entry there
pub mark_there : (ls : List (MarkName × List Entry)) (i j : ℕ) (o : Option (MarkName × List Entry)) → i ≡ suc j → slice_get ls j ≡ o → numbered (marks_of ls) i ≡ option_map mark_of o
mark_there ls i j o e h = rw e (slice_get-map mark_of ls j ∙ ap (option_map mark_of) h)

-- a mark is refused with MarkTaken if its name is taken
pub mark_taken : (b : BookState) (name : MarkName) → is_some (events_by_name b.marks name) ≡ true → mark b name ≡ Err refusal.MarkTaken
mark_taken b name h = rw h refl

pub mark_too_many : (b : BookState) (name : MarkName) → is_some (events_by_name b.marks name) ≡ false → length b.marks ≡ MOST_MARKS → mark b name ≡ Err refusal.TooManyMarks
mark_too_many b name new h = rw (new, eq-eqb (length b.marks) MOST_MARKS h) refl

-- a mark isn't both refused and set
pub mark_refused : {P : Type 0} (b : BookState) (name : MarkName) (refusal : Refusal) → mark b name ≡ Err refusal → IsOk (mark b name) → P
mark_refused b name refusal h goes = absurd (false≢true (sym (ap is_ok h) ∙ goes))

-- a refusal with NoMemory on the way to a mark is one that `MayRefuseIfGoto` allows
pub goto_lacks : {R : ℕ} {X : Type 0} (r : Result X Refusal) (b : Book R) (name : MarkName) (node : Node) → events_by_name (book_state b).marks name ≡ Some (events (entries_at (stretches_in b.bookmarks) node))
    → IfErr r (λ cause. (cause ≡ refusal.NoMemory) × (LacksRoomForEvents b.session (events (entries_at (stretches_in b.bookmarks) node)) ⊎ NeedsCopy (stretches_in b.bookmarks) node (state b.session).live)) → IfErr r (MayRefuseIfGoto b (GotoMark name))
goto_lacks (Ok x) b name node its h = tt
goto_lacks (Err cause) b name node its h = inr (h.0, record { node = node; its = its; lacks = h.1 })

-- Rules for reading a bookmark by its index, and for going to one or comparing two by name
pub ruleset at_steps = (option_map, slice_get-map, all_at)

pub ruleset goto_steps = (option_map, found_events, both_there, goto_lacks)
