-- Whole sessions as JSON values.
use Rattle.rd_trace.proofs.Prelude.{◌≡◌, refl, inl, inr, Err, NoMemory, BadTrace, same_Some, ℕ, ◌+◌, ◌<◌, List, [], ◌∷◌, ◌++◌, length, take, get_or, Some, None, Result, Ok, sym, ap, ◌∙◌, arith, length-map, take_more, get_or-map, Data, Entry, BookState, Reads, Gives, SpellEach, items_by, event_of, event_data, SpellsWorld, SpellMarksOfBook, mark_data, member_count, Trace, IsVersion1, IsVersion2, IsEitherVersion, loaded_state, saved_trace, book_data, TraceFault, start_flaw, events}
use mathlib.Core.Logic.{⊎_elim}
use Rattle.rd_trace.specs.declared.saved.SavedBook.{SavedBook}

-- ---- what is read

-- the result of reading an object of four members as version 1 is its result for both versions
pub version1_read : {R : ℕ} (d : Data) → member_count d ≡ Some 4 → (r : Result (SavedBook R) TraceFault) → Reads saved_trace (IsVersion1 d) r → Reads saved_trace (IsEitherVersion d) r
version1_read d four (Ok s) h = inl h
version1_read d four (Err NoMemory) h = tt
version1_read d four (Err BadTrace) h = λ t. ⊎_elim (h t) (λ (k : IsVersion2 d t). omega (arith, same_Some 6 4 (sym k.members ∙ four)))
version1_read d four (Err _) h = absurd h

pub version2_read : {R : ℕ} (d : Data) → member_count d ≡ Some 6 → (r : Result (SavedBook R) TraceFault) → Reads saved_trace (IsVersion2 d) r → Reads saved_trace (IsEitherVersion d) r
version2_read d six (Ok s) h = inr h
version2_read d six (Err NoMemory) h = tt
version2_read d six (Err BadTrace) h = λ t. ⊎_elim (λ (k : IsVersion1 d t). omega (arith, same_Some 4 6 (sym k.members ∙ six))) (h t)
version2_read d six (Err _) h = absurd h

-- ---- what is written

-- the JSON value as which a book is written spells it, if the values of its members spell them
pub book_spelled : (b : BookState) (start : Data) → SpellsWorld b.session.start start → SpellEach (Gives event_of) (items_by event_data b.session.live) b.session.live
    → SpellEach (Gives event_of) (items_by event_data b.session.undone) b.session.undone → SpellMarksOfBook (items_by mark_data b.marks) b.marks
    → (t : Trace b.session.start.ring) × IsVersion2 (book_data start b) t × (start_flaw t.start ≡ None) × (loaded_state t ≡ b)
book_spelled b start h live undone marks = (
  record { start = h.0; marks = b.marks; live = b.session.live; undone = b.session.undone },
  record { members = refl; version = refl; ring = refl; start = (start, refl, h.1); marks = (_, refl, marks); live = (_, refl, live); undone = (_, refl, undone) },
  h.2,
  (λ i. record { session = record { start = h.3 i; live = b.session.live; undone = b.session.undone }; marks = b.marks }),
)

-- the first k + 1 live events are the first k and the event of the next entry
pub live_events_take_more : (xs : List Entry) (k : ℕ) (x : Entry) → k < length xs → x ≡ get_or xs k x → take (k + 1) (events xs) ≡ take k (events xs) ++ x.event ∷ []
live_events_take_more xs k x within is =
    take_more (events xs) k x.event (omega (arith, within, length-map xs (λ (y : Entry). y.event)))
    ∙ ap (λ e. take k (events xs) ++ e ∷ []) (get_or-map (λ (y : Entry). y.event) xs k x x.event within ∙ ap (λ (y : Entry). y.event) (sym is))
