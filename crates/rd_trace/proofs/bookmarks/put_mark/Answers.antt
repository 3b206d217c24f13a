-- `mark_events` returned the events of the book's bookmark. The five parts that were appended
-- are the text of a bookmark with them and this name (`mark_appended`).
use Rattle.rd_trace.proofs.Prelude.{List, codes, Option, Ok, IfSome, Vec, string_bytes, ap, ◌∙◌, ◌++◌, subst, arith, Event, book_state, mark_events, AnswersMarkEvents, Gives, event_of, event_data, AreAppended, IsMarkAppended, Global}
use Rattle.rd_trace.proofs.MarkLemmas.{mark_appended}
use Rattle.rd_trace.proofs.TextLemmas.{last_appended}
use Rattle.rd_trace.proofs.bookmarks.put_mark.Goals as goal

-- what holds of the events that were answered holds of the bookmark's
of_answered : (o : Option (List Event)) (list : Vec Event Global) (P : List Event → Type 0) → AnswersMarkEvents o (Ok list) → P list.items → IfSome o P
of_answered o list P said k = grind arith

pub returns : goal.returns
returns g c =
    let name = c.args.name in
    let old = string_bytes c.args.text.now in
    let new = string_bytes c.push_str-4.new.self in
    let written = subst (λ (es : List Event). AreAppended (Gives event_of) event_data es (string_bytes c.push_str.new.self) (string_bytes c.put_events.new.text)) c.deref.ensures.value c.in_ok-put_events.ensures in
    last_appended c.push_str-4.result (string_bytes c.push_str-3.new.self) new (codes "\"}") _ c.push_str-4.ensures.bytes
    (λ closed.
    of_answered (mark_events (book_state c.args.book.now) c.args.i) c.in-Ok.events (λ es. IsMarkAppended (record { name = name; events = es }) old new) c.in-Ok.ensures
    (mark_appended name c.in-Ok.events.items old (string_bytes c.push_str.new.self) (string_bytes c.put_events.new.text) (string_bytes c.push_str-2.new.self) (string_bytes c.push_str-3.new.self) new c.in_ok-push_str.ensures.bytes written c.in_ok-push_str-2.ensures.bytes
    (c.in_ok-push_str-3.ensures.bytes ∙ ap (λ s. string_bytes c.push_str-2.new.self ++ s) c.as_str.ensures.text) closed))
