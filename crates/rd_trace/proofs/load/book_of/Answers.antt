-- The book that was read is a trace that the value spells. Each call does one part of
-- replaying this trace: a call's fault is the fault of replaying it, and after the last call the
-- book has the loaded state.
use Rattle.rd_trace.proofs.Prelude.{rules, ◌≡◌, ◌≤◌, ◌++◌, map, length, length-map, Ok, Err, ap, sym, subst, subst₂, ◌∙◌, arith, view, State, back, book_state, saved_mark, saved_trace, loaded_state, MOST_MARKS, HaveDifferentNames, IsFaultOfEvents, SetsMarks, Book}
use Rattle.rd_trace.proofs.LoadLemmas.{names_differ, few_marks, loads_value, not_loaded}
use Rattle.rd_trace.proofs.ReplayLemmas.{MakesLive, from_old, live_refused, enough_live, made_live, no_world, no_marks, no_steps, plays}
use Rattle.rd_trace.proofs.load.book_of.Goals as goal

pub returns-in_err-world : goal.returns-in_err-world
returns-in_err-world g c =
    let t = saved_trace c.in_ok-saved.saved in
    let IsBook = λ (book : Book g.row.R). book_state book ≡ loaded_state t in
    let fault = c.in_err-world.field-0.0 in
    not_loaded (view c.args.value) t c.in_ok-saved.ensures fault c.from_residual-in_err-world.result c.from_residual-in_err-world.ensures.1
    (no_world t IsBook fault c.in_err-world.ensures)

pub set_marks-requires : goal.set_marks-requires
set_marks-requires g c =
    let d = view c.args.value in
    let t = saved_trace c.in_ok-saved.saved in
    let names : HaveDifferentNames (map saved_mark c.deref.result.now) = rw c.deref.ensures.value (names_differ d t c.in_ok-saved.ensures) in
    let few : length c.deref.result.now ≤ MOST_MARKS =
    rw c.deref.ensures.value (subst (λ n. n ≤ MOST_MARKS) (length-map c.in_ok-saved.saved.marks.items saved_mark) (few_marks d t c.in_ok-saved.ensures)) in
    search (rules, names, few)

pub returns-in_err-set_marks : goal.returns-in_err-set_marks
returns-in_err-set_marks g c =
    let t = saved_trace c.in_ok-saved.saved in
    let IsBook = λ (book : Book g.row.R). book_state book ≡ loaded_state t in
    let old = book_state c.open-book.result in
    let now = book_state c.set_marks.new.book in
    let start = ap (λ (s : State). s.start) (c.open-book.ensures.session ∙ c.open.ensures.state) ∙ c.in_ok-world.ensures.1 in
    let fault = c.in_err-set_marks.field-0.0 in
    not_loaded (view c.args.value) t c.in_ok-saved.ensures fault c.from_residual-in_err-set_marks.result c.from_residual-in_err-set_marks.ensures.1
    (no_marks t c.in_ok-world.ensures.0 old start IsBook now fault (subst (λ ms. SetsMarks old (map saved_mark ms) now (Err fault)) c.deref.ensures.value c.in_err-set_marks.ensures))

pub returns-in_err-go_to : goal.returns-in_err-go_to
returns-in_err-go_to g c =
    let t = saved_trace c.in_ok-saved.saved in
    let IsBook = λ (book : Book g.row.R). book_state book ≡ loaded_state t in
    let old = book_state c.open-book.result in
    let now = book_state c.set_marks.new.book in
    let start = ap (λ (s : State). s.start) (c.open-book.ensures.session ∙ c.open.ensures.state) ∙ c.in_ok-world.ensures.1 in
    let set = subst (λ ms. SetsMarks old (map saved_mark ms) now (Ok tt)) c.deref.ensures.value c.in_ok-set_marks.ensures in
    let fault = c.in_err-go_to.field-0.0 in
    not_loaded (view c.args.value) t c.in_ok-saved.ensures fault c.from_residual-in_err-go_to.result c.from_residual-in_err-go_to.ensures.1
    (no_steps t c.in_ok-world.ensures.0 old start now set IsBook fault
    (live_refused now.session.start t.live t.undone fault (subst (λ es. IsFaultOfEvents now.session.start es fault) c.deref-2.ensures.value c.in_err-go_to.ensures)))

pub returns-in_err-step_all : goal.returns-in_err-step_all
returns-in_err-step_all g c =
    let t = saved_trace c.in_ok-saved.saved in
    let IsBook = λ (book : Book g.row.R). book_state book ≡ loaded_state t in
    let old = book_state c.open-book.result in
    let now = book_state c.set_marks.new.book in
    let start = ap (λ (s : State). s.start) (c.open-book.ensures.session ∙ c.open.ensures.state) ∙ c.in_ok-world.ensures.1 in
    let set = subst (λ ms. SetsMarks old (map saved_mark ms) now (Ok tt)) c.deref.ensures.value c.in_ok-set_marks.ensures in
    let fault = c.in_err-step_all.field-0.0 in
    not_loaded (view c.args.value) t c.in_ok-saved.ensures fault c.from_residual-in_err-step_all.result c.from_residual-in_err-step_all.ensures.1
    (no_steps t c.in_ok-world.ensures.0 old start now set IsBook fault
    (subst₂ (λ es fs. IsFaultOfEvents now.session.start (es ++ fs) fault) c.deref-2.ensures.value c.deref-3.ensures.value
    (from_old now (book_state c.go_to.new.book) (book_state c.step_all.new.book) c.deref-2.result.now c.deref-3.result.now (Err fault) c.in_ok-go_to.ensures.0 c.in_err-step_all.ensures.goes)))

pub undo_last-requires : goal.undo_last-requires
undo_last-requires g c =
    let enough =
    enough_live (book_state c.set_marks.new.book) (book_state c.go_to.new.book) (book_state c.step_all.new.book) c.deref-2.result.now c.deref-3.result.now c.in_ok-go_to.ensures.0 c.in_ok-step_all.ensures.goes in
    (omega arith, omega (arith, c.len.ensures, c.deref-3.ensures.len, enough))

pub returns : goal.returns
returns g c =
    let t = saved_trace c.in_ok-saved.saved in
    let old = book_state c.open-book.result in
    let now = book_state c.set_marks.new.book in
    let stepped = book_state c.step_all.new.book in
    let new = book_state c.undo_last.new.self in
    let start = ap (λ (s : State). s.start) (c.open-book.ensures.session ∙ c.open.ensures.state) ∙ c.in_ok-world.ensures.1 in
    let set = subst (λ ms. SetsMarks old (map saved_mark ms) now (Ok tt)) c.deref.ensures.value c.in_ok-set_marks.ensures in
    let left = subst (λ n. back stepped.session n ≡ Ok new.session) (c.len.ensures ∙ sym c.deref-3.ensures.len) c.undo_last.ensures.session in
    let made = made_live now (book_state c.go_to.new.book) stepped new c.deref-2.result.now c.deref-3.result.now c.in_ok-go_to.ensures.0 c.in_ok-step_all.ensures.goes left c.undo_last.ensures.marks in
    loads_value (view c.args.value) t c.in_ok-saved.ensures (Ok c.undo_last.new.self)
    (plays t c.in_ok-world.ensures.0 old start now set new (subst₂ (λ es fs. MakesLive now es fs new) c.deref-2.ensures.value c.deref-3.ensures.value made))
