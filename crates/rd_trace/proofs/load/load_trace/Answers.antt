-- The value has this number of cells at the key `ring`, so what `book_of` returns is the result
-- of loading the text. It gives back the book of a text that was written, since a text is one
-- trace at most.
use Rattle.rd_trace.proofs.Prelude.{◌≡◌, inl, inr, codes, Some, refl, view, number_at}
use Rattle.rd_marks.specs.declared.any_book.AnyBook.TheVariants.{Two, Four, Eight}
use Rattle.rd_trace.proofs.LoadLemmas.{loads_any}
use Rattle.rd_trace.proofs.OneAnswer.{loads_again}
use Rattle.rd_trace.proofs.load.load_trace.Goals as goal

pub returns-in-Some-eq2 : goal.returns-in-Some-eq2
returns-in-Some-eq2 c =
    let ring : number_at (codes "ring") (view c.in-Ok.value) ≡ Some 2 = cc (c.in-Some-eq2.field-0-is, c.in-Some-eq2.ensures) in
    let loads =
    loads_any c.args.text.now (view c.in-Ok.value) c.in-Ok.ensures.ok 2 ring (inl refl) (λ book. Two book) (λ book. refl) c.book_of.result c.map.result c.book_of.ensures c.map.ensures.cases in
    record { loads = loads; again = loads_again c.args.text.now c.map.result loads }

pub returns-in-Some-eq4 : goal.returns-in-Some-eq4
returns-in-Some-eq4 c =
    let ring : number_at (codes "ring") (view c.in-Ok.value) ≡ Some 4 = cc (c.in-Some-eq4.field-0-is, c.in-Some-eq4.ensures) in
    let loads =
    loads_any c.args.text.now (view c.in-Ok.value) c.in-Ok.ensures.ok 4 ring (inr (inl refl)) (λ book. Four book) (λ book. refl) c.book_of-in-Some-eq4.result c.map-in-Some-eq4.result c.book_of-in-Some-eq4.ensures c.map-in-Some-eq4.ensures.cases in
    record { loads = loads; again = loads_again c.args.text.now c.map-in-Some-eq4.result loads }

pub returns-in-Some-eq8 : goal.returns-in-Some-eq8
returns-in-Some-eq8 c =
    let ring : number_at (codes "ring") (view c.in-Ok.value) ≡ Some 8 = cc (c.in-Some-eq8.field-0-is, c.in-Some-eq8.ensures) in
    let loads =
    loads_any c.args.text.now (view c.in-Ok.value) c.in-Ok.ensures.ok 8 ring (inr (inr refl)) (λ book. Eight book) (λ book. refl) c.book_of-in-Some-eq8.result c.map-in-Some-eq8.result c.book_of-in-Some-eq8.ensures c.map-in-Some-eq8.ensures.cases in
    record { loads = loads; again = loads_again c.args.text.now c.map-in-Some-eq8.result loads }
