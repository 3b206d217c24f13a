use Rattle.rd_marks.proofs.Prelude.{arith, false≢true, length-map, Entry, journal, state}
use Rattle.rd_marks.proofs.ObeyLemmas.{answers_start, back_start}
use Rattle.rd_marks.proofs.books.Book.undo_last.Goals as goal

pub invariant_of-self : goal.invariant_of-self
invariant_of-self g c =
    let start = answers_start _ c.back.result c.args.self.now.session c.back.new.self (back_start (state c.args.self.now.session) c.args.n) c.back.ensures.state in
    record { runs = rw start c.args.self.now.runs; stands = rw c.back.ensures.along.track c.args.self.now.stands }

pub unreachable-requires : goal.unreachable-requires
unreachable-requires g c = false≢true (c.in-Err.ensures.succeeds (omega (arith, c.requires.within, length-map (journal c.args.self.now.session).live (λ (x : Entry). x.event))))
