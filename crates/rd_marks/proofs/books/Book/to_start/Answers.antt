use Rattle.rd_marks.proofs.Prelude.{ap, State}
use Rattle.rd_marks.proofs.books.Book.to_start.Goals as goal

pub invariant_of-self : goal.invariant_of-self
invariant_of-self g c = record { runs = rw (ap (λ (s : State). s.start) c.go_along_track.ensures.state) c.args.self.now.runs; stands = rw c.go_along_track.ensures.along.track c.args.self.now.stands }
