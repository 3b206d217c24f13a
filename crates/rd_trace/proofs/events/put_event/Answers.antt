-- An event's value is a list of its word, its actor and perhaps a number or a choice. It is read
-- back, since each of these is.
use Rattle.std.proofs.Common.{codes, refl, arith}
use Rattle.rd_actor.specs.declared.actors.Act.TheVariants as act
use Rattle.rd_trace.proofs.TextLemmas.{event_array_back, event_pair_back, event_triple_back}
use Rattle.rd_trace.proofs.events.put_event.Goals as goal

pub returns-in-Enq-clause-back : goal.returns-in-Enq-clause-back
returns-in-Enq-clause-back c = event_array_back c.args.event (act.Enq c.in-Enq.x) c.in-Enq.is (event_triple_back (codes "enq") _ _ (omega arith) c.number_is_read_back.ensures)

pub returns-in-AEnq-clause-back : goal.returns-in-AEnq-clause-back
returns-in-AEnq-clause-back c = event_array_back c.args.event (act.AEnq c.in-AEnq.x) c.in-AEnq.is (event_triple_back (codes "aenq") _ _ (omega arith) c.number_is_read_back-in-AEnq.ensures)

pub returns-in-Deq-clause-back : goal.returns-in-Deq-clause-back
returns-in-Deq-clause-back c = event_array_back c.args.event act.Deq c.in-Deq.is (event_pair_back (codes "deq") _ (omega arith))

pub returns-in-ADeq-clause-back : goal.returns-in-ADeq-clause-back
returns-in-ADeq-clause-back c = event_array_back c.args.event act.ADeq c.in-ADeq.is (event_pair_back (codes "adeq") _ (omega arith))

pub returns-in-Go-clause-back : goal.returns-in-Go-clause-back
returns-in-Go-clause-back c = event_array_back c.args.event act.Go c.in-Go.is (event_pair_back (codes "go") _ (omega arith))

pub returns-in-Starve-clause-back : goal.returns-in-Starve-clause-back
returns-in-Starve-clause-back c = event_array_back c.args.event (act.Starve c.in-Starve.choice) c.in-Starve.is (event_triple_back (codes "starve") _ _ (omega arith) (record { numbers = tt; back = refl }))
