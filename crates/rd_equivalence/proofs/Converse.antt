-- Equivalence is symmetric and transitive, since taking out is.
use Rattle.rd_equivalence.proofs.Prelude.{◌≡◌, ◌∙◌, ap, List, Ok, arith, World, Ran, run, Event, Entry, IsEquivalent, events, run_entries, IsRunFrom, run_events}
use Rattle.rd_equivalence.proofs.TakingOut.{takes_all-sym}
use Rattle.rd_equivalence.proofs.TakingOn.{takes_all-trans}
use Rattle.rd_equivalence.proofs.RunsAgree.{equivalent_taken, taken_equivalent}

converse : (w : World) (es fs : List Entry) → IsRunFrom w es → IsRunFrom w fs → IsEquivalent w (events es) (events fs)
    → IsEquivalent w (events fs) (events es)
converse w es fs runs_e runs_f k = grind (arith, taken_equivalent, takes_all-sym, equivalent_taken)

through : (w : World) (es fs gs : List Entry) → IsRunFrom w es → IsRunFrom w fs → IsRunFrom w gs → IsEquivalent w (events es) (events fs)
    → IsEquivalent w (events fs) (events gs) → IsEquivalent w (events es) (events gs)
through w es fs gs runs_e runs_f runs_g h k = grind (arith, taken_equivalent, takes_all-trans, equivalent_taken)

as_run : (w : World) (es : List Event) (r : Ran) → run w es ≡ Ok r → IsRunFrom w r.entries
as_run w es r h = ap run_entries (ap (run w) (run_events w es r h) ∙ h)

-- the laws

pub equivalent-sym : (w : World) (es fs : List Event) (r q : Ran) → run w es ≡ Ok r → run w fs ≡ Ok q → IsEquivalent w es fs
    → IsEquivalent w fs es
equivalent-sym w es fs r q h k same =
    let its = run_events w es r h in
    let others = run_events w fs q k in
    grind (arith, converse, as_run)

-- equivalent lists of events are equivalent as the events of their entries
of_entries : (w : World) (es fs : List Event) (xs ys : List Entry) → events xs ≡ es → events ys ≡ fs → IsEquivalent w es fs
    → IsEquivalent w (events xs) (events ys)
of_entries w es fs xs ys e f h = grind arith

pub equivalent_through : (w : World) (es fs gs : List Event) (r q p : Ran) → run w es ≡ Ok r → run w fs ≡ Ok q → run w gs ≡ Ok p
    → IsEquivalent w es fs → IsEquivalent w fs gs → IsEquivalent w es gs
equivalent_through w es fs gs r q p h k l first second =
    let its = run_events w es r h in
    let mid = run_events w fs q k in
    let last = run_events w gs p l in
    let all = through w r.entries q.entries p.entries (as_run w es r h) (as_run w fs q k) (as_run w gs p l) in
    grind (arith, of_entries)
