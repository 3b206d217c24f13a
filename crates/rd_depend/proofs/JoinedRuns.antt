-- Runs, the second from the last world of the first, are one run.
use Rattle.rd_depend.proofs.Prelude.{◌≡◌, ◌∙◌, ap, List, [], ◌∷◌, ◌++◌, Ok, World, Ran, run, Event, ran_on, run-cons, arith}

-- two runs, the second from the last world of the first, are one run
pub run_joined : (w : World) (es fs : List Event) (r q : Ran) → run w es ≡ Ok r → run r.world fs ≡ Ok q
    → run w (es ++ fs) ≡ Ok (record { world = q.world; entries = r.entries ++ q.entries })
run_joined w [] fs r q h k = grind arith
run_joined w (e ∷ es) fs r q h k =
    let ran = ran_on w e es r h in
    let rest : Ran = record { world = q.world; entries = ran.rest.entries ++ q.entries } in
    grind (arith, ran_on, run-cons, run_joined ran.one.world es fs ran.rest q ran.goes_on (ap (λ (y : Ran). run y.world fs) ran.joins ∙ k))
