-- Lists are equivalent exactly if one comes from the other by swapping neighbours that do not
-- depend on each other.
use Rattle.rd_equivalence.proofs.Prelude.{◌≡◌, ◌↔◌, false, refl, sym, ◌∙◌, ap, subst, List, [], ◌∷◌, ◌++◌, Ok, World, Ran, Stepped, run, step, Event, depends, depends_symmetric, free_parts, IsFree, IsEquivalent, same_Ok, goes_first, ran_through, equivalence_reflexive, swapped_within, commutes, ran_on, run-cons, arith}
use Rattle.rd_equivalence.specs.Reordering.{IsReordered}
use Rattle.rd_equivalence.specs.Reordering.IsReordered.{unchanged, swapped}
use Rattle.rd_equivalence.proofs.Converse.{equivalent_through}
use Rattle.rd_depend.proofs.JoinedRuns.{run_joined}

-- From equivalence to places changed

on_from : (w : World) (es fs gs : List Event) → IsReordered w es fs → IsReordered w fs gs → IsReordered w es gs
on_from w es fs gs (unchanged xs) k = k
on_from w es fs gs (swapped before e f later _ b s u g h l free rest) k =
    swapped before e f later gs b s u g h l free (on_from w (before ++ f ∷ e ∷ later) fs gs rest k)

after_one : (w : World) (d : Event) (one : Stepped) (es fs : List Event) → step w d ≡ Ok one → IsReordered one.world es fs → IsReordered w (d ∷ es) (d ∷ fs)
after_one w d one es fs goes (unchanged xs) = unchanged (d ∷ xs)
after_one w d one es fs goes (swapped before e f later _ b s u g h l free rest) =
    swapped (d ∷ before) e f later (d ∷ fs) (record { world = b.world; entries = one.entry ∷ b.entries }) s u
    (run-cons w d before one b goes g) h l free (after_one w d one (before ++ f ∷ e ∷ later) fs goes rest)

-- a step that depends on none of those before it can be brought to the front by swaps
to_front : (w : World) (e : Event) (earlier later : List Event) (r : Ran) (s : Stepped) → run w earlier ≡ Ok r → step r.world e ≡ Ok s
    → IsFree s.entry r.entries → IsReordered w (e ∷ (earlier ++ later)) (earlier ++ e ∷ later)
to_front w e [] later r s h k free = unchanged (e ∷ later)
to_front w e (f ∷ fs) later r s h k free =
    let ran = ran_on w f fs r h in
    let goes : step ran.rest.world e ≡ Ok s = ap (λ (y : Ran). step y.world e) ran.joins ∙ k in
    let parts = free_parts s.entry ran.one.entry ran.rest.entries (subst (λ (y : Ran). IsFree s.entry y.entries) (sym ran.joins) free) in
    let first = goes_first ran.one.world e fs [] ran.rest s (record { world = s.world; entries = [] }) ran.goes_on goes parts.1 refl in
    let independent : depends ran.one.entry s.entry ≡ false = depends_symmetric ran.one.entry s.entry ∙ parts.0 in
    let sq = commutes w f e ran.one (record { world = first.after; entry = s.entry }) ran.goes first.goes independent in
    let apart : depends sq.first.entry sq.second.entry ≡ false = (λ i. depends (sq.same_entry i) (sq.entry_unchanged i)) ∙ parts.0 in
    swapped [] e f (fs ++ later) (f ∷ (fs ++ e ∷ later)) (record { world = w; entries = [] }) sq.first sq.second refl sq.goes_first sq.goes_second apart
    (after_one w f ran.one (e ∷ (fs ++ later)) (fs ++ e ∷ later) ran.goes (to_front ran.one.world e fs later ran.rest s ran.goes_on goes parts.1))

reordered : (w : World) (es fs : List Event) → IsEquivalent w es fs → IsReordered w es fs
reordered w [] fs h = subst (λ (l : List Event). IsReordered w [] l) (sym h) (unchanged [])
reordered w (e ∷ es) fs h =
    let rest = reordered h.stepped.world es (h.earlier ++ h.later) h.rest in
    let alone = h.independent in
    subst (λ (l : List Event). IsReordered w (e ∷ es) l) (sym h.stands)
    (on_from w (e ∷ es) (e ∷ (h.earlier ++ h.later)) (h.earlier ++ e ∷ h.later) (after_one w e h.stepped es (h.earlier ++ h.later) h.goes rest)
    (to_front w e h.earlier h.later alone.ran alone.stepped alone.runs alone.goes alone.free))

-- And back

-- after two neighbours that do not depend on each other, the run with the two swapped goes on as
-- the other does
record GoesSwapped (w : World) (before : List Event) (e f : Event) (later : List Event) (u : Stepped) : Type 0 where
  rest : Ran
  goes_on : run u.world later ≡ Ok rest
  ran : Ran
  runs : run w (before ++ f ∷ e ∷ later) ≡ Ok ran

goes_swapped : (w : World) (before : List Event) (e f : Event) (later : List Event) (b : Ran) (s u : Stepped) (r : Ran) → run w before ≡ Ok b
    → step b.world e ≡ Ok s → step s.world f ≡ Ok u → depends s.entry u.entry ≡ false → run w (before ++ e ∷ f ∷ later) ≡ Ok r
    → GoesSwapped w before e f later u
goes_swapped w before e f later b s u r g h k free runs =
    let t = ran_through w before e (f ∷ later) r runs in
    let here : t.before ≡ b = same_Ok _ _ (sym t.runs ∙ g) in
    let one : t.one ≡ s = same_Ok _ _ (sym t.goes ∙ ap (λ (y : Ran). step y.world e) here ∙ h) in
    let next = ran_on t.one.world f later t.rest t.goes_on in
    let two : next.one ≡ u = same_Ok _ _ (sym next.goes ∙ ap (λ (y : Stepped). step y.world f) one ∙ k) in
    let on : run u.world later ≡ Ok next.rest = ap (λ (y : Stepped). run y.world later) (sym two) ∙ next.goes_on in
    let sq = commutes b.world e f s u h k free in
    let end : run sq.second.world later ≡ Ok next.rest = ap (λ (v : World). run v later) sq.same_world ∙ on in
    let both = run-cons b.world f (e ∷ later) sq.first _ sq.goes_first (run-cons sq.first.world e later sq.second next.rest sq.goes_second end) in
    record { rest = next.rest; goes_on = on; ran = _; runs = run_joined w before (f ∷ e ∷ later) b _ g both }

-- a list that comes from one that runs by such swaps runs too, and is equivalent to it
record IsRunAlike (w : World) (es fs : List Event) : Type 0 where
  ran : Ran
  runs : run w fs ≡ Ok ran
  same : IsEquivalent w es fs

run_alike : (w : World) (es fs : List Event) (r : Ran) → IsReordered w es fs → run w es ≡ Ok r → IsRunAlike w es fs
run_alike w es fs r (unchanged xs) runs = record { ran = r; runs = runs; same = equivalence_reflexive w xs r runs }
run_alike w es fs r (swapped before e f later _ b s u g h k free rest) runs =
    let now = goes_swapped w before e f later b s u r g h k free runs in
    grind (arith, goes_swapped, equivalent_through, swapped_within, run_alike w (before ++ f ∷ e ∷ later) fs now.ran rest now.runs)

pub equivalent_reordered : (w : World) (es fs : List Event) (r : Ran) → run w es ≡ Ok r → IsEquivalent w es fs ↔ IsReordered w es fs
equivalent_reordered w es fs r h = (reordered w es fs, λ order. (run_alike w es fs r order h).same)
