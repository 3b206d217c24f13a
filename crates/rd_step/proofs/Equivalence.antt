-- A step that depends on no earlier one may go first in its run, and equivalent lists of events
-- reach one world.
use Rattle.rd_step.proofs.Prelude.{◌≡◌, false, refl, sym, ◌∙◌, ap, subst, List, [], ◌∷◌, ◌++◌, Ok, arith, World, Event, Entry, same_Ok, Stepped, step, Ran, run, events, depends, IsFree, or_from, IsPermutation, IsPermutation-sym, IsPermutation-cons, IsPermutation-trans, IsPermutation-middle, IsIndependentOf, IsEquivalent, ReachesTheSame}
use Rattle.rd_step.proofs.Steps.{step_stages}
use Rattle.rd_step.proofs.Commute.{commutes}
use Rattle.rd_step.proofs.Symmetry.{depends_symmetric}
use Rattle.rd_step.proofs.RunParts.{ran_on, each_run, run-cons, free_parts}

-- The step of e after the run of `earlier`, and a run on from there, with e moved to the front

-- e goes first: it steps from w with the entry x, and the other events run on from there as `rest`
pub record GoesFirst (w : World) (e : Event) (x : Entry) (others : List Event) (rest : Ran) : Type 0 where
  pub after : World
  pub goes : step w e ≡ Ok (record { world = after; entry = x })
  pub runs : run after others ≡ Ok rest

-- if e's entry depends on none of the entries before it in a run, e may go first
pub goes_first : (w : World) (e : Event) (earlier later : List Event) (r : Ran) (s : Stepped) (q : Ran)
    → run w earlier ≡ Ok r → step r.world e ≡ Ok s → IsFree s.entry r.entries → run s.world later ≡ Ok q
    → GoesFirst w e s.entry (earlier ++ later) (record { world = q.world; entries = r.entries ++ q.entries })
goes_first w e [] later r s q h k free l = grind arith
goes_first w e (f ∷ fs) later r s q h k free l =
    each_run w f fs (λ x. step x.world e ≡ Ok s → IsFree s.entry x.entries → GoesFirst w e s.entry (f ∷ (fs ++ later)) (record { world = q.world; entries = x.entries ++ q.entries }))
    (λ one rest goes goes_on steps alone.
    let parts = free_parts s.entry one.entry rest.entries alone in
    let first = goes_first one.world e fs later rest s q goes_on steps parts.1 l in
    let independent : depends one.entry s.entry ≡ false = depends_symmetric one.entry s.entry ∙ parts.0 in
    let sw = commutes w f e one (record { world = first.after; entry = s.entry }) goes first.goes independent in
    let all : Ran = record { world = q.world; entries = rest.entries ++ q.entries } in
    record {
      after = sw.first.world;
      goes = sw.goes_first ∙ (λ i. Ok (record { world = sw.first.world; entry = sw.same_entry i }));
      runs =
          run-cons sw.first.world f (fs ++ later) sw.second all sw.goes_second (ap (λ (v : World). run v (fs ++ later)) sw.same_world ∙ first.runs)
          ∙ (λ i. Ok (record { world = q.world; entries = sw.entry_unchanged i ∷ (rest.entries ++ q.entries) }));
    })
    r h k free

-- the events of a run's entries are the events that were run
pub run_events : (w : World) (es : List Event) (r : Ran) → run w es ≡ Ok r → events r.entries ≡ es
run_events w [] r h = let p : record { world = w; entries = [] } ≡ r = cc in ap (λ (y : Ran). events y.entries) (sym p)
run_events w (e ∷ es) r h =
    each_run w e es (λ x. events x.entries ≡ e ∷ es)
    (λ s rest goes goes_on.
    let first : s.entry.event ≡ e = ap (λ (x : Stepped). x.entry.event) (sym (step_stages w e s goes).ends) in
    let others = run_events s.world es rest goes_on in λ i. first i ∷ others i)
    r h

-- A run taken apart at one of its steps

-- the run of a list taken apart at its event e: the run before e, e's step, and the run of the
-- later events from there
pub record RanThrough (w : World) (earlier : List Event) (e : Event) (later : List Event) (q : Ran) : Type 0 where
  pub before : Ran
  pub runs : run w earlier ≡ Ok before
  pub one : Stepped
  pub goes : step before.world e ≡ Ok one
  pub rest : Ran
  pub goes_on : run one.world later ≡ Ok rest
  pub joins : record { world = rest.world; entries = before.entries ++ one.entry ∷ rest.entries } ≡ q

-- every run through e can be taken apart there
pub ran_through : (w : World) (earlier : List Event) (e : Event) (later : List Event) (q : Ran) → run w (earlier ++ e ∷ later) ≡ Ok q
    → RanThrough w earlier e later q
ran_through w [] e later q h =
    each_run w e later (RanThrough w [] e later)
    (λ s rest goes goes_on. record { before = record { world = w; entries = [] }; runs = refl; one = s; goes = goes; rest = rest; goes_on = goes_on; joins = refl })
    q h
ran_through w (f ∷ fs) e later q h =
    each_run w f (fs ++ e ∷ later) (RanThrough w (f ∷ fs) e later)
    (λ s rest goes goes_on.
    let t = ran_through s.world fs e later rest goes_on in
    record {
      before = record { world = t.before.world; entries = s.entry ∷ t.before.entries };
      runs = run-cons w f fs s t.before goes t.runs;
      one = t.one;
      goes = t.goes;
      rest = t.rest;
      goes_on = t.goes_on;
      joins = ap (λ (y : Ran). record { world = y.world; entries = s.entry ∷ y.entries }) t.joins;
    })
    q h

-- The first list's first event in the run of the second

-- e stands in the run of a list that may begin with it: its entry x depends on no entry `before`
-- it, and e may go first, with the other events after it
pub record StandsIn (w : World) (e : Event) (earlier later : List Event) (q : Ran) : Type 0 where
  pub x : Entry
  pub before : List Entry
  pub behind : List Entry
  pub entries : q.entries ≡ before ++ x ∷ behind
  pub before_events : events before ≡ earlier
  pub behind_events : events behind ≡ later
  pub free : IsFree x before
  pub first : GoesFirst w e x (earlier ++ later) (record { world = q.world; entries = before ++ behind })

stands_through : (w : World) (e : Event) (earlier later : List Event) (q : Ran) (t : RanThrough w earlier e later q)
    → IsFree t.one.entry t.before.entries → StandsIn w e earlier later q
stands_through w e earlier later q t free = grind (arith, step_stages, goes_first, run_events)

-- an event that is independent of those before it stands so in the run of the list
pub stands_in : (w : World) (e : Event) (earlier later : List Event) (q : Ran) → run w (earlier ++ e ∷ later) ≡ Ok q
    → IsIndependentOf w e earlier → StandsIn w e earlier later q
stands_in w e earlier later q h alone =
    let t = ran_through w earlier e later q h in grind (arith, stands_through)

-- Equivalent lists

both_empty : (w : World) (r q : Ran) → run w [] ≡ Ok r → run w [] ≡ Ok q → ReachesTheSame r q
both_empty w r q h k = grind arith

-- equivalent lists reach one world, with the same entries in some order
pub reach_the_same : (w : World) (es fs : List Event) (r q : Ran) → run w es ≡ Ok r → run w fs ≡ Ok q
    → IsEquivalent w es fs → ReachesTheSame r q
reach_the_same w [] fs r q h k same = both_empty w r q h (ap (run w) (sym same) ∙ k)
reach_the_same w (e ∷ es) fs r q h k same =
    each_run w e es (λ x. ReachesTheSame x q)
    (λ one ran goes goes_on.
    let s = stands_in w e same.earlier same.later q (ap (run w) (sym same.stands) ∙ k) same.independent in
    let its : record { world = s.first.after; entry = s.x } ≡ one = same_Ok _ _ (sym s.first.goes ∙ goes) in
    let stepped : same.stepped ≡ one = same_Ok _ _ (sym same.goes ∙ goes) in
    let others : Ran = record { world = q.world; entries = s.before ++ s.behind } in
    let rest = reach_the_same one.world es (same.earlier ++ same.later) ran others goes_on
    (subst (λ (y : Stepped). run y.world (same.earlier ++ same.later) ≡ Ok others) its s.first.runs)
    (subst (λ (y : Stepped). IsEquivalent y.world es (same.earlier ++ same.later)) stepped same.rest) in
    let moved : IsPermutation (s.x ∷ (s.before ++ s.behind)) (s.before ++ s.x ∷ s.behind) =
    IsPermutation-sym _ _ (IsPermutation-middle s.before s.x s.behind) in
    record {
      same_world = rest.same_world;
      same_entries =
          subst (λ (l : List Entry). IsPermutation (one.entry ∷ ran.entries) l) (sym s.entries)
          (IsPermutation-trans _ _ _ (IsPermutation-cons one.entry _ _ rest.same_entries)
          (subst (λ (y : Stepped). IsPermutation (y.entry ∷ (s.before ++ s.behind)) (s.before ++ s.x ∷ s.behind)) its moved));
    })
    r h

-- equivalent lists stay equivalent if the same event is put in front of both
IsEquivalent-cons : (w : World) (e : Event) (es fs : List Event) (s : Stepped) → step w e ≡ Ok s → IsEquivalent s.world es fs → IsEquivalent w (e ∷ es) (e ∷ fs)
IsEquivalent-cons w e es fs s h same = record {
  earlier = [];
  later = fs;
  stands = refl;
  independent = record { ran = record { world = w; entries = [] }; runs = refl; stepped = s; goes = h; free = refl };
  stepped = s;
  goes = h;
  rest = same;
}

-- a list that runs is equivalent to itself
pub equivalence_reflexive : (w : World) (es : List Event) (r : Ran) → run w es ≡ Ok r → IsEquivalent w es es
equivalence_reflexive w [] r h = refl
equivalence_reflexive w (e ∷ es) r h =
    let ran = ran_on w e es r h in
    IsEquivalent-cons w e es es ran.one ran.goes (equivalence_reflexive ran.one.world es ran.rest ran.goes_on)

-- swapping the first two events of a list, if they don't depend on each other, gives an equivalent
-- list
neighbours_swapped : (w : World) (e f : Event) (es : List Event) (s u : Stepped) (r : Ran) → step w e ≡ Ok s
    → step s.world f ≡ Ok u → depends s.entry u.entry ≡ false → run u.world es ≡ Ok r → IsEquivalent w (e ∷ f ∷ es) (f ∷ e ∷ es)
neighbours_swapped w e f es s u r h k free l =
    let sw = commutes w e f s u h k free in
    let apart : depends sw.second.entry sw.first.entry ≡ false = (λ i. depends (sw.entry_unchanged i) (sw.same_entry i)) ∙ free in
    record {
      earlier = f ∷ [];
      later = es;
      stands = refl;
      independent = record {
        ran = record { world = sw.first.world; entries = sw.first.entry ∷ [] };
        runs = run-cons w f [] sw.first (record { world = sw.first.world; entries = [] }) sw.goes_first refl;
        stepped = sw.second;
        goes = sw.goes_second;
        free = or_from (depends sw.second.entry sw.first.entry) false apart refl;
      };
      stepped = s;
      goes = h;
      rest = equivalence_reflexive s.world (f ∷ es) (record { world = r.world; entries = u.entry ∷ r.entries }) (run-cons s.world f es u r k l);
    }

-- swapping two neighbours that don't depend on each other, anywhere in a list, gives an equivalent
-- list
pub swapped_within : (w : World) (before : List Event) (e f : Event) (later : List Event) (b : Ran) (s u : Stepped) (r : Ran) → run w before ≡ Ok b
    → step b.world e ≡ Ok s → step s.world f ≡ Ok u → depends s.entry u.entry ≡ false → run u.world later ≡ Ok r
    → IsEquivalent w (before ++ e ∷ f ∷ later) (before ++ f ∷ e ∷ later)
swapped_within w [] e f later b s u r g h k free l = grind (arith, neighbours_swapped)
swapped_within w (d ∷ ds) e f later b s u r g h k free l =
    let ran = ran_on w d ds b g in
    IsEquivalent-cons w d (ds ++ e ∷ f ∷ later) (ds ++ f ∷ e ∷ later) ran.one ran.goes
    (swapped_within ran.one.world ds e f later ran.rest s u r ran.goes_on (ap (λ (y : Ran). step y.world e) ran.joins ∙ h) k free l)
