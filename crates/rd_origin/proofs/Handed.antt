-- A taken value is the argument of the call in which it was put.
use Rattle.rd_origin.proofs.Prelude.{◌≡◌, ℕ, suc, ◌-◌, true, sym, ◌∙◌, ap, subst, append_assoc, List, ◌∷◌, ◌++◌, length, take, take_at, option_and_then, Some, Ok, arith, Place, Contents, World, Stepped, Ran, run, IsWellFormed, numbered, value_to_put, Event, Entry, events, puts_into, begins_call, argument, middle, last_position, last_call, origin_in, run_keeps_well_formed, run_events, drop}
use Rattle.rd_step.proofs.Keeps.{step_keeps_well_formed}
use Rattle.rd_origin.specs.Laws.{IsHandedOver}
use Rattle.rd_origin.proofs.Split.{at_seam, cut_at_number, apart_at_last}
use Rattle.rd_origin.specs.Positions.{HasNone}
use Rattle.rd_origin.proofs.Ops.{called, argued}
use Rattle.rd_origin.proofs.Values.{held_at, HoldsOnly}
use Rattle.rd_origin.proofs.Puts.{put}
use Rattle.rd_origin.proofs.Takes.{taken_held}
use Rattle.rd_origin.proofs.Calls.{IsIn, begun, call_stays_along, value_stays_along}
use Rattle.rd_actor.specs.declared.actors.OpReply.TheVariants as op_reply

-- The entries that an origin names

-- the origin of the value taken at k names both its call, at c, and its put, at p
record Named (xs : List Entry) (c p k : ℕ) : Type 0 where
  pub taken : Entry
  pub there : numbered xs k ≡ Some taken
  pub value : ℕ
  pub replies : taken.reply ≡ Some (op_reply.Value value)
  pub cell : Place
  pub place : taken.place ≡ Some cell
  pub last : last_position (puts_into cell) (take (k - 1) xs) ≡ Some p
  pub its_call : last_call xs (Some p) ≡ Some c

named_at : (xs : List Entry) (c p k : ℕ) → origin_in xs k ≡ Ok (record { call = Some c; put = Some p; take = k }) → Named xs c p k
named_at xs c p k h = grind arith

-- The entries taken apart at call, put and take

-- the element that follows the first j - 1 elements has the number j
seam_number : (xs before behind : List Entry) (x : Entry) (j : ℕ) → xs ≡ before ++ x ∷ behind → suc (length before) ≡ j → numbered xs j ≡ Some x
seam_number xs before behind x j whole e = grind (arith, at_seam)

seam_before : (xs before behind : List Entry) (x : Entry) (j : ℕ) → xs ≡ before ++ x ∷ behind → suc (length before) ≡ j → take (j - 1) xs ≡ before
seam_before xs before behind x j whole e = ap (take (j - 1)) whole ∙ take_at before (x ∷ behind) (j - 1) (omega arith)

same_value : (v u : ℕ) (at : Contents) (q : Place) → HoldsOnly v at q → held_at at q ≡ Some u → Some v ≡ Some u
same_value v u at q h k = grind arith

-- The value

-- in a run through a call, a put in this call and a take of what was put, the value taken is the
-- call's argument
argument_taken : (w v : World) (before between behind later : List Entry) (call put_there taken : Entry) (cell : Place) (value : ℕ) → IsWellFormed w
    → (let xs = before ++ call ∷ (between ++ put_there ∷ (behind ++ taken ∷ later)) in run w (events xs) ≡ Ok (record { world = v; entries = xs }))
    → begins_call put_there.event.actor call ≡ true → HasNone (begins_call put_there.event.actor) between → puts_into cell put_there ≡ true
    → HasNone (puts_into cell) behind → taken.place ≡ Some cell → taken.reply ≡ Some (op_reply.Value value) → argument call.event.act ≡ Some value
argument_taken w v before between behind later call put_there taken cell value formed ran calls no_call puts no_put place replies =
    let one = middle w before call (between ++ put_there ∷ (behind ++ taken ∷ later)) v ran in
    let two = middle one.after between put_there (behind ++ taken ∷ later) v one.rest in
    let three = middle two.after behind taken later v two.rest in
    let called_step : Stepped = record { world = one.after; entry = call } in
    let formed_one = run_keeps_well_formed w (events before) (record { world = one.before; entries = before }) formed one.ran in
    let formed_two = run_keeps_well_formed one.after (events between) (record { world = two.before; entries = between }) (step_keeps_well_formed one.before call.event called_step formed_one one.goes) two.ran in
    let in_call : IsIn (called call.event.act) (two.before.actor put_there.event.actor) =
    call_stays_along put_there.event.actor (called call.event.act) one.after two.before between two.ran no_call
    (begun one.before call.event called_step put_there.event.actor one.goes calls) in
    let p = put two.before put_there.event (record { world = two.after; entry = put_there }) cell formed_two two.goes puts in
    let holds = value_stays_along cell (value_to_put p.a.op) two.after three.before behind three.ran no_put p.holds in
    let found = taken_held three.before taken.event (record { world = three.after; entry = taken }) cell value three.goes replies place in
    argued call.event.act p.a.op p.puts (subst (IsIn (called call.event.act)) p.has in_call) ∙ same_value (value_to_put p.a.op) value three.before.at cell holds found

-- the value of an origin with a put and a call is the call's argument
pub handed_over : (w : World) (es : List Event) (ran : Ran) (c p k : ℕ) → IsWellFormed w → run w es ≡ Ok ran
    → origin_in ran.entries k ≡ Ok (record { call = Some c; put = Some p; take = k }) → IsHandedOver ran.entries c k
handed_over w es ran c p k formed goes h =
    let xs : List Entry = ran.entries in
    let n = named_at xs c p k h in
    let later : List Entry = drop k xs in
    let b = apart_at_last (puts_into n.cell) (take (k - 1) xs) p n.last in
    let actor : ℕ = b.element.event.actor in
    let rest : List Entry = b.behind ++ n.taken ∷ later in
    let second : xs ≡ b.before ++ b.element ∷ rest =
    cut_at_number xs k n.taken n.there ∙ ap (λ (l : List Entry). l ++ n.taken ∷ later) b.whole ∙ append_assoc b.before (b.element ∷ b.behind) (n.taken ∷ later) in
    let last_call : last_position (begins_call actor) b.before ≡ Some c =
    ap (last_position (begins_call actor)) (sym (seam_before xs b.before rest b.element p second b.number))
    ∙ ap (option_and_then (λ (x : Entry). last_position (begins_call x.event.actor) (take (p - 1) xs))) (sym (seam_number xs b.before rest b.element p second b.number)) ∙ n.its_call in
    let d = apart_at_last (begins_call actor) b.before c last_call in
    let third : xs ≡ d.before ++ d.element ∷ (d.behind ++ b.element ∷ rest) =
    second ∙ ap (λ (l : List Entry). l ++ b.element ∷ rest) d.whole ∙ append_assoc d.before (d.element ∷ d.behind) (b.element ∷ rest) in
    record {
      call = d.element;
      called = seam_number xs d.before (d.behind ++ b.element ∷ rest) d.element c third d.number;
      taken = n.taken;
      took = n.there;
      value = n.value;
      replies = n.replies;
      argued =
          argument_taken w ran.world d.before d.behind b.behind later d.element b.element n.taken n.cell n.value formed
          (subst (λ (l : List Entry). run w (events l) ≡ Ok (record { world = ran.world; entries = l })) third (ap (run w) (run_events w es ran goes) ∙ goes))
          d.passes d.none b.passes b.none n.place n.replies;
    }
