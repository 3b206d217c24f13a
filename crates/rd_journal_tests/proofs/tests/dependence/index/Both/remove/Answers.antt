use Rattle.std.proofs.Common.{◌≡◌, ℕ, suc, ◌+◌, ◌-◌, ◌<◌, List, ◌++◌, length, take, drop, get_or, Some, sym, ap, ◌∙◌, subst, arith}
use Rattle.rd_step.specs.declared.entries.Entry.{Entry}
use Rattle.rd_step.specs.Lists.{numbered, without}
use Rattle.rd_depend.specs.Index.{IsIndexOf}
use Rattle.std.proofs.lemmas.Option.{slice_get-get_or}
use Rattle.rd_journal_tests.proofs.tests.dependence.index.Both.remove.Goals as goal

-- the entry of this index is held at the position after it
held_at : (es : List Entry) (i k : ℕ) (x : Entry) → k ≡ suc i → i < length es → x ≡ get_or es i x → numbered es k ≡ Some x
held_at es i k x next within at = ap (numbered es) next ∙ slice_get-get_or es i x within ∙ ap Some (sym at)

-- and is taken out there
out_at : (es : List Entry) (i k : ℕ) → k ≡ suc i → without es k ≡ take i es ++ drop (suc i) es
out_at es i k next =
    let e : suc i - 1 ≡ i = omega arith in
    ap (without es) next ∙ ap (λ (m : ℕ). take m es ++ drop (suc i) es) e

pub remove-requires : goal.remove-requires
remove-requires c =
    let es = c.args.self.now.entries.items in
    let within : c.args.at < length es = omega (arith, c.if-at-len.true, c.len.ensures, c.args.self.now.entries.ok.0) in
    record {
      entries = es;
      is = c.args.self.now.same;
      at = held_at es c.args.at (c.args.at + 1) c.remove-entry.result (omega arith) within c.remove-entry.ensures.value;
    }

pub invariant_of-self : goal.invariant_of-self
invariant_of-self c =
    let es = c.args.self.now.entries.items in
    let within : c.args.at < length es = omega (arith, c.if-at-len.true, c.len.ensures, c.args.self.now.entries.ok.0) in
    let at : numbered es (c.args.at + 1) ≡ Some c.remove-entry.result =
    held_at es c.args.at (c.args.at + 1) c.remove-entry.result (omega arith) within c.remove-entry.ensures.value in
    record {
      same = subst (λ (l : List Entry). IsIndexOf c.remove.new.self l) (out_at es c.args.at (c.args.at + 1) (omega arith) ∙ sym c.remove-entry.ensures.items)
          (c.remove.ensures.left es c.args.self.now.same at);
    }
