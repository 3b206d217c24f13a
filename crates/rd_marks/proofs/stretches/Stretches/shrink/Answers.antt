use Rattle.rd_marks.proofs.Prelude.{◌-◌, ◌∙◌, refl, sym, take, arith, Stretch}
use Rattle.rd_marks.proofs.Reading.{stretch_at}
use Rattle.rd_marks.proofs.StretchUses.{removal_shrinks, cut_shrinks}
use Rattle.rd_marks.proofs.stretches.Stretches.shrink.Goals as goal

pub invariant_of-self : goal.invariant_of-self
invariant_of-self c =
    let fact = removal_shrinks c.args.self.now.list.items (omega (arith, c.args.self.now.list.ok, c.args.self.now.list.small)) c.args.self.now.nested c.args.self.now.fresh c.args.i c.requires.there c.args.n
    c.requires.next in
    grind (arith, c.remove-gone.ensures.items, c.if-n-shared.true, c.shared_count-shared.ensures, fact)

pub returns-then-n-shared : goal.returns-then-n-shared
returns-then-n-shared c =
    let fact = removal_shrinks c.args.self.now.list.items (omega (arith, c.args.self.now.list.ok, c.args.self.now.list.small)) c.args.self.now.nested c.args.self.now.fresh c.args.i c.requires.there c.args.n
    c.requires.next in
    grind (arith, c.remove-gone.ensures.items, c.if-n-shared.true, c.shared_count-shared.ensures, fact)

pub invariant_of-self-2 : goal.invariant_of-self-2
invariant_of-self-2 c =
    let ss = c.args.self.now.list.items in
    let s = c.index_mut.result.now in
    let t : Stretch = record { shared = s.shared; entries = c.truncate_and_shrink.new.entries } in
    let at = stretch_at ss ss c.args.i s refl c.requires.there c.index_mut.ensures.value in
    let all =
    cut_shrinks ss (omega (arith, c.args.self.now.list.ok, c.args.self.now.list.small)) c.args.self.now.nested c.args.self.now.fresh c.args.i c.requires.there c.args.n c.requires.next
    (omega (arith, c.if-n-shared.false, c.shared_count-shared.ensures)) t (sym at.1) (c.truncate_and_shrink.ensures ∙ (λ k. take (c.args.n - c.shared_count-shared.ensures k) (sym at.2 k))) in
    record { nested = all.nested; fresh = all.fresh }
