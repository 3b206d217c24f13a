use Rattle.std.proofs.Common.{◌≡◌, refl, drop, arith}
use Rattle.rd_marks.proofs.StretchUses.{insertion_grows}
use Rattle.rd_marks.proofs.stretches.Stretches.branch_off.Goals as goal

pub invariant_of-self-2 : goal.invariant_of-self-2
invariant_of-self-2 c =
    let said = c.insertion_index-i.ensures in
    let its : c.append.new.entries.items ≡ drop c.args.at.number c.args.live.now = grind (arith, c.in_ok-append.ensures.ok, c.new-entries.ensures.items, c.after.ensures) in
    let all = insertion_grows c.args.self.now.list.items (omega (arith, c.args.self.now.list.ok, c.args.self.now.list.small)) c.args.self.now.nested c.args.self.now.fresh c.args.live.now c.requires.few
    c.args.at c.requires.more c.requires.agrees c.requires.deepest
    c.requires.within c.insertion_index-i.result said.there said.first said.shares said.within said.same (record { shared = c.args.at.number; entries = c.append.new.entries }) refl its in
    grind (arith, all, c.insert.ensures.succeeds, c.insert.ensures.items, c.in_ok-reserve.ensures.ok, c.reserve.ensures)

pub returns-clause-ok : goal.returns-clause-ok
returns-clause-ok c =
    let said = c.insertion_index-i.ensures in
    let its : c.append.new.entries.items ≡ drop c.args.at.number c.args.live.now = grind (arith, c.in_ok-append.ensures.ok, c.new-entries.ensures.items, c.after.ensures) in
    let all = insertion_grows c.args.self.now.list.items (omega (arith, c.args.self.now.list.ok, c.args.self.now.list.small)) c.args.self.now.nested c.args.self.now.fresh c.args.live.now c.requires.few
    c.args.at c.requires.more c.requires.agrees c.requires.deepest
    c.requires.within c.insertion_index-i.result said.there said.first said.shares said.within said.same (record { shared = c.args.at.number; entries = c.append.new.entries }) refl its in
    grind (arith, all.grown, c.len.ensures, c.insert.ensures.succeeds, c.insert.ensures.items, c.in_ok-reserve.ensures.ok, c.reserve.ensures)
