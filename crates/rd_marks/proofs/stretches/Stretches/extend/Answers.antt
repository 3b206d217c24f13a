use Rattle.rd_marks.proofs.Prelude.{◌<◌, ◌^◌, length, refl, arith, fact_passed_up, Stretch}
use Rattle.rd_marks.proofs.Reading.{stretch_at}
use Rattle.rd_marks.proofs.StretchUses.{append_grows, equal_stretch_keeps_entries}
use Rattle.rd_marks.proofs.stretches.Stretches.extend.Goals as goal

pub invariant_of-self : goal.invariant_of-self
invariant_of-self c =
    let ss = c.args.self.now.list.items in
    let t : Stretch = record { shared = c.index_mut.result.now.shared; entries = c.append.new.entries } in
    let few : length ss < 2 ^ 64 = omega (arith, c.args.self.now.list.ok, c.args.self.now.list.small) in
    let grown = append_grows ss few c.args.self.now.nested c.args.self.now.fresh c.args.live.now c.requires.few c.args.at c.requires.more c.requires.agrees c.requires.deepest c.requires.end t in
    let at = stretch_at ss ss c.args.at.stretch c.index_mut.result.now refl c.requires.end.there c.index_mut.ensures.value in
    let left = equal_stretch_keeps_entries ss few c.args.self.now.nested c.args.self.now.fresh c.args.at.stretch c.requires.end.there t in
    grind (arith, at, left, c.append.ensures.ok, c.append.ensures.err, c.after-rest.ensures, grown)

pub returns-in_err-append-clause-err : goal.returns-in_err-append-clause-err
returns-in_err-append-clause-err c = grind (arith, stretch_at, fact_passed_up, equal_stretch_keeps_entries)

pub returns-clause-ok : goal.returns-clause-ok
returns-clause-ok c =
    let ss = c.args.self.now.list.items in
    let t : Stretch = record { shared = c.index_mut.result.now.shared; entries = c.append.new.entries } in
    let few : length ss < 2 ^ 64 = omega (arith, c.args.self.now.list.ok, c.args.self.now.list.small) in
    let grown = append_grows ss few c.args.self.now.nested c.args.self.now.fresh c.args.live.now c.requires.few c.args.at c.requires.more c.requires.agrees c.requires.deepest c.requires.end t in
    grind (arith, stretch_at, c.index_mut.ensures.value, c.len.ensures, c.in_ok-append.ensures.ok, c.after-rest.ensures, grown)
