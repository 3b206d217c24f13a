use Rattle.rd_depend.proofs.Prelude.{◌<◌, ◌≤◌, true, false, refl, arith, false≢true, spare_in}
use Rattle.rd_depend.proofs.IndexTable.{spare_there}
use Rattle.rd_depend.proofs.index.table.Table.reserve_under.Goals as goal

pub returns-in_err-row-clause-succeeds : goal.returns-in_err-row-clause-succeeds
returns-in_err-row-clause-succeeds c = λ h. absurd (false≢true (c.in_err-row.ensures.succeeds (h false refl)))

pub returns-in_err-reserve_at-clause-succeeds : goal.returns-in_err-reserve_at-clause-succeeds
returns-in_err-reserve_at-clause-succeeds c = λ h.
    let mid = c.find_or_add.new.self in
    let more : spare_in c.args.self.now false c.args.key ≤ spare_in mid false c.args.key = c.in_ok-row.ensures.same.room false c.args.key in
    let had : 0 < spare_in c.args.self.now false c.args.key = h false refl in
    let has : 0 < spare_in mid false c.args.key = omega arith in
    absurd (false≢true (c.in_err-reserve_at.ensures.succeeds (spare_there mid c.args.key false c.in_ok-row.row c.in_ok-row.ensures.row has)))

pub returns-in_err-reserve_if-clause-succeeds : goal.returns-in_err-reserve_if-clause-succeeds
returns-in_err-reserve_if-clause-succeeds c = λ h.
    let mid = c.find_or_add.new.self in
    absurd (false≢true (c.in_err-reserve_if.ensures.succeeds (λ wrote.
    let more : spare_in c.args.self.now true c.args.key ≤ spare_in mid true c.args.key = c.in_ok-row.ensures.same.room true c.args.key in
    let had : 0 < spare_in c.args.self.now true c.args.key = h true wrote in
    let has : 0 < spare_in mid true c.args.key = omega arith in
    spare_there mid c.args.key true c.in_ok-row.row c.in_ok-row.ensures.row has)))
