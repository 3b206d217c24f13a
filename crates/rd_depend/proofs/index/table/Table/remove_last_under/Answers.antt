use Rattle.rd_depend.proofs.Prelude.{◌≡◌, ℕ, true, false, length, Option, None, refl, sym, ap, ◌∙◌, arith, row_in, some_list_at, kept_in}
use Rattle.rd_depend.proofs.IndexTable.{removes_last, last_there}
use Rattle.rd_depend.proofs.index.table.Table.remove_last_under.Goals as goal

pub remove_last_at-requires : goal.remove_last_at-requires
remove_last_at-requires c =
    last_there c.args.self.now c.args.key c.args.wrote c.in-Some.row (sym c.in-Some.ensures.row) (λ w. c.requires w c.args.key refl) false refl

pub remove_last_if-requires : goal.remove_last_if-requires
remove_last_if-requires c = λ h.
    last_there c.args.self.now c.args.key c.args.wrote c.in-Some.row (sym c.in-Some.ensures.row) (λ w. c.requires w c.args.key refl) true h

pub returns-in-Some : goal.returns-in-Some
returns-in-Some c =
    removes_last _ _ c.args.key c.args.wrote c.in-Some.row refl c.remove_last_at.ensures.lists c.remove_last_if.ensures.lists c.remove_last_at.ensures.room
    c.remove_last_if.ensures.room (sym c.in-Some.ensures.row)

pub returns-in_default : goal.returns-in_default
returns-in_default c =
    let none : row_in c.args.self.now.keys.keys c.args.key ≡ None = sym c.row_of.ensures.row ∙ c.in_default.is in
    let empty : length (kept_in c.args.self.now false c.args.key) ≡ 0 = ap (λ (o : Option ℕ). length (some_list_at c.args.self.now.all.items o)) none in
    absurd (omega (arith, c.requires false c.args.key refl refl))
