use Rattle.rd_lock.proofs.Prelude.{rules, ◌≡◌, [], ◌∷◌, Some, sym, ap, subst, LockRule, lock_of, opening, opening_view}
use Rattle.rd_lock.proofs.Ends.{opens}
use Rattle.rd_lock.proofs.tables.make_table.Goals as goal

pub new-requires : goal.new-requires
new-requires g c = let about = c.args.about.now in let items : c.push.new.self.items ≡ Some c.args.value ∷ [] = search rules in let top = g.T.Recorded.origin about.value.value in
    subst (λ xs. LockRule (lock_of g.T.Recorded.history g.T.Recorded.origin about.seats top) (opening (about.first ∷ about.first ∷ []) xs (opening_view about.seats top about.first))) (sym items)
    (opens (lock_of g.T.Recorded.history g.T.Recorded.origin about.seats top) c.args.value about.first c.requires.empty (ap g.T.Recorded.origin (sym c.requires.about.0)) c.requires.about.1)
