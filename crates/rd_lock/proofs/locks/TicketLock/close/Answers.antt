use Rattle.rd_lock.proofs.Prelude.{◌≡◌, sym, subst, arith, map-map, HasAllUpTo, IsClosedOver, pass_view}
use Rattle.rd_lock.proofs.Lists.{of_each}
use Rattle.rd_lock.proofs.locks.TicketLock.close.Goals as goal

pub returns-then-served-next-clause-err : goal.returns-then-served-next-clause-err
returns-then-served-next-clause-err g c = let e = c.close_table-closed.ensures.ended _ _ _ c.word-served.ensures c.word-next.ensures c.take-slot.ensures.value in let order = e.order in let differ = c.if-served-next.true in (omega arith, e.limit)

pub returns-then-served-next-clause-newest : goal.returns-then-served-next-clause-newest
returns-then-served-next-clause-newest g c = let e = c.close_table-closed.ensures.ended _ _ _ c.word-served.ensures c.word-next.ensures c.take-slot.ensures.value in of_each pass_view _ c.args.passes.items e.newest

pub returns-then-served-next-clause-succeeds : goal.returns-then-served-next-clause-succeeds
returns-then-served-next-clause-succeeds g c all = let e = c.close_table-closed.ensures.ended _ _ _ c.word-served.ensures c.word-next.ensures c.take-slot.ensures.value in
    absurd (c.if-served-next.true (e.all (subst (HasAllUpTo _) (sym (map-map (λ p. p.pass) pass_view c.args.passes.items)) all)))

pub unreachable-requires : goal.unreachable-requires
unreachable-requires g c = let e = c.close_table-closed.ensures.ended _ _ _ c.word-served.ensures c.word-next.ensures c.take-slot.ensures.value in grind (arith, e.value)

pub returns-clause-ok : goal.returns-clause-ok
returns-clause-ok g c = let e = c.close_table-closed.ensures.ended _ _ _ c.word-served.ensures c.word-next.ensures c.take-slot.ensures.value in let v = e.value c.if-served-next.false in
    let found = v.1 in let is = c.in-Some.is in let same : v.0 ≡ c.in-Some.value = cc in
    subst (λ value. IsClosedOver c.args.self c.args.passes.items (g.T.Recorded.history value)) same (record { names = v.3; continues = of_each pass_view _ c.args.passes.items v.4 })

pub returns-clause-rooted : goal.returns-clause-rooted
returns-clause-rooted g c = let e = c.close_table-closed.ensures.ended _ _ _ c.word-served.ensures c.word-next.ensures c.take-slot.ensures.value in let v = e.value c.if-served-next.false in grind arith
