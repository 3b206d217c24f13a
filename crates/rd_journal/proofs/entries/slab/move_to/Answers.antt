use Rattle.rd_journal.proofs.Prelude.{◌≡◌, ℕ, ◌-◌, ◌≤◌, List, ◌++◌, length, take, drop, arith, put_mid, mid_of, moved_to, append-nil, drop_of_length-le, take_all, length-append, length-drop, length-take-le}
use Rattle.rd_journal.proofs.ListLemmas.{rotated-moved_to}
use Rattle.rd_journal.proofs.entries.slab.move_to.Goals as goal

-- what the vector holds after its part was turned by one
whole : (n k l : ℕ) (es ds turned_by_one : List ℕ) → n ≡ length es → ds ≡ es → 1 ≤ k → k ≤ l → l ≤ length es
    → turned_by_one ≡ drop 1 (mid_of (k - 1) (l - (k - 1)) ds) ++ take 1 (mid_of (k - 1) (l - (k - 1)) ds)
    → let ys = put_mid (k - 1) (l - (k - 1)) ds turned_by_one in take n (ys ++ drop (length ys) es) ≡ moved_to es k l
whole n k l es ds turned_by_one len same some below within after = grind (arith, rotated-moved_to, drop_of_length-le, append-nil, take_all, length-take-le, length-drop, length-append)

pub returns-clause-moved : goal.returns-clause-moved
returns-clause-moved c = grind (arith, whole)
