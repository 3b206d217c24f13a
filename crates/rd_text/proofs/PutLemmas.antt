-- Appending words after words.
use Rattle.std.proofs.Common.{ℕ, ◌+◌, List, ◌++◌, arith, length-append, append_assoc}
use Rattle.rd_text.specs.Puts.{Puts, PutsUpTo}

-- appending one text and then another appends both
puts_both : (old mid new one other : List ℕ) → Puts old mid one → Puts mid new other → Puts old new (one ++ other)
puts_both old mid new one other p q room = grind (arith, length-append, append_assoc)

-- both together have at most as many bytes as their bounds together
pub puts_up_to_both : (m n : ℕ) (old mid new one other : List ℕ) → PutsUpTo m old mid one → PutsUpTo n mid new other → PutsUpTo (m + n) old new (one ++ other)
puts_up_to_both m n old mid new one other p q = (puts_both old mid new one other p.0 q.0, omega (arith, p.1, q.1, length-append one other))
