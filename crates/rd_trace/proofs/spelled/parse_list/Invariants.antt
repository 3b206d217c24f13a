use Rattle.rd_trace.proofs.Prelude.{◌≡◌, ◌≤◌, take, length, vec_len, vec_capacity, items_view, SpellEach}
use Rattle.rd_trace.proofs.spelled.parse_list.Given as goal

-- the values before this one spell the things so far
abbrev pub invariant-loop-value : goal.invariant-loop-value
invariant-loop-value g l =
    SpellEach g.T.Spelled.spells (items_view (take l.value-index l.value-items)) l.things.items
    × (vec_len l.things ≡ l.value-index) × (length l.value-items ≤ vec_capacity l.things)
