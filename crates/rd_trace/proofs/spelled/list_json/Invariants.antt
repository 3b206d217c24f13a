use Rattle.rd_trace.proofs.Prelude.{◌≡◌, ◌≤◌, take, length, vec_len, vec_capacity, AreSpelled}
use Rattle.rd_trace.proofs.spelled.list_json.Given as goal

-- the values so far are those of the things before this one
abbrev pub invariant-loop-thing : goal.invariant-loop-thing
invariant-loop-thing g l =
    AreSpelled g.T.Spelled.spells g.T.Written.datum l.values.items (take l.thing-index l.things)
    × (vec_len l.values ≡ l.thing-index) × (length l.things ≤ vec_capacity l.values)
