-- Code and definition have the same rows. The last arm takes the answers for which a control
-- point's row has no case, and there both leave the record as it is.
use Rattle.std.proofs.Common.{rules}
use Rattle.rd_actor.proofs.actors.Actor.after_at.Goals as goal
use Rattle.rd_actor.proofs.actors.Actor.after_at.Goals.{in_default-via-in-E1+in-Found+in_default, in_default-via-in-E1+in_default, in_default-via-in-E2+in-Found+in_default, in_default-via-in-E2+in_default, in_default-via-in-E4+in-Found+in_default, in_default-via-in-E4+in_default, in_default-via-in-E5+in_default, in_default-via-in-E6+in_default, in_default-via-in-E7+in-Found+in_default, in_default-via-in-E7+in_default, in_default-via-in-E8+in_default, in_default-via-in-E9+in-Found+in_default, in_default-via-in-E9+in_default, in_default-via-in-E12+in_default, in_default-via-in-E13+in_default, in_default-via-in-Q1+in-Found+in_default, in_default-via-in-Q1+in_default, in_default-via-in-Q2+in-Found+in_default, in_default-via-in-Q2+in_default, in_default-via-in-Q3+in_default, in_default-via-in-Q4+in_default, in_default-via-in-Q5+in_default, in_default-via-in-Q6+in_default, in_default-via-in-Q8+in-Found+in_default, in_default-via-in-Q8+in_default, in_default-via-in-Q9+in-Found+in_default, in_default-via-in-Q9+in_default, in_default-via-in-Q10+in-Found+in_default, in_default-via-in-Q10+in_default, in_default-via-in-Q11+in-Found+in_default, in_default-via-in-Q11+in_default, in_default-via-in-Q12+in_default, in_default-via-in-Q13+in-Found+in_default, in_default-via-in-Q13+in_default, in_default-via-in-A1+in-Found+in_default, in_default-via-in-A1+in_default, in_default-via-in-A2+in-Found+in_default, in_default-via-in-A2+in_default, in_default-via-in-B1+in-Found+in_default, in_default-via-in-B1+in_default, in_default-via-in-B2+in-Found+in_default, in_default-via-in-B2+in_default, in_default-via-in-B3+in-Found+in_default, in_default-via-in-B3+in_default}

pub returns-in_default : goal.returns-in_default
returns-in_default g c =
    elim c.in_default.branch [
      | in_default-via-in-E1+in-Found+in_default w ↦ search rules
      | in_default-via-in-E1+in_default w ↦ search rules
      | in_default-via-in-E2+in-Found+in_default w ↦ search rules
      | in_default-via-in-E2+in_default w ↦ search rules
      | in_default-via-in-E4+in-Found+in_default w ↦ search rules
      | in_default-via-in-E4+in_default w ↦ search rules
      | in_default-via-in-E5+in_default w ↦ search rules
      | in_default-via-in-E6+in_default w ↦ search rules
      | in_default-via-in-E7+in-Found+in_default w ↦ search rules
      | in_default-via-in-E7+in_default w ↦ search rules
      | in_default-via-in-E8+in_default w ↦ search rules
      | in_default-via-in-E9+in-Found+in_default w ↦ search rules
      | in_default-via-in-E9+in_default w ↦ search rules
      | in_default-via-in-E12+in_default w ↦ search rules
      | in_default-via-in-E13+in_default w ↦ search rules
      | in_default-via-in-Q1+in-Found+in_default w ↦ search rules
      | in_default-via-in-Q1+in_default w ↦ search rules
      | in_default-via-in-Q2+in-Found+in_default w ↦ search rules
      | in_default-via-in-Q2+in_default w ↦ search rules
      | in_default-via-in-Q3+in_default w ↦ search rules
      | in_default-via-in-Q4+in_default w ↦ search rules
      | in_default-via-in-Q5+in_default w ↦ search rules
      | in_default-via-in-Q6+in_default w ↦ search rules
      | in_default-via-in-Q8+in-Found+in_default w ↦ search rules
      | in_default-via-in-Q8+in_default w ↦ search rules
      | in_default-via-in-Q9+in-Found+in_default w ↦ search rules
      | in_default-via-in-Q9+in_default w ↦ search rules
      | in_default-via-in-Q10+in-Found+in_default w ↦ search rules
      | in_default-via-in-Q10+in_default w ↦ search rules
      | in_default-via-in-Q11+in-Found+in_default w ↦ search rules
      | in_default-via-in-Q11+in_default w ↦ search rules
      | in_default-via-in-Q12+in_default w ↦ search rules
      | in_default-via-in-Q13+in-Found+in_default w ↦ search rules
      | in_default-via-in-Q13+in_default w ↦ search rules
      | in_default-via-in-A1+in-Found+in_default w ↦ search rules
      | in_default-via-in-A1+in_default w ↦ search rules
      | in_default-via-in-A2+in-Found+in_default w ↦ search rules
      | in_default-via-in-A2+in_default w ↦ search rules
      | in_default-via-in-B1+in-Found+in_default w ↦ search rules
      | in_default-via-in-B1+in_default w ↦ search rules
      | in_default-via-in-B2+in-Found+in_default w ↦ search rules
      | in_default-via-in-B2+in_default w ↦ search rules
      | in_default-via-in-B3+in-Found+in_default w ↦ search rules
      | in_default-via-in-B3+in_default w ↦ search rules
    ]
