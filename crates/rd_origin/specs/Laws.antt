-- What the laws of origins state.
use Rattle.std.specs.Prelude.{◌≡◌, ℕ, List, Some}
use Rattle.rd_step.specs.Lists.{numbered}
use Rattle.rd_step.specs.declared.entries.Entry.{Entry}
use Rattle.rd_actor.specs.declared.actors.OpReply.TheVariants as op_reply
use Rattle.rd_origin.specs.Origins.{argument}

-- the step at position k took the value that is the argument of the call at position c, both
-- counted from 1
pub record IsHandedOver (entries : List Entry) (c k : ℕ) : Type 0 where
  pub call : Entry
  pub called : numbered entries c ≡ Some call
  pub taken : Entry
  pub took : numbered entries k ≡ Some taken
  pub value : ℕ
  pub replies : taken.reply ≡ Some (op_reply.Value value)
  pub argued : argument call.event.act ≡ Some value
