-- An actor of a world asks for an access whose numbers can be represented.
use Rattle.std.proofs.Common.{◌≡◌, ℕ, ◌+◌, ◌^◌, ◌<◌, true, arith}
use Rattle.rd_actor.specs.declared.actors.Act.{Act}
use Rattle.rd_actor.specs.declared.actors.Actor.{Actor}
use Rattle.rd_actor.specs.Table.{IsRepresentable}
use Rattle.rd_actor.specs.Words.{words_fit}

-- for each act, the numbers in the access fit if h + R is below 2^64 and the actor's words fit
pub representable : (R : ℕ) (a : Actor) (act : Act) → a.h + R < 2 ^ 64 → words_fit a ≡ true → IsRepresentable R a act
representable R a act small fit = grind arith
