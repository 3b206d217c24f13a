-- The space changes at the place alone, and the actors at the actor alone, so the world is the one
-- that the definition gives.
use Rattle.rd_step.proofs.Prelude.{◌≡◌, ℕ, List, Option, refl, sym, ◌∙◌, subst, Content, Place, Actor, Space, restore, contents, keeps_returns, IsWellFormed, numbered, world_of_fields}
use Rattle.rd_step.specs.Step.{with_actor}
use Rattle.rd_step.specs.Undo.{revert}
use Rattle.rd_step.proofs.worlds.World.revert.Goals as goal

module _ {R : ℕ} (old new : Space R) (actors actors' : List Actor) (actor : ℕ) (words : Actor) (place : Option Place) (content : Option Content)
    (done : contents new ≡ restore place content (contents old)) (set : numbered actors' ≡ with_actor actor words (numbered actors)) where
  reverted : world_of_fields new actors' ≡ revert (world_of_fields old actors) actor words place content
  reverted = λ i. record { ring = R; at = done i; actor = set i }

  well_formed : IsWellFormed (revert (world_of_fields old actors) actor words place content) → IsWellFormed (world_of_fields new actors')
  well_formed is = subst IsWellFormed (sym reverted) is

pub invariant_of-self-clause-well_formed : goal.invariant_of-self-clause-well_formed
invariant_of-self-clause-well_formed g c =
    well_formed c.args.self.now.space c.restore.new.self _ _ _ _ _ _ (c.restore.ensures.done ∙ (λ i. restore (sym c.in-Some-Some.is-0 i) (sym c.in-Some-Some.is-1 i) (contents c.args.self.now.space))) c.set_actor.ensures.done c.requires.well_formed

pub invariant_of-self-in-Some-None-clause-well_formed : goal.invariant_of-self-in-Some-None-clause-well_formed
invariant_of-self-in-Some-None-clause-well_formed g c =
    well_formed c.args.self.now.space c.unmake_at.new.space _ _ _ _ _ _ (c.unmake_at.ensures.done ∙ (λ i. restore (sym c.in-Some-None.is-0 i) (sym c.in-Some-None.is-1 i) (contents c.args.self.now.space))) c.set_actor.ensures.done c.requires.well_formed

pub invariant_of-self-in_default-clause-well_formed : goal.invariant_of-self-in_default-clause-well_formed
invariant_of-self-in_default-clause-well_formed g c =
    well_formed c.args.self.now.space c.args.self.now.space _ _ _ _ _ _ (λ i. restore (sym c.in_default.is-0 i) c.args.content (contents c.args.self.now.space)) c.set_actor.ensures.done c.requires.well_formed

pub returns-in-Some-Some-clause-done : goal.returns-in-Some-Some-clause-done
returns-in-Some-Some-clause-done g c =
    reverted c.args.self.now.space c.restore.new.self _ _ _ _ _ _ (c.restore.ensures.done ∙ (λ i. restore (sym c.in-Some-Some.is-0 i) (sym c.in-Some-Some.is-1 i) (contents c.args.self.now.space))) c.set_actor.ensures.done

pub returns-in-Some-None-clause-done : goal.returns-in-Some-None-clause-done
returns-in-Some-None-clause-done g c =
    reverted c.args.self.now.space c.unmake_at.new.space _ _ _ _ _ _ (c.unmake_at.ensures.done ∙ (λ i. restore (sym c.in-Some-None.is-0 i) (sym c.in-Some-None.is-1 i) (contents c.args.self.now.space))) c.set_actor.ensures.done

pub returns-in_default-clause-done : goal.returns-in_default-clause-done
returns-in_default-clause-done g c =
    reverted c.args.self.now.space c.args.self.now.space _ _ _ _ _ _ (λ i. restore (sym c.in_default.is-0 i) c.args.content (contents c.args.self.now.space)) c.set_actor.ensures.done

pub returns-in-Some-Some-clause-room : goal.returns-in-Some-Some-clause-room
returns-in-Some-Some-clause-room g c = rw (c.in-Some-Some.is-0, c.in-Some-Some.is-1) (keeps_returns _ _ _ (λ m. refl) c.restore.ensures.room)

pub returns-in-Some-None-clause-room : goal.returns-in-Some-None-clause-room
returns-in-Some-None-clause-room g c = rw (c.in-Some-None.is-0, c.in-Some-None.is-1) c.unmake_at.ensures.room
