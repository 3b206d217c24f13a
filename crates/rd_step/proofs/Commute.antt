-- A step that does not depend on the one before it may go first.
use Rattle.rd_step.proofs.Prelude.{◌≡◌, ◌≢◌, ℕ, false, ◌==◌, refl, sym, ◌∙◌, subst, Option, Some, Ok, arith, eqb-false, or_parts, Access, Performed, contents_after, perform, Actor, need, after, World, Event, Stepped, with_actor, step_outcome, step, depends, CommutingSquare, interferes, interfere-sym, perform-unaffected, contents_after-commutes}
use Rattle.rd_step.proofs.Steps.{StepStages, step_stages, step_of, with_actor-other}

-- setting the records of two actors gives the same actors in either order
with_actor-swap : (m n : ℕ) (a b : Actor) (actors : ℕ → Option Actor) → m ≢ n
    → with_actor m a (with_actor n b actors) ≡ with_actor n b (with_actor m a actors)
with_actor-swap m n a b actors ne = grind arith

-- the law for two steps, each given by its actor's record, its access and what that did
commutes_by_stages : (w : World) (e f : Event) (a b : Actor) (x y : Access) (d k : Performed)
    → w.actor e.actor ≡ Some a → need w.ring a e.act ≡ Ok x → perform w.ring e.actor w.at x ≡ Ok d
    → (step_outcome w e a d (after w.ring a e.act d.answer)).world.actor f.actor ≡ Some b → need w.ring b f.act ≡ Ok y
    → perform w.ring f.actor (contents_after d w.at) y ≡ Ok k → e.actor ≢ f.actor → interferes d k ≡ false
    → let v = step_outcome w e a d (after w.ring a e.act d.answer) in
    CommutingSquare w e f v (step_outcome v.world f b k (after w.ring b f.act k.answer))
commutes_by_stages w e f a b x y d k has_a needs_a does_a has_b needs_b does_b ne free =
    let na = after w.ring a e.act d.answer in
    let nb = after w.ring b f.act k.answer in
    let ne' : f.actor ≢ e.actor = λ h. ne (sym h) in
    let had_b : w.actor f.actor ≡ Some b = sym (with_actor-other e.actor na.0 w.actor f.actor ne') ∙ has_b in
    let did_b : perform w.ring f.actor w.at y ≡ Ok k = sym (perform-unaffected w.ring e.actor f.actor w.at (contents_after d w.at) x y d k ne does_a does_b free) ∙ does_b in
    let has_a' : with_actor f.actor nb.0 w.actor e.actor ≡ Some a = with_actor-other f.actor nb.0 w.actor e.actor ne ∙ has_a in
    let did_a : perform w.ring e.actor (contents_after k w.at) x ≡ Ok d = perform-unaffected w.ring f.actor e.actor w.at w.at y x k d ne' did_b does_a (interfere-sym k.place d.place k.wrote d.wrote ∙ free) ∙ does_a in
    let v' = step_outcome w f b k nb in
    let u' = step_outcome v'.world e a d na in
    let contents : contents_after d (contents_after k w.at) ≡ contents_after k (contents_after d w.at) = grind (arith, contents_after-commutes) in
    let actors = with_actor-swap e.actor f.actor na.0 nb.0 w.actor ne in
    record {
      first = v';
      goes_first = step_of w f b y k had_b needs_b did_b;
      same_entry = refl;
      second = u';
      goes_second = step_of v'.world e a x d has_a' needs_a did_a;
      entry_unchanged = refl;
      same_world = λ i. record { ring = w.ring; at = contents i; actor = actors i };
    }

-- a step that does not depend on the one before it may go first
pub commutes : (w : World) (e f : Event) (v u : Stepped) → step w e ≡ Ok v → step v.world f ≡ Ok u
    → depends v.entry u.entry ≡ false → CommutingSquare w e f v u
commutes w e f v u h k free =
    let tv = step_stages w e v h in
    let v' = step_outcome w e tv.a tv.did (after w.ring tv.a e.act tv.did.answer) in
    subst (λ (s : Stepped). StepStages s.world f u → depends s.entry u.entry ≡ false → CommutingSquare w e f s u) tv.ends
    (λ tu free'.
    let u' = step_outcome v'.world f tu.a tu.did (after w.ring tu.a f.act tu.did.answer) in
    subst (λ (t : Stepped). depends v'.entry t.entry ≡ false → CommutingSquare w e f v' t) tu.ends
    (λ free''.
    let parts = or_parts (e.actor == f.actor) (interferes tv.did tu.did) free'' in
    commutes_by_stages w e f tv.a tu.a tv.access tu.access tv.did tu.did tv.has tv.needs tv.does tu.has tu.needs tu.does
    (eqb-false e.actor f.actor parts.0) parts.1)
    free')
    (step_stages v.world f u k)
    free
