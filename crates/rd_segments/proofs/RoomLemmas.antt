-- Relations on the makers' room that follow from others.
use Rattle.rd_segments.proofs.Prelude.{◌≡◌, ℕ, Bool, arith, Result, Ok, Err, IsErrAnd, Refusal, MakersRoom, KeepsMakersRoom, UsesMakersRoom, ReturnsMakersRoom}

-- a call that leaves all room uses none, whatever it was to make
pub keeps_uses : {T : Type 0} (r : Result T Refusal) (makes : Bool) (maker : ℕ) (old new : MakersRoom) → KeepsMakersRoom old new
    → UsesMakersRoom r makes maker old new
keeps_uses r makes maker old new keeps = grind arith

-- a call that leaves all room gives none back, if none is due
pub keeps_returns : (returned : ℕ → ℕ) (old new : MakersRoom) → ((m : ℕ) → returned m ≡ 0) → KeepsMakersRoom old new → ReturnsMakersRoom returned old new
keeps_returns returned old new none keeps = record { makers = keeps.makers; returns = λ m. let e = keeps.same m in let z = none m in omega arith }

-- if the call within it succeeded, a call that succeeds uses the same room
pub uses_too : {S T : Type 0} (x : S) (y : T) (inner outer : Bool) (maker : ℕ) (old new : MakersRoom) → outer ≡ inner
    → UsesMakersRoom (Ok x) inner maker old new → UsesMakersRoom (Ok y) outer maker old new
uses_too x y inner outer maker old new same uses = grind arith

-- a result has one error at most
err_is : {T E : Type 0} (r : Result T E) (x y : E) → r ≡ Err x → r ≡ Err y → x ≡ y
err_is r x y h e = cc

-- a call that passes up a refusal uses the room that the refused call used
pub uses_passed_up : {S T : Type 0} (x : Refusal) (r : Result T Refusal) (inner outer : Bool) (maker : ℕ) (old new : MakersRoom) → outer ≡ inner
    → IsErrAnd r (λ e. e ≡ x) → UsesMakersRoom {T = S} (Err x) inner maker old new → UsesMakersRoom r outer maker old new
uses_passed_up x r inner outer maker old new same is uses = grind (arith, err_is)
