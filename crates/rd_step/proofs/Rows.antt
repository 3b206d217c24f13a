-- An actor whose record fits goes on from an answer that fits to a record that fits, row by row.
use Rattle.rd_step.proofs.Prelude.{◌≡◌, ℕ, true, refl, sym, subst, arith, Option, None, Ok, IfOk, le-leb, ArrSlot, Access, Answer, root, Act, Actor, Pc, E1, E2, E3, E4, E8, E11, E12, E13, E14, Q4, Q5, Q11, Q13, A1, B1, B2, B3, idle, need, need_at, after_take, after_at, after, words_fit_at, Presence, record_fits, index_end, calling, Op}
use Rattle.rd_step.proofs.Fits.{NamesAndNumbersFit, record_fits-names_and_numbers, record_fits-words, record_fits-from_both, answer_fits, drew_slot}
use Rattle.rd_cell.specs.declared.contents.Content.TheVariants as content
use Rattle.rd_cell.specs.declared.operations.Answer.TheVariants as answer
use Rattle.rd_actor.specs.declared.actors.Act.TheVariants as act

-- If a record names what is there

idle_fits : (R : ℕ) (there : Presence) → there root ≡ true → NamesAndNumbersFit R there idle
idle_fits R there h = record { crq = h; new = h; next = h; t = refl; h = refl; idx = le-leb 0 (index_end R) (omega arith) }

-- the idle record fits if the root is there
pub idle_record : (R : ℕ) (there : Presence) → there root ≡ true → record_fits R there idle ≡ true
idle_record R there h = record_fits-from_both R there idle (idle_fits R there h) refl

-- a record that begins a call fits if its words do, since it names only the root
calling_fits : (R : ℕ) (there : Presence) (pc : Pc) (op : Op) → there root ≡ true → words_fit_at pc (calling pc op) ≡ true
    → record_fits R there (calling pc op) ≡ true
calling_fits R there pc op h w = grind arith

-- moving an actor to a control point that its words fit leaves a record that fits
moved : (R : ℕ) (there : Presence) (a : Actor) (pc : Pc) → NamesAndNumbersFit R there a → words_fit_at pc (record a { pc = pc }) ≡ true
    → record_fits R there (record a { pc = pc }) ≡ true
moved R there a pc f w = grind arith

taken_fits : (R : ℕ) (there : Presence) (a : Actor) (val : Option ℕ) → there root ≡ true → record_fits R there a ≡ true
    → record_fits R there (after_take val a).0 ≡ true
taken_fits R there a val h whole = grind arith

swapped_out_fits : (R : ℕ) (there : Presence) (a : Actor) (slot : ArrSlot) → there root ≡ true → NamesAndNumbersFit R there a → words_fit_at B3 a ≡ true
    → record_fits R there (after_at R B2 a (answer.Found (content.Slot slot))).0 ≡ true
swapped_out_fits R there a slot r f w = grind arith

-- each row leads to a record that fits
after_at_fits : (R : ℕ) (there : Presence) (a : Actor) (pc : Pc) (answer : Answer) → there root ≡ true
    → answer_fits R there answer ≡ true → record_fits R there a ≡ true → NamesAndNumbersFit R there a → words_fit_at pc a ≡ true
    → IfOk (need_at R pc a) (λ x. drew_slot x answer ≡ true) → record_fits R there (after_at R pc a answer).0 ≡ true
after_at_fits R there a E2 (answer.Found (content.Next None)) r h whole f w d = moved R there a E4 f w
after_at_fits R there a E3 answer r h whole f w d = moved R there a E1 f w
after_at_fits R there a E8 answer.Won r h whole f w d = idle_record R there r
after_at_fits R there a E11 answer r h whole f w d = moved R there a E12 f w
after_at_fits R there a E13 answer.Won r h whole f w d = moved R there a E14 f w
after_at_fits R there a E13 answer.Lost r h whole f w d = moved R there a E1 f w
after_at_fits R there a E14 answer r h whole f w d = idle_record R there r
after_at_fits R there a Q4 (answer.SafeAndIndex safe idx) r h whole f w d = grind arith
after_at_fits R there a Q5 answer.Won r h whole f w d = taken_fits R there a a.val r whole
after_at_fits R there a Q11 (answer.Found (content.Tail closed count)) r h whole f w d = grind arith
after_at_fits R there a Q13 (answer.Found (content.Next None)) r h whole f w d = idle_record R there r
after_at_fits R there a A1 (answer.Found (content.Number u)) r h whole f w d = grind arith
after_at_fits R there a B1 (answer.Found (content.Number g)) r h whole f w d = grind arith
after_at_fits R there a B2 (answer.Found (content.Slot slot)) r h whole f w d = swapped_out_fits R there a slot r f w
after_at_fits R there a pc answer r h whole f w d = grind arith

-- an actor whose record fits, and whose act is not refused, goes on to a record that fits
pub after_fits : (R : ℕ) (there : Presence) (a : Actor) (act : Act) (x : Access) (answer : Answer) → there root ≡ true
    → need R a act ≡ Ok x → answer_fits R there answer ≡ true → drew_slot x answer ≡ true → record_fits R there a ≡ true
    → record_fits R there (after R a act answer).0 ≡ true
after_fits R there a act.Go x answer r n h d whole =
    after_at_fits R there a a.pc answer r h whole (record_fits-names_and_numbers R there a whole) (record_fits-words R there a whole) (subst (λ r. IfOk r (λ x. drew_slot x answer ≡ true)) (sym n) d)
after_fits R there a act x answer r n h d whole = grind (arith, calling_fits)
