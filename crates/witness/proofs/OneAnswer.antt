-- Each command has one answer, except that it may be refused memory.
use Rattle.std.specs.List.{AllByRecursion}
use Rattle.std.proofs.Common.{subst}
use Rattle.std.specs.Prelude.{◌⊎◌, IsTrue, ◌≢◌}
use Rattle.rd_cell.specs.declared.refusal.Refusal.TheVariants as refusal
use Rattle.rd_step.specs.Prelude.{World, result_map}
use Rattle.rd_marks.proofs.Prelude.{◌≡◌, ◌↔◌, ◌∙◌, sym, arith, ap, inl, inr, refl, Bool, List, [], ◌∷◌, Option, Some, None, Result, Ok, Err, Refusal, Event, BookState}
use Rattle.rd_marks.specs.declared.commands.Command.{Command}
use Rattle.rd_marks.specs.BookState.{AnswersSame}
use Rattle.rd_marks.specs.Commands.{Answered, AreObeyed, IsObeyed, IsAsDefined}
use Rattle.rd_marks.specs.declared.replies.Reply.{Reply}
use Rattle.rd_marks.specs.declared.replies.Reply.TheVariants as reply
use Rattle.rd_marks.specs.declared.commands.Command.TheVariants as command

-- two answers to a command are one, or one of them refuses memory
abbrev IsOneAnswer : Answered → Answered → Type 0
IsOneAnswer x y = (x ≡ y) ⊎ (x.answer ≡ Err refusal.NoMemory) ⊎ (y.answer ≡ Err refusal.NoMemory)

-- a command that may be refused memory has one other answer
as_defined : (b : BookState) (defined : Answered) (May : Type 0) (x y : Answered) → IsAsDefined b defined May x → IsAsDefined b defined May y → IsOneAnswer x y
as_defined b defined May x y h k = grind arith

-- two truth values of one statement are equal
same_bool : (a b : Bool) (P : Type 0) → IsTrue a ↔ P → IsTrue b ↔ P → a ≡ b
same_bool a b P h k = grind arith

-- a query with a result has one answer, and leaves the state
query : (b : BookState) (x y : Answered) (r : Result Reply Refusal) → (x.answer ≡ r) × (x.state ≡ b) → (y.answer ≡ r) × (y.state ≡ b) → IsOneAnswer x y
query b x y r h k = inl (λ i. record { answer = (h.0 ∙ sym k.0) i; state = (h.1 ∙ sym k.1) i })

-- whether two lists of events are equivalent has one answer
one_same : (start : World) (o p : Option (List Event)) (said told : Result Bool Refusal) → AnswersSame start o p said → AnswersSame start o p told
    → (said ≡ told) ⊎ (said ≡ Err refusal.NoMemory) ⊎ (told ≡ Err refusal.NoMemory)
one_same start (Some es) (Some fs) (Ok a) (Ok b) h k = inl (ap Ok (same_bool a b _ h k))
one_same start (Some es) (Some fs) (Err cause) told h k = inr (inl (ap Err h.0))
one_same start (Some es) (Some fs) (Ok a) (Err cause) h k = inr (inr (ap Err k.0))
one_same start None p said told h k = inl (h ∙ sym k)
one_same start (Some es) None said told h k = inl (h ∙ sym k)

-- so has the comparison of two bookmarks
queried : (b : BookState) (x y : Answered) (said told : Result Bool Refusal) → (x.answer ≡ result_map reply.Same said) × (x.state ≡ b) → (y.answer ≡ result_map reply.Same told) × (y.state ≡ b)
    → (said ≡ told) ⊎ (said ≡ Err refusal.NoMemory) ⊎ (told ≡ Err refusal.NoMemory) → IsOneAnswer x y
queried b x y said told h k (inl same) = query b x y (result_map reply.Same said) h (k.0 ∙ ap (result_map reply.Same) (sym same), k.1)
queried b x y said told h k (inr (inl none)) = inr (inl (h.0 ∙ ap (result_map reply.Same) none))
queried b x y said told h k (inr (inr none)) = inr (inr (k.0 ∙ ap (result_map reply.Same) none))

-- each command has one answer, unless memory is refused
pub one_answer : (b : BookState) (c : Command) (x y : Answered) → IsObeyed b c x → IsObeyed b c y → IsOneAnswer x y
one_answer b command.Undo x y h k = inl (h ∙ sym k)
one_answer b (command.UndoAt n) x y h k = inl (h ∙ sym k)
one_answer b (command.Roll n) x y h k = inl (h ∙ sym k)
one_answer b (command.Back n) x y h k = inl (h ∙ sym k)
one_answer b command.Redo x y h k = inl (h ∙ sym k)
one_answer b (command.Forward n) x y h k = inl (h ∙ sym k)
one_answer b (command.DropMark name) x y h k = inl (h ∙ sym k)
one_answer b (command.Mark name) x y h k = as_defined b _ _ x y h k
one_answer b (command.GotoMark name) x y h k = as_defined b _ _ x y h k
one_answer b (command.Enq actor value) x y h k = as_defined b _ _ x y h k
one_answer b (command.Deq actor) x y h k = as_defined b _ _ x y h k
one_answer b (command.ArrayEnq actor value) x y h k = as_defined b _ _ x y h k
one_answer b (command.ArrayDeq actor) x y h k = as_defined b _ _ x y h k
one_answer b (command.Go actor) x y h k = as_defined b _ _ x y h k
one_answer b (command.Starve actor choice) x y h k = as_defined b _ _ x y h k
one_answer b command.Marks x y h k = query b x y _ h k
one_answer b (command.MarkAt i) x y h k = query b x y _ h k
one_answer b (command.Same one other) x y h k =
    queried b x y h.0.0 k.0.0 (h.0.2, h.1) (k.0.2, k.1) (one_same b.session.start _ _ h.0.0 k.0.0 h.0.1 k.0.1)
one_answer b (command.Origin n) x y h k = query b x y _ h k
one_answer b (command.Writer place) x y h k = query b x y _ h k
one_answer b (command.Show place) x y h k = query b x y _ h k
one_answer b (command.Actor n) x y h k = query b x y _ h k
one_answer b (command.Step n) x y h k = query b x y _ h k
one_answer b command.Len x y h k = query b x y _ h k

-- Lists of commands

-- if neither of two answers refuses memory, they are one
answers_one : (x y : Answered) → IsOneAnswer x y → x.answer ≢ Err refusal.NoMemory → y.answer ≢ Err refusal.NoMemory → x ≡ y
answers_one x y (inl same) h k = same
answers_one x y (inr (inl none)) h k = absurd (h none)
answers_one x y (inr (inr none)) h k = absurd (k none)

-- no answer of the list refuses memory
abbrev pub NoneLacksMemory : List (Result Reply Refusal) → Type 0
NoneLacksMemory answers = AllByRecursion (λ answer. answer ≢ Err refusal.NoMemory) answers

-- a list of commands has one list of answers, and leaves one state
pub one_list : (b new other : BookState) (cs : List Command) (given told : List (Result Reply Refusal)) → AreObeyed b cs given new → AreObeyed b cs told other
    → NoneLacksMemory given → NoneLacksMemory told → (given ≡ told) × (new ≡ other)
one_list b new other [] [] [] h k has had = (refl, h ∙ sym k)
one_list b new other (c ∷ cs) (x ∷ xs) (y ∷ ys) h k has had =
    let first : Answered = record { answer = x; state = h.0 } in
    let second : Answered = record { answer = y; state = k.0 } in
    let same : first ≡ second = answers_one first second (one_answer b c first second h.1 k.1) has.0 had.0 in
    let on : AreObeyed k.0 cs xs new = subst (λ (s : BookState). AreObeyed s cs xs new) (ap (λ (a : Answered). a.state) same) h.2 in
    let rest = one_list k.0 new other cs xs ys on k.2 has.1 had.1 in
    (ap (λ (a : Answered). a.answer ∷ xs) same ∙ ap (λ (zs : List (Result Reply Refusal)). y ∷ zs) rest.0, rest.1)
one_list b new other [] (x ∷ xs) told h k has had = absurd h
one_list b new other [] [] (y ∷ ys) h k has had = absurd k
one_list b new other (c ∷ cs) [] told h k has had = absurd h
one_list b new other (c ∷ cs) (x ∷ xs) [] h k has had = absurd k
