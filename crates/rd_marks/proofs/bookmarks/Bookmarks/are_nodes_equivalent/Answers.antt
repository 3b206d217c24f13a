-- If one list begins the other, they are equivalent exactly if they are equally long. If not, the
-- common beginning doesn't matter: the lists are equivalent exactly if the rest of one is
-- equivalent to the rest of the other.
use Rattle.rd_marks.proofs.Prelude.{◌≡◌, ◌∙◌, ℕ, ◌≤◌, take, arith, fact_passed_up, NeitherBegins, DecidesEquivalence, Node, entries_at, stretches_in, IsWithin, events, IfOk-weaker, ◌⊎◌, Bool, ◌==◌, sym, ap, List, [], ◌∷◌, ◌++◌, length, drop, length-append, eqb-true, eq-eqb, take_all, World, IsEquivalent, Event, Entry, Begins, equivalence_reflexive, runs_to, take_rest}
use Rattle.rd_marks.proofs.Starting.{entries_length, begins_shorter, event_length}
use Rattle.rd_equivalence.proofs.Exactness.{right_behind}
use Rattle.rd_marks.proofs.bookmarks.Bookmarks.are_nodes_equivalent.Goals.{After-common_len-shared, then-shared-one-via-then-shared-one, then-shared-one-via-else-shared-one+then-shared-other}
use Rattle.rd_marks.proofs.bookmarks.Bookmarks.are_nodes_equivalent.Goals as goal

-- equivalent lists are equally long
equivalent_length : (w : World) (es fs : List Event) → IsEquivalent w es fs → length es ≡ length fs
equivalent_length w [] fs h = sym (ap length h)
equivalent_length w (e ∷ es) fs h = grind (arith, length-append, equivalent_length h.stepped.world es (h.earlier ++ h.later) h.rest)

module _ (ones others : List Entry) (m n c : ℕ) (long : length ones ≡ m) (long_too : length others ≡ n) (alike : take c ones ≡ take c others) where
  -- if one list begins the other, they are equivalent exactly if they are equally long
  decided_by_length : (c ≡ m) ⊎ (c ≡ n) → (same : Bool) → same ≡ (m == n) → DecidesEquivalence ones others same
  decided_by_length meets same tested w p q = grind (arith, eqb-true, take_all, equivalence_reflexive w (events ones) _ (runs_to w ones p).runs, event_length, equivalent_length, eq-eqb)

  -- the answer for the lists without their common beginning is the answer for the lists
  decided_behind : c ≤ m → c ≤ n → (same : Bool) (xs ys : List Entry) → xs ≡ drop c ones → ys ≡ drop c others → DecidesEquivalence xs ys same → DecidesEquivalence ones others same
  decided_behind first second same xs ys one other decided =
      right_behind ones others c same (omega (arith, long, first)) (omega (arith, long_too, second)) (ap events alike) (rw (take_rest ones c, take_rest others c) (rw (one, other) at decided))

-- if two lists have at most c first events in common, and the first has more than c, it doesn't
-- begin the other
not_begun : (xs ys : List Entry) (c : ℕ)
    → ((n : ℕ) → n ≤ length xs → n ≤ length ys → take n (events xs) ≡ take n (events ys) → n ≤ c) → c ≤ length xs → (c ≡ length xs → ⊥)
    → Begins (events xs) (events ys) → ⊥
not_begun xs ys c most within apart h = grind (arith, event_length, begins_shorter, take_all)

-- where what two lists have in common is neither of them, neither begins the other
apart : (c : After-common_len-shared) → (c.common_len-shared.result ≡ c.args.one.number → ⊥) → (c.common_len-shared.result ≡ c.args.other.number → ⊥)
    → NeitherBegins (events (entries_at (stretches_in c.args.self.now) c.args.one)) (events (entries_at (stretches_in c.args.self.now) c.args.other))
apart c not_one not_other =
    let one = entries_at (stretches_in c.args.self.now) c.args.one in
    let other = entries_at (stretches_in c.args.self.now) c.args.other in
    grind (arith, entries_length, not_one, not_other, c.common_len-shared.ensures.most, not_begun one other c.common_len-shared.result, not_begun other one c.common_len-shared.result)

pub returns-then-shared-one-clause-answer : goal.returns-then-shared-one-clause-answer
returns-then-shared-one-clause-answer c = grind (arith, then-shared-one-via-then-shared-one, then-shared-one-via-else-shared-one+then-shared-other, decided_by_length, entries_length)

pub returns-in_err-ones-clause-memory : goal.returns-in_err-ones-clause-memory
returns-in_err-ones-clause-memory c =
    grind (arith, fact_passed_up, c.if-shared-one.false, c.if-shared-other.false, apart (goal.at.returns-in_err-ones-clause-memory c).After-common_len-shared)

pub returns-in_err-others-clause-memory : goal.returns-in_err-others-clause-memory
returns-in_err-others-clause-memory c =
    grind (arith, fact_passed_up, c.if-shared-one.false, c.if-shared-other.false, apart (goal.at.returns-in_err-others-clause-memory c).After-common_len-shared)

pub returns-clause-answer : goal.returns-clause-answer
returns-clause-answer c =
    let b = c.args.self.now in
    let said = c.common_len-shared.ensures in
    let long = λ (p : Node) (is : IsWithin (stretches_in b) p). entries_length b.stretches.list.items p is in
    IfOk-weaker c.are_equivalent.result _ (DecidesEquivalence (entries_at (stretches_in b) c.args.one) (entries_at (stretches_in b) c.args.other)) (λ same decides. decided_behind _ _ c.args.one.number c.args.other.number
    c.common_len-shared.result
    (long c.args.one c.requires.one) (long c.args.other c.requires.other) said.alike said.first said.second same _ _ (c.deref.ensures.value ∙ c.in_ok-ones.ensures.ok)
    (c.deref-2.ensures.value ∙ c.in_ok-others.ensures.ok) decides)
    c.are_equivalent.ensures.answer

pub returns-clause-memory : goal.returns-clause-memory
returns-clause-memory c =
    grind (arith, c.are_equivalent.ensures.memory, c.if-shared-one.false, c.if-shared-other.false, apart (goal.at.returns-clause-memory c).After-common_len-shared)
