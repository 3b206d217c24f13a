use Rattle.std.proofs.Common.{◌≡◌, ℕ, ◌+◌, ◌-◌, ◌≤◌, List, ◌++◌, take, drop, sym, ap, ◌∙◌, append_assoc, arith}
use Rattle.std.proofs.lemmas.List.{take-take, drop-take, drop-drop}
use borrow.Rule.Slice.PartMut.{put_mid, mid_of}
use Rattle.rd_step.specs.declared.entries.Entry.{Entry}
use Rattle.rd_depend.specs.Moved.{moved_to}
use Rattle.rd_journal_tests.proofs.tests.dependence.index.move_entry.Goals as goal

-- a part that is turned by one has its first entry after the others
turned : (es turn : List Entry) (k n : ℕ) → 1 ≤ k → k ≤ n
    → let part = mid_of (k - 1) (n - (k - 1)) es in turn ≡ drop 1 part ++ take 1 part → put_mid (k - 1) (n - (k - 1)) es turn ≡ moved_to es k n
turned es turn k n some order after =
    let a = k - 1 in
    let m = n - a in
    let first = take n es in
    let end : a + m ≡ n = omega arith in
    let one : a + 1 ≡ k = omega arith in
    let front : take a es ≡ take a first = sym (take-take a n es (omega arith)) in
    let part : take m (drop a es) ≡ drop a first = sym (drop-take a m es) ∙ ap (λ (i : ℕ). drop a (take i es)) end in
    let others : drop 1 (take m (drop a es)) ≡ drop k first = ap (drop 1) part ∙ drop-drop 1 a first ∙ ap (λ (i : ℕ). drop i first) one in
    let behind : drop m (drop a es) ≡ drop n es = drop-drop m a es ∙ ap (λ (i : ℕ). drop i es) end in
    ap (λ (l : List Entry). take a es ++ (l ++ drop m (drop a es))) after
    ∙ (λ i. front i ++ ((others i ++ take 1 (part i)) ++ behind i))
    ∙ simp append_assoc

pub returns : goal.returns
returns c = turned c.args.entries.now c.rotate_left.new.self c.args.k c.args.n c.requires.some c.requires.order c.rotate_left.ensures.after
