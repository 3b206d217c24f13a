-- The causal closure of a step gathered behind the other entries: the parts of the list meanwhile,
-- and the run that it still is.
use Rattle.rd_journal.proofs.Prelude.{◌≡◌, ℕ, zero, suc, ◌-◌, ◌<◌, ◌≤◌, true, false, if◌then◌else◌, ◌∙◌, arith, inl, inr, List, [], ◌∷◌, ◌++◌, length, take, drop, get_or, Ok, cases_Bool, or_parts, append-nil, append_assoc, World, run, depends, depends_on_any, items_where_true, items_where_false, closure_entries, without_closure, closure_from, Entry, run-cons, events, beginning, commutes}

-- The closure, cut at its first entry

-- the closure of the entry at index i, and the entries outside, by the marks of the later entries
pub record CutAt (l : List Entry) (i : ℕ) (x : Entry) : Type 0 where
  pub outside : without_closure l (suc i) ≡ take i l ++ items_where_false (closure_from (x ∷ []) (drop (suc i) l)) (drop (suc i) l)
  pub inside : closure_entries l (suc i) ≡ x ∷ items_where_true (closure_from (x ∷ []) (drop (suc i) l)) (drop (suc i) l)

pub cut_at : (l : List Entry) (i : ℕ) (x : Entry) → i < length l → x ≡ get_or l i x → CutAt l i x
cut_at (y ∷ l) (suc i) x h here = grind (arith, cut_at l i x (omega arith) here)
cut_at l i x h here = grind arith

-- A list under way

-- the list under way: entries known to stay, entries known to go, and later ones, which the marks
-- will part
pub record Gathering (l : List Entry) (k : ℕ) (before block later : List Entry) : Type 0 where
  pub outside : without_closure l k ≡ before ++ items_where_false (closure_from block later) later
  pub inside : closure_entries l k ≡ block ++ items_where_true (closure_from block later) later

pub gathering_first : (l : List Entry) (k : ℕ) (x : Entry) → 1 ≤ k → k ≤ length l → x ≡ get_or l (k - 1) x
    → Gathering l k (take (k - 1) l) (x ∷ []) (drop k l)
gathering_first l zero x some below here = absurd (omega arith)
gathering_first l (suc i) x some below here = let c = cut_at l i x (omega arith) (grind arith) in grind arith

-- if the next entry depends on one that goes, it goes too
pub joins : (l before block later : List Entry) (k : ℕ) (x : Entry) → Gathering l k before block (x ∷ later) → depends_on_any block x ≡ true
    → Gathering l k before (block ++ x ∷ []) later
joins l before block later k x g h = grind (arith, append_assoc)

-- at the end the entries that stay are those outside the closure, and those that go are the closure
pub gathered_outside : (l before block : List Entry) (k : ℕ) → Gathering l k before block [] → without_closure l k ≡ before
gathered_outside l before block k g = g.outside ∙ append-nil before

pub gathered_inside : (l before block : List Entry) (k : ℕ) → Gathering l k before block [] → closure_entries l k ≡ block
gathered_inside l before block k g = g.inside ∙ append-nil block

-- The run

-- a step that depends on none of the steps right before it may go before them
pub moved_before : (u w : World) (b : List Entry) (y : Entry) (zs : List Entry) → run u (events (b ++ (y ∷ zs))) ≡ Ok (record { world = w; entries = b ++ (y ∷ zs) })
    → depends_on_any b y ≡ false → run u (events (y ∷ (b ++ zs))) ≡ Ok (record { world = w; entries = y ∷ (b ++ zs) })
moved_before u w [] y zs h free = h
moved_before u w (x ∷ b) y zs h free =
    let both = or_parts (depends x y) (depends_on_any b y) free in
    let first = beginning u x (b ++ (y ∷ zs)) w h in
    let then_y = beginning first.after y (b ++ zs) w (moved_before first.after w b y zs first.rest both.1) in
    let sw = commutes u x.event y.event (record { world = first.after; entry = x }) (record { world = then_y.after; entry = y }) first.goes then_y.goes both.0 in
    grind (arith, run-cons)

-- if the closure of a block is gathered behind the other entries, the list is still a run to the
-- same world
pub gathered_run : (u w : World) (b ys : List Entry) → run u (events (b ++ ys)) ≡ Ok (record { world = w; entries = b ++ ys })
    → let zs = items_where_false (closure_from b ys) ys ++ (b ++ items_where_true (closure_from b ys) ys) in run u (events zs) ≡ Ok (record { world = w; entries = zs })
gathered_run u w b [] h = h
gathered_run u w b (y ∷ ys) h =
    elim (cases_Bool (depends_on_any b y)) [
      | inl e ↦ let all = gathered_run u w (b ++ y ∷ []) ys in grind (arith, append_assoc)
      | inr e ↦
          let first = beginning u y (b ++ ys) w (moved_before u w b y ys h e) in
          let rest = gathered_run first.after w b ys first.rest in
          grind (arith, run-cons)
    ]
