-- Changing the value of each name, one after another, and reading the values.
use Rattle.rd_marks.proofs.Prelude.{◌≡◌, ℕ, zero, suc, max, sym, ap, subst, List, [], ◌∷◌, ◌++◌, map, take, drop, slice_get, Some, All, values_of, All-head, All-tail, set_value_at, MarkName, Node, nodes_of, greatest_len_in_stretch, node_len_in_stretch}

module _ {K V : Type 0} (f : V → V) where
  -- the list after the values of its first n entries were changed by f
  abbrev pub changed : ℕ → List (K × V) → List (K × V)
  changed n es = map (λ (e : K × V). (e.0, f e.1)) (take n es) ++ drop n es

  -- setting the next value leads to the list with n + 1 changed values
  pub changed_next : (n : ℕ) (es : List (K × V)) (v : V) → slice_get (values_of (changed n es)) n ≡ Some v → set_value_at (changed n es) n (f v) ≡ changed (suc n) es
  changed_next zero [] v h = cc
  changed_next zero (e ∷ es) v h = (let same : e.1 ≡ v = cc in ap (λ (u : V). (e.0, f u) ∷ es) (sym same))
  changed_next (suc n) [] v h = cc
  changed_next (suc n) (e ∷ es) v h = ap (λ (rest : List (K × V)). (e.0, f e.1) ∷ rest) (changed_next n es v h)

  -- the next value is still an old one, so a fact about all old values holds of it
  pub value_next : (P : V → Type 0) (n : ℕ) (es : List (K × V)) (v : V) → All (λ (e : K × V). P e.1) es → slice_get (values_of (changed n es)) n ≡ Some v → P v
  value_next P zero [] v all h = cc
  value_next P zero (e ∷ es) v all h = (let same : e.1 ≡ v = cc in subst (λ (u : V). P u) same (All-head (λ (d : K × V). P d.1) e es all))
  value_next P (suc n) [] v all h = cc
  value_next P (suc n) (e ∷ es) v all h = value_next P n es v (All-tail (λ (d : K × V). P d.1) e es all) h

-- The greatest number among the nodes that are left to read

pub greatest_next : (i k : ℕ) (ms : List (MarkName × Node)) (m : MarkName × Node) → slice_get ms k ≡ Some m
    → greatest_len_in_stretch i (nodes_of (drop k ms)) ≡ max (node_len_in_stretch i m.1) (greatest_len_in_stretch i (nodes_of (drop (suc k) ms)))
greatest_next i k [] m h = cc
greatest_next i zero (n ∷ ms) m h = (let same : n ≡ m = cc in ap (λ (d : MarkName × Node). max (node_len_in_stretch i d.1) (greatest_len_in_stretch i (nodes_of ms))) same)
greatest_next i (suc k) (n ∷ ms) m h = greatest_next i k ms m h
