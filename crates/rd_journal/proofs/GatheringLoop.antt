-- The loop that gathers the closure of a step: what it has done so far, and what it has done at the
-- end.
use Rattle.rd_journal.proofs.Prelude.{suc, drop-cons, common_steps, count_by, append_assoc, take-append-drop, take-take, length-take-le, length-set, get_or-take, drop_at, drop-append-le, drop-set-lt, drop_all, take_at, take_more_set, sum_by-append, sum_by-cons, sum_by_push, depends_on_any, closure_entries, without_closure, Entry, DependIndex, IsIndexOf, HasRoomFor, at_numbers, IsOrder, ◌≡◌, ℕ, ◌+◌, ◌-◌, ◌<◌, ◌≤◌, Bool, true, false, cond, refl, sym, ◌∙◌, ap, arith, List, [], ◌∷◌, ◌++◌, length, take, drop, set, get_or, length-append, length-drop}
use Rattle.rd_journal.proofs.Gathering.{Gathering, gathering_first, joins, gathered_outside, gathered_inside}
use Rattle.rd_journal.proofs.RoomLemmas.{fits_between}
use Rattle.rd_journal.proofs.ListLemmas.{drop_one_less}
use Rattle.rd_journal.proofs.Numbers.{take_one-drop, at-append, at-length, at-take, at-drop, at-get, order_below}

-- the live entries of this slab, in their order
abbrev pub live_of : List Entry → List ℕ → ℕ → List Entry
live_of es ns live = take live (at_numbers es ns)

-- the live entries before the next one are looked at: the numbers of those that stay are in front,
-- and those of the others are gathered. The index is that of the entries before the k-th and of the
-- gathered ones
pub record UnderWay (es : List Entry) (ns now gathered : List ℕ) (old index : DependIndex) (k live front next : ℕ) : Type 0 where
  pub from : k - 1 ≤ front
  pub number : front + length gathered ≡ next
  pub some : 1 ≤ length gathered
  pub within : next ≤ live
  pub long : length now ≡ length ns
  pub later : drop next now ≡ drop next ns
  pub once : (test : ℕ → Bool) → count_by test (take front now) + count_by test gathered + count_by test (drop next ns) ≡ count_by test ns
  pub staying : length (at_numbers es (take front now)) ≡ front
  pub going : length (at_numbers es gathered) ≡ length gathered
  pub cut : Gathering (live_of es ns live) k (at_numbers es (take front now)) (at_numbers es gathered) (drop next (live_of es ns live))
  pub indexed : IsIndexOf index (take (k - 1) (live_of es ns live) ++ at_numbers es gathered)
  pub room : (rest : List Entry) → HasRoomFor old (drop (k - 1) (live_of es ns live) ++ rest)
      → HasRoomFor index (drop (k - 1) (at_numbers es (take front now)) ++ (drop next (live_of es ns live) ++ rest))

-- v is the next number, of the entry at position `next`
pub record Next (es : List Entry) (ns : List ℕ) (live next v : ℕ) : Type 0 where
  pub below : v < length es
  pub numbers : drop next ns ≡ v ∷ drop (next + 1) ns
  pub here : (x : Entry) → x ≡ get_or es v x → get_or (live_of es ns live) next x ≡ x
  pub entry : (x : Entry) → x ≡ get_or es v x → drop next (live_of es ns live) ≡ x ∷ drop (next + 1) (live_of es ns live)
  pub alone : (x : Entry) → x ≡ get_or es v x → at_numbers es (v ∷ []) ≡ x ∷ []

pub live_of-length : (es : List Entry) (ns : List ℕ) (live : ℕ) → IsOrder (length es) ns → live ≤ length ns → length (live_of es ns live) ≡ live
live_of-length es ns live o within = length-take-le live (at_numbers es ns) (omega (arith, at-length es ns (order_below (length es) ns o), within))

pub next_one : (es : List Entry) (ns now : List ℕ) (live next v : ℕ) → IsOrder (length es) ns → live ≤ length ns → next < live → length now ≡ length ns
    → drop next now ≡ drop next ns → v ≡ get_or now next v → Next es ns live next v
next_one es ns now live next v o within low long later at =
    let there = drop_one_less now next v (omega arith) at in
    let of_old = drop-cons ns next v (omega arith) in
    let same : v ≡ get_or ns next v = (let both : v ∷ drop (next + 1) now ≡ get_or ns next v ∷ drop (suc next) ns = sym there ∙ later ∙ of_old in cc) in
    let below : v < length es = grind (arith, order_below) in
    let all = live_of-length es ns live o within in
    let here : (x : Entry) → x ≡ get_or es v x → get_or (live_of es ns live) next x ≡ x = grind (arith, get_or-take, at-get, order_below) in
    record {
      below = below;
      numbers = grind arith;
      here = here;
      entry = λ x e. drop_one_less (live_of es ns live) next x (omega arith) (sym (here x e));
      alone = λ x e. grind (arith, take_one-drop);
    }

-- with one more number, one more entry
at_more : (es : List Entry) (ns : List ℕ) (live next v : ℕ) (x : Entry) (xs : List ℕ) → Next es ns live next v → x ≡ get_or es v x
    → at_numbers es (xs ++ v ∷ []) ≡ at_numbers es xs ++ x ∷ []
at_more es ns live next v x xs n e = at-append es xs (v ∷ []) ∙ ap (λ (ys : List Entry). at_numbers es xs ++ ys) (n.alone x e)

count_more : (test : ℕ → Bool) (xs : List ℕ) (v : ℕ) → count_by test (xs ++ v ∷ []) ≡ count_by test xs + cond (test v) 1 0
count_more test xs v = sum_by_push (λ m. cond (test m) 1 0) xs v

count_next : (test : ℕ → Bool) (es : List Entry) (ns : List ℕ) (live next v : ℕ) → Next es ns live next v
    → count_by test (drop next ns) ≡ cond (test v) 1 0 + count_by test (drop (next + 1) ns)
count_next test es ns live next v n = ap (count_by test) n.numbers ∙ sum_by-cons (λ m. cond (test m) 1 0) v (drop (next + 1) ns)

-- if the lists, the index and the border are replaced by equal ones, the same holds
pub carried : (es : List Entry) (ns now gathered : List ℕ) (old index : DependIndex) (k live front next : ℕ) (now_too gathered_too : List ℕ) (index_too : DependIndex) (front_too : ℕ)
    → now_too ≡ now → gathered_too ≡ gathered → index_too ≡ index → front_too ≡ front → UnderWay es ns now gathered old index k live front next
    → UnderWay es ns now_too gathered_too old index_too k live front_too next
carried es ns now gathered old index k live front next now_too gathered_too index_too front_too a b c d u = grind arith

-- at first the step itself is gathered
pub first_gathered : (es : List Entry) (ns : List ℕ) (old index : DependIndex) (k live v : ℕ) (x : Entry) → IsOrder (length es) ns → 1 ≤ k → k ≤ live → live ≤ length ns
    → Next es ns live (k - 1) v → x ≡ get_or es v x → IsIndexOf old (take (k - 1) (live_of es ns live))
    → ((zs : List Entry) → IsIndexOf old zs → IsIndexOf index (zs ++ x ∷ [])) → ((rest : List Entry) → HasRoomFor old (x ∷ rest) → HasRoomFor index rest)
    → UnderWay es ns ns (v ∷ []) old index k live (k - 1) k
first_gathered es ns old index k live v x o some position within n e is put room =
    let L = live_of es ns live in
    let all = live_of-length es ns live o within in
    let next : (k - 1) + 1 ≡ k = omega arith in
    let front : at_numbers es (take (k - 1) ns) ≡ take (k - 1) L =
    sym (at-take es (k - 1) ns (order_below (length es) ns o)) ∙ sym (take-take (k - 1) live (at_numbers es ns) (omega arith)) in
    let one_there = n.alone x e in
    let behind : drop (k - 1) L ≡ x ∷ drop k L = n.entry x e ∙ ap (λ (m : ℕ). x ∷ drop m L) next in
    let first = gathering_first L k x some (omega (arith, all)) (sym (n.here x e)) in
    record {
      from = omega arith;
      number = omega arith;
      some = omega arith;
      within = position;
      long = refl;
      later = refl;
      once = λ test.
          let parts = ap (count_by test) (take-append-drop (k - 1) ns) in
          grind (arith, sum_by-append, count_next test es ns live (k - 1) v n, count_more test [] v);
      staying = grind (arith, length-take-le);
      going = ap length one_there;
      cut = grind arith;
      indexed = grind arith;
      room = grind (arith, drop_all, length-take-le);
    }

-- the index has room for the next entry, for the later ones, and for others for which it had room
pub before_next : (es : List Entry) (ns now gathered : List ℕ) (old index : DependIndex) (k live front next v : ℕ) (x : Entry)
    → UnderWay es ns now gathered old index k live front next → Next es ns live next v → x ≡ get_or es v x → (rest : List Entry)
    → HasRoomFor old (drop (k - 1) (live_of es ns live) ++ rest)
    → HasRoomFor index (drop (k - 1) (at_numbers es (take front now)) ++ x ∷ (drop (next + 1) (live_of es ns live) ++ rest))
before_next es ns now gathered old index k live front next v x u n e rest has = grind arith

-- if the next entry goes, its number is gathered
pub joined : (es : List Entry) (ns now gathered : List ℕ) (old index new : DependIndex) (k live front next v : ℕ) (x : Entry)
    → UnderWay es ns now gathered old index k live front next → next < live → Next es ns live next v → x ≡ get_or es v x
    → depends_on_any (at_numbers es gathered) x ≡ true → ((zs : List Entry) → IsIndexOf index zs → IsIndexOf new (zs ++ x ∷ []))
    → ((rest : List Entry) → HasRoomFor index (x ∷ rest) → HasRoomFor new rest) → drop (next + 1) now ≡ drop (next + 1) ns
    → UnderWay es ns now (gathered ++ v ∷ []) old new k live front (next + 1)
joined es ns now gathered old index new k live front next v x u low n e depends put room later =
    let more = at_more es ns live next v x gathered n e in
    record {
      from = u.from;
      number = omega (arith, u.number, length-append gathered (v ∷ []));
      some = omega (arith, length-append gathered (v ∷ []));
      within = omega arith;
      long = u.long;
      later = later;
      once = λ test. omega (arith, u.once test, count_more test gathered v, count_next test es ns live next v n);
      staying = u.staying;
      going = omega (arith, ap length more, length-append (at_numbers es gathered) (x ∷ []), u.going, length-append gathered (v ∷ []));
      cut = grind (arith, joins);
      indexed = grind (arith, append_assoc);
      room = grind (arith, fits_between, before_next);
    }

-- if the next entry stays, its number is put after those that stay
pub stayed : (es : List Entry) (ns now gathered : List ℕ) (old index : DependIndex) (k live front next v : ℕ) (x : Entry)
    → UnderWay es ns now gathered old index k live front next → next < live → live ≤ length ns → Next es ns live next v → x ≡ get_or es v x
    → depends_on_any (at_numbers es gathered) x ≡ false → drop (next + 1) now ≡ drop (next + 1) ns
    → UnderWay es ns (set now front v) gathered old index k live (front + 1) (next + 1)
stayed es ns now gathered old index k live front next v x u low within n e depends later = grind (arith, common_steps, set, take_more_set, at_more, length-set, drop-set-lt, count_more, count_next, length-append, append_assoc, drop-append-le, before_next)

-- at the end the gathered numbers are behind the others
pub record IsGathered (es : List Entry) (ns new : List ℕ) (old index : DependIndex) (k live front : ℕ) : Type 0 where
  pub ordered : IsOrder (length es) new
  pub count : live - front ≡ length (closure_entries (live_of es ns live) k)
  pub moved : live_of es new live ≡ without_closure (live_of es ns live) k ++ closure_entries (live_of es ns live) k
  pub behind : drop live (at_numbers es new) ≡ drop live (at_numbers es ns)
  pub indexed : IsIndexOf index (take (k - 1) (live_of es ns live) ++ closure_entries (live_of es ns live) k)
  pub room : (rest : List Entry) → HasRoomFor old (drop (k - 1) (live_of es ns live) ++ rest)
      → HasRoomFor index (drop (k - 1) (without_closure (live_of es ns live) k) ++ rest)

pub ended : (es : List Entry) (ns now gathered new : List ℕ) (old index : DependIndex) (k live front next : ℕ)
    → UnderWay es ns now gathered old index k live front next → live ≤ next → IsOrder (length es) ns → live ≤ length ns
    → new ≡ take front now ++ (gathered ++ drop live now) → IsGathered es ns new old index k live front
ended es ns now gathered new old index k live front next u end o within is =
    let L = live_of es ns live in
    let all : next ≡ live = omega (arith, u.within) in
    let none : drop next L ≡ [] = grind (arith, drop_all, live_of-length) in
    let cut : Gathering L k (at_numbers es (take front now)) (at_numbers es gathered) [] = grind arith in
    let out = gathered_outside L (at_numbers es (take front now)) (at_numbers es gathered) k cut in
    let in_it = gathered_inside L (at_numbers es (take front now)) (at_numbers es gathered) k cut in
    let parts : at_numbers es new ≡ (at_numbers es (take front now) ++ at_numbers es gathered) ++ at_numbers es (drop live ns) = grind (arith, at-append, append_assoc) in
    grind (arith, sum_by-append, cond, length-append, length-take-le, length-drop, take_at, drop_at, at-drop, order_below)
