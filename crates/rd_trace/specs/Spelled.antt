-- What JSON values spell: the result of reading one, lists of values, and the values as which a
-- list is written.
use Rattle.std.specs.Prelude.{◌≡◌, ℕ, List, [], ◌∷◌, Option, Some, Result, Ok, Err, Vec}
use Rattle.std.specs.Global.{Global}
use Rattle.serde_json.specs.Data.{Data, Items, no_items, item}
use Rattle.serde_json.specs.View.{items_view}
use Rattle.serde_json.specs.declared.value.Value.{Value}
use Rattle.rd_trace.specs.Numbers.{items_at}
use Rattle.rd_trace.specs.declared.faults.TraceFault.{TraceFault}
use Rattle.rd_trace.specs.declared.faults.TraceFault.TheVariants.{NoMemory, BadTrace}

-- the result of reading a JSON value, where `IsSpelled` holds for just what the value spells: a
-- thing, if the value spells what `seen` gives for it; or `NoMemory`; or `BadTrace`, if the value
-- spells nothing of this kind. There is no other fault
abbrev pub Reads : {V X : Type 0} → (V → X) → (X → Type 0) → Result V TraceFault → Type 0
Reads seen IsSpelled (Ok v) = IsSpelled (seen v)
Reads seen IsSpelled (Err NoMemory) = Unit {0}
Reads {V} {X} seen IsSpelled (Err BadTrace) = (x : X) → IsSpelled x → ⊥
Reads seen IsSpelled (Err _) = ⊥

-- the `seen` of `Reads` if the value spells the thing itself
abbrev pub itself : {X : Type 0} → X → X
itself x = x

-- the `seen` of `Reads` if the value spells the elements of a list
abbrev pub elements : {X : Type 0} → Vec X Global → List X
elements v = v.items

-- a JSON value spells the thing that this function gives for it
abbrev pub Gives : {X : Type 0} → (Data → Option X) → Data → X → Type 0
Gives f d x = f d ≡ Some x

-- the JSON values spell these things one by one, and there are as many of each
abbrev pub SpellEach : {X : Type 0} → (Data → X → Type 0) → Items → List X → Type 0
SpellEach Spells no_items [] = Unit {0}
SpellEach Spells no_items (x ∷ xs) = ⊥
SpellEach Spells (item d ds) [] = ⊥
SpellEach Spells (item d ds) (x ∷ xs) = Spells d x × SpellEach Spells ds xs

-- there are JSON values, and they spell these things one by one
abbrev pub SpellEachOf : {X : Type 0} → (Data → X → Type 0) → Option Items → List X → Type 0
SpellEachOf Spells o xs = (ds : Items) × (o ≡ Some ds) × SpellEach Spells ds xs

-- the JSON values of the list at this key of an object spell these things one by one
abbrev pub SpellEachAt : {X : Type 0} → (Data → X → Type 0) → List ℕ → Data → List X → Type 0
SpellEachAt Spells key d xs = SpellEachOf Spells (items_at key d) xs

-- the JSON values as which these things are written, in order
abbrev pub items_by : {X : Type 0} → (X → Data) → List X → Items
items_by datum [] = no_items
items_by datum (x ∷ xs) = item (datum x) (items_by datum xs)

-- these JSON values are the ones as which the things are written, and spell them
pub record AreSpelled {X : Type 0} (Spells : Data → X → Type 0) (datum : X → Data) (vs : List Value) (xs : List X) : Type 0 where
  pub values : items_view vs ≡ items_by datum xs
  pub spelled : SpellEach Spells (items_by datum xs) xs
