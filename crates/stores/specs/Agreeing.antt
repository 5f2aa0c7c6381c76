-- When two stores tell the same: equal tables, and equal tables with their rows in the same order. Assumes nothing.
use Rattle.std.specs.Prelude.{◌≡◌, ℕ, ◌<◌, Bool, false, not, ◌||◌, List, [], ◌∷◌, length, Some, None, filter, Option, ◌≢◌}
use Rattle.std.specs.List.{HoldsAt, ContainsAt as Has, flat_map, AllByRecursion}
use Rattle.std.specs.Str.{bytes_eq}
use Rattle.values.specs.Cells.{Cell}
use Rattle.values.specs.Codes.{encoded}
use Rattle.batches.specs.Tables.{Body, rows, too_long, Table, Told}
use Rattle.stores.specs.Meaning.{lookup}

-- a row is among the one exactly when it is among the other
abbrev pub SameRows : List (List Cell) → List (List Cell) → Type 0
SameRows xs ys = (r : List Cell) → (Has xs r → Has ys r) × (Has ys r → Has xs r)

-- the same rows, and neither marked too long
abbrev pub AgreeingBodies : Body → Body → Type 0
AgreeingBodies (rows xs) (rows ys) = SameRows xs ys
AgreeingBodies (rows xs) too_long = ⊥
AgreeingBodies too_long (rows ys) = ⊥
AgreeingBodies too_long too_long = ⊥

-- no table on either side; or one on each, with the same headings and the same rows, and neither marked too long
abbrev pub AgreeingTables : Option Table → Option Table → Type 0
AgreeingTables None None = Unit {0}
AgreeingTables None (Some u) = ⊥
AgreeingTables (Some t) None = ⊥
AgreeingTables (Some t) (Some u) = (t.headings ≡ u.headings) × AgreeingBodies t.body u.body

-- under every name both tell tables that agree
abbrev pub EqualTables : Told → Told → Type 0
EqualTables ts us = (n : List ℕ) → AgreeingTables (lookup ts n) (lookup us n)

-- two rows have the same bytes
unfoldable pub same_row : List Cell → List Cell → Bool
same_row r s = bytes_eq (flat_map encoded r) (flat_map encoded s)

-- the rows but those equal to a row
abbrev pub without : List Cell → List (List Cell) → List (List Cell)
without r xs = filter (λ s. not (same_row r s)) xs

-- each row where it stands first: all but the first of equal rows are struck out
abbrev pub firsts : List (List Cell) → List (List Cell)
firsts [] = []
firsts (r ∷ rs) = r ∷ without r (firsts rs)

-- an equal row stands among rows
abbrev pub among : List (List Cell) → List Cell → Bool
among [] s = false
among (r ∷ rs) s = same_row r s || among rs s

-- the rows to which none among others is equal
abbrev pub beyond : List (List Cell) → List (List Cell) → List (List Cell)
beyond xs ys = filter (λ s. not (among xs s)) ys

-- a relation holds from each element to each that stands behind it
abbrev pub Onward : {X : Type 0} → (X → X → Type 0) → List X → Type 0
Onward R [] = Unit {0}
Onward R (x ∷ xs) = AllByRecursion (R x) xs × Onward R xs

-- no row stands twice
abbrev pub Once : List (List Cell) → Type 0
Once xs = Onward (λ r s. r ≢ s) xs

-- a row stands at a place, and at none before it
pub record FirstAt (xs : List (List Cell)) (r : List Cell) (k : ℕ) : Type 0 where
  pub within : k < length xs
  pub here : HoldsAt (λ s. s ≡ r) xs k
  pub new : (j : ℕ) → j < k → HoldsAt (λ s. s ≢ r) xs j

-- the first place of a row is before the first place of another
pub record FirstBefore (xs : List (List Cell)) (r s : List Cell) : Type 0 where
  pub one : ℕ
  pub other : ℕ
  pub one_first : FirstAt xs r one
  pub other_first : FirstAt xs s other
  pub before : one < other

-- the rows of a body: none where it is marked too long
abbrev pub rows_in : Body → List (List Cell)
rows_in (rows rs) = rs
rows_in too_long = []

-- the rows of a table that there may be: none where there is no table
abbrev pub rows_of : Option Table → List (List Cell)
rows_of None = []
rows_of (Some t) = rows_in t.body

-- equal tables, and under every name the rows have the same order but for those that repeat an earlier one
pub record LikeOrder (ts us : Told) : Type 0 where
  pub equal : EqualTables ts us
  pub order : (n : List ℕ) → firsts (rows_of (lookup ts n)) ≡ firsts (rows_of (lookup us n))

-- a body that is not marked too long
abbrev pub Counted : Body → Type 0
Counted (rows rs) = Unit {0}
Counted too_long = ⊥

-- no table is marked too long
abbrev pub Unmarked : Told → Type 0
Unmarked ts = AllByRecursion (λ t. Counted t.table.body) ts

-- What is told equals itself where no table is marked too long.
abbrev pub EqualReflexive : Type 0
EqualReflexive = (ts : Told) → Unmarked ts → EqualTables ts ts

-- Where tables equal others, the others equal them.
abbrev pub EqualSymmetric : Type 0
EqualSymmetric = (ts us : Told) → EqualTables ts us → EqualTables us ts

-- Where tables equal others, and these equal yet others, the first equal the last.
abbrev pub EqualTransitive : Type 0
EqualTransitive = (ts us vs : Told) → EqualTables ts us → EqualTables us vs → EqualTables ts vs

-- What is told has its own order where no table is marked too long.
abbrev pub LikeReflexive : Type 0
LikeReflexive = (ts : Told) → Unmarked ts → LikeOrder ts ts

-- Where tables are like others in order, the others are like them.
abbrev pub LikeSymmetric : Type 0
LikeSymmetric = (ts us : Told) → LikeOrder ts us → LikeOrder us ts

-- Where tables are like others in order, and these like yet others, the first are like the last.
abbrev pub LikeTransitive : Type 0
LikeTransitive = (ts us vs : Told) → LikeOrder ts us → LikeOrder us vs → LikeOrder ts vs

-- Tables that are alike in order are equal.
abbrev pub LikeGivesEqual : Type 0
LikeGivesEqual = (ts us : Told) → LikeOrder ts us → EqualTables ts us

-- two bodies are rows, and the same
pub record BothRows (a b : Body) : Type 0 where
  pub here : List (List Cell)
  pub there : List (List Cell)
  pub body_here : a ≡ rows here
  pub body_there : b ≡ rows there
  pub same_rows : SameRows here there

-- the table that others tell under the name of t: the same headings, and the same rows
pub record Counterpart (us : Told) (n : List ℕ) (t : Table) : Type 0 where
  pub table : Table
  pub told : lookup us n ≡ Some table
  pub headed : t.headings ≡ table.headings
  pub bodies : BothRows t.body table.body

-- Where tables equal others, the others tell under each name the same headings and the same rows.
abbrev pub EqualByName : Type 0
EqualByName = (ts us : Told) → EqualTables ts us → (n : List ℕ) (t : Table) → lookup ts n ≡ Some t → Counterpart us n t

-- Where they are alike in order too, striking out the rows that repeat an earlier one leaves the same list.
abbrev pub LikeByName : Type 0
LikeByName = (ts us : Told) → LikeOrder ts us → (n : List ℕ) (t : Table) → lookup ts n ≡ Some t → (c : Counterpart us n t) → firsts c.bodies.here ≡ firsts c.bodies.there
