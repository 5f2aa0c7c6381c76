-- Tables, as stores tell them and batches hold them. Assumes nothing.
use Rattle.std.specs.Prelude.{◌≡◌, ℕ, ◌≤◌, true, List, [], ◌∷◌, length, ◌≢◌}
use Rattle.std.specs.List.{AllByRecursion}
use Rattle.values.specs.Cells.{Cell, lawful_cell}
use Rattle.values.specs.Codes.{fits}
use Rattle.values.specs.Names.{lawful_name}
use Rattle.values.specs.declared.kinds.ColumnType.{ColumnType}

-- a column: its name, of sixteen bytes, and what its cells hold besides nulls
pub record Heading : Type 0 where
  pub name : List ℕ
  pub holds : ColumnType

-- a table's rows, each a list of cells, or the mark that there are too many
pub data Body : Type 0 where
  rows : List (List Cell) → Body
  too_long : Body

pub record Table : Type 0 where
  pub headings : List Heading
  pub body : Body

-- a table under its name
pub record Named : Type 0 where
  pub name : List ℕ
  pub table : Table

-- what is told: tables under their names, in order
abbrev pub Told : Type 0
Told = List Named

-- a row's cells stand under the headings, one each: lawful, and null or of the column's type
abbrev pub RowFits : List Heading → List Cell → Type 0
RowFits [] [] = Unit {0}
RowFits [] (c ∷ cs) = ⊥
RowFits (h ∷ hs) [] = ⊥
RowFits (h ∷ hs) (c ∷ cs) = (lawful_cell c ≡ true) × (fits h.holds c ≡ true) × RowFits hs cs

-- 1 to 8 columns with lawful names
pub record LawfulHeadings (hs : List Heading) : Type 0 where
  pub some : 1 ≤ length hs
  pub few : length hs ≤ 8
  pub named : AllByRecursion (λ h. lawful_name h.name ≡ true) hs

-- no two tables have one name
abbrev pub Apart : List ℕ → Told → Type 0
Apart n [] = Unit {0}
Apart n (t ∷ ts) = (n ≢ t.name) × Apart n ts

abbrev pub Distinct : Told → Type 0
Distinct [] = Unit {0}
Distinct (t ∷ ts) = Apart t.name ts × Distinct ts
