-- What a store tells, and what its questions answer. Assumes nothing.
use Rattle.std.specs.Prelude.{◌≡◌, ℕ, ◌≤◌, true, cond, List, [], ◌∷◌, length, Some, None, Option}
use Rattle.std.specs.List.{slice_get, AllByRecursion}
use Rattle.std.specs.Option.{option_map}
use Rattle.std.specs.Str.{bytes_eq}
use Rattle.values.specs.Cells.{Cell}
use Rattle.values.specs.Names.{lawful_name}
use Rattle.batches.specs.Asked.{chained, row_count, cell_in}
use Rattle.batches.specs.Tables.{Heading, Body, rows, too_long, Table, Told, RowFits, LawfulHeadings, Distinct}

-- the most rows that a table has; one with more is marked too long
abbrev pub most_rows : ℕ
most_rows = 1000000

-- at most so many rows, which fit the headings; or the mark
abbrev pub LawfulBody : List Heading → Body → Type 0
LawfulBody hs (rows rs) = AllByRecursion (RowFits hs) rs × (length rs ≤ most_rows)
LawfulBody hs too_long = Unit {0}

-- what a store may tell: tables under lawful names, no two the same, with 1 to 8 columns and rows that fit them
pub record Lawful (ts : Told) : Type 0 where
  pub named : AllByRecursion (λ t. lawful_name t.name ≡ true) ts
  pub headed : AllByRecursion (λ t. LawfulHeadings t.table.headings) ts
  pub filled : AllByRecursion (λ t. LawfulBody t.table.headings t.table.body) ts
  pub distinct : Distinct ts

-- the table that is told under a name
unfoldable pub lookup : Told → List ℕ → Option Table
lookup [] n = None
lookup (t ∷ ts) n = cond (bytes_eq n t.name) (Some t.table) (lookup ts n)

-- a column of a table that there may be: none where there is no table, or past its last column
unfoldable pub column_of : Option Table → ℕ → Option Heading
column_of o i = chained o (λ t. slice_get t.headings i)

-- how many rows it has: none where there is no table, and none for one that is marked too long
unfoldable pub count_of : Option Table → Option ℕ
count_of o = chained o (λ t. row_count t.body)

-- its cell at a row and a column: none where there is none
unfoldable pub value_of : Option Table → ℕ → ℕ → Option Cell
value_of o r c = chained o (λ t. cell_in t.body r c)

-- the name of the table at a place in the order of telling
unfoldable pub name_told : Told → ℕ → Option (List ℕ)
name_told ts k = option_map (λ t. t.name) (slice_get ts k)
