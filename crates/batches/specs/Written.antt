-- How tables are written as a batch. Assumes nothing.
use Rattle.std.specs.Prelude.{◌≡◌, ℕ, ◌≤◌, true, List, [], ◌∷◌, ◌++◌, length}
use Rattle.std.specs.List.{flat_map, AllByRecursion}
use Rattle.values.specs.Codes.{encoded}
use Rattle.values.specs.Names.{lawful_name}
use Rattle.batches.specs.Format.{column_bytes}
use Rattle.batches.specs.Reading.{longest}
use Rattle.batches.specs.Tables.{Heading, Body, rows, too_long, Named, Told, RowFits, LawfulHeadings, Distinct}

-- a table's rows, cell by cell; a table that is too long has none to write
abbrev pub body_bytes : Body → List ℕ
body_bytes (rows rs) = flat_map (flat_map encoded) rs
body_bytes too_long = []

abbrev pub table_bytes : Named → List ℕ
table_bytes t =
    0x01 ∷ (t.name ++ (flat_map column_bytes t.table.headings ++ (body_bytes t.table.body ++ 0x7F ∷ [])))

unfoldable pub written : Told → List ℕ
written = flat_map table_bytes

-- tables that a batch can hold: lawful names and headings, no mark, and rows that fit the headings
abbrev pub BodyFits : List Heading → Body → Type 0
BodyFits hs (rows rs) = AllByRecursion (RowFits hs) rs
BodyFits hs too_long = ⊥

pub record Writable (ts : Told) : Type 0 where
  pub named : AllByRecursion (λ t. lawful_name t.name ≡ true) ts
  pub headed : AllByRecursion (λ t. LawfulHeadings t.table.headings) ts
  pub filled : AllByRecursion (λ t. BodyFits t.table.headings t.table.body) ts
  pub few : length ts ≤ 8
  pub distinct : Distinct ts
  pub short : length (written ts) ≤ longest
