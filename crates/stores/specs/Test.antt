-- A test whether tables are lawful, so that a store can keep the fact. Assumes nothing.
use Rattle.std.specs.Prelude.{ℕ, Bool, true, false, not, ◌&&◌, List, [], ◌∷◌, length, nat_le}
use Rattle.std.specs.List.{list_all}
use Rattle.std.specs.Str.{bytes_eq}
use Rattle.values.specs.Cells.{Cell, lawful_cell}
use Rattle.values.specs.Codes.{fits}
use Rattle.values.specs.Names.{lawful_name}
use Rattle.batches.specs.Tables.{Heading, Body, rows, too_long, Named, Told}
use Rattle.stores.specs.Meaning.{most_rows}

-- a test holds of each element
abbrev pub every : {X : Type 0} → (X → Bool) → List X → Bool
every = list_all

abbrev pub test_row : List Heading → List Cell → Bool
test_row [] [] = true
test_row [] (c ∷ cs) = false
test_row (h ∷ hs) [] = false
test_row (h ∷ hs) (c ∷ cs) = lawful_cell c && (fits h.holds c && test_row hs cs)

abbrev pub test_body : List Heading → Body → Bool
test_body hs (rows rs) = every (test_row hs) rs && nat_le (length rs) most_rows
test_body hs too_long = true

abbrev pub test_headings : List Heading → Bool
test_headings hs = nat_le 1 (length hs) && (nat_le (length hs) 8 && every (λ h. lawful_name h.name) hs)

abbrev pub test_apart : List ℕ → Told → Bool
test_apart n ts = every (λ t. not (bytes_eq n t.name)) ts

abbrev pub test_distinct : Told → Bool
test_distinct [] = true
test_distinct (t ∷ ts) = test_apart t.name ts && test_distinct ts

abbrev pub test_table : Named → Bool
test_table t = lawful_name t.name && (test_headings t.table.headings && test_body t.table.headings t.table.body)

unfoldable pub is_lawful : Told → Bool
is_lawful ts = every test_table ts && test_distinct ts
