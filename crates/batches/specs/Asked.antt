-- What is answered of told tables, by the numbers of the table, the row and the column. Assumes nothing.
use Rattle.std.specs.Prelude.{ℕ, List, length, Some, None, Option}
use Rattle.std.specs.List.{slice_get}
use Rattle.std.specs.Option.{option_map}
use Rattle.std.specs.Bool.{then_some}
use Rattle.values.specs.Cells.{Cell}
use Rattle.values.specs.Names.{lawful_name}
use Rattle.batches.specs.Tables.{Heading, Body, rows, too_long, Told}

-- what is found from what was found before, if anything was
abbrev pub chained : {X Y : Type 0} → Option X → (X → Option Y) → Option Y
chained None f = None
chained (Some x) f = f x

-- how many rows there are; none for the mark
abbrev pub row_count : Body → Option ℕ
row_count (rows rs) = Some (length rs)
row_count too_long = None

-- the cell at a row and a column; none past an end or for the mark
abbrev pub cell_in : Body → ℕ → ℕ → Option Cell
cell_in (rows rs) r c = chained (slice_get rs r) (λ cs. slice_get cs c)
cell_in too_long r c = None

-- the name of a table, if there is such a table and its name is lawful
unfoldable pub name_asked : Told → ℕ → Option (List ℕ)
name_asked ts t = chained (slice_get ts t) (λ n. then_some (lawful_name n.name) n.name)

-- how many columns a table has
unfoldable pub width_asked : Told → ℕ → Option ℕ
width_asked ts t = option_map (λ n. length n.table.headings) (slice_get ts t)

-- a column of a table, if there is such a column and its name is lawful
unfoldable pub column_asked : Told → ℕ → ℕ → Option Heading
column_asked ts t i =
    chained (slice_get ts t) (λ n. chained (slice_get n.table.headings i) (λ h. then_some (lawful_name h.name) h))

-- how many rows a table has; none for no table and for one that is marked too long
unfoldable pub count_asked : Told → ℕ → Option ℕ
count_asked ts t = chained (slice_get ts t) (λ n. row_count n.table.body)

-- the cell of a table at a row and a column; none past any end and for a table that is marked too long
unfoldable pub cell_asked : Told → ℕ → ℕ → ℕ → Option Cell
cell_asked ts t r c = chained (slice_get ts t) (λ n. cell_in n.table.body r c)
