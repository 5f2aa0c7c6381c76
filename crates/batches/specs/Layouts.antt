-- Where tables lie in the bytes of a checked batch, and what stands there. Assumes nothing.
use Rattle.std.specs.Prelude.{ℕ, suc, ◌+◌, ◌*◌, ◌<◌, cond, List, [], ◌∷◌, map, length, take, drop, Some, None, Option, ◌==◌, slice_index}
use Rattle.std.specs.List.{slice_get, range_with_len, AllByRecursion}
use Rattle.std.specs.Option.{option_map, unwrap_or}
use Rattle.std.specs.Str.{bytes_eq}
use Rattle.values.specs.Cells.{Cell, null}
use Rattle.values.specs.Codes.{decoded}
use Rattle.values.specs.declared.kinds.ColumnType.{ColumnType}
use Rattle.values.specs.declared.kinds.ColumnType.TheVariants.{Integer, Real, Text}
use Rattle.batches.specs.Tables.{Heading, rows, Named, Told}
use Rattle.batches.specs.declared.layout.Layout.{Layout}
use Rattle.batches.specs.declared.layout.Catalog.{Catalog}

-- n bytes from an offset on
abbrev pub slice_at : List ℕ → ℕ → ℕ → List ℕ
slice_at bs at n = take n (drop at bs)

-- the type that a column's byte says, which is 1, 2 or 3 in a checked batch
abbrev pub type_at : ℕ → ColumnType
type_at b = cond (b == 1) Integer (cond (b == 2) Real Text)

-- the column whose command stands at an offset
abbrev pub heading_at : List ℕ → ℕ → Heading
heading_at bs at = record { name = slice_at bs (at + 1) 16; holds = type_at (slice_index bs (at + 17)) }

-- n columns, one command after another
unfoldable pub headings_at : List ℕ → ℕ → ℕ → List Heading
headings_at bs at n = map (λ k. heading_at bs (at + 18 * k)) (range_with_len 0 n)

-- the cell whose seventeen bytes stand at an offset
unfoldable pub cell_at : List ℕ → ℕ → Cell
cell_at bs at = unwrap_or (decoded (slice_at bs at 17)) null

-- n cells, one after another
unfoldable pub cells_at : List ℕ → ℕ → ℕ → List Cell
cells_at bs at n = map (λ k. cell_at bs (at + 17 * k)) (range_with_len 0 n)

-- n rows of w cells each
unfoldable pub rows_at : List ℕ → ℕ → ℕ → ℕ → List (List Cell)
rows_at bs at w n = map (λ i. cells_at bs (at + 17 * (w * i)) w) (range_with_len 0 n)

-- where the cells of a table begin whose command stands at an offset and that has w columns
abbrev pub cells_from : ℕ → ℕ → ℕ
cells_from at w = at + 17 + 18 * w

-- the table that lies so
abbrev pub named_at : List ℕ → ℕ → ℕ → ℕ → Named
named_at bs at w n =
    record {
      name = slice_at bs (at + 1) 16;
      table = record { headings = headings_at bs (at + 17) w; body = rows (rows_at bs (cells_from at w) w n) };
    }

abbrev pub table_at : List ℕ → Layout → Named
table_at bs l = named_at bs l.at l.width l.rows

-- where a table's cell at a row and a column stands
abbrev pub cell_offset : Layout → ℕ → ℕ → ℕ
cell_offset l r k = cells_from l.at l.width + 17 * (l.width * r + k)

-- the table lies within the bytes, with its end behind it
pub record Lies (bs : List ℕ) (l : Layout) : Type 0 where
  pub lies : cells_from l.at l.width + 17 * (l.width * l.rows) < length bs

abbrev pub Inside : List ℕ → Catalog → Type 0
Inside bs c = AllByRecursion (Lies bs) (take c.count c.tables)

-- the place of the first table with a name
unfoldable pub place_of : List ℕ → Told → Option ℕ
place_of n [] = None
place_of n (t ∷ ts) = cond (bytes_eq n t.name) (Some 0) (option_map suc (place_of n ts))

-- where a table lies that a catalog lists
abbrev pub layout_of : Catalog → ℕ → Option Layout
layout_of c t = slice_get (take c.count c.tables) t

-- the tables that a catalog lists
abbrev pub told_by : List ℕ → Catalog → Told
told_by bs c = map (table_at bs) (take c.count c.tables)
