-- What is written of tables is read back as the same tables.
use Rattle.std.proofs.Common.{◌≡◌, ℕ, true, List, [], ◌∷◌}
use Rattle.std.specs.List.{flat_map, AllByRecursion}
use Rattle.values.proofs.Codec.{decoded_encoded}
use Rattle.values.specs.Cells.{Cell}
use Rattle.values.specs.Codes.{encoded}
use Rattle.values.specs.Names.{lawful_name}
use Rattle.batches.specs.Format.{IsRow, IsRows, IsTable, IsTables}
use Rattle.batches.specs.Tables.{Heading, Body, rows, too_long, Named, Told, RowFits, LawfulHeadings}
use Rattle.batches.specs.Theorems.{WrittenLoads}
use Rattle.batches.specs.Written.{table_bytes, written, BodyFits}
use Rattle.batches.proofs.Exactly.{reads_exactly}

-- a lawful cell is read back from the bytes that it is written as, and so is what is made of cells
row_written : (hs : List Heading) (cs : List Cell) → RowFits hs cs → IsRow hs (flat_map encoded cs) cs
row_written [] [] f = IsRow.ended
row_written [] (c ∷ cs) f = absurd f
row_written (h ∷ hs) [] f = absurd f
row_written (h ∷ hs) (c ∷ cs) f = IsRow.cell (encoded c) (decoded_encoded c f.0) f.1 (row_written hs cs f.2)

rows_written_lem : (hs : List Heading) (rs : List (List Cell)) → AllByRecursion (RowFits hs) rs → IsRows hs (flat_map (flat_map encoded) rs) rs
rows_written_lem hs [] f = IsRows.ended
rows_written_lem hs (r ∷ rs) f = IsRows.row (row_written hs r f.0) (rows_written_lem hs rs f.1)

table_written : (n : List ℕ) (hs : List Heading) (b : Body) → lawful_name n ≡ true → LawfulHeadings hs → BodyFits hs b → let t : Named = record { name = n; table = record { headings = hs; body = b } } in IsTable (table_bytes t) t
table_written n hs (rows rs) l h f = IsTable.table l h (rows_written_lem hs rs f)
table_written n hs too_long l h f = absurd f

tables_written : (ts : Told) → AllByRecursion (λ t. lawful_name t.name ≡ true) ts → AllByRecursion (λ t. LawfulHeadings t.table.headings) ts → AllByRecursion (λ t. BodyFits t.table.headings t.table.body) ts → IsTables (flat_map table_bytes ts) ts
tables_written [] l h f = IsTables.ended
tables_written (t ∷ ts) l h f =
    IsTables.table (table_written t.name t.table.headings t.table.body l.0 h.0 f.0) (tables_written ts l.1 h.1 f.1)

pub written_loads : WrittenLoads
unfolding written
written_loads ts w =
    (reads_exactly (written ts) ts).1 (record { tables = tables_written ts w.named w.headed w.filled; few = w.few; distinct = w.distinct }) w.short
