-- The commands of a batch, one by one, and what a writer has written. Assumes nothing.
use Rattle.std.specs.Prelude.{ℕ, zero, suc, List, [], ◌∷◌, map, length, take, drop, vec_items}
use Rattle.values.specs.Cells.{cell_of}
use Rattle.values.specs.Codes.{encoded}
use Rattle.values.specs.Named.{name_bytes}
use Rattle.values.specs.declared.name.Name.{Name}
use Rattle.values.specs.declared.value.Value.{Value}
use Rattle.batches.specs.Columns.{heading_of}
use Rattle.batches.specs.Format.{column_bytes}
use Rattle.batches.specs.Tables.{rows, Named, Told}
use Rattle.batches.specs.declared.columns.Column.{Column}
use Rattle.batches.specs.declared.writer.BatchWriter.{BatchWriter}
use Rattle.batches.specs.declared.writer.TableData.{TableData}

-- the command that begins a table
abbrev pub table_command : Name → List ℕ
table_command n = 0x01 ∷ name_bytes n

-- the command of a column
abbrev pub column_command : Column → List ℕ
column_command c = column_bytes (heading_of c)

-- the command of a cell
abbrev pub cell_command : Value → List ℕ
cell_command v = encoded (cell_of v)

-- the command that ends a table
abbrev pub end_command : List ℕ
end_command = 0x7F ∷ []

-- the bytes that a writer has written
abbrev pub bytes_in : BatchWriter → List ℕ
bytes_in w = vec_items w.bytes

-- n times at most, a row of w from the front, until none are left
unfoldable pub cut_up_to : {X : Type 0} → ℕ → ℕ → List X → List (List X)
cut_up_to zero w xs = []
cut_up_to (suc n) w [] = []
cut_up_to (suc n) w (x ∷ xs) = take w (x ∷ xs) ∷ cut_up_to n w (drop w (x ∷ xs))

-- cells cut into rows of w, of which the last may be shorter; no rows where w is 0
unfoldable pub cut : {X : Type 0} → ℕ → List X → List (List X)
cut zero xs = []
cut (suc w) xs = cut_up_to (length xs) (suc w) xs

-- the table that is to be written
abbrev pub table_of : TableData → Named
table_of d =
    record {
      name = name_bytes d.name;
      table =
          record {
            headings = map heading_of (vec_items d.columns);
            body = rows (cut (length (vec_items d.columns)) (map cell_of (vec_items d.cells)));
          };
    }

abbrev pub tables_of : List TableData → Told
tables_of = map table_of
