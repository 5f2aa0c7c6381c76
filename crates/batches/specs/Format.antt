-- The batch format, rule by rule: which bytes stand for which tables. Assumes nothing.
use Rattle.std.specs.Prelude.{◌≡◌, ℕ, ◌+◌, ◌<◌, ◌≤◌, true, cond, List, [], ◌∷◌, ◌++◌, length, take, Some, ◌==◌, slice_index}
use Rattle.std.specs.List.{flat_map}
use Rattle.values.specs.Cells.{Cell}
use Rattle.values.specs.Codes.{decoded, fits, type_byte}
use Rattle.values.specs.Names.{lawful_name}
use Rattle.batches.specs.Tables.{Heading, rows, Named, Told, LawfulHeadings, Distinct}

-- the command of a column: its name and its type's byte
abbrev pub column_bytes : Heading → List ℕ
column_bytes h = 0x02 ∷ (h.name ++ type_byte h.holds ∷ [])

-- bytes that stand for a row: a cell's seventeen bytes for each heading, the cell null or of that column's type
pub data IsRow : List Heading → List ℕ → List Cell → Type 0 where
  ended : IsRow [] [] []
  cell : {h : Heading} {hs : List Heading} (bs : List ℕ) {ds : List ℕ} {c : Cell} {cs : List Cell} → decoded bs ≡ Some c → fits h.holds c ≡ true → IsRow hs ds cs → IsRow (h ∷ hs) (bs ++ ds) (c ∷ cs)

-- bytes that stand for whole rows
pub data IsRows (hs : List Heading) : List ℕ → List (List Cell) → Type 0 where
  ended : IsRows hs [] []
  row : {bs ds : List ℕ} {r : List Cell} {rs : List (List Cell)} → IsRow hs bs r → IsRows hs ds rs → IsRows hs (bs ++ ds) (r ∷ rs)

-- bytes that stand for one table: its name, 1 to 8 columns, whole rows, and the end
pub data IsTable : List ℕ → Named → Type 0 where
  table : {n : List ℕ} {hs : List Heading} {bs : List ℕ} {rs : List (List Cell)} → lawful_name n ≡ true → LawfulHeadings hs → IsRows hs bs rs → IsTable (0x01 ∷ (n ++ (flat_map column_bytes hs ++ (bs ++ 0x7F ∷ [])))) (record { name = n; table = record { headings = hs; body = rows rs } })

-- bytes that stand for tables one after another
pub data IsTables : List ℕ → Told → Type 0 where
  ended : IsTables [] []
  table : {bs ds : List ℕ} {t : Named} {ts : Told} → IsTable bs t → IsTables ds ts → IsTables (bs ++ ds) (t ∷ ts)

-- a lawful batch and its tables: at most 8, differently named. (How long a batch may be is asked apart.)
pub record IsBatch (bs : List ℕ) (ts : Told) : Type 0 where
  pub tables : IsTables bs ts
  pub few : length ts ≤ 8
  pub distinct : Distinct ts

-- some lawful batch begins with these bytes
abbrev pub Begins : List ℕ → Type 0
Begins bs = (ds : List ℕ) × (ts : Told) × IsBatch (bs ++ ds) ts

-- how many bytes follow a command's byte: 16 after a table's or a cell's, 17 after a column's
abbrev pub operand_length : ℕ → ℕ
operand_length b =
    cond (b == 0x02) 17 (cond (b == 0x01) 16 (cond (b == 0x10) 16 (cond (b == 0x11) 16 (cond (b == 0x12) 16 (cond (b == 0x13) 16 0)))))

-- where the command at p ends, whole or not
abbrev pub command_end : List ℕ → ℕ → ℕ
command_end bs p = p + 1 + operand_length (slice_index bs p)

-- offsets at which a command starts, the commands before it being whole
pub data Starts (bs : List ℕ) : ℕ → Type 0 where
  first : Starts bs 0
  next : {p : ℕ} → Starts bs p → p < length bs → command_end bs p ≤ length bs → Starts bs (command_end bs p)

-- The command at p is wrong: no lawful batch begins with the bytes up to its end.
-- One that is cut short is judged by its byte alone.
pub data WrongCommand (bs : List ℕ) (p : ℕ) : Type 0 where
  whole : p < length bs → command_end bs p ≤ length bs → (Begins (take (command_end bs p) bs) → ⊥) → WrongCommand bs p
  short : p < length bs → length bs < command_end bs p → (Begins (take (p + 1) bs) → ⊥) → WrongCommand bs p

-- a refusal's place: the first wrong command, or the batch's length where it is unfinished
pub data RefusedAt (bs : List ℕ) (p : ℕ) : Type 0 where
  wrong : Starts bs p → WrongCommand bs p → ((q : ℕ) → q < p → Starts bs q → WrongCommand bs q → ⊥) → RefusedAt bs p
  unfinished : p ≡ length bs → ((q : ℕ) → Starts bs q → WrongCommand bs q → ⊥) → ((ts : Told) → IsBatch bs ts → ⊥) → RefusedAt bs p
