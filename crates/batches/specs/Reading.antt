-- Reading a batch, command by command. Assumes nothing.
use Rattle.std.specs.Prelude.{ℕ, zero, suc, ◌+◌, Bool, false, cond, not, ◌&&◌, ◌||◌, List, [], ◌∷◌, ◌++◌, length, take, drop, Some, None, Option, ◌==◌, nat_lt, slice_index}
use Rattle.std.specs.Str.{bytes_eq}
use Rattle.values.specs.Cells.{Cell}
use Rattle.values.specs.Codes.{decoded, byte_fits, type_of}
use Rattle.values.specs.Names.{lawful_name}
use Rattle.values.specs.declared.kinds.ColumnType.{ColumnType}
use Rattle.batches.specs.Format.{operand_length}
use Rattle.batches.specs.Tables.{Heading, rows, Told}

-- Where the reading stands: before a table or the close; after a table's name and some columns; after
-- the columns, some whole rows and the first cells of one more.
pub data Stage : Type 0 where
  between : Stage
  columns : List ℕ → List Heading → Stage
  cells : List ℕ → List Heading → List (List Cell) → List Cell → Stage

-- the tables that are whole, and the stage of the next
pub record State : Type 0 where
  pub done : Told
  pub stage : Stage

-- a name is among those of the tables so far
abbrev pub taken : List ℕ → Told → Bool
taken n [] = false
taken n (t ∷ ts) = bytes_eq n t.name || taken n ts

-- the cell command b may stand under the heading at k
abbrev pub cell_may : List Heading → ℕ → ℕ → Bool
cell_may [] k b = false
cell_may (h ∷ hs) zero b = byte_fits h.holds b
cell_may (h ∷ hs) (suc k) b = cell_may hs k b

-- a command's byte may stand here
abbrev pub may_stand : State → ℕ → Bool
may_stand s b = elim s.stage [
  | between ↦ (b == 0x01) && nat_lt (length s.done) 8
  | columns n hs ↦ (b == 0x02 && nat_lt (length hs) 8) || ((b == 0x7F && nat_lt 0 (length hs)) || cell_may hs 0 b)
  | cells n hs rs cs ↦ (b == 0x7F && length cs == 0) || cell_may hs (length cs) b
]

-- a lawful new table's name
abbrev pub after_table : Told → List ℕ → Option State
after_table ts n =
    cond (lawful_name n && not (taken n ts)) (Some (record { done = ts; stage = columns n [] })) None

-- one column more: sixteen bytes of name and a type's byte
abbrev pub with_type : Told → List ℕ → List Heading → List ℕ → Option ColumnType → Option State
with_type ts n hs name None = None
with_type ts n hs name (Some t) =
    cond (lawful_name name) (Some (record { done = ts; stage = columns n (hs ++ record { name = name; holds = t } ∷ []) })) None

abbrev pub after_column : Told → List ℕ → List Heading → List ℕ → Option State
after_column ts n hs bs = with_type ts n hs (take 16 bs) (type_of (slice_index bs 16))

-- one cell more, which may fill the row
abbrev pub with_cell : List ℕ → List Heading → List (List Cell) → List Cell → Stage
with_cell n hs rs cs = cond (length cs == length hs) (cells n hs (rs ++ cs ∷ []) []) (cells n hs rs cs)

abbrev pub after_cell : Told → List ℕ → List Heading → List (List Cell) → List Cell → Option Cell → Option State
after_cell ts n hs rs cs None = None
after_cell ts n hs rs cs (Some c) = Some (record { done = ts; stage = with_cell n hs rs (cs ++ c ∷ []) })

-- the end of a table
abbrev pub ending : Told → List ℕ → List Heading → List (List Cell) → State
ending ts n hs rs =
    record {
      done = ts ++ record { name = n; table = record { headings = hs; body = rows rs } } ∷ [];
      stage = between;
    }

-- what a command whose byte may stand here leads to; none where its operand is against the rules
abbrev pub after : State → ℕ → List ℕ → Option State
after s b bs = elim s.stage [
  | between ↦ after_table s.done bs
  | columns n hs ↦
      cond (b == 0x02) (after_column s.done n hs bs) (cond (b == 0x7F) (Some (ending s.done n hs [])) (after_cell s.done n hs [] [] (decoded (b ∷ bs))))
  | cells n hs rs cs ↦
      cond (b == 0x7F) (Some (ending s.done n hs rs)) (after_cell s.done n hs rs cs (decoded (b ∷ bs)))
]

-- what a batch is read as: its tables, or the place of the refusal
pub data Reading : Type 0 where
  tables : Told → Reading
  refused : ℕ → Reading

-- the batch's close, at its length
abbrev pub close : State → ℕ → Reading
close s at = elim s.stage [
  | between ↦ tables s.done
  | columns n hs ↦ refused at
  | cells n hs rs cs ↦ refused at
]

-- one command: the state that it leads to, with the length of its operand, or the place of the refusal
pub data Step : Type 0 where
  goes : State → ℕ → Step
  stops : ℕ → Step

abbrev pub step_to : ℕ → ℕ → Option State → Step
step_to at w None = stops at
step_to at w (Some s) = goes s w

abbrev pub step : State → ℕ → ℕ → List ℕ → Step
step s at b bs =
    cond (may_stand s b) (cond (nat_lt (length bs) (operand_length b)) (stops (at + 1 + length bs)) (step_to at (operand_length b) (after s b (take (operand_length b) bs)))) (stops at)

-- the commands from the offset `at` on, at most as many as the first number
unfoldable pub run : ℕ → State → ℕ → List ℕ → Reading
run zero s at bs = close s at
run (suc k) s at [] = close s at
run (suc k) s at (b ∷ bs) = elim (step s at b bs) [
  | goes t w ↦ run k t (at + 1 + w) (drop w bs)
  | stops p ↦ refused p
]

abbrev pub start : State
start = record { done = []; stage = between }

-- how long a batch may be
abbrev pub longest : ℕ
longest = 16777216

-- the whole batch: its length is looked at first
unfoldable pub reading : List ℕ → Reading
unfolding run
reading bs = cond (nat_lt longest (length bs)) (refused longest) (run (length bs) start 0 bs)
