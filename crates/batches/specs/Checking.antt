-- What a check's progress says of the bytes that it has passed. Assumes nothing.
use Rattle.std.specs.Prelude.{◌≡◌, ℕ, ◌+◌, ◌*◌, ◌<◌, ◌≤◌, ◌⊎◌, List, length, take, drop, Ok, Err, Result, slice_index}
use Rattle.std.specs.Coded.{Coded-set, coded_ℕ, le_prop}
use Rattle.std.specs.List.{AllByRecursion-prop}
use Rattle.batches.specs.Layouts.{slice_at, headings_at, cells_at, rows_at, cells_from, Inside, Lies, told_by}
use Rattle.batches.specs.Reading.{Stage, between, columns, cells, State, Step, goes, stops, step, Reading, tables, refused}
use Rattle.batches.specs.declared.checker.Begun.{Begun}
use Rattle.batches.specs.declared.checker.Progress.{Progress}
use Rattle.batches.specs.declared.checker.Stage.{Stage as Expects}
use Rattle.batches.specs.declared.checker.Stage.TheVariants.{Between, Columns, Cells}
use Rattle.batches.specs.declared.layout.BatchFault.{BatchFault}
use Rattle.batches.specs.declared.layout.Catalog.{Catalog}
use Rattle.batches.specs.declared.layout.Layout.{Layout}

-- where the row in progress begins
abbrev pub row_from : Begun → ℕ
row_from t = cells_from t.at t.columns + 17 * (t.columns * t.rows)

-- the stage of the reading, from the bytes
abbrev pub stage_by : List ℕ → Expects → Stage
stage_by bs Between = between
stage_by bs (Columns t) = columns (slice_at bs (t.at + 1) 16) (headings_at bs (t.at + 17) t.columns)
stage_by bs (Cells t) =
    cells (slice_at bs (t.at + 1) 16) (headings_at bs (t.at + 17) t.columns) (rows_at bs (cells_from t.at t.columns) t.columns t.rows) (cells_at bs (row_from t) t.cells)

unfoldable pub state_of : List ℕ → Progress → State
state_of bs c = record { done = told_by bs c.catalog; stage = stage_by bs c.stage }

-- the position is where the table in progress has come to
abbrev pub PlacedAt : Progress → Expects → Type 0
PlacedAt c Between = Unit {0}
PlacedAt c (Columns t) =
    (c.pos ≡ cells_from t.at t.columns) × (t.columns ≤ 8) × (t.rows ≡ 0) × (t.cells ≡ 0) × (c.catalog.count < 8)
PlacedAt c (Cells t) =
    (c.pos ≡ row_from t + 17 * t.cells) × (t.columns ≤ 8) × (t.cells < t.columns) × (c.catalog.count < 8)

-- the table is in progress
abbrev pub InTable : Begun → Expects → Type 0
InTable t e = (e ≡ Columns t) ⊎ (e ≡ Cells t)

-- a byte that is a cell's command
abbrev pub CellByte : ℕ → Type 0
CellByte b = (0x10 ≤ b) × (b ≤ 0x13)

pub record Placed (bs : List ℕ) (c : Progress) : Type 0 where
  pub within : c.pos ≤ length bs
  pub inside : Inside bs c.catalog
  pub stands : PlacedAt c c.stage

-- there is one proof at most of where a check has come to
Lies-prop : (bs : List ℕ) (l : Layout) → IsProp (Lies bs l)
Lies-prop bs l p q = λ i. record { lies = le_prop p.lies q.lies i }

same-prop : (m n : ℕ) → IsProp (m ≡ n)
same-prop = Coded-set coded_ℕ

PlacedAt-prop : (c : Progress) (e : Expects) → IsProp (PlacedAt c e)
PlacedAt-prop c Between p q = λ i. tt
PlacedAt-prop c (Columns t) p q =
    λ i. (
      same-prop c.pos (cells_from t.at t.columns) p.0 q.0 i,
      le_prop p.1 q.1 i,
      same-prop t.rows 0 p.2 q.2 i,
      same-prop t.cells 0 p.3 q.3 i,
      le_prop p.4 q.4 i,
    )
PlacedAt-prop c (Cells t) p q =
    λ i. (
      same-prop c.pos (row_from t + 17 * t.cells) p.0 q.0 i,
      le_prop p.1 q.1 i,
      le_prop p.2 q.2 i,
      le_prop p.3 q.3 i,
    )

pub Placed-prop : (bs : List ℕ) (c : Progress) → IsProp (Placed bs c)
Placed-prop bs c p q =
    λ i. record {
      within = le_prop p.within q.within i;
      inside = AllByRecursion-prop (Lies bs) (Lies-prop bs) (take c.catalog.count c.catalog.tables) p.inside q.inside i;
      stands = PlacedAt-prop c c.stage p.stands q.stands i;
    }

-- the command at the position, as the reading takes it
abbrev pub step_at : List ℕ → Progress → Step
step_at bs c = step (state_of bs c) c.pos (slice_index bs c.pos) (drop (c.pos + 1) bs)

-- the command was taken just so, or refused at the same place
abbrev pub Stepped : List ℕ → Progress → Result Progress BatchFault → Type 0
Stepped bs c (Ok d) =
    (w : ℕ) × (step_at bs c ≡ goes (state_of bs d) w) × (d.pos ≡ c.pos + 1 + w) × Placed bs d
Stepped bs c (Err f) = step_at bs c ≡ stops f.place

-- how far the check has come by a step, or its refusal
abbrev pub come_to : Progress → Result (Unit {0}) BatchFault → Result Progress BatchFault
come_to d (Ok u) = Ok d
come_to d (Err f) = Err f

-- what a check's answer says that the batch is read as
abbrev pub reading_by : List ℕ → Result Catalog BatchFault → Reading
reading_by bs (Ok c) = tables (told_by bs c)
reading_by bs (Err f) = refused f.place
