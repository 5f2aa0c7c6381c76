use Rattle.std.proofs.Common.{◌≡◌, ℕ, ◌+◌, Bool, true, false, List, is_some, Ok, Some, None, Option, sym, refl, ap, ◌∙◌, subst, arith}
use Rattle.std.specs.Option.{option_map}
use Rattle.values.specs.Cells.{Cell, cell_of}
use Rattle.values.specs.Codes.{byte_fits, decoded}
use Rattle.values.specs.declared.kinds.ColumnType.{ColumnType}
use Rattle.values.specs.declared.value.Value.{Value}
use Rattle.batches.specs.Checking.{Placed, Stepped}
use Rattle.batches.specs.Layouts.{slice_at}
use Rattle.batches.specs.declared.checker.Begun.{Begun}
use Rattle.batches.specs.declared.checker.Stage.TheVariants.{Cells}
use Rattle.batches.proofs.NameParts.{none_when, some_when}
use Rattle.batches.proofs.NewCells.{cell_past, cell_of_other_type, cell_cut, cell_unlawful, cell_taken, row_taken, cell_placed, row_placed}
use Rattle.batches.proofs.Stages.{byte_within}
use Rattle.batches.proofs.checker.Checker.take_cell.Goals as goal
use Rattle.batches.proofs.checker.Checker.take_cell.Goals.{then-table-2, else-table-2}

-- the test of the byte, at the column's type
fitting : (bs : List ℕ) (t u : ColumnType) (b : ℕ) (r : Bool) → t ≡ u → r ≡ byte_fits t b → byte_fits u b ≡ r
fitting bs t u b r e f = sym (f ∙ ap (λ (k : ColumnType). byte_fits k b) e)

read_none : (bs : List ℕ) (at : ℕ) (r : Option Value) → option_map cell_of r ≡ decoded (slice_at bs at 17) → is_some r ≡ false → decoded (slice_at bs at 17) ≡ None
read_none bs at r e t = sym e ∙ ap (option_map cell_of) (none_when r t)

read_some : (bs : List ℕ) (at : ℕ) (r : Option Value) → option_map cell_of r ≡ decoded (slice_at bs at 17) → is_some r ≡ true → (d : Cell) × (decoded (slice_at bs at 17) ≡ Some d)
read_some bs at r e t = let v = some_when r t in (cell_of v.0, sym e ∙ ap (option_map cell_of) v.1)

pub returns-then-table-clause-step : goal.returns-then-table-clause-step
returns-then-table-clause-step c = cell_past c.args.self.now.bytes.now c.args.self.now.progress c.args.table c.args.self.now.placed c.requires.table c.requires.byte (byte_within _ _ refl (omega arith)) c.if-table.true

pub returns-then-not-accepts_command-clause-step : goal.returns-then-not-accepts_command-clause-step
returns-then-not-accepts_command-clause-step c =
    cell_of_other_type c.args.self.now.bytes.now c.args.self.now.progress c.args.table c.args.self.now.placed c.requires.table c.requires.byte (byte_within _ _ refl (omega arith)) c.if-table.false (fitting c.args.self.now.bytes.now _ _ _ false c.type_at-column.ensures c.if-not-accepts_command.ensures)

pub returns-then-len-at-lt-CELL_WIDTH-clause-step : goal.returns-then-len-at-lt-CELL_WIDTH-clause-step
returns-then-len-at-lt-CELL_WIDTH-clause-step c =
    cell_cut c.args.self.now.bytes.now c.args.self.now.progress c.args.table c.args.self.now.placed c.requires.table c.requires.byte (byte_within _ _ refl (omega arith)) c.if-table.false (fitting c.args.self.now.bytes.now _ _ _ true c.type_at-column.ensures c.if-not-accepts_command.ensures) c.if-len-at-lt-CELL_WIDTH.true

pub returns-then-is_none-clause-step : goal.returns-then-is_none-clause-step
returns-then-is_none-clause-step c =
    cell_unlawful c.args.self.now.bytes.now c.args.self.now.progress c.args.table c.args.self.now.placed c.requires.table c.requires.byte (byte_within _ _ refl (omega arith)) c.if-table.false (fitting c.args.self.now.bytes.now _ _ _ true c.type_at-column.ensures c.if-not-accepts_command.ensures) c.if-len-at-lt-CELL_WIDTH.false (read_none c.args.self.now.bytes.now c.args.self.now.progress.pos c.value_at.result c.value_at.ensures c.if-is_none.ensures)

pub returns-clause-step : goal.returns-clause-step
returns-clause-step c =
    let bs = c.args.self.now.bytes.now in
    let s = c.args.self.now.progress in
    let l = byte_within bs s.pos refl (omega arith) in
    let f = fitting bs _ _ _ true c.type_at-column.ensures c.if-not-accepts_command.ensures in
    let d = read_some bs s.pos c.value_at.result c.value_at.ensures c.if-is_none.ensures in
    elim c.if-table-2.branch [
      | then-table-2 w ↦
          subst (λ (t : Begun). Stepped bs s (Ok (record { stage = Cells t; pos = s.pos + 17; catalog = s.catalog }))) (sym w.table-is) (
            16,
            cell_taken bs s c.args.table c.args.self.now.placed c.requires.table c.requires.byte l c.if-table.false f c.if-len-at-lt-CELL_WIDTH.false d.0 d.1 w.if-table-2.true,
            omega arith,
            cell_placed bs s c.args.table c.args.self.now.placed c.requires.table c.requires.byte l c.if-table.false f c.if-len-at-lt-CELL_WIDTH.false w.if-table-2.true,
          )
      | else-table-2 w ↦
          subst (λ (t : Begun). Stepped bs s (Ok (record { stage = Cells t; pos = s.pos + 17; catalog = s.catalog }))) (sym w.table-is) (
            16,
            row_taken bs s c.args.table c.args.self.now.placed c.requires.table c.requires.byte l c.if-table.false f c.if-len-at-lt-CELL_WIDTH.false d.0 d.1 w.if-table-2.false,
            omega arith,
            row_placed bs s c.args.table c.args.self.now.placed c.requires.table c.requires.byte l c.if-table.false f c.if-len-at-lt-CELL_WIDTH.false w.if-table-2.false,
          )
    ]

pub invariant_of-self-clause-placed : goal.invariant_of-self-clause-placed
invariant_of-self-clause-placed c =
    let bs = c.args.self.now.bytes.now in
    let s = c.args.self.now.progress in
    let l = byte_within bs s.pos refl (omega arith) in
    let f = fitting bs _ _ _ true c.type_at-column.ensures c.if-not-accepts_command.ensures in
    elim c.if-table-2.branch [
      | then-table-2 w ↦
          subst (λ (t : Begun). Placed bs (record { stage = Cells t; pos = s.pos + 17; catalog = s.catalog })) (sym w.table-is)
          (cell_placed bs s c.args.table c.args.self.now.placed c.requires.table c.requires.byte l c.if-table.false f c.if-len-at-lt-CELL_WIDTH.false w.if-table-2.true)
      | else-table-2 w ↦
          subst (λ (t : Begun). Placed bs (record { stage = Cells t; pos = s.pos + 17; catalog = s.catalog })) (sym w.table-is)
          (row_placed bs s c.args.table c.args.self.now.placed c.requires.table c.requires.byte l c.if-table.false f c.if-len-at-lt-CELL_WIDTH.false w.if-table-2.false)
    ]
