use Rattle.std.proofs.Common.{sym, ◌∙◌, inl, inr, arith}
use Rattle.batches.proofs.NameParts.{name_some, error_when, value_when}
use Rattle.batches.proofs.NewColumns.{ninth_column, column_cut, column_unlawful, column_taken, column_placed}
use Rattle.batches.proofs.Stages.{byte_within}
use Rattle.batches.proofs.checker.Checker.take_column.Goals as goal
use Rattle.batches.proofs.checker.Checker.take_column.Goals.{then-not-named-via-then-not-named, then-not-named-via-else-not-named+then-is_err}

pub returns-then-table-ge8-clause-step : goal.returns-then-table-ge8-clause-step
returns-then-table-ge8-clause-step c =
    ninth_column c.args.self.now.bytes.now c.args.self.now.progress c.args.table c.requires.stage c.requires.byte (byte_within _ _ c.requires.byte (omega arith)) c.if-table-ge8.true

pub returns-then-len-at-lt-COLUMN_WIDTH-clause-step : goal.returns-then-len-at-lt-COLUMN_WIDTH-clause-step
returns-then-len-at-lt-COLUMN_WIDTH-clause-step c =
    column_cut c.args.self.now.bytes.now c.args.self.now.progress c.args.table c.requires.stage c.requires.byte (byte_within _ _ c.requires.byte (omega arith)) c.if-table-ge8.false c.if-len-at-lt-COLUMN_WIDTH.true

pub returns-then-not-named-clause-step : goal.returns-then-not-named-clause-step
returns-then-not-named-clause-step c =
    column_unlawful c.args.self.now.bytes.now c.args.self.now.progress c.args.table c.requires.stage c.requires.byte (byte_within _ _ c.requires.byte (omega arith)) c.if-table-ge8.false c.if-len-at-lt-COLUMN_WIDTH.false
    (elim c.then-not-named.branch [
      | then-not-named-via-then-not-named w ↦ inl (sym (name_some c.name_at.result _ _ c.name_at.ensures) ∙ sym w.if-not-named.ensures)
      | then-not-named-via-else-not-named+then-is_err w ↦ inr (sym w.try_from.ensures ∙ error_when w.try_from.result w.if-is_err.ensures.negation)
    ])

pub returns-clause-step : goal.returns-clause-step
returns-clause-step c =
    let t = value_when c.try_from.result c.if-is_err.ensures.negation in
    let f = sym (name_some c.name_at.result _ _ c.name_at.ensures) ∙ sym c.if-not-named.ensures in (
      17,
      column_taken c.args.self.now.bytes.now c.args.self.now.progress c.args.table c.requires.stage c.requires.byte (byte_within _ _ c.requires.byte (omega arith)) c.args.self.now.placed c.if-table-ge8.false c.if-len-at-lt-COLUMN_WIDTH.false f t.0 (sym c.try_from.ensures ∙ t.1),
      omega arith,
      column_placed c.args.self.now.bytes.now c.args.self.now.progress c.args.table c.requires.stage c.requires.byte (byte_within _ _ c.requires.byte (omega arith)) c.args.self.now.placed c.if-table-ge8.false c.if-len-at-lt-COLUMN_WIDTH.false,
    )
