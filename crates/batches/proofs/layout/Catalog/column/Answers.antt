use Rattle.std.proofs.Common.{Some, None, ap, ◌∙◌, arith}
use Rattle.std.specs.Option.{option_map}
use Rattle.values.specs.Named.{name_bytes}
use Rattle.values.specs.declared.kinds.ColumnType.{ColumnType}
use Rattle.batches.specs.Columns.{heading_of}
use Rattle.batches.specs.Layouts.{type_at}
use Rattle.batches.proofs.Asking.{column_read}
use Rattle.batches.proofs.layout.Catalog.column.Goals as goal

pub returns-in_err-name : goal.returns-in_err-name
returns-in_err-name c =
    ap (option_map heading_of) c.from_residual-in_err-name.ensures ∙
    column_read c.args.bytes.now c.args.self.now c.args.table c.in_ok-layout.layout c.in_ok-layout.ensures c.args.i (omega arith) None c.in_err-name.ensures

pub returns : goal.returns
returns c =
    let n = name_bytes c.in_ok-name.name in
    ap (λ (k : ColumnType). Some (record { name = n; holds = k })) (c.type_at-holds.ensures ∙ ap type_at c.byte_at.ensures) ∙
    column_read c.args.bytes.now c.args.self.now c.args.table c.in_ok-layout.layout c.in_ok-layout.ensures c.args.i (omega arith) (Some n) c.in_ok-name.ensures
