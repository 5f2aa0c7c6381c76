use Rattle.std.proofs.Common.{Some, sym, ap, ◌∙◌, arith}
use Rattle.values.specs.Cells.{cell_of}
use Rattle.batches.specs.Layouts.{cell_at}
use Rattle.batches.proofs.Asking.{cell_found}
use Rattle.batches.proofs.Pieces.{cell_or_null}
use Rattle.batches.proofs.layout.Catalog.cell.Goals as goal

pub returns : goal.returns
returns c =
    ap Some (ap cell_of c.unwrap_or.ensures ∙ (cell_or_null c.args.bytes.now c.cell_offset-offset.result c.value_at.result c.null.result c.value_at.ensures c.null.ensures ∙ ap (cell_at c.args.bytes.now) c.cell_offset-offset.ensures.place)) ∙
    sym (cell_found c.args.bytes.now c.args.self.now c.args.table c.in_ok-layout.layout c.in_ok-layout.ensures c.args.row c.args.column c.if-row-layout.false (omega arith))
