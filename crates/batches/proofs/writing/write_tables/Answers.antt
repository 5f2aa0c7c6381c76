use Rattle.std.proofs.Common.{[], ◌∙◌}
use Rattle.batches.specs.Commands.{table_of}
use Rattle.batches.specs.Written.{table_bytes}
use Rattle.batches.proofs.Appended.{all_written, one_more, tables_written}
use Rattle.batches.proofs.writing.write_tables.Goals as goal

pub loop-table-preserved : goal.loop-table-preserved
loop-table-preserved c =
    one_more (λ d. table_bytes (table_of d)) c.args.tables.now [] c.loop-table.table-index c.table-item.result c.loop-table-test.true c.table-item.is c.loop-table.invariant c.in_ok-whole_table.ensures

pub returns-clause-batch : goal.returns-clause-batch
returns-clause-batch c =
    c.finish.ensures.bytes ∙
    (all_written (λ d. table_bytes (table_of d)) c.args.tables.now [] c.loop-table.table-index c.loop-table-test.false c.loop-table.invariant ∙
    tables_written c.args.tables.now)
