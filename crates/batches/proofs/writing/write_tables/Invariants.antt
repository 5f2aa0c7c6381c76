use Rattle.std.proofs.Common.{◌≡◌, take}
use Rattle.std.specs.List.{flat_map}
use Rattle.batches.specs.Commands.{bytes_in, table_of}
use Rattle.batches.specs.Written.{table_bytes}
use Rattle.batches.proofs.writing.write_tables.Given as goal

abbrev pub invariant-loop-table : goal.invariant-loop-table
invariant-loop-table l = bytes_in l.writer ≡ flat_map (λ d. table_bytes (table_of d)) (take l.table-index l.tables)
