-- What a batch store tells. Assumes nothing.
use Rattle.std.specs.Prelude.{ℕ, List, vec_items, Option}
use Rattle.std.specs.List.{slice_get}
use Rattle.std.specs.Option.{option_map}
use Rattle.batches.specs.Layouts.{place_of, told_by}
use Rattle.batches.specs.Tables.{Table, Told}
use Rattle.stores.specs.declared.batch_store.BatchStore.{BatchStore}

-- the tables that lie in its bytes
unfoldable pub batch_told : BatchStore → Told
batch_told s = told_by (vec_items s.bytes) s.catalog

-- a table's number is its place among them
abbrev pub batch_number : BatchStore → List ℕ → Option ℕ
batch_number s n = place_of n (batch_told s)

abbrev pub batch_stands : BatchStore → ℕ → Option Table
batch_stands s k = option_map (λ t. t.table) (slice_get (batch_told s) k)
