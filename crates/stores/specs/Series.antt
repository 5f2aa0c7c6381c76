-- What a series store tells. Assumes nothing.
use Rattle.std.specs.Prelude.{◌≡◌, ℕ, ◌+◌, true, false, cond, List, [], ◌∷◌, map, ℤ, pos, ◌+ℤ◌, ◌-ℤ◌, Some, None, Ok, Err, codes, Option, Result, int_le, nat_le, unsigned_abs}
use Rattle.std.specs.List.{range_with_len}
use Rattle.std.specs.Option.{option_map}
use Rattle.std.specs.Bool.{then_some}
use Rattle.std.specs.Str.{bytes_eq}
use Rattle.stores.specs.Refusals.{store_layer, store_refusal}
use Rattle.stores.specs.declared.faults.StoreFault.{StoreFault}
use Rattle.stores.specs.declared.series_store.OnlyTable.{OnlyTable}
use Rattle.stores.specs.declared.series_store.Series.{Series}
use Rattle.stores.specs.declared.series_store.SeriesStore.{SeriesStore}
use Rattle.values.specs.Named.{name_bytes}
use Rattle.values.specs.Cells.{Cell, integer}
use Rattle.values.specs.Names.{filled, lawful_name}
use Rattle.values.specs.declared.kinds.ColumnType.TheVariants.{Integer}
use Rattle.batches.specs.Tables.{Heading, Body, rows, too_long, Table, Told}
use Rattle.stores.specs.Meaning.{most_rows}

-- how many numbers there are from one to another: none where the first is the greater
abbrev pub how_many : ℤ → ℤ → ℕ
how_many a b = cond (int_le a b) (unsigned_abs (b -ℤ a) + 1) 0

-- the numbers from the first on, one to a row
unfoldable pub numbers_from : ℤ → ℕ → List (List Cell)
numbers_from a n = map (λ k. integer (a +ℤ pos k) ∷ []) (range_with_len 0 n)

-- the rows, or the mark where there are too many
abbrev pub series_body : ℤ → ℤ → Body
series_body a b = cond (nat_le (how_many a b) most_rows) (rows (numbers_from a (how_many a b))) too_long

-- one integer column, n
abbrev pub series_heading : Heading
series_heading = record { name = filled (codes "n"); holds = Integer }

abbrev pub series_table : ℤ → ℤ → Table
series_table a b = record { headings = series_heading ∷ []; body = series_body a b }

-- nothing before it is set, and then the one table
abbrev pub told_of : Option Series → Told
told_of None = []
told_of (Some s) = record { name = name_bytes s.name; table = series_table s.first s.last } ∷ []

unfoldable pub series_told : SeriesStore → Told
series_told s = told_of s.series

-- the one table's number
abbrev pub only : OnlyTable
only = record {}

abbrev pub number_of : Option Series → List ℕ → Option OnlyTable
number_of None n = None
number_of (Some s) n = then_some (bytes_eq n (name_bytes s.name)) only

abbrev pub series_number : SeriesStore → List ℕ → Option OnlyTable
series_number s n = number_of s.series n

abbrev pub series_stands : SeriesStore → OnlyTable → Option Table
series_stands s k = option_map (λ x. series_table x.first x.last) s.series

-- what setting a series comes to: the series is told; or the name is refused, and nothing changed
abbrev pub Sets : {T : Type 0} → List ℕ → ℤ → ℤ → Told → Told → Result T StoreFault → Type 0
Sets n a b old new (Ok u) = (lawful_name n ≡ true) × (new ≡ record { name = n; table = series_table a b } ∷ [])
Sets n a b old new (Err f) =
    (lawful_name n ≡ false) × (store_refusal f ≡ record { layer = store_layer; code = 8; place = 0 }) × (new ≡ old)
