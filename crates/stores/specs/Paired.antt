-- What a pair of stores tells. Assumes nothing.
use Rattle.std.specs.Prelude.{ℕ, ◌+◌, ◌≤◌, Bool, true, false, cond, not, ◌&&◌, List, [], ◌∷◌, ◌++◌, map, length, is_some, Some, None, filter, Option, nat_le}
use Rattle.std.specs.Bool.{then_some}
use Rattle.std.specs.Str.{bytes_eq}
use Rattle.values.specs.declared.kinds.ColumnType.{ColumnType}
use Rattle.values.specs.declared.kinds.ColumnType.TheVariants.{Integer, Real, Text}
use Rattle.batches.specs.Tables.{Heading, Body, rows, too_long, Table, Named, Told}
use Rattle.stores.specs.Meaning.{lookup, most_rows}
use Rattle.stores.specs.declared.pair.PairNumber.{PairNumber}
use Rattle.stores.specs.declared.pair.PairNumber.TheVariants.{First, Second, Both}

-- the rows of the one and then of the other; the mark where either has it, or where there are too many
unfoldable pub join_body : Body → Body → Body
join_body (rows xs) (rows ys) = cond (nat_le (length xs + length ys) most_rows) (rows (xs ++ ys)) too_long
join_body (rows xs) too_long = too_long
join_body too_long b = too_long

-- the one table with the rows of both
unfoldable pub join_table : Table → Table → Table
join_table t u = record { headings = t.headings; body = join_body t.body u.body }

-- whether columns hold the same
abbrev pub same_type : ColumnType → ColumnType → Bool
same_type Integer Integer = true
same_type Integer Real = false
same_type Integer Text = false
same_type Real Integer = false
same_type Real Real = true
same_type Real Text = false
same_type Text Integer = false
same_type Text Real = false
same_type Text Text = true

-- whether headings are the same: names and types, in the same order
unfoldable pub same_headings : List Heading → List Heading → Bool
same_headings [] [] = true
same_headings [] (g ∷ gs) = false
same_headings (h ∷ hs) [] = false
same_headings (h ∷ hs) (g ∷ gs) = (bytes_eq h.name g.name && same_type h.holds g.holds) && same_headings hs gs

-- a table of the first store, by the second's of that name, if any: joined with it where their headings are the same
unfoldable pub with_other : Table → Option Table → Table
with_other t None = t
with_other t (Some u) = cond (same_headings t.headings u.headings) (join_table t u) t

-- what a pair tells under a name, by what the two stores tell under it
unfoldable pub paired_table : Option Table → Option Table → Option Table
paired_table None o = o
paired_table (Some t) o = Some (with_other t o)

-- a named table of the first store, by all that the second tells
abbrev pub beside : Told → Named → Named
beside us t = record { name = t.name; table = with_other t.table (lookup us t.name) }

-- whether a table's name is not told
abbrev pub untold : Told → Named → Bool
untold ts u = not (is_some (lookup ts u.name))

-- what a pair tells: the first store's tables, each by the second's of its name, then those of the second that the first does not tell
unfoldable pub paired : Told → Told → Told
paired ts us = map (beside us) ts ++ filter (untold ts) us

-- the first table with the rows of both. A second that there is not is taken for one marked too long: how many rows it has
-- does not tell these two apart
unfoldable pub join_tables : Option Table → Option Table → Option Table
join_tables None o = None
join_tables (Some t) None = Some (record { headings = t.headings; body = too_long })
join_tables (Some t) (Some u) = Some (join_table t u)

-- whether there are two tables with the same headings
unfoldable pub same_columns : Option Table → Option Table → Bool
same_columns None o = false
same_columns (Some t) None = false
same_columns (Some t) (Some u) = same_headings t.headings u.headings

-- a table's number in a pair, by its numbers in the two stores and by what a number stands for in each
unfoldable pub pair_number : {M N : Type 0} → (M → Option Table) → (N → Option Table) → Option M → Option N → Option (PairNumber M N)
pair_number f g None None = None
pair_number f g None (Some l) = Some (Second l)
pair_number f g (Some k) None = Some (First k)
pair_number f g (Some k) (Some l) = Some (cond (same_columns (f k) (g l)) (Both k l) (First k))

-- what a pair's number stands for
unfoldable pub pair_stands : {M N : Type 0} → (M → Option Table) → (N → Option Table) → PairNumber M N → Option Table
pair_stands f g (First k) = f k
pair_stands f g (Second l) = g l
pair_stands f g (Both k l) = join_tables (f k) (g l)

-- how many rows two tables have together, by how many each has: none where there are too many
unfoldable pub join_count : Option ℕ → Option ℕ → Option ℕ
join_count None o = None
join_count (Some m) None = None
join_count (Some m) (Some n) = then_some (nat_le (m + n) most_rows) (m + n)

-- a table that there is, with at most eight columns
abbrev pub Narrow : Option Table → Type 0
Narrow None = ⊥
Narrow (Some t) = length t.headings ≤ 8
