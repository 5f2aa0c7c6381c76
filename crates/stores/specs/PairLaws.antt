-- What is proved of a pair, name by name. Assumes nothing.
use Rattle.std.specs.Prelude.{◌≡◌, ℕ, ◌+◌, ◌<◌, ◌≤◌, List, ◌++◌, length, Some, None, ◌≢◌}
use Rattle.values.specs.Cells.{Cell}
use Rattle.batches.specs.Tables.{Body, rows, too_long, Table, Told}
use Rattle.stores.specs.Agreeing.{EqualTables}
use Rattle.stores.specs.Meaning.{lookup, most_rows}
use Rattle.stores.specs.Paired.{paired}

-- Under a name that only one of two stores tells, a pair tells that one's table.
pub record PairSingle : Type 0 where
  pub first : (ts us : Told) (n : List ℕ) → lookup us n ≡ None → lookup (paired ts us) n ≡ lookup ts n
  pub second : (ts us : Told) (n : List ℕ) → lookup ts n ≡ None → lookup (paired ts us) n ≡ lookup us n

-- Where both tell it with other columns, it tells the first's.
abbrev pub PairUnlike : Type 0
PairUnlike = (ts us : Told) (n : List ℕ) (t u : Table) → lookup ts n ≡ Some t → lookup us n ≡ Some u → (t.headings ≢ u.headings) → lookup (paired ts us) n ≡ Some t

-- what a body is that has the rows of two: the rows of the first and then of the second, or the mark where either has
-- it or there are too many
pub record Joined (a b c : Body) : Type 0 where
  pub joined : (xs ys : List (List Cell)) → a ≡ rows xs → b ≡ rows ys → length xs + length ys ≤ most_rows → c ≡ rows (xs ++ ys)
  pub over : (xs ys : List (List Cell)) → a ≡ rows xs → b ≡ rows ys → most_rows < length xs + length ys → c ≡ too_long
  pub first_marked : a ≡ too_long → c ≡ too_long
  pub second_marked : b ≡ too_long → c ≡ too_long

-- the table that a pair tells under a name, with the headings and the rows of two
pub record Both (ts us : Told) (n : List ℕ) (t u : Table) : Type 0 where
  pub table : Table
  pub told : lookup (paired ts us) n ≡ Some table
  pub headed : table.headings ≡ t.headings
  pub rows : Joined t.body u.body table.body

-- Where both tell it with the same columns, it tells the rows of both.
abbrev pub PairAlike : Type 0
PairAlike = (ts us : Told) (n : List ℕ) (t u : Table) → lookup ts n ≡ Some t → lookup us n ≡ Some u → t.headings ≡ u.headings → Both ts us n t u

-- tables of one name have not too many rows together
abbrev pub FewTogether : Told → Told → Type 0
FewTogether ts us = (n : List ℕ) (t u : Table) (xs ys : List (List Cell)) → lookup ts n ≡ Some t → lookup us n ≡ Some u → t.body ≡ rows xs → u.body ≡ rows ys → length xs + length ys ≤ most_rows

-- A pair of two stores with equal tables has equal tables with the first, where they do not get too long.
abbrev pub PairOfEquals : Type 0
PairOfEquals = (ts us : Told) → EqualTables ts us → FewTogether ts us → EqualTables ts (paired ts us)
