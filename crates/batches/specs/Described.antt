-- What always holds of the tables that a batch is read as. Assumes nothing.
use Rattle.std.specs.Prelude.{◌≡◌, ℕ, ◌≤◌, true, length}
use Rattle.std.specs.List.{AllByRecursion}
use Rattle.values.specs.Names.{lawful_name}
use Rattle.batches.specs.Tables.{Body, rows, too_long, Told, LawfulHeadings, Distinct}
use Rattle.batches.specs.Written.{BodyFits}

-- rows, and at most n of them
abbrev pub RowsUpTo : ℕ → Body → Type 0
RowsUpTo n (rows rs) = length rs ≤ n
RowsUpTo n too_long = ⊥

-- lawful tables: at most 8, differently named, under lawful headings that the rows fit, at most a million rows in each
pub record Described (ts : Told) : Type 0 where
  pub named : AllByRecursion (λ t. lawful_name t.name ≡ true) ts
  pub headed : AllByRecursion (λ t. LawfulHeadings t.table.headings) ts
  pub filled : AllByRecursion (λ t. BodyFits t.table.headings t.table.body) ts
  pub short : AllByRecursion (λ t. RowsUpTo 1000000 t.table.body) ts
  pub few : length ts ≤ 8
  pub distinct : Distinct ts
