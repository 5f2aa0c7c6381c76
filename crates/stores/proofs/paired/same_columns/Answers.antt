use Rattle.std.proofs.Common.{◌≡◌, ◌≢◌, rules, tests, refl}
use Rattle.std.proofs.lemmas.Iterator.{YieldsList-from_range, cases_from_all}
use Rattle.stores.specs.Meaning.{column_of}
use Rattle.stores.proofs.ColumnsCompared.{columns_alike, other_column, same_column}
use Rattle.stores.proofs.paired.same_columns.Goals as goal

pub returns : goal.returns
returns g c =
    let x = g.A.Store.stands c.args.a.store.now c.args.a.number in
    let y = g.B.Store.stands c.args.b.store.now c.args.b.number in
    columns_alike x y c.requires.0 c.requires.1 c.all.result (cases_from_all _ _ c.all.result (λ i. column_of x i ≡ column_of y i) (λ i. column_of x i ≢ column_of y i) c.all.ensures.ran (YieldsList-from_range 0 8 8 refl refl) (λ i q k. search (rules, tests, same_column)) (λ i q k. search (rules, tests, other_column)))
