use Rattle.std.proofs.Common.{◌≡◌, ℕ, is_some, Some, Option, sym, ap, ◌∙◌, ap₂}
use Rattle.batches.specs.Tables.{Table}
use Rattle.stores.specs.Meaning.{count_of}
use Rattle.stores.specs.Paired.{join_count}
use Rattle.stores.proofs.JoinedRows.{cell_first}
use Rattle.stores.proofs.paired.cell_together.Goals as goal

-- what the two counts come to
together : (x y : Option Table) (m : ℕ) (first second all : Option ℕ) → first ≡ count_of x → first ≡ Some m → second ≡ count_of y → all ≡ join_count (Some m) second → join_count (count_of x) (count_of y) ≡ all
together x y m first second all p q e h = ap₂ join_count (sym p ∙ q) (sym e) ∙ sym h

pub returns-then-row-count : goal.returns-then-row-count
returns-then-row-count g c =
    let x = g.A.Store.stands c.args.a.store.now c.args.a.number in
    let y = g.B.Store.stands c.args.b.store.now c.args.b.number in
    let all = together x y c.in_ok-count.count c.count.result c.count-2.result c.count_together.result c.count.ensures c.in_ok-count.was c.count-2.ensures c.count_together.ensures in
    let first : count_of x ≡ Some c.in_ok-count.count = sym c.count.ensures ∙ c.in_ok-count.was in
    c.cell.ensures ∙
    sym (cell_first x y c.in_ok-count.count c.args.row c.args.column first (ap is_some (all ∙ c.in_ok-_all.was)) c.if-row-count.true)
