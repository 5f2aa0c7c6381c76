use Rattle.std.proofs.Common.{true, false, sym, ◌∙◌, ap₂, subst}
use Rattle.values.specs.Named.{name_bytes}
use Rattle.stores.specs.Paired.{Narrow, same_columns}
use Rattle.stores.proofs.PairFound.{number_narrow, number_of_both}
use Rattle.stores.proofs.paired.PairStore.find.Goals as goal

pub same_columns-requires : goal.same_columns-requires
same_columns-requires g c =
    let s = c.args.self.now in
    let n = name_bytes c.args.name in (
      subst Narrow (sym c.new.ensures) (number_narrow (g.A.Store.told s.first) n (g.A.Store.stands s.first) (g.A.Store.number s.first n) c.in-Some-Some.m (g.met.A.Store.lawful s.first) (g.met.A.Store.named s.first n) (g.met.A.Store.known s.first n) (sym c.find.ensures ∙ c.in-Some-Some.is-0)),
      subst Narrow (sym c.new-in-Some-Some.ensures) (number_narrow (g.B.Store.told s.second) n (g.B.Store.stands s.second) (g.B.Store.number s.second n) c.in-Some-Some.n (g.met.B.Store.lawful s.second) (g.met.B.Store.named s.second n) (g.met.B.Store.known s.second n) (sym c.find-2.ensures ∙ c.in-Some-Some.is-1)),
    )

pub returns-then-same_columns : goal.returns-then-same_columns
returns-then-same_columns g c =
    let s = c.args.self.now in
    let n = name_bytes c.args.name in
    sym (number_of_both (g.A.Store.stands s.first) (g.B.Store.stands s.second) (g.A.Store.number s.first n) (g.B.Store.number s.second n) c.in-Some-Some.m c.in-Some-Some.n true (sym c.find.ensures ∙ c.in-Some-Some.is-0) (sym c.find-2.ensures ∙ c.in-Some-Some.is-1) (sym (ap₂ same_columns c.new.ensures c.new-in-Some-Some.ensures) ∙ (sym c.same_columns.ensures ∙ c.if-same_columns.true)))

pub returns-else-same_columns : goal.returns-else-same_columns
returns-else-same_columns g c =
    let s = c.args.self.now in
    let n = name_bytes c.args.name in
    sym (number_of_both (g.A.Store.stands s.first) (g.B.Store.stands s.second) (g.A.Store.number s.first n) (g.B.Store.number s.second n) c.in-Some-Some.m c.in-Some-Some.n false (sym c.find.ensures ∙ c.in-Some-Some.is-0) (sym c.find-2.ensures ∙ c.in-Some-Some.is-1) (sym (ap₂ same_columns c.new.ensures c.new-in-Some-Some.ensures) ∙ (sym c.same_columns.ensures ∙ c.if-same_columns.false)))
