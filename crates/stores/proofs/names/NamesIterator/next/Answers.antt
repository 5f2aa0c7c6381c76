use Rattle.std.proofs.Common.{rules}
use Rattle.stores.proofs.NamesInOrder.{goes_on, names_turn}
use Rattle.stores.specs.Names.{names_left}
use Rattle.values.specs.Named.{name_bytes}
use Rattle.stores.proofs.names.NamesIterator.next.Goals as goal

pub returns-clause-steps : goal.returns-clause-steps
returns-clause-steps g c =
    let t = names_turn (g.S.Store.told c.args.self.now.store.now) c.in_ok-place.place c.name.result c.checked_add-self.result (search rules) c.checked_add-self.ensures c.name.ensures in
    rw c.in_ok-place.was t

pub returns-clause-goes : goal.returns-clause-goes
returns-clause-goes g c = goes_on name_bytes (names_left g.S.Store.told) c.args.self.now c.name.result _ (returns-clause-steps g c)
