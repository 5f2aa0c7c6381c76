use Rattle.std.proofs.Common.{refl}
use Rattle.stores.specs.Kept.{holding}
use Rattle.stores.specs.Places.{in_places}
use Rattle.stores.proofs.kept_tables.KeptTables.new.Goals as goal

pub invariant_of-result : goal.invariant_of-result
unfolding holding in_places
invariant_of-result c = record { eight = refl; apart = refl }

pub returns : goal.returns
unfolding holding
returns c = refl
