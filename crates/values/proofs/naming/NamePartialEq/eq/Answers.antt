use Rattle.values.specs.Named.{name_bytes}
use Rattle.values.proofs.naming.NamePartialEq.eq.Goals as goal

pub returns : goal.returns
unfolding name_bytes
returns c = c.both_same.ensures
