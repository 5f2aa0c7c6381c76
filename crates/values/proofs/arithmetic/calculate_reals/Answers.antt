use Rattle.std.proofs.Common.{rules}
use lib.Ieee.{of_bits}
use Rattle.values.proofs.arithmetic.calculate_reals.Goals as goal

pub returns-then-y : goal.returns-then-y
unfolding of_bits
returns-then-y c = search rules

pub returns-else-y : goal.returns-else-y
unfolding of_bits
returns-else-y c = search rules
