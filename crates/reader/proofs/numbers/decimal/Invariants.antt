use Rattle.std.proofs.Common.{◌≡◌, take, filter}
use Rattle.values.specs.Names.{decimal_digit}
use Rattle.reader.specs.Words.{written}
use Rattle.reader.proofs.numbers.decimal.Given as goal

abbrev pub invariant-loop-b : goal.invariant-loop-b
invariant-loop-b l = l.number ≡ written (filter decimal_digit (take l.b-index l.bytes))
