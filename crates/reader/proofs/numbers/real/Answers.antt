use Rattle.std.proofs.Common.{arith, rules}
use Rattle.reader.proofs.Digits.{ten_most}
use Rattle.reader.proofs.numbers.real.Goals as goal

pub int_to_float-quotient-2 : goal.int_to_float-quotient-2
int_to_float-quotient-2 c =
    let most = ten_most c.args.k (omega arith) in
    search rules
