use Rattle.std.proofs.Common.{◌≡◌, ℕ, ◌+◌, ◌^◌, ◌<◌, ◌≤◌, length, filter, Some, IfSome, Option, subst, arith}
use Rattle.values.specs.Names.{decimal_digit}
use Rattle.std.specs.List.{between}
use Rattle.reader.proofs.Runs.{run_kept}
use Rattle.reader.proofs.start.WordStart.number_word.Goals as goal

pub real-requires : goal.real-requires
real-requires c =
    let some : c.decimal-2.result ≡ Some c.in_ok-digits.digits = c.in_ok-digits.ensures.ok_part in
    let few = subst (λ (o : Option ℕ). IfSome o (λ n. (length (filter decimal_digit (between c.args.self.at c.run_end-end.result c.args.self.text.now)) ≤ 15) × (n < 10 ^ 15))) some c.decimal-2.ensures.few in
    let kept = run_kept decimal_digit c.args.self.text.now c.args.self.at (c.run_end-point.result + 1) c.run_end-end.result (omega arith) c.run_end-end.ensures.end in
    (few.1, omega arith)
