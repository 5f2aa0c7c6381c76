use Rattle.std.proofs.Common.{◌≡◌, ◌-◌, length}
use Rattle.batches.proofs.Runs.{Going}
use Rattle.batches.proofs.checking.check.Given as goal

abbrev pub invariant-loop-checker : goal.invariant-loop-checker
invariant-loop-checker l = (l.checker.bytes.now ≡ l.bytes) × Going l.bytes l.checker.progress

abbrev pub decreases-loop-checker : goal.decreases-loop-checker
decreases-loop-checker l = length l.bytes - l.checker.progress.pos
