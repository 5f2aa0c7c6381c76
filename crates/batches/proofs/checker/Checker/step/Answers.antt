use Rattle.std.proofs.Common.{arith}
use Rattle.batches.proofs.OtherBytes.{no_column, no_cell_or_end}
use Rattle.batches.proofs.checker.Checker.step.Goals as goal

pub returns-in_default-2-clause-step : goal.returns-in_default-2-clause-step
returns-in_default-2-clause-step c = no_column c.args.self.now.bytes.now c.args.self.now.progress c.in_default.field-0-0 c.in_default.is-0 (omega arith) (omega arith) (λ k. omega arith)

pub returns-in_default-3-clause-step : goal.returns-in_default-3-clause-step
returns-in_default-3-clause-step c = no_column c.args.self.now.bytes.now c.args.self.now.progress c.in_default.field-0-0 c.in_default.is-0 (omega arith) (omega arith) (λ k. omega arith)

pub returns-in_default-4-clause-step : goal.returns-in_default-4-clause-step
returns-in_default-4-clause-step c = no_cell_or_end c.args.self.now.bytes.now c.args.self.now.progress c.in_default.field-0-0 c.in_default.is-0 (omega arith) (λ k. omega arith)

pub returns-in_default-5-clause-step : goal.returns-in_default-5-clause-step
returns-in_default-5-clause-step c = no_cell_or_end c.args.self.now.bytes.now c.args.self.now.progress c.in_default.field-0-0 c.in_default.is-0 (omega arith) (λ k. omega arith)
