use Rattle.std.proofs.Common.{◌≡◌, List, ℕ, sym, ap, inl, inr}
use Rattle.batches.specs.Checking.{state_of}
use Rattle.batches.specs.Reading.{State, close}
use Rattle.batches.specs.declared.checker.Progress.{Progress}
use Rattle.batches.specs.declared.checker.Stage.{Stage as Expects}
use Rattle.batches.specs.declared.checker.Stage.TheVariants.{Between, Columns, Cells}
use Rattle.batches.proofs.Stages.{state_at, state_is}
use Rattle.batches.proofs.checker.Progress.close.Goals as goal

-- the close, where the stage is known
closed_at : (bs : List ℕ) (c : Progress) (e : Expects) → c.stage ≡ e → close (state_at bs c e) c.pos ≡ close (state_of bs c) c.pos
closed_at bs c e q = sym (ap (λ (s : State). close s c.pos) (state_is bs c e q))

pub returns-in-Between : goal.returns-in-Between
returns-in-Between c = λ bs. closed_at bs c.args.self Between c.in-Between.is

pub returns-in-Columns : goal.returns-in-Columns
returns-in-Columns c =
    elim c.in-Columns.is [
      | inl h ↦ λ bs. closed_at bs c.args.self (Columns h.0) h.1
      | inr h ↦ λ bs. closed_at bs c.args.self (Cells h.0) h.1
    ]
