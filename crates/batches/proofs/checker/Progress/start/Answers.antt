use Rattle.std.proofs.Common.{take, sym, refl, ap, subst, arith}
use Rattle.std.specs.List.{AllByRecursion}
use Rattle.batches.specs.Checking.{state_of}
use Rattle.batches.specs.Layouts.{Lies}
use Rattle.batches.specs.Reading.{between}
use Rattle.batches.specs.Tables.{Told}
use Rattle.batches.proofs.checker.Progress.start.Goals as goal

pub returns : goal.returns
unfolding state_of
returns c =
    λ bs. (
      record {
        within = omega arith;
        inside = subst (λ n. AllByRecursion (Lies bs) (take n c.empty.result.tables)) (sym c.empty.ensures.count) tt;
        stands = tt;
      },
      ap (λ (ts : Told). record { done = ts; stage = between }) (c.empty.ensures.none bs),
      refl,
    )
