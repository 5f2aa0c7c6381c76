use Rattle.std.proofs.lemmas.Bool.{cond-true, cond-false}
use Rattle.std.specs.Float as Floats
use Rattle.std.proofs.Common.{◌≡◌, sym, ap, ◌∙◌}
use lib.Ieee.{of_bits}
use Rattle.values.specs.Codes.{without_negative_zero}
use Rattle.values.specs.Kept.{plain_real}
use Rattle.values.proofs.Reals.{plain_unsigned, unsigned_zero}
use Rattle.values.proofs.make.without_negative_zero.Goals as goal

pub returns-then-x : goal.returns-then-x
unfolding of_bits
returns-then-x c =
    let x = c.args.x in
    let same : Floats.float_zero ≡ without_negative_zero x = sym (unsigned_zero x ∙ cond-true _ Floats.float_zero x c.if-x.true) in
    record { answer = same; plain = λ h. ap plain_real same ∙ plain_unsigned x h }

pub returns-else-x : goal.returns-else-x
unfolding of_bits
returns-else-x c =
    let x = c.args.x in
    let same : x ≡ without_negative_zero x = sym (unsigned_zero x ∙ cond-false _ Floats.float_zero x c.if-x.false) in
    record { answer = same; plain = λ h. ap plain_real same ∙ plain_unsigned x h }
