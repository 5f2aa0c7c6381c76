use Rattle.std.proofs.Common.{sym, ap, ◌∙◌, rules}
use Rattle.std.proofs.lemmas.Bool.{lt-ltb}
use Rattle.values.specs.Bytes.{zeros}
use Rattle.values.proofs.Operands.{real_by, real_none}
use Rattle.values.proofs.Reals.{finite_bits, finite_not_nan_bits}
use Rattle.values.proofs.SixteenHeld.{number_of_front}
use Rattle.values.proofs.cells.read_real.Goals as goal

pub returns-then-bits-ge-INFINITY_BITS : goal.returns-then-bits-ge-INFINITY_BITS
returns-then-bits-ge-INFINITY_BITS c =
    let cut = c.in_ok-number.ensures.cases in
    let n = c.from_be_bytes-bits.result in
    let e = number_of_front c.args.operand.now c.in_ok-number.number.now (search rules) cut.0 in
    sym (real_by c.args.operand.now n (c.if-not-all_are.ensures ∙ ap zeros cut.1) (c.from_be_bytes-bits.ensures ∙ e) ∙ real_none n c.if-bits-ge-INFINITY_BITS.true)

pub float_from_bits-bits : goal.float_from_bits-bits
float_from_bits-bits c =
    finite_not_nan_bits c.from_be_bytes-bits.result (finite_bits c.from_be_bytes-bits.result ∙ lt-ltb _ _ c.if-bits-ge-INFINITY_BITS.false)

pub returns : goal.returns
returns c =
    let cut = c.in_ok-number.ensures.cases in
    let n = c.from_be_bytes-bits.result in
    let e = number_of_front c.args.operand.now c.in_ok-number.number.now (search rules) cut.0 in
    c.real.ensures ∙ sym (real_by c.args.operand.now n (c.if-not-all_are.ensures ∙ ap zeros cut.1) (c.from_be_bytes-bits.ensures ∙ e))
