use Rattle.std.proofs.Common.{length, sym, ap, ◌∙◌, ◌≡◌, refl, arith}
use Rattle.std.specs.Option.{option_map}
use Rattle.values.specs.Cells.{cell_of}
use Rattle.values.specs.Codes.{operand_cell}
use Rattle.values.proofs.Codec.{encoded_decoded}
use Rattle.values.proofs.Operands.{some_ok, none_ok, decoded_empty, decoded_none, decoded_by, no_command, text_whole}
use Rattle.values.proofs.value.Value.read.Goals as goal

pub returns-in_err-command : goal.returns-in_err-command
returns-in_err-command c = record { answer = ap (option_map cell_of) c.from_residual.ensures ∙ decoded_empty c.args.bytes.now c.in_err-command.ensures.cases; back = encoded_decoded }

pub returns-in_err-operand : goal.returns-in_err-operand
returns-in_err-operand c =
    let cut = c.in_ok-command.ensures.cases.0 in
    record {
      answer = ap (option_map cell_of) c.from_residual-in_err-operand.ensures ∙ decoded_none c.args.bytes.now c.in_ok-command.operand.now c.in_ok-command.command.now cut (none_ok c.try_into.result _ _ c.in_err-operand.ensures.value c.try_into.ensures.1);
      back = encoded_decoded;
    }

pub returns-in-16 : goal.returns-in-16
returns-in-16 c =
    let whole = some_ok c.try_into.result c.in_ok-operand.operand _ _ c.in_ok-operand.ensures.value c.try_into.ensures.1 in
    let by = decoded_by c.args.bytes.now c.in_ok-command.operand.now c.in_ok-command.command.now 0x10 c.in_ok-command.ensures.cases.0 whole.long c.in-16.is in
    record { answer = c.read_null.ensures ∙ (ap (operand_cell 0x10) whole.same ∙ sym by); back = encoded_decoded }

pub returns-in-17 : goal.returns-in-17
returns-in-17 c =
    let whole = some_ok c.try_into.result c.in_ok-operand.operand _ _ c.in_ok-operand.ensures.value c.try_into.ensures.1 in
    let by = decoded_by c.args.bytes.now c.in_ok-command.operand.now c.in_ok-command.command.now 0x11 c.in_ok-command.ensures.cases.0 whole.long c.in-17.is in
    record { answer = c.read_integer.ensures ∙ (ap (operand_cell 0x11) whole.same ∙ sym by); back = encoded_decoded }

pub returns-in-18 : goal.returns-in-18
returns-in-18 c =
    let whole = some_ok c.try_into.result c.in_ok-operand.operand _ _ c.in_ok-operand.ensures.value c.try_into.ensures.1 in
    let by = decoded_by c.args.bytes.now c.in_ok-command.operand.now c.in_ok-command.command.now 0x12 c.in_ok-command.ensures.cases.0 whole.long c.in-18.is in
    record { answer = c.read_real.ensures ∙ (ap (operand_cell 0x12) whole.same ∙ sym by); back = encoded_decoded }

pub returns-in-19 : goal.returns-in-19
returns-in-19 c =
    let whole = some_ok c.try_into.result c.in_ok-operand.operand _ _ c.in_ok-operand.ensures.value c.try_into.ensures.1 in
    let by = decoded_by c.args.bytes.now c.in_ok-command.operand.now c.in_ok-command.command.now 0x13 c.in_ok-command.ensures.cases.0 whole.long c.in-19.is in
    let l : length c.in_ok-operand.operand.now ≡ 16 = ap length whole.same ∙ whole.long in
    record { answer = c.text.ensures ∙ (text_whole _ l ∙ (ap (operand_cell 0x13) whole.same ∙ sym by)); back = encoded_decoded }

pub returns-in_default : goal.returns-in_default
returns-in_default c =
    let whole = some_ok c.try_into.result c.in_ok-operand.operand _ _ c.in_ok-operand.ensures.value c.try_into.ensures.1 in
    let b = c.in_ok-command.command.now in
    let os = c.in_ok-command.operand.now in
    record {
      answer = sym (decoded_by c.args.bytes.now os b b c.in_ok-command.ensures.cases.0 whole.long refl ∙ no_command b os (omega arith) (omega arith) (omega arith) (omega arith));
      back = encoded_decoded;
    }
