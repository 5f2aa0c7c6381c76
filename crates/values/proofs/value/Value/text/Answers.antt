use Rattle.std.proofs.Common.{ℕ, Bool, leb, List, length, Some, sym, ap, ◌∙◌}
use Rattle.std.proofs.lemmas.Bool.{and_from}
use Rattle.values.specs.Bytes.{each, printable}
use Rattle.values.specs.Cells.{text}
use Rattle.values.specs.Codes.{given}
use Rattle.values.specs.Names.{filled}
use Rattle.values.proofs.Filled.{filled_if_some, filled_printable}
use Rattle.values.proofs.value.Value.text.Goals as goal

pub invariant_of-result : goal.invariant_of-result
invariant_of-result c =
    let bs = c.args.bytes.now in
    let same = filled_if_some (leb (length bs) 16) bs c.in_ok-filled.filled c.in_ok-filled.ensures in
    record { kept = ap (each printable) (c.into.ensures ∙ same.1) ∙ filled_printable bs (sym c.if-not-all_printable.ensures) }

pub returns : goal.returns
returns c =
    let bs = c.args.bytes.now in
    let same = filled_if_some (leb (length bs) 16) bs c.in_ok-filled.filled c.in_ok-filled.ensures in
    ap (λ (ds : List ℕ). Some (text ds)) (c.into.ensures ∙ same.1) ∙
    sym (ap (λ (t : Bool). given t (text (filled bs))) (and_from (leb (length bs) 16) (each printable bs) same.0 (sym c.if-not-all_printable.ensures)))
