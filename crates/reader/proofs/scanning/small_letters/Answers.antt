use Rattle.std.proofs.Common.{leb, length, map, Some, sym, ap, ◌∙◌}
use Rattle.std.specs.Char.{to_ascii_lowercase}
use Rattle.values.specs.Names.{filled_if}
use Rattle.values.proofs.Filled.{filled_if_none, filled_if_some}
use Rattle.reader.proofs.Letters.{filled_small}
use Rattle.reader.proofs.scanning.small_letters.Goals as goal

pub returns-in_err-letters : goal.returns-in_err-letters
returns-in_err-letters c =
    let bs = c.args.bytes.now in
    c.from_residual.ensures ∙
    sym (ap (λ t. filled_if t (map to_ascii_lowercase bs)) (filled_if_none (leb (length bs) 16) bs c.in_err-letters.ensures))

pub returns : goal.returns
returns c =
    let bs = c.args.bytes.now in
    let same = filled_if_some (leb (length bs) 16) bs c.in_ok-letters.letters c.in_ok-letters.ensures in
    ap Some (c.make_ascii_lowercase.ensures.after ∙ ap (map to_ascii_lowercase) same.1 ∙ filled_small bs) ∙
    sym (ap (λ t. filled_if t (map to_ascii_lowercase bs)) same.0)
