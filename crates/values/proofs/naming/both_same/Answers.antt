use Rattle.std.proofs.Common.{◌∙◌, arith}
use Rattle.values.proofs.SameNames.{same_texts_test}
use Rattle.values.proofs.naming.both_same.Goals as goal

pub returns : goal.returns
returns c =
    let a = c.args.own in
    let b = c.args.others in
    c.eq.ensures ∙ same_texts_test a.high a.low b.high b.low (omega arith) (omega arith) (omega arith) (omega arith)
