use Rattle.std.proofs.Common.{◌+◌, ◌-◌, length, take, drop, ap, ◌∙◌, rules}
use Rattle.std.proofs.lemmas.Iterator.{YieldsList-from_slice}
use Rattle.std.proofs.lemmas.Iterator.Consumers.{count_from_yields_List}
use Rattle.std.proofs.lemmas.Iterator.Search.{YieldsList-from_take_while}
use Rattle.std.proofs.lemmas.List.{take_rest}
use Rattle.std.proofs.lemmas.List.Folds.{length-prefix_len}
use Rattle.std.specs.List.{prefix_len}
use Rattle.reader.specs.Classes.{run_end}
use Rattle.reader.proofs.start.run_end.Goals as goal

pub returns-clause-end : goal.returns-clause-end
unfolding run_end
returns-clause-end g c =
    let left = take (length c.args.text.now - c.args.from) (drop c.args.from c.args.text.now) in
    ap (λ n. c.args.from + n) (count_from_yields_List c.take_while.result c.count.result c.count.ensures.ran (YieldsList-from_take_while _ g.kind (YieldsList-from_slice left (cc)) c.take_while.ensures.closure c.take_while.ensures.done (λ x b q k. (search rules, search (rules, c.requires.1.1.1)))) ∙ length-prefix_len g.kind left ∙ ap (prefix_len g.kind) (take_rest c.args.text.now c.args.from))
