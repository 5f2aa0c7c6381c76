use Rattle.std.proofs.Common.{rules, eqb, ◌∙◌}
use borrow.Author.Tests.{tests}
use Rattle.std.proofs.lemmas.Iterator.{YieldsList-from_slice}
use Rattle.std.proofs.lemmas.Iterator.Adapters.{YieldsList-from_skip_while}
use Rattle.std.proofs.lemmas.Iterator.Search.{all_from_yields_List}
use Rattle.values.specs.Names.{name_byte}
use Rattle.values.proofs.NameTails.{tail_skipped}
use Rattle.values.proofs.naming.is_name_tail.Goals as goal

pub returns : goal.returns
returns c =
    all_from_yields_List (eqb 32) _ _ _ c.all.ensures.ran
    (YieldsList-from_skip_while _ _ _ name_byte _ (λ x b q k. search (rules, tests)) (YieldsList-from_slice c.args.bytes.now cc) c.skip_while.ensures.closure c.skip_while.ensures.done_skipping)
    (λ x b q k. search (rules, tests)) ∙
    tail_skipped c.args.bytes.now
