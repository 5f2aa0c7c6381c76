use Rattle.std.proofs.Common.{map, ap, ◌∙◌, rules, tests}
use Rattle.std.proofs.lemmas.Iterator.{YieldsList-from_slice}
use Rattle.std.proofs.lemmas.Iterator.Search.{position_from_yields_List}
use Rattle.values.specs.Named.{name_bytes}
use Rattle.batches.specs.Layouts.{place_of, table_at}
use Rattle.batches.proofs.Lookup.{bears, found}
use Rattle.batches.proofs.layout.Catalog.find.Goals as goal

pub returns : goal.returns
returns c =
    position_from_yields_List (bears (table_at c.args.bytes.now) (name_bytes c.args.name)) _ _ _ c.position.ensures.ran (YieldsList-from_slice c.layouts.result.now cc) (λ x b q k. search (rules, tests)) ∙
    (found (table_at c.args.bytes.now) (name_bytes c.args.name) c.layouts.result.now ∙
    ap (λ ls. place_of (name_bytes c.args.name) (map (table_at c.args.bytes.now) ls)) c.layouts.ensures)
