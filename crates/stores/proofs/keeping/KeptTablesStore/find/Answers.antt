use Rattle.std.proofs.Common.{rules, tests, ◌∙◌}
use Rattle.std.proofs.lemmas.Iterator.{YieldsList-from_slice}
use Rattle.std.proofs.lemmas.Iterator.Search.{position_from_yields_List}
use Rattle.std.specs.Option.{option_map}
use Rattle.values.specs.Named.{name_bytes}
use Rattle.stores.specs.Held.{held_as}
use Rattle.stores.specs.Kept.{kept_as}
use Rattle.stores.specs.Places.{is_named}
use Rattle.stores.proofs.KeptFound.{first_position}
use Rattle.stores.proofs.keeping.KeptTablesStore.find.Goals as goal

pub returns : goal.returns
unfolding held_as
returns c =
    position_from_yields_List (λ o. is_named (name_bytes c.args.name) (option_map kept_as o)) _ _ c.position.result c.position.ensures.ran (YieldsList-from_slice c.args.self.now.places cc) (λ x b q k. search (rules, tests)) ∙
    first_position (is_named (name_bytes c.args.name)) c.args.self.now.places
