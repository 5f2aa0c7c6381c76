use Rattle.std.proofs.Common.{rules, tests, ◌∙◌}
use Rattle.std.proofs.lemmas.Iterator.{YieldsList-from_slice}
use Rattle.std.proofs.lemmas.Iterator.Search.{position_from_yields_List}
use Rattle.std.specs.Option.{option_map}
use Rattle.stores.specs.Kept.{kept_as}
use Rattle.stores.specs.Places.{is_free}
use Rattle.stores.proofs.KeptFound.{first_position, free_held}
use Rattle.stores.proofs.kept_tables.KeptTables.free_place.Goals as goal

pub returns : goal.returns
returns c =
    position_from_yields_List (λ o. is_free (option_map kept_as o)) _ _ c.position.result c.position.ensures.ran (YieldsList-from_slice c.args.self.now.places cc) (λ x b q k. search (rules, tests, free_held)) ∙
    first_position is_free c.args.self.now.places
