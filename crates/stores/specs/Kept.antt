-- What a kept table means. Assumes nothing.
use Rattle.std.specs.Prelude.{List, map, Option}
use Rattle.std.specs.Option.{option_map}
use Rattle.batches.specs.Tables.{Named}
use Rattle.stores.specs.Held.{held_as}
use Rattle.stores.specs.Places.{Places}
use Rattle.stores.specs.declared.kept.KeptTable.{KeptTable}

abbrev pub kept_as : KeptTable → Named
kept_as k = held_as k.name k.length k.bytes k.catalog

-- what places hold
unfoldable pub holding : List (Option KeptTable) → Places
holding os = map (option_map kept_as) os
