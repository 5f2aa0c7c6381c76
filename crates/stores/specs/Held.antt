-- What a place holds: one table, in the bytes of a batch, under a name of its own. Assumes nothing.
use Rattle.std.specs.Prelude.{ℕ, List, [], ◌∷◌, take}
use Rattle.batches.specs.Layouts.{told_by}
use Rattle.batches.specs.Tables.{too_long, Table, Named, Told}
use Rattle.batches.specs.declared.layout.Catalog.{Catalog}
use Rattle.values.specs.Named.{name_bytes}
use Rattle.values.specs.declared.name.Name.{Name}

-- the first of some tables; one without columns, which no store may tell, where there is none
unfoldable pub first_table : Told → Table
first_table [] = record { headings = []; body = too_long }
first_table (t ∷ ts) = t.table

-- the table of the batch in the first bytes of an area, under a name
unfoldable pub held_as : Name → ℕ → List ℕ → Catalog → Named
held_as n l bs c = record { name = name_bytes n; table = first_table (told_by (take l bs) c) }
