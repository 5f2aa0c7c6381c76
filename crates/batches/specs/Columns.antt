-- What a column means. Assumes nothing.
use Rattle.values.specs.Named.{name_bytes}
use Rattle.batches.specs.Tables.{Heading}
use Rattle.batches.specs.declared.columns.Column.{Column}

abbrev pub heading_of : Column → Heading
heading_of c = record { name = name_bytes c.name; holds = c.holds }
