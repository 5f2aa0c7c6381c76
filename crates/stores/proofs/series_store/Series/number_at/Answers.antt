use Rattle.std.proofs.Common.{ap, ◌∙◌, arith}
use Rattle.std.proofs.lemmas.Int.{ints}
use Rattle.values.specs.Cells.{integer}
use Rattle.stores.proofs.series_store.Series.number_at.Goals as goal

pub returns : goal.returns
returns c = c.integer.ensures ∙ ap integer (grind (arith, ints))
