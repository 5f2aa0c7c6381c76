use Rattle.stores.proofs.KeptFound.{place_read, table_held, table_past}
use Rattle.stores.proofs.kept_tables.KeptTables.table.Goals as goal

pub returns-in_err-get : goal.returns-in_err-get
returns-in_err-get c = rw c.from_residual.ensures (table_past c.args.self.now c.args.place c.in_err-get.ensures.lookup.3)

pub returns : goal.returns
returns c =
    table_held c.args.self.now c.args.place c.as_ref.result c.in_ok-get.field-0.now c.as_ref.ensures.value (place_read c.args.self.now c.args.place c.in_ok-get.field-0.now c.in_ok-get.ensures.lookup.3.0 c.in_ok-get.ensures.lookup.1)
