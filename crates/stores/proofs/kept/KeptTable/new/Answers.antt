use Rattle.std.proofs.Common.{sym, ap, ◌∙◌}
use Rattle.values.proofs.Operands.{bytes_typed}
use Rattle.stores.specs.Kept.{kept_as}
use Rattle.stores.specs.Refusals.{shelf_refusal, store_refusal}
use Rattle.stores.specs.Shelved.{renamed}
use Rattle.stores.proofs.Exits.{carried}
use Rattle.stores.proofs.Offering.{area_lawful, area_offered, bad_name, from_table, good_name, too_long_lem}
use Rattle.stores.proofs.kept.KeptTable.new.Goals as goal

pub returns-in_err-name : goal.returns-in_err-name
returns-in_err-name c =
    carried kept_as shelf_refusal c.from_residual.result _ c.from_residual.ensures.1 ∙
    bad_name c.args.name c.args.batch.now (store_refusal c.in_err-name.field-0.0) c.in_err-name.ensures

pub returns-then-batch-gt2048 : goal.returns-then-batch-gt2048
returns-then-batch-gt2048 c =
    too_long_lem c.args.name c.args.batch.now (good_name c.args.name _ c.in_ok-name.ensures).0 c.if-batch-gt2048.true

pub returns-in_err-catalog : goal.returns-in_err-catalog
returns-in_err-catalog c =
    carried kept_as shelf_refusal c.from_residual-in_err-catalog.result _ c.from_residual-in_err-catalog.ensures.1 ∙
    (ap (renamed c.args.name) c.in_err-catalog.ensures ∙
    sym (from_table c.args.name c.args.batch.now (good_name c.args.name _ c.in_ok-name.ensures).0 c.if-batch-gt2048.false))

pub invariant_of-result : goal.invariant_of-result
invariant_of-result c =
    let bs = c.args.batch.now in
    record {
      short = c.if-batch-gt2048.false;
      lawful = area_lawful c.in_ok-name.name c.area_with-bytes.result bs c.in_ok-catalog.catalog c.area_with-bytes.ensures (bytes_typed bs c.type_inv.batch) c.in_ok-catalog.ensures;
    }

pub returns : goal.returns
returns c =
    area_offered c.in_ok-name.name c.area_with-bytes.result c.args.batch.now c.in_ok-catalog.catalog c.area_with-bytes.ensures c.args.name c.if-batch-gt2048.false c.in_ok-name.ensures c.in_ok-catalog.ensures
