use Rattle.values.proofs.Operands.{bytes_typed}
use Rattle.stores.proofs.Loaded.{loaded_lawful}
use Rattle.stores.proofs.batch_store.BatchStore.load.Goals as goal

pub invariant_of-drop : goal.invariant_of-drop
invariant_of-drop c =
    record { lawful = loaded_lawful c.args.batch.now _ c.in_ok-catalog.catalog (bytes_typed c.args.batch.now c.type_inv.batch) c.in_ok-catalog.ensures.answer c.in_ok-bytes.ensures.items }
