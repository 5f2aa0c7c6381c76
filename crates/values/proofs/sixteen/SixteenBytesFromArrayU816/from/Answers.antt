use Rattle.std.proofs.Common.{rules}
use Rattle.values.proofs.Operands.{bytes_typed}
use Rattle.values.proofs.SixteenHeld.{held_from}
use Rattle.values.proofs.sixteen.SixteenBytesFromArrayU816.from.Goals as goal

pub returns : goal.returns
returns c =
    held_from c.args.bytes c.from_be_bytes.result c.from_be_bytes-2.result (search rules) (bytes_typed c.args.bytes (search rules)) c.from_be_bytes.ensures c.from_be_bytes-2.ensures
