use Rattle.std.proofs.Common.{◌≡◌, ◌++◌, take}
use Rattle.std.specs.List.{flat_map}
use Rattle.batches.specs.Commands.{bytes_in}
use Rattle.batches.proofs.writer.BatchWriter.put_all.Given as goal

abbrev pub invariant-loop-command : goal.invariant-loop-command
invariant-loop-command g l =
    bytes_in l.self ≡ bytes_in l.initial.self ++ flat_map g.C.Command.command (take l.command-index l.commands)
