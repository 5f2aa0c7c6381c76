use Rattle.batches.specs.Commands.{bytes_in}
use Rattle.batches.proofs.Appended.{all_written, one_more}
use Rattle.batches.proofs.writer.BatchWriter.put_all.Goals as goal

pub loop-command-preserved : goal.loop-command-preserved
loop-command-preserved g c =
    one_more g.C.Command.command c.args.commands.now (bytes_in c.args.self.now) c.loop-command.command-index c.command-item.result c.loop-command-test.true c.command-item.is c.loop-command.invariant c.in_ok-put.ensures

pub returns : goal.returns
returns g c =
    all_written g.C.Command.command c.args.commands.now (bytes_in c.args.self.now) c.loop-command.command-index c.loop-command-test.false c.loop-command.invariant
