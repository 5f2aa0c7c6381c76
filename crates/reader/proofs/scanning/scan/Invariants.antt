use Rattle.reader.specs.Classes.{blank}
use Rattle.reader.proofs.scanning.scan.Given as goal

abbrev pub ghost-run_end : goal.ghost-run_end
ghost-run_end a = blank
