use Rattle.values.specs.Bytes.{printable}
use Rattle.reader.specs.Classes.{unquoted}
use Rattle.reader.proofs.start.WordStart.text_word.Given as goal

abbrev pub ghost-run_end : goal.ghost-run_end
ghost-run_end a = unquoted

abbrev pub ghost-run_end-2 : goal.ghost-run_end-2
ghost-run_end-2 a = printable
