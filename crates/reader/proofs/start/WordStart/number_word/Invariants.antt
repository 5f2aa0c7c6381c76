use Rattle.values.specs.Names.{decimal_digit}
use Rattle.reader.proofs.start.WordStart.number_word.Given as goal

abbrev pub ghost-run_end : goal.ghost-run_end
ghost-run_end a = decimal_digit

abbrev pub ghost-run_end-2 : goal.ghost-run_end-2
ghost-run_end-2 a = decimal_digit
