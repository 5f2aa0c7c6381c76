use Rattle.reader.specs.Classes.{in_word}
use Rattle.reader.proofs.start.WordStart.letter_word.Given as goal

abbrev pub ghost-run_end : goal.ghost-run_end
ghost-run_end a = in_word
