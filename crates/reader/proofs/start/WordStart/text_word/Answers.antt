use Rattle.std.proofs.Common.{◌≡◌, ◌+◌, true, arith}
use Rattle.std.proofs.lemmas.Grind.{common_steps}
use Rattle.std.specs.List.{between}
use Rattle.values.specs.Bytes.{each, printable}
use Rattle.reader.specs.Words.{text_word}
use Rattle.reader.proofs.Runs.{run_each}
use Rattle.reader.proofs.start.WordStart.text_word.Goals as goal

pub returns-in_err-value : goal.returns-in_err-value
unfolding text_word
returns-in_err-value c =
    let fair : each printable (between (c.args.self.at + 1) c.run_end-close.result c.args.self.text.now) ≡ true = run_each printable c.args.self.text.now (c.args.self.at + 1) c.run_end-close.result (omega (arith, c.run_end-odd.ensures.end)) in
    grind (arith, common_steps)
