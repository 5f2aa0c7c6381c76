use Rattle.std.proofs.Common.{◌≡◌, length, None, sym, ap, ◌∙◌, arith, rules}
use Rattle.std.proofs.lemmas.Bool.{both_ways}
use Rattle.std.specs.Option.{option_map}
use Rattle.values.proofs.NamesWhole.{name_refused}
use Rattle.values.specs.Named.{name_bytes}
use Rattle.values.specs.Names.{lawful_name}
use Rattle.reader.proofs.NamesScanned.{run_lawful}
use Rattle.reader.proofs.start.WordStart.letter_word.Goals as goal

-- no name is refused, since letters that are no keyword are a lawful one
pub returns-in_err-ok_or-in-None : goal.returns-in_err-ok_or-in-None
returns-in_err-ok_or-in-None c =
    let w = c.in_ok-letters.letters in
    let whole : length w ≡ 16 = search rules in
    let gone : None ≡ c.new.result = grind arith in
    let refused = name_refused w whole (ap (option_map name_bytes) gone ∙ c.new.ensures.answer) in
    let lawful = run_lawful c.args.self.text.now w c.args.self.at c.run_end-end.result c.args.self.inside c.requires c.run_end-end.ensures.end c.run_end-end.ensures.within (sym c.in_ok-letters.ensures.ok_part ∙ c.small_letters.ensures) (sym c.in-None.ensures) in
    absurd (both_ways (lawful_name w) refused lawful)
