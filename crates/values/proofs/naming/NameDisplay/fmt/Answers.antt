use Rattle.std.proofs.Common.{◌≡◌, ℕ, List, eqb, not, take, ap, ◌∙◌}
use Rattle.std.specs.List.{prefix_len}
use Rattle.values.specs.Named.{name_bytes, trimmed}
use Rattle.values.proofs.NameTails.{trimmed_front}
use Rattle.values.proofs.naming.NameDisplay.fmt.Goals as goal

letters_trimmed : (t bs ns : List ℕ) (n : ℕ) → t ≡ take n bs → n ≡ prefix_len (λ b. not (eqb b 32)) bs → bs ≡ ns → t ≡ trimmed ns
letters_trimmed t bs ns n e f k = e ∙ (ap (λ m. take m bs) f ∙ (trimmed_front bs ∙ ap trimmed k))

pub returns-in-Ok-clause-writes : goal.returns-in-Ok-clause-writes
returns-in-Ok-clause-writes g c =
    let e = letters_trimmed c.in-Ok.text.now c.to_bytes-bytes.result (name_bytes c.args.self.now) c.length_unfilled.result c.in-Ok.ensures.cases.0 c.length_unfilled.ensures.answer c.to_bytes-bytes.ensures in
    rw (← e) c.pad.ensures.writes

pub returns-in-Ok-clause-styled : goal.returns-in-Ok-clause-styled
returns-in-Ok-clause-styled g c =
    let e = letters_trimmed c.in-Ok.text.now c.to_bytes-bytes.result (name_bytes c.args.self.now) c.length_unfilled.result c.in-Ok.ensures.cases.0 c.length_unfilled.ensures.answer c.to_bytes-bytes.ensures in
    rw (← e) c.pad.ensures.text
