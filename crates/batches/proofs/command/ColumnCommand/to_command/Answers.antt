use Rattle.std.proofs.Common.{◌≡◌, ℕ, List, [], ◌∷◌, ◌++◌, length, ap, ◌∙◌, ap₂}
use Rattle.std.proofs.lemmas.List.{set_at}
use Rattle.values.proofs.NameLaws.{lawful_length, name_lawful}
use Rattle.values.specs.Named.{name_bytes}
use Rattle.batches.proofs.command.ColumnCommand.to_command.Goals as goal

pub returns-clause-bytes : goal.returns-clause-bytes
returns-clause-bytes c =
    let n : c.copy_from_slice.new.self ≡ name_bytes c.args.self.name = c.copy_from_slice.ensures.after ∙ c.to_bytes.ensures in
    let l : length c.copy_from_slice.new.self ≡ 16 = ap length n ∙ lawful_length (name_bytes c.args.self.name) (name_lawful c.args.self.name) in
    ap (λ (bs : List ℕ). 2 ∷ bs) (set_at c.copy_from_slice.new.self 2 [] c.from.result 16 l) ∙
    ap₂ (λ (bs : List ℕ) (b : ℕ). 2 ∷ (bs ++ b ∷ [])) n c.from.ensures
