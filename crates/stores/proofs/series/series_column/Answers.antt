use Rattle.std.proofs.Common.{◌≡◌, ℕ, List, [], ◌∷◌, Some, None, refl, ◌∙◌, arith}
use Rattle.values.specs.Named.{name_from}
use Rattle.values.specs.Names.{filled, lawful_name}
use Rattle.stores.proofs.series.series_column.Goals as goal

-- n is a lawful name
lawful_n : name_from (110 ∷ []) ≡ Some (filled (110 ∷ []))
unfolding lawful_name
lawful_n = refl

none_some : {P : Type 0} (x : List ℕ) → None ≡ Some x → P
none_some x e = absurd (let z : ◌≡◌ {A = ℕ} 0 1 = cc in omega arith)

pub returns-in_err-name : goal.returns-in_err-name
returns-in_err-name c = none_some (filled (110 ∷ [])) (c.in_err-name.ensures.answer ∙ lawful_n)
