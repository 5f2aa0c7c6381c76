-- What a name means: its sixteen bytes. Assumes nothing.
use Rattle.std.specs.Prelude.{ℕ, Bool, true, false, cond, List, [], ◌∷◌, Some, None, Option, ◌==◌}
use Rattle.values.specs.Kept.{bytes_held}
use Rattle.values.specs.Names.{lawful_name, filled}
use Rattle.values.specs.declared.name.Name.{Name}

unfoldable pub name_bytes : Name → List ℕ
name_bytes n = bytes_held n.held

abbrev pub name_if : Bool → List ℕ → Option (List ℕ)
name_if true bs = Some bs
name_if false bs = None

-- the name that bytes give, filled with spaces: none where that is no lawful name
abbrev pub name_from : List ℕ → Option (List ℕ)
name_from bs = name_if (lawful_name (filled bs)) (filled bs)

-- the bytes before the first space
abbrev pub trimmed : List ℕ → List ℕ
trimmed [] = []
trimmed (b ∷ bs) = cond (b == 32) [] (b ∷ trimmed bs)
