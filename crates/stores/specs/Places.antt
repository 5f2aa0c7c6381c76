-- Places that are free or hold a table under a name. Assumes nothing.
use Rattle.std.specs.Prelude.{ℕ, suc, Bool, true, false, cond, List, [], ◌∷◌, ◌++◌, Some, None, Option}
use Rattle.batches.specs.Asked.{chained}
use Rattle.batches.specs.Reading.{taken}
use Rattle.batches.specs.Tables.{Table, Named, Told}
use Rattle.std.specs.List.{slice_get}
use Rattle.std.specs.Option.{option_map}
use Rattle.std.specs.Str.{bytes_eq}

abbrev pub Places : Type 0
Places = List (Option Named)

-- the tables in the places, in their order
unfoldable pub in_places : Places → Told
in_places [] = []
in_places (None ∷ ps) = in_places ps
in_places (Some t ∷ ps) = t ∷ in_places ps

-- tables, and further ones whose names are not told yet
unfoldable pub with_new : Told → Told → Told
with_new ts [] = ts
with_new ts (u ∷ us) = cond (taken u.name ts) (with_new ts us) (with_new (ts ++ u ∷ []) us)

-- the first place that holds a table with a name
unfoldable pub place_named : Places → List ℕ → Option ℕ
place_named [] n = None
place_named (None ∷ ps) n = option_map suc (place_named ps n)
place_named (Some t ∷ ps) n = cond (bytes_eq n t.name) (Some 0) (option_map suc (place_named ps n))

-- the lowest place that is free
unfoldable pub first_free : Places → Option ℕ
first_free [] = None
first_free (None ∷ ps) = Some 0
first_free (Some t ∷ ps) = option_map suc (first_free ps)

-- the first place of which a test holds
unfoldable pub first_place : (Option Named → Bool) → Places → Option ℕ
first_place p [] = None
first_place p (o ∷ ps) = cond (p o) (Some 0) (option_map suc (first_place p ps))

-- a place holds a table with a name
abbrev pub is_named : List ℕ → Option Named → Bool
is_named n None = false
is_named n (Some t) = bytes_eq n t.name

-- a place is free
abbrev pub is_free : Option Named → Bool
is_free None = true
is_free (Some t) = false

-- the first place that holds a table with a name, by that test
abbrev pub place_holding : Places → List ℕ → Option ℕ
place_holding ps n = first_place (is_named n) ps

-- the lowest place that is free, by that test
abbrev pub lowest_free : Places → Option ℕ
lowest_free ps = first_place is_free ps

-- the table in a place
unfoldable pub table_in : Places → ℕ → Option Table
table_in ps i = chained (slice_get ps i) (option_map (λ t. t.table))
