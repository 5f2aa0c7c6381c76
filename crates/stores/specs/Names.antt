-- The names of a store's tables, one after the other. Assumes nothing.
use Rattle.std.specs.Prelude.{ℕ, List, [], map, take, drop, Some, None, Option}
use Rattle.batches.specs.Tables.{Told}
use Rattle.stores.specs.declared.names.Names.{Names}

-- the names in order, as far as a place is a number of 64 bits
unfoldable pub names_in : Told → List (List ℕ)
names_in ts = take 18446744073709551616 (map (λ t. t.name) ts)

-- those from a place on, if there is one
abbrev pub names_from : Option ℕ → Told → List (List ℕ)
names_from None ts = []
names_from (Some k) ts = drop k (names_in ts)

-- what an iterator over the names has left, by what its store tells
abbrev pub names_left : {S : Type 0} → (S → Told) → Names S → List (List ℕ)
names_left told s = names_from s.place (told s.store.now)
