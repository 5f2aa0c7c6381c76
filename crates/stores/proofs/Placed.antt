-- The laws of a table's place by its name, and that the two ways to say a place mean the same. Assumes nothing.
use Rattle.std.proofs.Common.{◌≡◌, ℕ, suc, true, cond, List, [], ◌∷◌, is_some, Some, None, Option, sym, refl, ap, ◌∙◌}
use Rattle.std.specs.Option.{option_map}
use Rattle.std.specs.Str.{bytes_eq}
use Rattle.batches.specs.Asked.{chained}
use Rattle.stores.specs.Meaning.{lookup}
use Rattle.stores.specs.Placed.{holding_distinct, holding_known, holding_name, holding_stands, name_in}
use Rattle.stores.specs.Places.{Places, first_free, first_place, in_places, lowest_free, place_holding, place_named, table_in}

-- the place of a name is the first place that holds a table with that name
pub place_named-holding : (ps : Places) (n : List ℕ) → place_named ps n ≡ place_holding ps n
unfolding place_named first_place
place_named-holding [] n = refl
place_named-holding (None ∷ ps) n = ap (option_map suc) (place_named-holding ps n)
place_named-holding (Some t ∷ ps) n =
    ap (λ (o : Option ℕ). cond (bytes_eq n t.name) (Some 0) (option_map suc o)) (place_named-holding ps n)

-- the lowest place that is free is the first of which that test holds
pub first_free-lowest : (ps : Places) → first_free ps ≡ lowest_free ps
unfolding first_free first_place
first_free-lowest [] = refl
first_free-lowest (None ∷ ps) = refl
first_free-lowest (Some t ∷ ps) = ap (option_map suc) (first_free-lowest ps)

-- the table in the place of a name is the one told under it
pub place_stands : (ps : Places) (n : List ℕ) → chained (place_named ps n) (table_in ps) ≡ lookup (in_places ps) n
place_stands ps n = ap (λ (o : Option ℕ). chained o (table_in ps)) (place_named-holding ps n) ∙ holding_stands ps n

pub place_name : (ps : Places) (n : List ℕ) (i : ℕ) → place_named ps n ≡ Some i → name_in ps i ≡ Some n
place_name ps n i p = holding_name ps n i (sym (place_named-holding ps n) ∙ p)

pub place_distinct : (ps : Places) (m n : List ℕ) (i : ℕ) → place_named ps m ≡ Some i → place_named ps n ≡ Some i → m ≡ n
place_distinct ps m n i p q =
    holding_distinct ps m n i (sym (place_named-holding ps m) ∙ p) (sym (place_named-holding ps n) ∙ q)

pub place_known : (ps : Places) (n : List ℕ) (i : ℕ) → place_named ps n ≡ Some i → is_some (table_in ps i) ≡ true
place_known ps n i p = holding_known ps n i (sym (place_named-holding ps n) ∙ p)
