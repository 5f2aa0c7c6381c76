-- The eight places after one of them was filled or freed. Assumes nothing.
use Rattle.std.proofs.Common.{◌≡◌, ℕ, true, List, length, set, Some, None, Option, sym, ◌∙◌, subst}
use Rattle.std.proofs.lemmas.List.{length-set, map-set}
use Rattle.std.specs.Option.{option_map}
use Rattle.stores.specs.Kept.{holding, kept_as}
use Rattle.stores.specs.Places.{Places, in_places, place_holding}
use Rattle.stores.specs.Shelved.{holds_in}
use Rattle.stores.specs.Test.{test_distinct}
use Rattle.stores.specs.declared.kept.KeptTable.{KeptTable}
use Rattle.stores.specs.declared.kept_tables.KeptTables.{KeptTables}
use Rattle.stores.proofs.PlacesChanged.{distinct_filled, distinct_freed}
use Rattle.stores.specs.Tested.{distinct_from}
use Rattle.stores.proofs.TestMet.{distinct_to}

pub holding_set : (os : List (Option KeptTable)) (i : ℕ) (o : Option KeptTable) → holding (set os i o) ≡ set (holding os) i (option_map kept_as o)
unfolding holding
holding_set os i o = map-set (option_map kept_as) os i o

pub still_eight : (ks : KeptTables) (i : ℕ) (o : Option KeptTable) → length (set ks.places i o) ≡ 8
still_eight ks i o = length-set ks.places i o ∙ ks.eight

-- the names stay apart
apart_set : (ks : KeptTables) (i : ℕ) (o : Option KeptTable) → test_distinct (in_places (set (holds_in ks) i (option_map kept_as o))) ≡ true → test_distinct (in_places (holding (set ks.places i o))) ≡ true
apart_set ks i o h =
    subst (λ (ps : Places). test_distinct (in_places ps) ≡ true) (sym (holding_set ks.places i o)) h

pub freed_apart : (ks : KeptTables) (i : ℕ) → test_distinct (in_places (holding (set ks.places i None))) ≡ true
freed_apart ks i = apart_set ks i None (distinct_to _ (distinct_freed (holds_in ks) i (distinct_from _ ks.apart)))

pub filled_apart : (ks : KeptTables) (i : ℕ) (k : KeptTable) → place_holding (holds_in ks) (kept_as k).name ≡ None → test_distinct (in_places (holding (set ks.places i (Some k)))) ≡ true
filled_apart ks i k e =
    apart_set ks i (Some k) (distinct_to _ (distinct_filled (holds_in ks) i (kept_as k) e (distinct_from _ ks.apart)))
