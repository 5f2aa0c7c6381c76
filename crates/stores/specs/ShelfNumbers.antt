-- The laws of a store hold of a shelf. Assumes nothing.
use Rattle.std.specs.Prelude.{◌≡◌, ℕ, true, false, List, [], ◌∷◌, is_some, Some, None, Option, refl}
use Rattle.std.proofs.Common.{sym, ap, ap₂, ◌∙◌, arith}
use Rattle.batches.specs.Asked.{chained}
use Rattle.batches.specs.Tables.{Table, Told}
use Rattle.std.proofs.lemmas.Bool.{both_ways}
use Rattle.stores.specs.Kept.{holding, kept_as}
use Rattle.stores.specs.Meaning.{Lawful, lookup}
use Rattle.stores.specs.Places.{Places, in_places, place_holding, table_in}
use Rattle.stores.specs.Shelved.{shelf_number, shelf_stands, shelf_told}
use Rattle.stores.specs.declared.kept.KeptTable.{KeptTable}
use Rattle.stores.specs.declared.shelf.ShelfNumber.{ShelfNumber}
use Rattle.stores.specs.declared.shelf.ShelfNumber.TheVariants.{Below, Place}
use Rattle.stores.specs.Placed.{Each, each_lawful, either, lookup_new, holding_distinct, holding_known, holding_stands}
use Rattle.stores.specs.Tested.{distinct_from, lawful_from_test}
use Rattle.stores.specs.Test.{test_distinct}

-- each kept table is lawful by itself
pub each_held : (os : List (Option KeptTable)) → Each (in_places (holding os))
unfolding holding in_places
each_held [] = record { named = tt; headed = tt; filled = tt }
each_held (None ∷ os) = each_held os
each_held (Some k ∷ os) =
    let e = each_lawful (kept_as k ∷ []) (lawful_from_test (kept_as k ∷ []) k.lawful) in
    let r = each_held os in
    record { named = (e.named.0, r.named); headed = (e.headed.0, r.headed); filled = (e.filled.0, r.filled) }

-- and no two have one name
pub kept_lawful : (os : List (Option KeptTable)) → test_distinct (in_places (holding os)) ≡ true → Lawful (in_places (holding os))
kept_lawful os h =
    let e = each_held os in
    record { named = e.named; headed = e.headed; filled = e.filled; distinct = distinct_from (in_places (holding os)) h }

-- what is told under a name: below, or else in the places
pub shelf_lookup : (ts : Told) (ps : Places) (n : List ℕ) → lookup (shelf_told ts ps) n ≡ either (lookup ts n) (lookup (in_places ps) n)
unfolding shelf_told
shelf_lookup ts ps n = lookup_new ts (in_places ps) n

-- a shelf's number comes from below or from the places
which_below : {N : Type 0} (a : Option N) (b : Option ℕ) (k : N) → shelf_number a b ≡ Some (Below k) → a ≡ Some k
which_below (Some l) b k p = let z : l ≡ k = cc in ap Some z
which_below None (Some i) k p = absurd (let z : ◌≡◌ {A = ℕ} 0 1 = cc in omega arith)
which_below None None k p = absurd (let z : ◌≡◌ {A = ℕ} 0 1 = cc in omega arith)

which_place : {N : Type 0} (a : Option N) (b : Option ℕ) (i : ℕ) → shelf_number a b ≡ Some (Place i) → b ≡ Some i
which_place (Some l) b i p = absurd (let z : ◌≡◌ {A = ℕ} 0 1 = cc in omega arith)
which_place None (Some j) i p = let z : j ≡ i = cc in ap Some z
which_place None None i p = absurd (let z : ◌≡◌ {A = ℕ} 0 1 = cc in omega arith)

module _ {N : Type 0} (f : N → Option Table) (ps : Places) where
  -- the number of a name stands for what is told under it
  pub shelf_named : (ts : Told) (n : List ℕ) (a : Option N) → chained a f ≡ lookup ts n → ((k : N) → a ≡ Some k → is_some (f k) ≡ true) → chained (shelf_number a (place_holding ps n)) (shelf_stands f ps) ≡ lookup (shelf_told ts ps) n
  shelf_named ts n a e h = by a (place_holding ps n) e h (holding_stands ps n) ∙ sym (shelf_lookup ts ps n)
    where
      first : (o p : Option Table) → is_some o ≡ true → o ≡ either o p
      first None p h = absurd (both_ways false refl h)
      first (Some t) p h = refl

      by : (a : Option N) (b : Option ℕ) → chained a f ≡ lookup ts n → ((k : N) → a ≡ Some k → is_some (f k) ≡ true) → chained b (table_in ps) ≡ lookup (in_places ps) n → chained (shelf_number a b) (shelf_stands f ps) ≡ either (lookup ts n) (lookup (in_places ps) n)
      by (Some k) b e h q = first (f k) (lookup (in_places ps) n) (h k refl) ∙ ap (λ (o : Option Table). either o (lookup (in_places ps) n)) e
      by None (Some i) e h q = ap₂ either e q
      by None None e h q = ap₂ either e q

  pub shelf_known : (n : List ℕ) (a : Option N) (k : ShelfNumber N) → ((k : N) → a ≡ Some k → is_some (f k) ≡ true) → shelf_number a (place_holding ps n) ≡ Some k → is_some (shelf_stands f ps k) ≡ true
  shelf_known n a (Below k) h p = h k (which_below a (place_holding ps n) k p)
  shelf_known n a (Place i) h p = holding_known ps n i (which_place a (place_holding ps n) i p)

  pub shelf_distinct : (m n : List ℕ) (a b : Option N) (k : ShelfNumber N) → ((k : N) → a ≡ Some k → b ≡ Some k → m ≡ n) → shelf_number a (place_holding ps m) ≡ Some k → shelf_number b (place_holding ps n) ≡ Some k → m ≡ n
  shelf_distinct m n a b (Below k) h p q = h k (which_below a (place_holding ps m) k p) (which_below b (place_holding ps n) k q)
  shelf_distinct m n a b (Place i) h p q =
      holding_distinct ps m n i (which_place a (place_holding ps m) i p) (which_place b (place_holding ps n) i q)
