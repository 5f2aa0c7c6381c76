-- The calls that change a shelf. Assumes nothing.
use Rattle.std.proofs.Common.{◌≡◌, ℕ, ◌<◌, Bool, true, false, cond, List, [], ◌∷◌, is_some, Some, None, Option, sym, refl, ap, ◌∙◌, arith}
use Rattle.batches.specs.Asked.{chained}
use Rattle.batches.specs.Tables.{Table, Named, Told, Apart, Distinct}
use Rattle.std.proofs.lemmas.Bool.{both_ways}
use Rattle.std.specs.List.{AllByRecursion}
use Rattle.values.specs.Names.{lawful_name}
use Rattle.stores.specs.Meaning.{lookup}
use Rattle.stores.specs.Places.{Places, lowest_free, first_place, in_places, place_holding}
use Rattle.stores.specs.Refusals.{Refusal, by_shelf}
use Rattle.stores.specs.Shelved.{done, refuses, dropping, freeing, holds_in, keeping, keep_on, offered, placing, shelf_number, shelf_stands, shelf_told}
use Rattle.stores.specs.declared.kept_tables.KeptTables.{KeptTables}
use Rattle.stores.proofs.KeptFound.{holds_eight}
use Rattle.stores.proofs.NamesInOrder.{number_told}
use Rattle.stores.proofs.PlacesChanged.{apart_unnamed}
use Rattle.stores.specs.ShelfNumbers.{each_held, shelf_known, shelf_named}
use Rattle.stores.proofs.Shelving.{first_within}
use Rattle.stores.specs.Tested.{distinct_from}

-- no two kept tables have one name
pub kept_apart : (ks : KeptTables) → Distinct (in_places (holds_in ks))
kept_apart ks = distinct_from (in_places (holds_in ks)) ks.apart

-- a place that was found is one of the eight
pub place_within : (ks : KeptTables) (p : Option Named → Bool) (i : ℕ) → first_place p (holds_in ks) ≡ Some i → i < 8
place_within ks p i e = let l = first_within p (holds_in ks) i e in omega (arith, holds_eight ks)

-- no table is kept under a name that is not lawful
pub unlawful_unkept : (ks : KeptTables) (n : List ℕ) → lawful_name n ≡ false → place_holding (holds_in ks) n ≡ None
unlawful_unkept ks n h = apart_unnamed (holds_in ks) n (by (in_places (holds_in ks)) (each_held ks.places).named)
  where
    by : (ts : Told) → AllByRecursion (λ t. lawful_name t.name ≡ true) ts → Apart n ts
    by [] l = tt
    by (t ∷ ts) l = ((λ e. both_ways (lawful_name n) h (ap lawful_name e ∙ l.0)), by ts l.1)

pub drop_not : (ps : Places) (n : List ℕ) → place_holding ps n ≡ None → dropping ps n ≡ refuses (by_shelf 24)
unfolding dropping
drop_not ps n e = ap freeing e

pub drop_done : (ps : Places) (n : List ℕ) (i : ℕ) → place_holding ps n ≡ Some i → dropping ps n ≡ done i
unfolding dropping
drop_done ps n i e = ap freeing e

module _ (ts : Told) (ps : Places) (n bs : List ℕ) where
  pub keep_refused : (r : Refusal) → refuses r ≡ offered n bs → keep_on ts ps n bs ≡ refuses r
  unfolding keeping
  keep_refused r e = ap (keeping ts ps) (sym e)

  module _ (t : Named) (e : done t ≡ offered n bs) where
    keep_offered : (b : Bool) → b ≡ is_some (lookup (shelf_told ts ps) t.name) → keep_on ts ps n bs ≡ cond b (refuses (by_shelf 22)) (placing t (lowest_free ps))
    unfolding keeping
    keep_offered b h = ap (keeping ts ps) (sym e) ∙ ap (λ (b : Bool). cond b (refuses (by_shelf 22)) (placing t (lowest_free ps))) (sym h)

    pub keep_told : true ≡ is_some (lookup (shelf_told ts ps) t.name) → keep_on ts ps n bs ≡ refuses (by_shelf 22)
    keep_told h = keep_offered true h

    pub keep_full : false ≡ is_some (lookup (shelf_told ts ps) t.name) → lowest_free ps ≡ None → keep_on ts ps n bs ≡ refuses (by_shelf 23)
    keep_full h f = keep_offered false h ∙ ap (placing t) f

    pub keep_done : (i : ℕ) → false ≡ is_some (lookup (shelf_told ts ps) t.name) → lowest_free ps ≡ Some i → keep_on ts ps n bs ≡ done (record { place = i; kept = t })
    keep_done i h f = keep_offered false h ∙ ap (placing t) f

-- a shelf tells a name exactly when it finds a number for it
pub shelf_found : {N : Type 0} (f : N → Option Table) (ps : Places) (ts : Told) (n : List ℕ) (a : Option N) (b : Bool) → chained a f ≡ lookup ts n → ((k : N) → a ≡ Some k → is_some (f k) ≡ true) → b ≡ is_some (shelf_number a (place_holding ps n)) → b ≡ is_some (lookup (shelf_told ts ps) n)
shelf_found f ps ts n a b e h q =
    q ∙ number_told (shelf_stands f ps) (shelf_number a (place_holding ps n)) (lookup (shelf_told ts ps) n) (shelf_named f ps ts n a e h) (λ k p. shelf_known f ps n a k h p)

-- where it finds none, no place has the name
pub found_none : {N : Type 0} (a : Option N) (b : Option ℕ) → false ≡ is_some (shelf_number a b) → b ≡ None
found_none (Some k) b e = absurd (both_ways true (sym e) refl)
found_none None (Some i) e = absurd (both_ways true (sym e) refl)
found_none None None e = refl
