-- Kept tables found in their places. Assumes nothing.
use Rattle.std.proofs.Common.{Bor, List, ◌≡◌, ℕ, suc, ◌+◌, ◌<◌, ◌≤◌, Bool, true, false, cond, not, [], ◌∷◌, length, get_or, is_some, Some, None, Option, sym, refl, ap, ◌∙◌, arith}
use Rattle.batches.specs.Asked.{chained}
use Rattle.batches.specs.Tables.{Named}
use Rattle.std.proofs.lemmas.List.{length-map}
use Rattle.std.proofs.lemmas.Option.{slice_get-get_or, slice_get-map, slice_get_past}
use Rattle.std.proofs.lemmas.Bool.{both_ways}
use Rattle.std.proofs.lemmas.Iterator.Adapters.{position_from-zero}
use Rattle.std.specs.List.{position, position_from, slice_get}
use Rattle.std.specs.Option.{option_map}
use Rattle.stores.specs.Kept.{holding, kept_as}
use Rattle.stores.specs.Shelved.{holds_in}
use Rattle.stores.specs.Places.{first_place, is_free, table_in}
use Rattle.stores.specs.declared.kept.KeptTable.{KeptTable}
use Rattle.stores.specs.declared.kept_tables.KeptTables.{KeptTables}

-- there are eight places
pub holds_eight : (ks : KeptTables) → length (holds_in ks) ≡ 8
unfolding holding
holds_eight ks = length-map ks.places (option_map kept_as) ∙ ks.eight

-- what stands in one of the places
pub place_read : (ks : KeptTables) (i : ℕ) (o : Option KeptTable) → i < length ks.places → o ≡ get_or ks.places i o → slice_get ks.places i ≡ Some o
place_read ks i o l e = slice_get-get_or ks.places i o l ∙ ap Some (sym e)

-- what a place holds, by the kept table in it
pub place_holds : (ks : KeptTables) (i : ℕ) (o : Option KeptTable) → slice_get ks.places i ≡ Some o → slice_get (holds_in ks) i ≡ Some (option_map kept_as o)
unfolding holding
place_holds ks i o e = slice_get-map (option_map kept_as) ks.places i ∙ ap (option_map (option_map kept_as)) e

pub table_held : (ks : KeptTables) (i : ℕ) (r : Option (Bor KeptTable)) (o : Option KeptTable) → option_map (λ k. k.now) r ≡ o → slice_get ks.places i ≡ Some o → option_map (λ (k : Bor KeptTable). (kept_as k.now).table) r ≡ table_in (holds_in ks) i
unfolding table_in
table_held ks i r o h e =
    by r ∙ (ap (λ (p : Option KeptTable). option_map (λ t. t.table) (option_map kept_as p)) h ∙ sym (ap (λ (p : Option (Option Named)). chained p (option_map (λ t. t.table))) (place_holds ks i o e)))
  where
    by : (r : Option (Bor KeptTable)) → option_map (λ (k : Bor KeptTable). (kept_as k.now).table) r ≡ option_map (λ t. t.table) (option_map kept_as (option_map (λ k. k.now) r))
    by None = refl
    by (Some k) = refl

pub table_past : (ks : KeptTables) (i : ℕ) → length ks.places ≤ i → None ≡ table_in (holds_in ks) i
unfolding table_in holding
table_past ks i l =
    sym (ap (λ (p : Option (Option Named)). chained p (option_map (λ t. t.table))) (slice_get-map (option_map kept_as) ks.places i ∙ ap (option_map (option_map kept_as)) (slice_get_past ks.places i l)))

-- the first of the eight places that passes a test
pub first_position : (p : Option Named → Bool) (os : List (Option KeptTable)) → position (λ o. p (option_map kept_as o)) os ≡ first_place p (holding os)
unfolding holding first_place
first_position p os = position_from-zero (λ o. p (option_map kept_as o)) os ∙ (from 0 os ∙ whole (first_place p (holding os)))
  where
    from : (i : ℕ) (os : List (Option KeptTable)) → position_from (λ o. p (option_map kept_as o)) i os ≡ option_map (λ k. i + k) (first_place p (holding os))
    from i [] = refl
    from i (o ∷ os) = go (p (option_map kept_as o)) (first_place p (holding os)) (from (i + 1) os)
      where
        go : (b : Bool) (f : Option ℕ) → position_from (λ o. p (option_map kept_as o)) (i + 1) os ≡ option_map (λ k. i + 1 + k) f → cond b (Some i) (position_from (λ o. p (option_map kept_as o)) (i + 1) os) ≡ option_map (λ k. i + k) (cond b (Some 0) (option_map suc f))
        go true f e = ap Some (omega arith)
        go false None e = e
        go false (Some k) e = e ∙ ap Some (omega arith)

    whole : (f : Option ℕ) → option_map (λ k. 0 + k) f ≡ f
    whole None = refl
    whole (Some k) = ap Some (omega arith)

-- a place is free where no table is in it
pub free_held : (o : Option KeptTable) (b : Bool) → is_some o ≡ not b → b ≡ is_free (option_map kept_as o)
free_held None true h = refl
free_held None false h = absurd (both_ways false refl h)
free_held (Some k) true h = absurd (both_ways true h refl)
free_held (Some k) false h = refl
