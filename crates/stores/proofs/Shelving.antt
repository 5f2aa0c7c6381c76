-- What keeping and dropping do to what is told. Assumes nothing.
use Rattle.std.proofs.Common.{◌≡◌, ℕ, zero, suc, ◌<◌, Bool, true, false, cond, List, [], ◌∷◌, ◌++◌, length, set, is_some, Some, None, Option, sym, refl, ap, ◌∙◌, arith}
use Rattle.batches.specs.Asked.{chained}
use Rattle.batches.specs.Tables.{Table, Named, Told, Apart, Distinct}
use Rattle.std.proofs.lemmas.Slice.Eq.{bytes_eq-Decides}
use Rattle.std.proofs.lemmas.List.{append_assoc, append-nil}
use Rattle.std.proofs.lemmas.Bool.{both_ways}
use Rattle.std.specs.List.{slice_get, AllByRecursion}
use Rattle.std.specs.Option.{option_map}
use Rattle.std.specs.Str.{bytes_eq}
use Rattle.stores.specs.Meaning.{lookup}
use Rattle.stores.specs.Places.{Places, lowest_free, first_place, in_places, is_free, is_named, place_holding, table_in, with_new}
use Rattle.stores.specs.Shelved.{Outcome, Placing, done, refuses, after_drop, after_keep, dropping, freeing, keeping, keep_on, offered, placing, shelf_told}
use Rattle.stores.specs.Shelving.{AllTold, DropFrees, DropVisible, KeepTells, KeepVisible, Visible}
use Rattle.stores.specs.Refusals.{by_shelf}
use Rattle.stores.proofs.Offering.{done_refuses}
use Rattle.stores.specs.Placed.{either, free_lookup, lookup_push, holding_known, holding_name, holding_stands}
use Rattle.stores.proofs.PlacesChanged.{differ, first_filled, first_unchanged, somewhere, at_first, unnamed_freed}
use Rattle.stores.specs.ShelfNumbers.{shelf_lookup}

none_from : {X : Type 0} (o : Option X) → is_some o ≡ false → o ≡ None
none_from None e = refl
none_from (Some x) e = absurd (both_ways true e refl)

either_nones : {X : Type 0} (o p : Option X) → either o p ≡ None → (o ≡ None) × (p ≡ None)
either_nones None p e = (refl, e)
either_nones (Some x) p e = absurd (let z : ◌≡◌ {A = ℕ} 0 1 = cc in omega arith)

either_left : {X : Type 0} (o p : Option X) → p ≡ None → either o p ≡ o
either_left None p e = e
either_left (Some x) p e = refl

-- a place that is found is among the places
pub first_within : (p : Option Named → Bool) (ps : Places) (i : ℕ) → first_place p ps ≡ Some i → i < length ps
unfolding first_place
first_within p [] i e = absurd (let z : ◌≡◌ {A = ℕ} 0 1 = cc in omega arith)
first_within p (x ∷ ps) zero e = omega arith
first_within p (x ∷ ps) (suc i) e =
    let l = first_within p ps i (somewhere (p x) (first_place p ps) i e).1 in
    omega arith

-- the lowest free place is free, and each below it holds a table
free_at : (ps : Places) (i : ℕ) → lowest_free ps ≡ Some i → slice_get ps i ≡ Some None
unfolding first_place
free_at [] i e = absurd (let z : ◌≡◌ {A = ℕ} 0 1 = cc in omega arith)
free_at (None ∷ ps) zero e = refl
free_at (Some t ∷ ps) zero e = absurd (both_ways false refl (at_first false (lowest_free ps) e))
free_at (x ∷ ps) (suc i) e = free_at ps i (somewhere (is_free x) (lowest_free ps) i e).1

held_below : (ps : Places) (i : ℕ) → lowest_free ps ≡ Some i → (j : ℕ) → j < i → (t : Named) × (slice_get ps j ≡ Some (Some t))
unfolding first_place
held_below [] i e j l = absurd (let z : ◌≡◌ {A = ℕ} 0 1 = cc in omega arith)
held_below (x ∷ ps) zero e j l = absurd (omega arith)
held_below (None ∷ ps) (suc i) e j l = absurd (both_ways true (somewhere true (lowest_free ps) i e).0 refl)
held_below (Some t ∷ ps) (suc i) e zero l = (t, refl)
held_below (Some t ∷ ps) (suc i) e (suc j) l = held_below ps i (somewhere false (lowest_free ps) i e).1 j (omega arith)

-- a name under which no place tells a table is in no place
unplaced : (ps : Places) (n : List ℕ) → lookup (in_places ps) n ≡ None → place_holding ps n ≡ None
unplaced ps n e = by (place_holding ps n) refl
  where
    by : (o : Option ℕ) → place_holding ps n ≡ o → place_holding ps n ≡ None
    by None x = x
    by (Some i) x =
        let stands : table_in ps i ≡ None = sym (ap (λ (o : Option ℕ). chained o (table_in ps)) x) ∙ (holding_stands ps n ∙ e) in
        absurd (both_ways (is_some (table_in ps i)) (ap is_some stands) (holding_known ps n i x))

-- and under a name that is in no place none is told
untold_in : (ps : Places) (n : List ℕ) → place_holding ps n ≡ None → lookup (in_places ps) n ≡ None
untold_in ps n e = sym (holding_stands ps n) ∙ ap (λ (o : Option ℕ). chained o (table_in ps)) e

-- a place that does not hold a name says nothing of it
silent : (o : Option Named) (ps : Places) (m : List ℕ) → is_named m o ≡ false → lookup (in_places (o ∷ ps)) m ≡ lookup (in_places ps) m
unfolding in_places lookup
silent None ps m e = refl
silent (Some t) ps m e = ap (λ (b : Bool). cond b (Some t.table) (lookup (in_places ps) m)) e

lookup_unchanged : (ps : Places) (m : List ℕ) (i : ℕ) (q o : Option Named) → slice_get ps i ≡ Some q → is_named m q ≡ false → is_named m o ≡ false → lookup (in_places (set ps i o)) m ≡ lookup (in_places ps) m
unfolding in_places lookup
lookup_unchanged [] m i q o e f g = refl
lookup_unchanged (x ∷ ps) m zero q o e f g =
    let z : x ≡ q = cc in
    silent o ps m g ∙ sym (silent x ps m (ap (is_named m) z ∙ f))
lookup_unchanged (None ∷ ps) m (suc i) q o e f g = lookup_unchanged ps m i q o e f g
lookup_unchanged (Some t ∷ ps) m (suc i) q o e f g =
    ap (λ (r : Option Table). cond (bytes_eq m t.name) (Some t.table) r) (lookup_unchanged ps m i q o e f g)

nth_set : (ps : Places) (i : ℕ) (o : Option Named) → i < length ps → slice_get (set ps i o) i ≡ Some o
nth_set [] i o l = absurd (omega arith)
nth_set (x ∷ ps) zero o l = refl
nth_set (x ∷ ps) (suc i) o l = nth_set ps i o (omega arith)

table_set : (ps : Places) (i : ℕ) (t : Named) → i < length ps → table_in (set ps i (Some t)) i ≡ Some t.table
unfolding table_in
table_set ps i t l = ap (λ (o : Option (Option Named)). chained o (option_map (λ u. u.table))) (nth_set ps i (Some t) l)

-- what is told under a name by a shelf with one place changed
told_unchanged : (ts : Told) (ps : Places) (m : List ℕ) (i : ℕ) (q o : Option Named) → slice_get ps i ≡ Some q → is_named m q ≡ false → is_named m o ≡ false → lookup (shelf_told ts (set ps i o)) m ≡ lookup (shelf_told ts ps) m
told_unchanged ts ps m i q o e f g =
    shelf_lookup ts (set ps i o) m ∙ (ap (either (lookup ts m)) (lookup_unchanged ps m i q o e f g) ∙ sym (shelf_lookup ts ps m))

-- what a keep that was done had found
keep_found : (ts : Told) (ps : Places) (o : Outcome Named) (p : Placing) → keeping ts ps o ≡ done p → (lookup (shelf_told ts ps) p.kept.name ≡ None) × (lowest_free ps ≡ Some p.place)
unfolding keeping
keep_found ts ps (refuses r) p e = absurd (done_refuses p r (sym e))
keep_found ts ps (done t) p e = by (is_some (lookup (shelf_told ts ps) t.name)) refl (lowest_free ps) refl e
  where
    by : (b : Bool) → is_some (lookup (shelf_told ts ps) t.name) ≡ b → (f : Option ℕ) → lowest_free ps ≡ f → cond b (refuses (by_shelf 22)) (placing t f) ≡ done p → (lookup (shelf_told ts ps) p.kept.name ≡ None) × (lowest_free ps ≡ Some p.place)
    by true x f y e = absurd (done_refuses p (by_shelf 22) (sym e))
    by false x None y e = absurd (done_refuses p (by_shelf 23) (sym e))
    by false x (Some i) y e =
        let z : record { place = i; kept = t } ≡ p = cc in
        (ap (λ (q : Placing). lookup (shelf_told ts ps) q.kept.name) (sym z) ∙ none_from _ x, y ∙ ap (λ (q : Placing). Some q.place) z)

pub keep_tells : KeepTells
unfolding after_keep
keep_tells ts ps n bs p e =
    let f = keep_found ts ps (offered n bs) p e in
    let name = p.kept.name in
    let nones = either_nones (lookup ts name) (lookup (in_places ps) name) (sym (shelf_lookup ts ps name) ∙ f.0) in
    let free = free_at ps p.place f.1 in
    let within = first_within is_free ps p.place f.1 in
    let at : place_holding (set ps p.place (Some p.kept)) name ≡ Some p.place = first_filled (is_named name) ps p.place (Some p.kept) within (unplaced ps name nones.1) ((bytes_eq-Decides name name).1 refl) in
    record {
      new = f.0;
      told =
          shelf_lookup ts (set ps p.place (Some p.kept)) name ∙
          (ap (λ (o : Option Table). either o (lookup (in_places (set ps p.place (Some p.kept))) name)) nones.0 ∙
          (sym (holding_stands (set ps p.place (Some p.kept)) name) ∙
          (ap (λ (o : Option ℕ). chained o (table_in (set ps p.place (Some p.kept)))) at ∙ table_set ps p.place p.kept within)));
      others = λ m d. told_unchanged ts ps m p.place None (Some p.kept) free refl (differ m name d);
      steady = λ m d. first_unchanged (is_named m) ps p.place None (Some p.kept) free refl (differ m name d);
      free = free;
      lowest = held_below ps p.place f.1;
    }

-- the table in the place of a name
held_at : (ps : Places) (n : List ℕ) (i : ℕ) → place_holding ps n ≡ Some i → (t : Named) × (slice_get ps i ≡ Some (Some t)) × (t.name ≡ n)
held_at ps n i e = by (slice_get ps i) refl (holding_name ps n i e)
  where
    by : (o : Option (Option Named)) → slice_get ps i ≡ o → chained o (option_map (λ t. t.name)) ≡ Some n → (t : Named) × (slice_get ps i ≡ Some (Some t)) × (t.name ≡ n)
    by None x q = absurd (let z : ◌≡◌ {A = ℕ} 0 1 = cc in omega arith)
    by (Some None) x q = absurd (let z : ◌≡◌ {A = ℕ} 0 1 = cc in omega arith)
    by (Some (Some t)) x q = let z : t.name ≡ n = cc in (t, x, z)

-- what a drop that was done had found
drop_found : (ps : Places) (n : List ℕ) (i : ℕ) → dropping ps n ≡ done i → place_holding ps n ≡ Some i
unfolding dropping
drop_found ps n i e = by (place_holding ps n) refl e
  where
    by : (o : Option ℕ) → place_holding ps n ≡ o → freeing o ≡ done i → place_holding ps n ≡ Some i
    by None x e = absurd (done_refuses i (by_shelf 24) (sym e))
    by (Some j) x e = let z : j ≡ i = cc in x ∙ ap Some z

pub drop_frees : DropFrees
unfolding after_drop
drop_frees ts ps n i d e =
    let at = drop_found ps n i e in
    let h = held_at ps n i at in
    let unkept = unnamed_freed ps n i d at in
    record {
      held = h;
      unkept = unkept;
      below = shelf_lookup ts (set ps i None) n ∙ either_left (lookup ts n) (lookup (in_places (set ps i None)) n) (untold_in (set ps i None) n unkept);
      others = λ m k. told_unchanged ts ps m i (Some h.0) None h.1 (differ m h.0.name (λ q. k (q ∙ h.2))) refl;
      steady = λ m k. first_unchanged (is_named m) ps i (Some h.0) None h.1 (differ m h.0.name (λ q. k (q ∙ h.2))) refl;
    }

-- what holds of each table in the places, after one of them was changed
all_freed : (P : Named → Type 0) (ps : Places) (i : ℕ) → AllByRecursion P (in_places ps) → AllByRecursion P (in_places (set ps i None))
unfolding in_places
all_freed P [] i h = tt
all_freed P (None ∷ ps) zero h = h
all_freed P (Some t ∷ ps) zero h = h.1
all_freed P (None ∷ ps) (suc i) h = all_freed P ps i h
all_freed P (Some t ∷ ps) (suc i) h = (h.0, all_freed P ps i h.1)

all_filled : (P : Named → Type 0) (ps : Places) (i : ℕ) (t : Named) → P t → AllByRecursion P (in_places ps) → AllByRecursion P (in_places (set ps i (Some t)))
unfolding in_places
all_filled P [] i t q h = tt
all_filled P (None ∷ ps) zero t q h = (q, h)
all_filled P (Some u ∷ ps) zero t q h = (q, h.1)
all_filled P (None ∷ ps) (suc i) t q h = all_filled P ps i t q h
all_filled P (Some u ∷ ps) (suc i) t q h = (h.0, all_filled P ps i t q h.1)

pub keep_visible : KeepVisible
unfolding after_keep
keep_visible ts ps n bs v = by (keep_on ts ps n bs) refl
  where
    by : (o : Outcome Placing) → keep_on ts ps n bs ≡ o → Visible ts (after_keep o ps)
    by (refuses r) e = v
    by (done p) e =
        let f = keep_found ts ps (offered n bs) p e in
        let none = either_nones (lookup ts p.kept.name) (lookup (in_places ps) p.kept.name) (sym (shelf_lookup ts ps p.kept.name) ∙ f.0) in
        all_filled (λ t. lookup ts t.name ≡ None) ps p.place p.kept none.0 v

pub drop_visible : DropVisible
unfolding after_drop
drop_visible ts ps n v = by (dropping ps n)
  where
    by : (o : Outcome ℕ) → Visible ts (after_drop o ps)
    by (refuses r) = v
    by (done i) = all_freed (λ t. lookup ts t.name ≡ None) ps i v

-- one more table is told, of another name than each of some
untold_more : (ts : Told) (u : Named) (us : Told) → Apart u.name us → AllByRecursion (λ v. lookup ts v.name ≡ None) us → AllByRecursion (λ v. lookup (ts ++ u ∷ []) v.name ≡ None) us
unfolding lookup
untold_more ts u [] a h = tt
untold_more ts u (v ∷ us) a h = (
  lookup_push ts u v.name ∙
      (ap (λ (o : Option Table). either o (lookup (u ∷ []) v.name)) h.0 ∙
      ap (λ (b : Bool). cond b (Some u.table) None) (differ v.name u.name (λ q. a.0 (sym q)))),
  untold_more ts u us a.1 h.1,
)

-- tables with new names, no two the same, are all told behind the others
all_new : (ts us : Told) → AllByRecursion (λ u. lookup ts u.name ≡ None) us → Distinct us → with_new ts us ≡ ts ++ us
unfolding with_new
all_new ts [] h d = sym (append-nil ts)
all_new ts (u ∷ us) h d =
    ap (λ (b : Bool). cond b (with_new ts us) (with_new (ts ++ u ∷ []) us)) (free_lookup ts u.name ∙ ap is_some h.0) ∙
    (all_new (ts ++ u ∷ []) us (untold_more ts u us d.0 h.1) d.1 ∙ append_assoc ts (u ∷ []) us)

pub all_told : AllTold
unfolding shelf_told
all_told ts ps v d = all_new ts (in_places ps) v d
