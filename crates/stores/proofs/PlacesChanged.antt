-- Places after one of them was filled or freed. Assumes nothing.
use Rattle.std.proofs.Common.{◌≡◌, ℕ, zero, suc, ◌<◌, Bool, true, false, cond, List, [], ◌∷◌, length, set, Some, None, Option, sym, refl, ap, ◌∙◌, subst, arith}
use Rattle.batches.specs.Tables.{Named, Apart, Distinct}
use Rattle.std.proofs.lemmas.Slice.Eq.{bytes_eq-Decides}
use Rattle.std.proofs.lemmas.Bool.{both_ways}
use Rattle.std.specs.List.{slice_get}
use Rattle.std.specs.Option.{option_map}
use Rattle.std.specs.Str.{bytes_eq}
use Rattle.stores.specs.Places.{Places, first_place, in_places, place_holding}

-- where nothing is found, the first place is none and nothing is found behind it
pub nowhere : (b : Bool) (o : Option ℕ) → cond b (Some 0) (option_map suc o) ≡ None → (b ≡ false) × (o ≡ None)
nowhere true o e = absurd (let z : ◌≡◌ {A = ℕ} 0 1 = cc in omega arith)
nowhere false None e = (refl, refl)
nowhere false (Some i) e = absurd (let z : ◌≡◌ {A = ℕ} 0 1 = cc in omega arith)

-- where something is found, it is in the first place, or behind it
pub somewhere : (b : Bool) (o : Option ℕ) (i : ℕ) → cond b (Some 0) (option_map suc o) ≡ Some (suc i) → (b ≡ false) × (o ≡ Some i)
somewhere true o i e = absurd (let z : ◌≡◌ {A = ℕ} 0 (suc i) = cc in omega arith)
somewhere false None i e = absurd (let z : ◌≡◌ {A = ℕ} 0 1 = cc in omega arith)
somewhere false (Some j) i e =
    let z : suc j ≡ suc i = cc in
    let w : j ≡ i = omega arith in
    (refl, ap Some w)

pub at_first : (b : Bool) (o : Option ℕ) → cond b (Some 0) (option_map suc o) ≡ Some 0 → b ≡ true
at_first true o e = refl
at_first false None e = absurd (let z : ◌≡◌ {A = ℕ} 0 1 = cc in omega arith)
at_first false (Some j) e = absurd (let z : ◌≡◌ {A = ℕ} 0 (suc j) = cc in omega arith)

-- bytes that differ do not have the same bytes
pub differ : (m n : List ℕ) → (m ≡ n → ⊥) → bytes_eq m n ≡ false
differ m n h = go (bytes_eq m n) refl
  where
    go : (b : Bool) → bytes_eq m n ≡ b → bytes_eq m n ≡ false
    go true e = absurd (h ((bytes_eq-Decides m n).0 e))
    go false e = e

alike : (m n : List ℕ) → bytes_eq m n ≡ false → m ≡ n → ⊥
alike m n e q = both_ways (bytes_eq m n) e ((bytes_eq-Decides m n).1 q)

-- a name that no place holds, and tables whose names are others
unnamed_apart : (ps : Places) (n : List ℕ) → place_holding ps n ≡ None → Apart n (in_places ps)
unfolding first_place in_places
unnamed_apart [] n e = tt
unnamed_apart (None ∷ ps) n e = unnamed_apart ps n (nowhere false (place_holding ps n) e).1
unnamed_apart (Some t ∷ ps) n e =
    let w = nowhere (bytes_eq n t.name) (place_holding ps n) e in
    (alike n t.name w.0, unnamed_apart ps n w.1)

pub apart_unnamed : (ps : Places) (n : List ℕ) → Apart n (in_places ps) → place_holding ps n ≡ None
unfolding first_place in_places
apart_unnamed [] n h = refl
apart_unnamed (None ∷ ps) n h = ap (option_map suc) (apart_unnamed ps n h)
apart_unnamed (Some t ∷ ps) n h =
    ap (λ (b : Bool). cond b (Some 0) (option_map suc (place_holding ps n))) (differ n t.name h.0) ∙ ap (option_map suc) (apart_unnamed ps n h.1)

-- freed, the names stay apart
apart_freed : (ps : Places) (i : ℕ) (n : List ℕ) → Apart n (in_places ps) → Apart n (in_places (set ps i None))
unfolding in_places
apart_freed [] i n h = tt
apart_freed (None ∷ ps) zero n h = h
apart_freed (Some t ∷ ps) zero n h = h.1
apart_freed (None ∷ ps) (suc i) n h = apart_freed ps i n h
apart_freed (Some t ∷ ps) (suc i) n h = (h.0, apart_freed ps i n h.1)

pub distinct_freed : (ps : Places) (i : ℕ) → Distinct (in_places ps) → Distinct (in_places (set ps i None))
unfolding in_places
distinct_freed [] i h = tt
distinct_freed (None ∷ ps) zero h = h
distinct_freed (Some t ∷ ps) zero h = h.1
distinct_freed (None ∷ ps) (suc i) h = distinct_freed ps i h
distinct_freed (Some t ∷ ps) (suc i) h = (apart_freed ps i t.name h.0, distinct_freed ps i h.1)

-- filled with a table of another name
apart_filled : (ps : Places) (i : ℕ) (t : Named) (n : List ℕ) → (n ≡ t.name → ⊥) → Apart n (in_places ps) → Apart n (in_places (set ps i (Some t)))
unfolding in_places
apart_filled [] i t n d h = tt
apart_filled (None ∷ ps) zero t n d h = (d, h)
apart_filled (Some u ∷ ps) zero t n d h = (d, h.1)
apart_filled (None ∷ ps) (suc i) t n d h = apart_filled ps i t n d h
apart_filled (Some u ∷ ps) (suc i) t n d h = (h.0, apart_filled ps i t n d h.1)

-- filled with a table whose name no place holds
pub distinct_filled : (ps : Places) (i : ℕ) (t : Named) → place_holding ps t.name ≡ None → Distinct (in_places ps) → Distinct (in_places (set ps i (Some t)))
unfolding first_place in_places
distinct_filled [] i t e h = tt
distinct_filled (None ∷ ps) zero t e h =
    (unnamed_apart ps t.name (nowhere false (place_holding ps t.name) e).1, h)
distinct_filled (Some u ∷ ps) zero t e h =
    (unnamed_apart ps t.name (nowhere (bytes_eq t.name u.name) (place_holding ps t.name) e).1, h.1)
distinct_filled (None ∷ ps) (suc i) t e h =
    distinct_filled ps i t (nowhere false (place_holding ps t.name) e).1 h
distinct_filled (Some u ∷ ps) (suc i) t e h =
    let w = nowhere (bytes_eq t.name u.name) (place_holding ps t.name) e in
    (apart_filled ps i t u.name (λ q. alike t.name u.name w.0 (sym q)) h.0, distinct_filled ps i t w.1 h.1)

-- a place is changed of which a test held neither before nor after
pub first_unchanged : (p : Option Named → Bool) (ps : Places) (i : ℕ) (q o : Option Named) → slice_get ps i ≡ Some q → p q ≡ false → p o ≡ false → first_place p (set ps i o) ≡ first_place p ps
unfolding first_place
first_unchanged p [] i q o e f g = refl
first_unchanged p (x ∷ ps) zero q o e f g =
    let z : x ≡ q = cc in
    ap (λ (b : Bool). cond b (Some 0) (option_map suc (first_place p ps))) (g ∙ sym (ap p z ∙ f))
first_unchanged p (x ∷ ps) (suc i) q o e f g =
    ap (λ (r : Option ℕ). cond (p x) (Some 0) (option_map suc r)) (first_unchanged p ps i q o e f g)

-- a place is filled of which a test holds then, and held of none before
pub first_filled : (p : Option Named → Bool) (ps : Places) (i : ℕ) (o : Option Named) → i < length ps → first_place p ps ≡ None → p o ≡ true → first_place p (set ps i o) ≡ Some i
unfolding first_place
first_filled p [] i o l e h = absurd (omega arith)
first_filled p (x ∷ ps) zero o l e h = ap (λ (b : Bool). cond b (Some 0) (option_map suc (first_place p ps))) h
first_filled p (x ∷ ps) (suc i) o l e h =
    let w = nowhere (p x) (first_place p ps) e in
    ap (λ (b : Bool). cond b (Some 0) (option_map suc (first_place p (set ps i o)))) w.0 ∙ ap (option_map suc) (first_filled p ps i o (omega arith) w.1 h)

-- the place of a name is freed: no place holds it any more
pub unnamed_freed : (ps : Places) (n : List ℕ) (i : ℕ) → Distinct (in_places ps) → place_holding ps n ≡ Some i → place_holding (set ps i None) n ≡ None
unfolding first_place in_places
unnamed_freed [] n i h e = refl
unnamed_freed (None ∷ ps) n zero h e = absurd (both_ways false refl (at_first false (place_holding ps n) e))
unnamed_freed (None ∷ ps) n (suc i) h e =
    ap (option_map suc) (unnamed_freed ps n i h (somewhere false (place_holding ps n) i e).1)
unnamed_freed (Some t ∷ ps) n zero h e =
    let q : n ≡ t.name = (bytes_eq-Decides n t.name).0 (at_first (bytes_eq n t.name) (place_holding ps n) e) in
    ap (option_map suc) (apart_unnamed ps n (subst (λ (m : List ℕ). Apart m (in_places ps)) (sym q) h.0))
unnamed_freed (Some t ∷ ps) n (suc i) h e =
    let w = somewhere (bytes_eq n t.name) (place_holding ps n) i e in
    ap (λ (b : Bool). cond b (Some 0) (option_map suc (place_holding (set ps i None) n))) w.0 ∙ ap (option_map suc) (unnamed_freed ps n i h.1 w.1)
