-- The laws of the rows that stand first. Assumes nothing.
use Rattle.std.proofs.Common.{◌≡◌, ℕ, zero, suc, ◌<◌, Bool, true, false, cond, not, ◌&&◌, ◌||◌, ◌⊎◌, List, [], ◌∷◌, ◌++◌, length, get_or, Decides, sym, refl, ap, ◌∙◌, subst, inl, inr, ⊎_elim, arith}
use Rattle.std.proofs.lemmas.List.Elements.{filter-append}
use Rattle.std.proofs.ByRecursion.{all-has, all_has_itself, all_kept_by, All-weaker, kept_by_passes}
use Rattle.std.proofs.lemmas.List.{append-nil}
use Rattle.std.proofs.lemmas.Bool.{both_ways, not_from_false, not-true}
use Rattle.std.proofs.lemmas.Bool.Decides.{Decides-like, Decides-or}
use Rattle.std.specs.List.{HoldsAt, ContainsAt as Has, AllByRecursion}
use Rattle.values.specs.Cells.{Cell}
use Rattle.batches.specs.Tables.{Heading, RowFits}
use Rattle.stores.specs.Agreeing.{among, beyond, FirstAt, FirstBefore, firsts, Once, Onward, SameRows, same_row, without}
use Rattle.stores.proofs.AgreeingKept.{has_behind, has_cases, has_kept, has_none, has_same, kept_by_absorbed, kept_by_both, kept_by_swapped, onward_get_d, onward_kept, onward_weaker}
use Rattle.stores.proofs.AgreeingRows.{different_rows, same_row_alike, same_row_decides, same_row_itself}

-- ---- rows struck out

-- to strike out equal rows once more changes nothing
without_same : (r s : List Cell) (xs : List (List Cell)) → same_row r s ≡ true → without r (without s xs) ≡ without r xs
without_same r s xs e =
    kept_by_absorbed (λ t. not (same_row r t)) (λ t. not (same_row s t)) (λ t h. subst (λ b. not b ≡ true) (same_row_alike r s t e) h) xs

without_twice : (r : List Cell) (xs : List (List Cell)) → without r (without r xs) ≡ without r xs
without_twice r xs = without_same r r xs (same_row_itself r)

without_swapped : (r s : List Cell) (xs : List (List Cell)) → without r (without s xs) ≡ without s (without r xs)
without_swapped r s xs = kept_by_swapped (λ t. not (same_row r t)) (λ t. not (same_row s t)) xs

-- what is left differs from what was struck out
pub without_different : (r : List Cell) (xs : List (List Cell)) → AllByRecursion (λ s. r ≡ s → ⊥) (without r xs)
without_different r xs =
    All-weaker (λ s. not (same_row r s) ≡ true) (λ s. r ≡ s → ⊥) (λ s h. different_rows r s (not-true (same_row r s) h)) (without r xs) (kept_by_passes (λ s. not (same_row r s)) xs)

pub firsts_without : (r : List Cell) (xs : List (List Cell)) → firsts (without r xs) ≡ without r (firsts xs)
firsts_without r [] = refl
firsts_without r (x ∷ xs) = go (same_row r x) refl (firsts_without r xs)
  where
    go : (b : Bool) → same_row r x ≡ b → firsts (without r xs) ≡ without r (firsts xs) → firsts (cond (not b) (x ∷ without r xs) (without r xs)) ≡ cond (not b) (x ∷ without r (without x (firsts xs))) (without r (without x (firsts xs)))
    go true e ih = ih ∙ sym (without_same r x (firsts xs) e)
    go false e ih = ap (λ l. x ∷ l) (ap (without x) ih ∙ without_swapped x r (firsts xs))

-- of rows that stand first each stands first
pub firsts_twice : (xs : List (List Cell)) → firsts (firsts xs) ≡ firsts xs
firsts_twice [] = refl
firsts_twice (x ∷ xs) =
    ap (λ l. x ∷ l) (ap (without x) (firsts_without x (firsts xs)) ∙ without_twice x (firsts (firsts xs)) ∙ ap (without x) (firsts_twice xs))

-- ---- rows behind rows

beyond_none : (ys : List (List Cell)) → beyond [] ys ≡ ys
beyond_none [] = refl
beyond_none (y ∷ ys) = ap (λ l. y ∷ l) (beyond_none ys)

not_or : (a b : Bool) → not (a || b) ≡ (not a && not b)
not_or true b = refl
not_or false b = refl

beyond_more : (x : List Cell) (xs ys : List (List Cell)) → without x (beyond xs ys) ≡ beyond (x ∷ xs) ys
beyond_more x xs ys =
    kept_by_both (λ s. not (same_row x s)) (λ s. not (among xs s)) (λ s. not (same_row x s || among xs s)) (λ s. not_or (same_row x s) (among xs s)) ys

-- of rows behind others, those stand first that do so among themselves and are not among the others
pub firsts_append : (xs ys : List (List Cell)) → firsts (xs ++ ys) ≡ firsts xs ++ beyond xs (firsts ys)
firsts_append [] ys = sym (beyond_none (firsts ys))
firsts_append (x ∷ xs) ys =
    ap (λ l. x ∷ l) (ap (without x) (firsts_append xs ys) ∙ filter-append (λ s. not (same_row x s)) (firsts xs) (beyond xs (firsts ys)) ∙ ap (λ l. without x (firsts xs) ++ l) (beyond_more x xs (firsts ys)))

-- one more row comes to stand at the end, unless an equal one is among those before it
pub firsts_push : (xs : List (List Cell)) (r : List Cell) → firsts (xs ++ r ∷ []) ≡ cond (among xs r) (firsts xs) (firsts xs ++ r ∷ [])
firsts_push xs r = firsts_append xs (r ∷ []) ∙ go (among xs r)
  where
    go : (b : Bool) → firsts xs ++ cond (not b) (r ∷ []) [] ≡ cond b (firsts xs) (firsts xs ++ r ∷ [])
    go true = append-nil (firsts xs)
    go false = refl

-- ---- which rows stand first

-- what holds of each row holds of each that stands first
pub all_firsts : (P : List Cell → Type 0) (xs : List (List Cell)) → AllByRecursion P xs → AllByRecursion P (firsts xs)
all_firsts P [] h = tt
all_firsts P (x ∷ xs) h = (h.0, all_kept_by (λ s. not (same_row x s)) P (firsts xs) (all_firsts P xs h.1))

pub has_from_firsts : (xs : List (List Cell)) (r : List Cell) → Has (firsts xs) r → Has xs r
has_from_firsts xs r h = all-has (Has xs) (firsts xs) r (all_firsts (Has xs) xs (all_has_itself xs)) h

pub firsts_has : (hs : List Heading) (xs : List (List Cell)) (r : List Cell) → AllByRecursion (RowFits hs) xs → Has xs r → Has (firsts xs) r
firsts_has hs [] r f h = h
firsts_has hs (x ∷ xs) r f h = go (firsts_has hs xs r f.1) (has_cases x xs r h) (same_row x r) refl
  where
    go : (Has xs r → Has (firsts xs) r) → (x ≡ r) ⊎ Has xs r → (b : Bool) → same_row x r ≡ b → Has (x ∷ without x (firsts xs)) r
    go ih (inl e) b t = has_same x r (without x (firsts xs)) e
    go ih (inr k) true t =
        has_same x r (without x (firsts xs)) ((same_row_decides hs x r f.0 (all-has (RowFits hs) xs r f.1 k)).0 t)
    go ih (inr k) false t =
        has_behind x (without x (firsts xs)) r (has_kept (λ s. not (same_row x s)) (firsts xs) r (not_from_false (same_row x r) t) (ih k))

-- the rows that stand first are the same rows
pub firsts_same_rows : (hs : List Heading) (xs : List (List Cell)) → AllByRecursion (RowFits hs) xs → SameRows (firsts xs) xs
firsts_same_rows hs xs f r = (has_from_firsts xs r, firsts_has hs xs r f)

-- where the same rows stand first, the rows are the same
pub same_rows_from_firsts : (hs gs : List Heading) (xs ys : List (List Cell)) → AllByRecursion (RowFits hs) xs → AllByRecursion (RowFits gs) ys → firsts xs ≡ firsts ys → SameRows xs ys
same_rows_from_firsts hs gs xs ys f g e r =
    ((λ h. has_from_firsts ys r (subst (λ l. Has l r) e (firsts_has hs xs r f h))), λ h. has_from_firsts xs r (subst (λ l. Has l r) (sym e) (firsts_has gs ys r g h)))

-- the test finds just the rows that are among others
pub among_decides : (hs : List Heading) (xs : List (List Cell)) (r : List Cell) → AllByRecursion (RowFits hs) xs → RowFits hs r → Decides (among xs r) (Has xs r)
among_decides hs [] r f g = ((λ e. absurd (both_ways false refl e)), λ h. absurd (has_none r h))
among_decides hs (x ∷ xs) r f g =
    Decides-like (same_row x r || among xs r) (⊎_elim (has_same x r xs) (has_behind x xs r)) (has_cases x xs r) (Decides-or (same_row x r) (among xs r) (same_row_decides hs x r f.0 g) (among_decides hs xs r f.1 g))

-- no row stands first twice
pub firsts_once : (xs : List (List Cell)) → Once (firsts xs)
firsts_once [] = tt
firsts_once (x ∷ xs) =
    (without_different x (firsts xs), onward_kept (λ s. not (same_row x s)) (λ r s. r ≡ s → ⊥) (firsts xs) (firsts_once xs))

pub firsts_apart : (xs : List (List Cell)) (i j : ℕ) (d : List Cell) → i < j → j < length (firsts xs) → get_or (firsts xs) i d ≡ get_or (firsts xs) j d → ⊥
firsts_apart xs i j d l m = onward_get_d (λ r s. r ≡ s → ⊥) (firsts xs) (firsts_once xs) i j d l m

-- ---- their order

first_here : (x : List Cell) (xs : List (List Cell)) → FirstAt (x ∷ xs) x 0
first_here x xs = record { within = omega arith; here = λ d. refl; new = λ j l. absurd (let z : ⊥ = omega arith in z) }

first_behind : (x : List Cell) (xs : List (List Cell)) (r : List Cell) (k : ℕ) → (x ≡ r → ⊥) → FirstAt xs r k → FirstAt (x ∷ xs) r (suc k)
first_behind x xs r k n f = record { within = let l = f.within in omega arith; here = f.here; new = go }
  where
    go : (j : ℕ) → j < suc k → HoldsAt (λ s. s ≡ r → ⊥) (x ∷ xs) j
    go zero l d = n
    go (suc j) l d = f.new j (omega arith) d

-- a property of rows that are left, and that they differ from what was struck out
left_different : (P : List Cell → Type 0) (Q : List Cell → Type 0) (x : List Cell) → ((r : List Cell) → (x ≡ r → ⊥) → P r → Q r) → (xs : List (List Cell)) → AllByRecursion P xs → AllByRecursion Q (without x xs)
left_different P Q x f xs h = go (without x xs) (without_different x xs) (all_kept_by (λ s. not (same_row x s)) P xs h)
  where
    go : (ys : List (List Cell)) → AllByRecursion (λ s. x ≡ s → ⊥) ys → AllByRecursion P ys → AllByRecursion Q ys
    go [] a b = tt
    go (y ∷ ys) a b = (f y a.0 b.0, go ys a.1 b.1)

-- each stands at a first place
pub firsts_placed : (xs : List (List Cell)) → AllByRecursion (λ r. (k : ℕ) × FirstAt xs r k) (firsts xs)
firsts_placed [] = tt
firsts_placed (x ∷ xs) =
    ((0, first_here x xs), left_different (λ r. (k : ℕ) × FirstAt xs r k) (λ r. (k : ℕ) × FirstAt (x ∷ xs) r k) x (λ r n h. (suc h.0, first_behind x xs r h.0 n h.1)) (firsts xs) (firsts_placed xs))

before_behind : (x : List Cell) (xs : List (List Cell)) (r s : List Cell) → (x ≡ r → ⊥) → (x ≡ s → ⊥) → FirstBefore xs r s → FirstBefore (x ∷ xs) r s
before_behind x xs r s m n h =
    record {
      one = suc h.one;
      other = suc h.other;
      one_first = first_behind x xs r h.one m h.one_first;
      other_first = first_behind x xs s h.other n h.other_first;
      before = let l = h.before in omega arith;
    }

-- they stand in the order of their first places
pub firsts_in_order : (xs : List (List Cell)) → Onward (FirstBefore xs) (firsts xs)
firsts_in_order [] = tt
firsts_in_order (x ∷ xs) = (left_different (λ r. (k : ℕ) × FirstAt xs r k) (FirstBefore (x ∷ xs) x) x head (firsts xs) (firsts_placed xs), onward_weaker (λ s. x ≡ s → ⊥) (FirstBefore xs) (FirstBefore (x ∷ xs)) (before_behind x xs) (without x (firsts xs)) (without_different x (firsts xs)) (onward_kept (λ s. not (same_row x s)) (FirstBefore xs) (firsts xs) (firsts_in_order xs)))
  where
    head : (r : List Cell) → (x ≡ r → ⊥) → ((k : ℕ) × FirstAt xs r k) → FirstBefore (x ∷ xs) x r
    head r n h =
        record {
          one = 0;
          other = suc h.0;
          one_first = first_here x xs;
          other_first = first_behind x xs r h.0 n h.1;
          before = omega arith;
        }

pub firsts_before : (xs : List (List Cell)) (i j : ℕ) (d : List Cell) → i < j → j < length (firsts xs) → FirstBefore xs (get_or (firsts xs) i d) (get_or (firsts xs) j d)
firsts_before xs i j d l m = onward_get_d (FirstBefore xs) (firsts xs) (firsts_in_order xs) i j d l m
