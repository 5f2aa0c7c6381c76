-- What is kept of a list, what stands in it, and what holds onward in it. Assumes nothing.
use Rattle.std.proofs.Common.{◌≡◌, ℕ, zero, suc, ◌<◌, Bool, true, false, cond, ◌&&◌, ◌⊎◌, List, [], ◌∷◌, length, get_or, filter, sym, refl, ap, ◌∙◌, inl, inr, arith}
use Rattle.std.proofs.ByRecursion.{All-get_or, all-has, all_has_itself, all_kept_by, has_append_right}
use Rattle.std.proofs.lemmas.Bool.{and_right, both_ways, cond-false}
use Rattle.std.specs.List.{ContainsAt as Has, AllByRecursion}
use Rattle.stores.specs.Agreeing.{Onward}

-- ---- tests

and_true : (a : Bool) → (a && true) ≡ a
and_true true = refl
and_true false = refl

and_swapped : (a b : Bool) → (a && b) ≡ (b && a)
and_swapped true b = sym (and_true b)
and_swapped false true = refl
and_swapped false false = refl

and_absorbed : (a b : Bool) → (a ≡ true → b ≡ true) → a ≡ (a && b)
and_absorbed true b h = sym (h refl)
and_absorbed false b h = refl

-- ---- what is kept of what is kept

module _ {X : Type 0} where
  -- what passes one test and then another passes both
  pub kept_by_both : (p q r : X → Bool) → ((x : X) → r x ≡ (p x && q x)) → (xs : List X) → filter p (filter q xs) ≡ filter r xs
  kept_by_both p q r is [] = refl
  kept_by_both p q r is (x ∷ xs) = go (q x) ∙ ap (λ l. cond (p x && q x) (x ∷ l) l) (kept_by_both p q r is xs) ∙ ap (λ b. cond b (x ∷ filter r xs) (filter r xs)) (sym (is x))
    where
      go : (b : Bool) → filter p (cond b (x ∷ filter q xs) (filter q xs)) ≡ cond (p x && b) (x ∷ filter p (filter q xs)) (filter p (filter q xs))
      go true = ap (λ a. cond a (x ∷ filter p (filter q xs)) (filter p (filter q xs))) (sym (and_true (p x)))
      go false = sym (cond-false (p x && false) (x ∷ filter p (filter q xs)) (filter p (filter q xs)) (and_right (p x) false refl))

  -- a test that lets through all that the other does strikes nothing more out
  pub kept_by_absorbed : (p q : X → Bool) → ((x : X) → p x ≡ true → q x ≡ true) → (xs : List X) → filter p (filter q xs) ≡ filter p xs
  kept_by_absorbed p q h xs = kept_by_both p q p (λ x. and_absorbed (p x) (q x) (h x)) xs

  -- two tests may change places
  pub kept_by_swapped : (p q : X → Bool) (xs : List X) → filter p (filter q xs) ≡ filter q (filter p xs)
  kept_by_swapped p q xs = kept_by_both p q (λ x. p x && q x) (λ x. refl) xs ∙ sym (kept_by_both q p (λ x. p x && q x) (λ x. and_swapped (p x) (q x)) xs)

  -- ---- what stands in a list

  pub has_none : (x : X) → Has [] x → ⊥
  has_none x h = let l = h.1 in omega arith

  pub has_same : (x y : X) (xs : List X) → x ≡ y → Has (x ∷ xs) y
  has_same x y xs e = (0, omega arith, λ d. e)

  pub has_behind : (y : X) (xs : List X) (x : X) → Has xs x → Has (y ∷ xs) x
  has_behind y xs x h = has_append_right (y ∷ []) xs x h

  pub has_cases : (y : X) (xs : List X) (x : X) → Has (y ∷ xs) x → (y ≡ x) ⊎ Has xs x
  has_cases y xs x h = go h.0 h.1 h.2
    where
      go : (k : ℕ) → k < length (y ∷ xs) → ((d : X) → get_or (y ∷ xs) k d ≡ x) → (y ≡ x) ⊎ Has xs x
      go zero l e = inl (e x)
      go (suc k) l e = inr (k, omega arith, e)

  -- what is kept stood there before
  pub has_from_kept : (p : X → Bool) (xs : List X) (x : X) → Has (filter p xs) x → Has xs x
  has_from_kept p xs x h = all-has (Has xs) (filter p xs) x (all_kept_by p (Has xs) xs (all_has_itself xs)) h

  -- what passes the test is kept
  pub has_kept : (p : X → Bool) (xs : List X) (x : X) → p x ≡ true → Has xs x → Has (filter p xs) x
  has_kept p [] x t h = h
  has_kept p (y ∷ xs) x t h = go (has_kept p xs x t) (p y) refl (has_cases y xs x h)
    where
      go : (Has xs x → Has (filter p xs) x) → (b : Bool) → p y ≡ b → (y ≡ x) ⊎ Has xs x → Has (cond b (y ∷ filter p xs) (filter p xs)) x
      go ih true e (inl k) = has_same y x (filter p xs) k
      go ih true e (inr k) = has_behind y (filter p xs) x (ih k)
      go ih false e (inl k) = absurd (both_ways (p y) e (ap p k ∙ t))
      go ih false e (inr k) = ih k

  -- ---- what holds onward

  -- one relation gives another between elements of which a property holds
  pub onward_weaker : (P : X → Type 0) (R Q : X → X → Type 0) → ((x y : X) → P x → P y → R x y → Q x y) → (xs : List X) → AllByRecursion P xs → Onward R xs → Onward Q xs
  onward_weaker P R Q f [] h k = tt
  onward_weaker P R Q f (x ∷ xs) h k = (go xs h.1 k.0, onward_weaker P R Q f xs h.1 k.1)
    where
      go : (ys : List X) → AllByRecursion P ys → AllByRecursion (R x) ys → AllByRecursion (Q x) ys
      go [] a b = tt
      go (y ∷ ys) a b = (f x y h.0 a.0 b.0, go ys a.1 b.1)

  -- it holds onward in what is kept
  pub onward_kept : (p : X → Bool) (R : X → X → Type 0) (xs : List X) → Onward R xs → Onward R (filter p xs)
  onward_kept p R [] h = tt
  onward_kept p R (x ∷ xs) h = go (p x) (all_kept_by p (R x) xs h.0) (onward_kept p R xs h.1)
    where
      go : (b : Bool) → AllByRecursion (R x) (filter p xs) → Onward R (filter p xs) → Onward R (cond b (x ∷ filter p xs) (filter p xs))
      go true a k = (a, k)
      go false a k = k

  -- by places
  pub onward_get_d : (R : X → X → Type 0) (xs : List X) → Onward R xs → (i j : ℕ) (d : X) → i < j → j < length xs → R (get_or xs i d) (get_or xs j d)
  onward_get_d R [] h i j d l m = absurd (let z : ⊥ = omega arith in z)
  onward_get_d R (x ∷ xs) h zero zero d l m = absurd (let z : ⊥ = omega arith in z)
  onward_get_d R (x ∷ xs) h zero (suc j) d l m = All-get_or (R x) xs j d (omega arith) h.0
  onward_get_d R (x ∷ xs) h (suc i) zero d l m = absurd (let z : ⊥ = omega arith in z)
  onward_get_d R (x ∷ xs) h (suc i) (suc j) d l m = onward_get_d R xs h.1 i j d (omega arith) (omega arith)
