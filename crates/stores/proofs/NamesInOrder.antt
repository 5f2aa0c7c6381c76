-- The names that a store and a pair tell, in order. Assumes nothing.
use Rattle.std.proofs.Common.{◌≡◌, ℕ, zero, suc, ◌+◌, ◌-◌, ◌<◌, ◌≤◌, Bool, true, false, cond, not, List, [], ◌∷◌, ◌++◌, map, length, take, drop, is_some, Some, None, filter, Option, sym, refl, ap, ◌∙◌, ap₂, subst, arith}
use Rattle.std.proofs.lemmas.Slice.Eq.{bytes_eq-Decides}
use lib.ListN.{length-map}
use Rattle.std.proofs.lemmas.List.{drop_all, map-append}
use Rattle.std.proofs.lemmas.List.Sums.{count_by-le-length, length-filter}
use Rattle.std.proofs.lemmas.Option.{slice_get-map}
use Rattle.std.proofs.lemmas.Bool.{both_ways}
use Rattle.std.specs.Bool.{⊤}
use Rattle.std.specs.Iterator.{MakesProgress, YieldsFirstBy, item_count}
use Rattle.std.specs.List.{cons_option, slice_get}
use Rattle.std.specs.Option.{MatchOption, SomeIff, option_map}
use Rattle.std.specs.Str.{bytes_eq}
use Rattle.batches.specs.Asked.{chained}
use Rattle.batches.specs.Tables.{Table, Named, Told, Apart, Distinct}
use Rattle.stores.specs.Meaning.{lookup, name_told}
use Rattle.stores.specs.Names.{names_from, names_in}
use Rattle.stores.specs.Paired.{beside, paired, untold}
use Rattle.values.specs.Named.{name_bytes}
use Rattle.values.specs.declared.name.Name.{Name}
use Rattle.stores.proofs.JoinedRows.{nth_first, nth_second}

-- what is left of a list's first m elements from a place on
front : {X : Type 0} (m p : ℕ) (xs : List X) → p < m → drop p (take m xs) ≡ cons_option (slice_get xs p) (drop (suc p) (take m xs))
front zero p xs l = absurd (omega arith)
front (suc m) zero [] l = refl
front (suc m) zero (x ∷ xs) l = refl
front (suc m) (suc p) [] l = refl
front (suc m) (suc p) (x ∷ xs) l = front m p xs (omega arith)

nothing_past : {X : Type 0} (m p : ℕ) (xs : List X) → slice_get xs p ≡ None → drop p (take m xs) ≡ []
nothing_past zero zero xs e = refl
nothing_past zero (suc p) xs e = refl
nothing_past (suc m) p [] e = drop_all p [] (omega arith)
nothing_past (suc m) zero (x ∷ xs) e = cc
nothing_past (suc m) (suc p) (x ∷ xs) e = nothing_past m p xs e

none_left : {X : Type 0} (m : ℕ) (xs : List X) → drop m (take m xs) ≡ []
none_left zero xs = refl
none_left (suc m) [] = refl
none_left (suc m) (x ∷ xs) = none_left m xs

-- the names behind a place, from the next place on if there is one
next_names : (ts : Told) (p : ℕ) (q : Option ℕ) → p < 18446744073709551616 → SomeIff q (p + 1 < 18446744073709551616) (p + 1) → names_from q ts ≡ drop (suc p) (names_in ts)
unfolding names_in
next_names ts p None l e = by 18446744073709551616 l e
  where
    by : (m : ℕ) → p < m → (p + 1 < m → ⊥) → [] ≡ drop (suc p) (take m (map (λ t. t.name) ts))
    by m l e =
        let z : m ≡ suc p = omega arith in
        sym (ap (λ k. drop k (take m (map (λ t. t.name) ts))) (sym z) ∙ none_left m (map (λ t. t.name) ts))
next_names ts p (Some k) l e = ap (λ j. drop j (names_in ts)) (let z : k ≡ suc p = omega arith in z)

-- the name at a place is the first that is left there
pub names_turn : (ts : Told) (p : ℕ) (r : Option Name) (q : Option ℕ) → p < 18446744073709551616 → SomeIff q (p + 1 < 18446744073709551616) (p + 1) → option_map name_bytes r ≡ name_told ts p → MatchOption r ((drop p (names_in ts) ≡ []) × (names_from q ts ≡ [])) (λ x. drop p (names_in ts) ≡ name_bytes x ∷ names_from q ts)
unfolding names_in name_told
names_turn ts p None q l e h =
    let past : slice_get (map (λ t. t.name) ts) p ≡ None = slice_get-map (λ t. t.name) ts p ∙ sym h in
    let all = nothing_past 18446744073709551616 p (map (λ t. t.name) ts) past in
    (all, next_names ts p q l e ∙ (sym (ap (λ o. cons_option o (drop (suc p) (names_in ts))) past) ∙ (sym (front 18446744073709551616 p (map (λ t. t.name) ts) l) ∙ all)))
names_turn ts p (Some x) q l e h =
    let here : slice_get (map (λ t. t.name) ts) p ≡ Some (name_bytes x) = slice_get-map (λ t. t.name) ts p ∙ sym h in
    front 18446744073709551616 p (map (λ t. t.name) ts) l ∙ (ap (λ o. cons_option o (drop (suc p) (names_in ts))) here ∙ ap (◌∷◌ (name_bytes x)) (sym (next_names ts p q l e)))

-- a call that yields the first of what is left leaves fewer
pub goes_on : {S A B : Type 0} (view : A → B) (rest : S → List B) (s : S) (r : Option A) (t : S) → YieldsFirstBy view rest s r t → MakesProgress (λ _. ⊤) (item_count rest) s r t
goes_on view rest s None t h = record { on = λ f. tt; keeps = tt; rests = λ f. tt }
goes_on view rest s (Some x) t h = record { on = λ f. (tt, tt, let l = ap length h in omega arith); keeps = tt; rests = λ f. tt }

-- a store tells a name exactly when it has a number for it
pub number_told : {M : Type 0} (f : M → Option Table) (a : Option M) (o : Option Table) → chained a f ≡ o → ((k : M) → a ≡ Some k → is_some (f k) ≡ true) → is_some a ≡ is_some o
number_told f None o e h = ap is_some e
number_told f (Some k) o e h = sym (h k refl) ∙ ap is_some e

-- whether a store does not tell a name, by whether it finds no number for it
pub untold_found : {M : Type 0} (ts : Told) (number : List ℕ → Option M) (f : M → Option Table) → ((n : List ℕ) → chained (number n) f ≡ lookup ts n) → ((n : List ℕ) (k : M) → number n ≡ Some k → is_some (f k) ≡ true) → (n : List ℕ) (found : Option M) (b : Bool) → found ≡ number n → is_some found ≡ not b → b ≡ not (is_some (lookup ts n))
untold_found ts number f named known n found b p q =
    turned b (is_some (lookup ts n)) (sym (number_told f (number n) (lookup ts n) (named n) (known n)) ∙ (ap is_some (sym p) ∙ q))
  where
    turned : (b t : Bool) → t ≡ not b → b ≡ not t
    turned true t e = sym (ap not e)
    turned false t e = sym (ap not e)

-- a name that none of the tables has leaves out none of them
kept_apart : (t : Named) (ts us : Told) → Apart t.name us → filter (untold (t ∷ ts)) us ≡ filter (untold ts) us
unfolding lookup
kept_apart t ts [] h = refl
kept_apart t ts (u ∷ us) h = go (bytes_eq u.name t.name) refl (kept_apart t ts us h.1)
  where
    go : (a : Bool) → bytes_eq u.name t.name ≡ a → filter (untold (t ∷ ts)) us ≡ filter (untold ts) us → cond (not (is_some (cond a (Some t.table) (lookup ts u.name)))) (u ∷ filter (untold (t ∷ ts)) us) (filter (untold (t ∷ ts)) us) ≡ cond (untold ts u) (u ∷ filter (untold ts) us) (filter (untold ts) us)
    go true e ih = absurd (h.0 (sym ((bytes_eq-Decides u.name t.name).0 e)))
    go false e ih = ap (λ (xs : Told). cond (untold ts u) (u ∷ xs) xs) ih

-- one more name that is told leaves out at most one, since no two tables have one name
kept_one_less : (t : Named) (ts us : Told) → Distinct us → length (filter (untold ts) us) ≤ suc (length (filter (untold (t ∷ ts)) us))
unfolding lookup
kept_one_less t ts [] h = omega arith
kept_one_less t ts (u ∷ us) h = go (bytes_eq u.name t.name) refl (untold ts u) refl (kept_one_less t ts us h.1)
  where
    go : (a : Bool) → bytes_eq u.name t.name ≡ a → (b : Bool) → untold ts u ≡ b → length (filter (untold ts) us) ≤ suc (length (filter (untold (t ∷ ts)) us)) → length (cond b (u ∷ filter (untold ts) us) (filter (untold ts) us)) ≤ suc (length (cond (not (is_some (cond a (Some t.table) (lookup ts u.name)))) (u ∷ filter (untold (t ∷ ts)) us) (filter (untold (t ∷ ts)) us)))
    go true e true f ih =
        let k = ap length (kept_apart t ts us (subst (λ (n : List ℕ). Apart n us) ((bytes_eq-Decides u.name t.name).0 e) h.0)) in
        omega arith
    go true e false f ih = ih
    go false e true f ih =
        subst (λ (b : Bool). suc (length (filter (untold ts) us)) ≤ suc (length (cond b (u ∷ filter (untold (t ∷ ts)) us) (filter (untold (t ∷ ts)) us)))) (sym f) (omega arith)
    go false e false f ih =
        subst (λ (b : Bool). length (filter (untold ts) us) ≤ suc (length (cond b (u ∷ filter (untold (t ∷ ts)) us) (filter (untold (t ∷ ts)) us)))) (sym f) ih

kept_all : (us : Told) → filter (untold []) us ≡ us
unfolding lookup
kept_all [] = refl
kept_all (u ∷ us) = ap (λ (xs : Told). u ∷ xs) (kept_all us)

-- so those that are left out are no more than the names that are told
few_told : (ts us : Told) → Distinct us → length us ≤ length (filter (untold ts) us) + length ts
few_told [] us h = let k = ap length (kept_all us) in omega arith
few_told (t ∷ ts) us h = let k = few_told ts us h in let l = kept_one_less t ts us h in omega arith

-- the names that a test on names leaves of tables
names_kept : (p : List ℕ → Bool) (us : Told) → map (λ t. t.name) (filter (λ t. p t.name) us) ≡ filter p (map (λ t. t.name) us)
names_kept p [] = refl
names_kept p (u ∷ us) = go (p u.name) (names_kept p us)
  where
    go : (b : Bool) → map (λ t. t.name) (filter (λ t. p t.name) us) ≡ filter p (map (λ t. t.name) us) → map (λ t. t.name) (cond b (u ∷ filter (λ t. p t.name) us) (filter (λ t. p t.name) us)) ≡ cond b (u.name ∷ filter p (map (λ t. t.name) us)) (filter p (map (λ t. t.name) us))
    go true e = ap (◌∷◌ u.name) e
    go false e = e

names_beside : (us ts : Told) → map (λ t. t.name) (map (beside us) ts) ≡ map (λ t. t.name) ts
names_beside us [] = refl
names_beside us (t ∷ ts) = ap (◌∷◌ t.name) (names_beside us ts)

-- cutting a list off far enough behind a place changes nothing at the place, also where those that fail a test are left out
cut_kept : {X : Type 0} (p : X → Bool) (m k : ℕ) (xs : List X) → k + length xs < m + length (filter p xs) → slice_get (filter p (take m xs)) k ≡ slice_get (filter p xs) k
cut_kept p zero k [] l = refl
cut_kept p (suc m) k [] l = refl
cut_kept p zero k (x ∷ xs) l = absurd (let n = length-filter p (x ∷ xs) in let o = count_by-le-length p (x ∷ xs) in omega arith)
cut_kept p (suc m) k (x ∷ xs) l = go (λ j. cut_kept p m j xs) (p x) k l
  where
    go : ((j : ℕ) → j + length xs < m + length (filter p xs) → slice_get (filter p (take m xs)) j ≡ slice_get (filter p xs) j) → (b : Bool) (k : ℕ) → k + suc (length xs) < suc m + length (cond b (x ∷ filter p xs) (filter p xs)) → slice_get (cond b (x ∷ filter p (take m xs)) (filter p (take m xs))) k ≡ slice_get (cond b (x ∷ filter p xs) (filter p xs)) k
    go ih true zero l = refl
    go ih true (suc k) l = ih k (omega arith)
    go ih false k l = ih k (omega arith)

cut_first : {X : Type 0} (m k : ℕ) (xs ys zs : List X) → k < m → (length xs ≤ k → slice_get ys (k - length xs) ≡ slice_get zs (k - length xs)) → slice_get (take m xs ++ ys) k ≡ slice_get (xs ++ zs) k
cut_first zero k xs ys zs l e = absurd (omega arith)
cut_first (suc m) k [] ys zs l e = subst (λ j. slice_get ys j ≡ slice_get zs j) (omega arith) (e (omega arith))
cut_first (suc m) zero (x ∷ xs) ys zs l e = refl
cut_first (suc m) (suc k) (x ∷ xs) ys zs l e = cut_first m k xs ys zs (omega arith) (λ n. subst (λ j. slice_get ys j ≡ slice_get zs j) (omega arith) (e (omega arith)))

pub mapped_some : {X Y : Type 0} (f : X → Y) (o : Option X) → is_some (option_map f o) ≡ is_some o
mapped_some f None = refl
mapped_some f (Some x) = refl

-- there is a name at each place below the number of tables, and at no other
pub name_within : (ts : Told) (i : ℕ) → is_some (name_told ts i) ≡ true → i < length ts
unfolding name_told
name_within [] i e = absurd (both_ways false refl e)
name_within (t ∷ ts) zero e = omega arith
name_within (t ∷ ts) (suc i) e = let l = name_within ts i e in omega arith

pub name_past : (ts : Told) (i : ℕ) → is_some (name_told ts i) ≡ false → length ts ≤ i
unfolding name_told
name_past [] i e = omega arith
name_past (t ∷ ts) zero e = absurd (both_ways true e refl)
name_past (t ∷ ts) (suc i) e = let l = name_past ts i e in omega arith

-- the names of a pair: first those of the first store
name_map : (us ts : Told) (i : ℕ) → name_told (map (beside us) ts) i ≡ name_told ts i
unfolding name_told
name_map us [] i = refl
name_map us (t ∷ ts) zero = refl
name_map us (t ∷ ts) (suc i) = name_map us ts i

pub pair_first : (ts us : Told) (place : ℕ) → place < length ts → name_told (paired ts us) place ≡ name_told ts place
unfolding paired name_told
pair_first ts us place l =
    ap (option_map (λ t. t.name)) (nth_first (map (beside us) ts) (filter (untold ts) us) place (omega (arith, length-map ts (beside us)))) ∙ name_map us ts place

-- then those of the second that the first does not tell
pub pair_second : (ts us : Told) (place : ℕ) → length ts ≤ place → name_told (paired ts us) place ≡ name_told (filter (untold ts) us) (place - length ts)
unfolding paired name_told
pair_second ts us place l =
    let k = length-map ts (beside us) in
    ap (option_map (λ t. t.name)) (nth_second (map (beside us) ts) (filter (untold ts) us) place (omega arith) ∙ ap (λ (n : ℕ). slice_get (filter (untold ts) us) (place - n)) k)

-- the names of a pair: those of the first store, and then those of the second that the first does not tell
pub pair_names : (ts us : Told) (k : ℕ) → Distinct us → k < 18446744073709551616 → slice_get (names_in ts ++ filter (λ n. not (is_some (lookup ts n))) (names_in us)) k ≡ name_told (paired ts us) k
unfolding names_in name_told paired
pair_names ts us k d l =
    let p : List ℕ → Bool = λ n. not (is_some (lookup ts n)) in
    let f = few_told ts us d in
    let own = length-map ts (λ t. t.name) in
    let all = length-map us (λ t. t.name) in
    let kept = ap length (names_kept p us) in
    let left = length-map (filter (untold ts) us) (λ t. t.name) in
    cut_first 18446744073709551616 k (map (λ t. t.name) ts) (filter p (names_in us)) (filter p (map (λ t. t.name) us)) l (λ n. cut_kept p 18446744073709551616 (k - length (map (λ t. t.name) ts)) (map (λ t. t.name) us) (omega arith)) ∙
    (ap (λ xs. slice_get xs k) (ap₂ ◌++◌ (sym (names_beside us ts)) (sym (names_kept p us)) ∙ sym (map-append (λ t. t.name) (map (beside us) ts) (filter (untold ts) us))) ∙ slice_get-map (λ t. t.name) (paired ts us) k)
