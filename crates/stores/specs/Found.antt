-- Tables found by name and by number. Assumes nothing.
use Rattle.std.specs.Prelude.{◌≡◌, ℕ, zero, suc, Bool, true, false, cond, List, [], ◌∷◌, is_some, Some, None, Option, refl}
use Rattle.std.proofs.Common.{sym, ap, ◌∙◌, arith}
use Rattle.std.proofs.lemmas.Slice.Eq.{bytes_eq-Decides}
use Rattle.std.specs.List.{slice_get}
use Rattle.std.specs.Option.{option_map}
use Rattle.std.specs.Str.{bytes_eq}
use Rattle.batches.specs.Asked.{chained}
use Rattle.batches.specs.Layouts.{place_of}
use Rattle.batches.specs.Tables.{Table, Told}
use Rattle.stores.specs.Meaning.{lookup}

abbrev pub table_at : Told → ℕ → Option Table
table_at ts k = option_map (λ t. t.table) (slice_get ts k)

pub chained_mapped : {X Y Z : Type 0} (f : X → Y) (o : Option X) (g : Y → Option Z) → chained (option_map f o) g ≡ chained o (λ x. g (f x))
chained_mapped f None g = refl
chained_mapped f (Some x) g = refl

-- the table at the place of a name is the one told under it
pub place_stands : (ts : Told) (n : List ℕ) → chained (place_of n ts) (table_at ts) ≡ lookup ts n
unfolding place_of lookup
place_stands [] n = refl
place_stands (t ∷ ts) n = go (bytes_eq n t.name) (place_stands ts n)
  where
    go : (b : Bool) → chained (place_of n ts) (table_at ts) ≡ lookup ts n → chained (cond b (Some 0) (option_map suc (place_of n ts))) (table_at (t ∷ ts)) ≡ cond b (Some t.table) (lookup ts n)
    go true e = refl
    go false e = chained_mapped suc (place_of n ts) (table_at (t ∷ ts)) ∙ e

-- there is a table at the place of a name
pub place_known : (ts : Told) (n : List ℕ) (k : ℕ) → place_of n ts ≡ Some k → is_some (table_at ts k) ≡ true
unfolding place_of
place_known [] n k p = absurd (let z : ◌≡◌ {A = ℕ} 0 1 = cc in omega arith)
place_known (t ∷ ts) n k p = go (λ i. place_known ts n i) (bytes_eq n t.name) (place_of n ts) refl k p
  where
    go : ((i : ℕ) → place_of n ts ≡ Some i → is_some (table_at ts i) ≡ true) → (b : Bool) (o : Option ℕ) → place_of n ts ≡ o → (k : ℕ) → cond b (Some 0) (option_map suc o) ≡ Some k → is_some (table_at (t ∷ ts) k) ≡ true
    go ih true o x zero p = refl
    go ih true o x (suc k) p = absurd (let z : ◌≡◌ {A = ℕ} 0 (suc k) = cc in omega arith)
    go ih false None x k p = absurd (let z : ◌≡◌ {A = ℕ} 0 1 = cc in omega arith)
    go ih false (Some i) x zero p = absurd (let z : ◌≡◌ {A = ℕ} 0 (suc i) = cc in omega arith)
    go ih false (Some i) x (suc k) p =
        let z : suc i ≡ suc k = cc in
        let w : i ≡ k = omega arith in
        ih k (x ∙ ap Some w)

-- two names at one place are one name
pub place_distinct : (ts : Told) (m n : List ℕ) (k : ℕ) → place_of m ts ≡ Some k → place_of n ts ≡ Some k → m ≡ n
unfolding place_of
place_distinct [] m n k p q = absurd (let z : ◌≡◌ {A = ℕ} 0 1 = cc in omega arith)
place_distinct (t ∷ ts) m n k p q =
    go (λ i. place_distinct ts m n i) (bytes_eq m t.name) refl (bytes_eq n t.name) refl (place_of m ts) refl (place_of n ts) refl p q
  where
    go : ((i : ℕ) → place_of m ts ≡ Some i → place_of n ts ≡ Some i → m ≡ n) → (a : Bool) → bytes_eq m t.name ≡ a → (b : Bool) → bytes_eq n t.name ≡ b → (o : Option ℕ) → place_of m ts ≡ o → (r : Option ℕ) → place_of n ts ≡ r → cond a (Some 0) (option_map suc o) ≡ Some k → cond b (Some 0) (option_map suc r) ≡ Some k → m ≡ n
    go ih true e true f o x r y p q = (bytes_eq-Decides m t.name).0 e ∙ sym ((bytes_eq-Decides n t.name).0 f)
    go ih true e false f o x None y p q = absurd (let z : ◌≡◌ {A = ℕ} 0 1 = cc in omega arith)
    go ih true e false f o x (Some j) y p q = absurd (let z : ◌≡◌ {A = ℕ} 0 (suc j) = cc in omega arith)
    go ih false e true f None x r y p q = absurd (let z : ◌≡◌ {A = ℕ} 0 1 = cc in omega arith)
    go ih false e true f (Some i) x r y p q = absurd (let z : ◌≡◌ {A = ℕ} 0 (suc i) = cc in omega arith)
    go ih false e false f None x r y p q = absurd (let z : ◌≡◌ {A = ℕ} 0 1 = cc in omega arith)
    go ih false e false f (Some i) x None y p q = absurd (let z : ◌≡◌ {A = ℕ} 0 1 = cc in omega arith)
    go ih false e false f (Some i) x (Some j) y p q =
        let z : suc j ≡ suc i = cc in
        let w : j ≡ i = omega arith in
        ih i x (y ∙ ap Some w)
