-- What is answered of two tables taken together. Assumes nothing.
use Rattle.std.proofs.Common.{◌≡◌, ℕ, zero, suc, ◌+◌, ◌-◌, ◌<◌, ◌≤◌, Bool, true, false, cond, leb, List, [], ◌∷◌, ◌++◌, length, is_some, Some, None, Option, sym, refl, ap, ◌∙◌, ap₂, arith, length-append}
use Rattle.std.proofs.lemmas.Bool.{both_ways, le-leb, lt-leb}
use Rattle.std.specs.List.{slice_get}
use Rattle.std.specs.Bool.{then_some}
use Rattle.values.specs.Cells.{Cell}
use Rattle.batches.specs.Asked.{chained, cell_in, row_count}
use Rattle.batches.specs.Tables.{Body, rows, too_long, Table}
use Rattle.stores.specs.Meaning.{column_of, count_of, most_rows, value_of}
use Rattle.stores.specs.Paired.{join_body, join_count, join_table, join_tables}

-- how many rows there are together
pub uncounted : (o : Option ℕ) → join_count o None ≡ None
unfolding join_count
uncounted None = refl
uncounted (Some n) = refl

pub counted_over : (a b : Option ℕ) (m n : ℕ) → a ≡ Some m → b ≡ Some n → most_rows < m + n → join_count a b ≡ None
unfolding join_count
counted_over a b m n p q l = ap₂ join_count p q ∙ ap (λ (t : Bool). then_some t (m + n)) (lt-leb (m + n) most_rows l)

pub counted_within : (a b : Option ℕ) (m n : ℕ) → a ≡ Some m → b ≡ Some n → m + n ≤ most_rows → join_count a b ≡ Some (m + n)
unfolding join_count
counted_within a b m n p q l = ap₂ join_count p q ∙ ap (λ (t : Bool). then_some t (m + n)) (le-leb (m + n) most_rows l)

-- the columns are the first table's
pub column_joined : (x y : Option Table) (i : ℕ) → column_of (join_tables x y) i ≡ column_of x i
unfolding column_of join_tables join_table
column_joined None y i = refl
column_joined (Some t) None i = refl
column_joined (Some t) (Some u) i = refl

body_count : (a b : Body) → row_count (join_body a b) ≡ join_count (row_count a) (row_count b)
unfolding join_body join_count
body_count (rows xs) (rows ys) = go (leb (length xs + length ys) most_rows)
  where
    go : (b : Bool) → row_count (cond b (rows (xs ++ ys)) too_long) ≡ then_some b (length xs + length ys)
    go true = ap Some (length-append xs ys)
    go false = refl
body_count (rows xs) too_long = refl
body_count too_long b = refl

-- the rows are counted together
pub count_joined : (x y : Option Table) → count_of (join_tables x y) ≡ join_count (count_of x) (count_of y)
unfolding count_of join_tables join_table join_count
count_joined None y = refl
count_joined (Some t) None = sym (uncounted (row_count t.body))
count_joined (Some t) (Some u) = body_count t.body u.body

pub nth_first : {X : Type 0} (xs ys : List X) (i : ℕ) → i < length xs → slice_get (xs ++ ys) i ≡ slice_get xs i
nth_first [] ys i h = absurd (omega arith)
nth_first (x ∷ xs) ys zero h = refl
nth_first (x ∷ xs) ys (suc i) h = nth_first xs ys i (omega arith)

pub nth_second : {X : Type 0} (xs ys : List X) (i : ℕ) → length xs ≤ i → slice_get (xs ++ ys) i ≡ slice_get ys (i - length xs)
nth_second [] ys i h = ap (slice_get ys) (let z : i ≡ i - 0 = omega arith in z)
nth_second (x ∷ xs) ys zero h = absurd (omega arith)
nth_second (x ∷ xs) ys (suc i) h =
    nth_second xs ys i (omega arith) ∙ ap (slice_get ys) (let z : i - length xs ≡ suc i - suc (length xs) = omega arith in z)

-- a table with no count has no cells
no_cells : (b : Body) (r c : ℕ) → row_count b ≡ None → cell_in b r c ≡ None
no_cells (rows rs) r c e = cc
no_cells too_long r c e = refl

-- no cell where the rows are not counted together
pub cell_uncounted : (x y : Option Table) (r c : ℕ) → join_count (count_of x) (count_of y) ≡ None → value_of (join_tables x y) r c ≡ None
unfolding count_of value_of join_tables join_table
cell_uncounted None y r c e = refl
cell_uncounted (Some t) None r c e = refl
cell_uncounted (Some t) (Some u) r c e = no_cells (join_body t.body u.body) r c (body_count t.body u.body ∙ e)

-- the rows of two bodies, by how many the first has
body_first : (a b : Body) (m r c : ℕ) → row_count a ≡ Some m → is_some (join_count (row_count a) (row_count b)) ≡ true → r < m → cell_in (join_body a b) r c ≡ cell_in a r c
unfolding join_body join_count
body_first (rows xs) (rows ys) m r c e h l = go (leb (length xs + length ys) most_rows) h
  where
    go : (b : Bool) → is_some (then_some b (length xs + length ys)) ≡ true → cell_in (cond b (rows (xs ++ ys)) too_long) r c ≡ cell_in (rows xs) r c
    go true h =
        let k : length xs ≡ m = cc in
        ap (λ (o : Option (List Cell)). chained o (λ cs. slice_get cs c)) (nth_first xs ys r (omega arith))
    go false h = absurd (both_ways false refl h)
body_first (rows xs) too_long m r c e h l = absurd (both_ways false refl h)
body_first too_long b m r c e h l = absurd (both_ways false refl h)

body_second : (a b : Body) (m r c : ℕ) → row_count a ≡ Some m → is_some (join_count (row_count a) (row_count b)) ≡ true → m ≤ r → cell_in (join_body a b) r c ≡ cell_in b (r - m) c
unfolding join_body join_count
body_second (rows xs) (rows ys) m r c e h l = go (leb (length xs + length ys) most_rows) h
  where
    go : (b : Bool) → is_some (then_some b (length xs + length ys)) ≡ true → cell_in (cond b (rows (xs ++ ys)) too_long) r c ≡ cell_in (rows ys) (r - m) c
    go true h =
        let k : length xs ≡ m = cc in
        ap (λ (o : Option (List Cell)). chained o (λ cs. slice_get cs c)) (nth_second xs ys r (omega arith) ∙ ap (λ (n : ℕ). slice_get ys (r - n)) k)
    go false h = absurd (both_ways false refl h)
body_second (rows xs) too_long m r c e h l = absurd (both_ways false refl h)
body_second too_long b m r c e h l = absurd (both_ways false refl h)

-- the cells of the first table's rows
pub cell_first : (x y : Option Table) (m r c : ℕ) → count_of x ≡ Some m → is_some (join_count (count_of x) (count_of y)) ≡ true → r < m → value_of (join_tables x y) r c ≡ value_of x r c
unfolding count_of value_of join_tables join_table
cell_first None y m r c e h l = cc
cell_first (Some t) None m r c e h l = absurd (both_ways _ (ap is_some (uncounted (row_count t.body))) h)
cell_first (Some t) (Some u) m r c e h l = body_first t.body u.body m r c e h l

-- and after them those of the second's
pub cell_second : (x y : Option Table) (m r c : ℕ) → count_of x ≡ Some m → is_some (join_count (count_of x) (count_of y)) ≡ true → m ≤ r → value_of (join_tables x y) r c ≡ value_of y (r - m) c
unfolding count_of value_of join_tables join_table
cell_second None y m r c e h l = absurd (let z : ◌≡◌ {A = ℕ} 0 1 = cc in omega arith)
cell_second (Some t) None m r c e h l = absurd (both_ways _ (ap is_some (uncounted (row_count t.body))) h)
cell_second (Some t) (Some u) m r c e h l = body_second t.body u.body m r c e h l
