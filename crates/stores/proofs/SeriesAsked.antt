-- What is asked of the table of a series. Assumes nothing.
use Rattle.std.specs.Prelude.{◌≡◌, ℕ, zero, suc, ◌<◌, ◌≤◌, Bool, true, false, cond, List, [], ◌∷◌, ℤ, pos, ◌+ℤ◌, Some, None, Option, nat_le, refl}
use Rattle.std.proofs.Common.{ap, arith}
use Rattle.batches.proofs.Asking.{nth_counted, nth_counted_past}
use Rattle.batches.specs.Asked.{cell_in, chained, row_count}
use Rattle.batches.specs.Tables.{rows, too_long}
use Rattle.std.specs.List.{slice_get}
use Rattle.std.specs.Bool.{then_some}
use Rattle.values.specs.Cells.{Cell, integer}
use Rattle.stores.specs.Meaning.{most_rows}
use Rattle.stores.specs.Series.{how_many, numbers_from, series_body}
use Rattle.stores.specs.Numbered.{length_numbers}

-- the count says which body the table has
pub body_marked : (a b : ℤ) → None ≡ then_some (nat_le (how_many a b) most_rows) (how_many a b) → series_body a b ≡ too_long
body_marked a b e = go (nat_le (how_many a b) most_rows) e
  where
    go : (t : Bool) → None ≡ then_some t (how_many a b) → cond t (rows (numbers_from a (how_many a b))) too_long ≡ too_long
    go true e = absurd (let z : ◌≡◌ {A = ℕ} 0 1 = cc in omega arith)
    go false e = refl

pub body_counted : (a b : ℤ) (n : ℕ) → Some n ≡ then_some (nat_le (how_many a b) most_rows) (how_many a b) → (n ≡ how_many a b) × (series_body a b ≡ rows (numbers_from a (how_many a b)))
body_counted a b n e = go (nat_le (how_many a b) most_rows) e
  where
    go : (t : Bool) → Some n ≡ then_some t (how_many a b) → (n ≡ how_many a b) × (cond t (rows (numbers_from a (how_many a b))) too_long ≡ rows (numbers_from a (how_many a b)))
    go true e = (cc, refl)
    go false e = absurd (let z : ◌≡◌ {A = ℕ} 0 1 = cc in omega arith)

pub count_is : (a b : ℤ) → row_count (series_body a b) ≡ then_some (nat_le (how_many a b) most_rows) (how_many a b)
count_is a b = go (nat_le (how_many a b) most_rows)
  where
    go : (t : Bool) → row_count (cond t (rows (numbers_from a (how_many a b))) too_long) ≡ then_some t (how_many a b)
    go true = ap Some (length_numbers a (how_many a b))
    go false = refl

-- the cell at a row
pub number_here : (a : ℤ) (n r : ℕ) → r < n → cell_in (rows (numbers_from a n)) r 0 ≡ Some (integer (a +ℤ pos r))
unfolding numbers_from
number_here a n r h =
    ap (λ (o : Option (List Cell)). chained o (λ cs. slice_get cs 0)) (nth_counted (λ k. integer (a +ℤ pos k) ∷ []) n r h)

pub number_past : (a : ℤ) (n r c : ℕ) → n ≤ r → cell_in (rows (numbers_from a n)) r c ≡ None
unfolding numbers_from
number_past a n r c h =
    ap (λ (o : Option (List Cell)). chained o (λ cs. slice_get cs c)) (nth_counted_past (λ k. integer (a +ℤ pos k) ∷ []) n r h)

pub number_beside : (a : ℤ) (n r c : ℕ) → r < n → 0 < c → cell_in (rows (numbers_from a n)) r c ≡ None
unfolding numbers_from
number_beside a n r zero h l = absurd (omega arith)
number_beside a n r (suc c) h l =
    ap (λ (o : Option (List Cell)). chained o (λ cs. slice_get cs (suc c))) (nth_counted (λ k. integer (a +ℤ pos k) ∷ []) n r h)
