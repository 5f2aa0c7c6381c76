-- The table of a series. Assumes nothing.
use Rattle.std.specs.Prelude.{◌≡◌, ℕ, ◌<◌, Bool, true, false, cond, [], ◌∷◌, map, length, ℤ, pos, ◌+ℤ◌, nat_le, refl}
use Rattle.std.proofs.Common.{sym, ap, subst, arith, zero-add}
use Rattle.batches.specs.Tables.{Heading, rows, too_long, RowFits}
use Rattle.std.proofs.lemmas.List.FromFn.{get_or-map-range_with_len, length-map-range_with_len}
use Rattle.std.proofs.ByRecursion.{All-from_get_or}
use Rattle.std.proofs.lemmas.Int.{ints}
use Rattle.std.proofs.lemmas.Bool.{leb-true}
use Rattle.std.specs.List.{range_with_len, AllByRecursion}
use Rattle.values.specs.Cells.{integer, in_range, lawful_cell}
use Rattle.values.specs.Codes.{fits}
use Rattle.values.specs.declared.kinds.ColumnType.{ColumnType}
use Rattle.values.specs.declared.kinds.ColumnType.TheVariants.{Integer}
use Rattle.stores.specs.Meaning.{LawfulBody, most_rows}
use Rattle.stores.specs.Series.{how_many, numbers_from, series_body}

-- a number of the series is an integer of 32 bits
in-series : (a b : ℤ) (k : ℕ) → in_range a ≡ true → in_range b ≡ true → k < how_many a b → in_range (a +ℤ pos k) ≡ true
in-series a b k p q h = grind (arith, ints)

pub length_numbers : (a : ℤ) (n : ℕ) → length (numbers_from a n) ≡ n
unfolding numbers_from
length_numbers a n = length-map-range_with_len (λ k. integer (a +ℤ pos k) ∷ []) 0 n

-- every row is one lawful integer
fits_row : (h : Heading) (z : ℤ) → h.holds ≡ Integer → in_range z ≡ true → RowFits (h ∷ []) (integer z ∷ [])
unfolding lawful_cell fits
fits_row h z e r = (r, ap (λ (t : ColumnType). fits t (integer z)) e, tt)

pub numbers_fit : (h : Heading) → h.holds ≡ Integer → (a : ℤ) (n : ℕ) → ((k : ℕ) → k < n → in_range (a +ℤ pos k) ≡ true) → AllByRecursion (RowFits (h ∷ [])) (numbers_from a n)
unfolding numbers_from
numbers_fit h e a n f =
    All-from_get_or (RowFits (h ∷ [])) (map (λ k. integer (a +ℤ pos k) ∷ []) (range_with_len 0 n)) []
    (λ i l. let m = length-map-range_with_len (λ k. integer (a +ℤ pos k) ∷ []) 0 n in
    let q : i < n = omega arith in
    subst (RowFits (h ∷ [])) (sym (get_or-map-range_with_len (λ k. integer (a +ℤ pos k) ∷ []) 0 n i i [] q (zero-add i))) (fits_row h (a +ℤ pos i) e (f i q)))

pub series_lawful : (h : Heading) → h.holds ≡ Integer → (a b : ℤ) → in_range a ≡ true → in_range b ≡ true → LawfulBody (h ∷ []) (series_body a b)
series_lawful h e a b p q = go (nat_le (how_many a b) most_rows) refl
  where
    go : (t : Bool) → nat_le (how_many a b) most_rows ≡ t → LawfulBody (h ∷ []) (cond t (rows (numbers_from a (how_many a b))) too_long)
    go true s = (
      numbers_fit h e a (how_many a b) (λ k l. in-series a b k p q l),
      let m = length_numbers a (how_many a b) in
          omega (arith, leb-true (how_many a b) most_rows s),
    )
    go false s = tt
