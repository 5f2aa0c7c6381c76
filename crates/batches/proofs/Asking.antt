-- What is asked of the tables that a catalog lists, by where they lie. Assumes nothing.
use Rattle.std.proofs.Common.{◌≡◌, ℕ, ◌+◌, ◌*◌, ◌^◌, ◌<◌, ◌≤◌, Bool, true, false, ◌⊎◌, List, map, length, get_or, take, Some, None, Option, sym, refl, ap, ◌∙◌, inl, inr, mul-le-mul_right, zero-add, arith}
use Rattle.std.proofs.lemmas.List.FromFn.{length-map-range_with_len, get_or-map-range_with_len}
use Rattle.std.proofs.lemmas.Option.{slice_get-get_or, slice_get-map, slice_get_past}
use Rattle.std.specs.List.{slice_get, range_with_len}
use Rattle.std.specs.Option.{option_map}
use Rattle.std.specs.Bool.{then_some}
use Rattle.values.specs.Names.{lawful_name}
use Rattle.batches.specs.Asked.{cell_asked, cell_in, chained, column_asked, count_asked, name_asked, row_count, width_asked}
use Rattle.batches.specs.Layouts.{cell_at, cells_at, cells_from, heading_at, headings_at, layout_of, rows_at, slice_at, table_at, told_by, type_at}
use Rattle.batches.specs.Tables.{Heading, Named}
use Rattle.batches.specs.declared.layout.Catalog.{Catalog}
use Rattle.batches.specs.declared.layout.Layout.{Layout}
use Rattle.batches.proofs.Lookup.{none, few_listed, listed, listed_at}

-- a list made from a function of the index
module _ {X : Type 0} (f : ℕ → X) (n i : ℕ) where
  pub nth_counted : i < n → slice_get (map f (range_with_len 0 n)) i ≡ Some (f i)
  nth_counted h =
      let l = length-map-range_with_len f 0 n in
      slice_get-get_or (map f (range_with_len 0 n)) i (f i) (omega arith) ∙ ap Some (get_or-map-range_with_len f 0 n i i (f i) h (zero-add i))

  pub nth_counted_past : n ≤ i → slice_get (map f (range_with_len 0 n)) i ≡ None
  nth_counted_past h = let l = length-map-range_with_len f 0 n in slice_get_past (map f (range_with_len 0 n)) i (omega arith)

module _ (c : Catalog) (t : ℕ) where
  pub layout_here : length c.tables ≡ 8 → t < c.count → Some (get_or c.tables t none) ≡ layout_of c t
  layout_here e h =
      let l = listed c e in
      sym (slice_get-get_or (take c.count c.tables) t none (omega arith) ∙ ap Some (listed_at c t h))

  pub layout_past : c.count ≤ t → None ≡ layout_of c t
  layout_past h = let l = few_listed c in sym (slice_get_past (take c.count c.tables) t (omega arith))

  -- the table that lies where the catalog says
  pub told_at : (bs : List ℕ) (o : Option Layout) → o ≡ layout_of c t → slice_get (told_by bs c) t ≡ option_map (table_at bs) o
  told_at bs o e = slice_get-map (table_at bs) (take c.count c.tables) t ∙ ap (option_map (table_at bs)) (sym e)

-- what is asked of the table that lies at o, or of none
module _ (bs : List ℕ) (c : Catalog) (t : ℕ) (o : Option Layout) (e : o ≡ layout_of c t) where
  pub name_by : name_asked (told_by bs c) t ≡ chained (option_map (table_at bs) o) (λ n. then_some (lawful_name n.name) n.name)
  unfolding name_asked
  name_by = ap (λ (x : Option Named). chained x (λ n. then_some (lawful_name n.name) n.name)) (told_at c t bs o e)

  pub width_by : width_asked (told_by bs c) t ≡ option_map (λ l. l.width) o
  unfolding width_asked headings_at
  width_by = ap (option_map (λ n. length n.table.headings)) (told_at c t bs o e) ∙ widths o
    where
      widths : (o : Option Layout) → option_map (λ n. length n.table.headings) (option_map (table_at bs) o) ≡ option_map (λ l. l.width) o
      widths None = refl
      widths (Some l) = ap Some (length-map-range_with_len (λ k. heading_at bs (l.at + 17 + 18 * k)) 0 l.width)

  pub count_by : count_asked (told_by bs c) t ≡ option_map (λ l. l.rows) o
  unfolding count_asked rows_at
  count_by = ap (λ (x : Option Named). chained x (λ n. row_count n.table.body)) (told_at c t bs o e) ∙ counts o
    where
      counts : (o : Option Layout) → chained (option_map (table_at bs) o) (λ n. row_count n.table.body) ≡ option_map (λ l. l.rows) o
      counts None = refl
      counts (Some l) = ap Some (length-map-range_with_len (λ i. cells_at bs (cells_from l.at l.width + 17 * (l.width * i)) l.width) 0 l.rows)

  pub column_by : (i : ℕ) → column_asked (told_by bs c) t i ≡ chained (option_map (table_at bs) o) (λ n. chained (slice_get n.table.headings i) (λ h. then_some (lawful_name h.name) h))
  unfolding column_asked
  column_by i = ap (λ (x : Option Named). chained x (λ n. chained (slice_get n.table.headings i) (λ h. then_some (lawful_name h.name) h))) (told_at c t bs o e)

  pub cell_by_lem : (r k : ℕ) → cell_asked (told_by bs c) t r k ≡ chained (option_map (table_at bs) o) (λ n. cell_in n.table.body r k)
  unfolding cell_asked
  cell_by_lem r k = ap (λ (x : Option Named). chained x (λ n. cell_in n.table.body r k)) (told_at c t bs o e)

module _ (bs : List ℕ) where
  pub heading_here : (at n i : ℕ) → i < n → slice_get (headings_at bs at n) i ≡ Some (heading_at bs (at + 18 * i))
  unfolding headings_at
  heading_here at n i h = nth_counted (λ k. heading_at bs (at + 18 * k)) n i h

  pub heading_past : (at n i : ℕ) → n ≤ i → slice_get (headings_at bs at n) i ≡ None
  unfolding headings_at
  heading_past at n i h = nth_counted_past (λ k. heading_at bs (at + 18 * k)) n i h

  pub row_past : (at w n r : ℕ) → n ≤ r → slice_get (rows_at bs at w n) r ≡ None
  unfolding rows_at
  row_past at w n r h = nth_counted_past (λ i. cells_at bs (at + 17 * (w * i)) w) n r h

  row_here : (at w n r : ℕ) → r < n → slice_get (rows_at bs at w n) r ≡ Some (cells_at bs (at + 17 * (w * r)) w)
  unfolding rows_at
  row_here at w n r h = nth_counted (λ i. cells_at bs (at + 17 * (w * i)) w) n r h

  cells_past : (at w k : ℕ) → w ≤ k → slice_get (cells_at bs at w) k ≡ None
  unfolding cells_at
  cells_past at w k h = nth_counted_past (λ j. cell_at bs (at + 17 * j)) w k h

  cells_here : (at w k : ℕ) → k < w → slice_get (cells_at bs at w) k ≡ Some (cell_at bs (at + 17 * k))
  unfolding cells_at
  cells_here at w k h = nth_counted (λ j. cell_at bs (at + 17 * j)) w k h

  pub cell_no_row : (at w n r k : ℕ) → n ≤ r → chained (slice_get (rows_at bs at w n) r) (λ cs. slice_get cs k) ≡ None
  cell_no_row at w n r k h = ap (λ o. chained o (λ cs. slice_get cs k)) (row_past at w n r h)

  pub cell_no_column : (at w n r k : ℕ) → r < n → w ≤ k → chained (slice_get (rows_at bs at w n) r) (λ cs. slice_get cs k) ≡ None
  cell_no_column at w n r k h l =
      ap (λ o. chained o (λ cs. slice_get cs k)) (row_here at w n r h) ∙ cells_past (at + 17 * (w * r)) w k l

  pub cell_here : (at w n r k : ℕ) → r < n → k < w → chained (slice_get (rows_at bs at w n) r) (λ cs. slice_get cs k) ≡ Some (cell_at bs (at + 17 * (w * r + k)))
  cell_here at w n r k h l =
      let e : at + 17 * (w * r) + 17 * k ≡ at + 17 * (w * r + k) = omega arith in
      ap (λ o. chained o (λ cs. slice_get cs k)) (row_here at w n r h) ∙ (cells_here (at + 17 * (w * r)) w k l ∙ ap (λ p. Some (cell_at bs p)) e)

-- a value under a test
pub mapped_when : {X Y : Type 0} (f : X → Y) (b : Bool) (x : X) → option_map f (then_some b x) ≡ then_some b (f x)
mapped_when f true x = refl
mapped_when f false x = refl

-- a column of which the name is read, and the type's byte at a place
abbrev pub heading_read : List ℕ → ℕ → List ℕ → Heading
heading_read bs p n = record { name = n; holds = type_at (get_or bs p 0) }

module _ (bs : List ℕ) (c : Catalog) (t : ℕ) (l : Layout) (e : Some l ≡ layout_of c t) where
  pub column_here : (i : ℕ) → i < l.width → column_asked (told_by bs c) t i ≡ (let h = heading_at bs (l.at + 17 + 18 * i) in then_some (lawful_name h.name) h)
  column_here i h =
      column_by bs c t (Some l) e i ∙
      ap (λ (o : Option Heading). chained o (λ h. then_some (lawful_name h.name) h)) (heading_here bs (l.at + 17) l.width i h)

  pub column_read : (i : ℕ) → i < l.width → (o : Option (List ℕ)) → o ≡ (let n = slice_at bs (l.at + 17 + 18 * i + 1) 16 in then_some (lawful_name n) n) → option_map (heading_read bs (l.at + 17 + 18 * i + 17)) o ≡ column_asked (told_by bs c) t i
  column_read i h o k =
      let n = slice_at bs (l.at + 17 + 18 * i + 1) 16 in
      ap (option_map (heading_read bs (l.at + 17 + 18 * i + 17))) k ∙ (mapped_when (heading_read bs (l.at + 17 + 18 * i + 17)) (lawful_name n) n ∙ sym (column_here i h))

  pub column_past : (i : ℕ) → l.width ≤ i → column_asked (told_by bs c) t i ≡ None
  column_past i h =
      column_by bs c t (Some l) e i ∙
      ap (λ (o : Option Heading). chained o (λ h. then_some (lawful_name h.name) h)) (heading_past bs (l.at + 17) l.width i h)

  pub cell_found : (r k : ℕ) → r < l.rows → k < l.width → cell_asked (told_by bs c) t r k ≡ Some (cell_at bs (cells_from l.at l.width + 17 * (l.width * r + k)))
  cell_found r k h m =
      cell_by_lem bs c t (Some l) e r k ∙ cell_here bs (cells_from l.at l.width) l.width l.rows r k h m

  pub cell_past : (r k : ℕ) → (l.rows ≤ r) ⊎ ((r < l.rows) × (l.width ≤ k)) → cell_asked (told_by bs c) t r k ≡ None
  cell_past r k (inl h) =
      cell_by_lem bs c t (Some l) e r k ∙ cell_no_row bs (cells_from l.at l.width) l.width l.rows r k h
  cell_past r k (inr h) =
      cell_by_lem bs c t (Some l) e r k ∙ cell_no_column bs (cells_from l.at l.width) l.width l.rows r k h.0 h.1

-- where a cell is to be read: a table's rows are few enough for the offset to be a number of 48 bits
pub offset_below : (at w n r k : ℕ) → at < 2 ^ 32 → w < 256 → n < 2 ^ 32 → r < n → k < w → at + 17 + 18 * w + 17 * (w * r + k) < 2 ^ 48
offset_below at w n r k a b c d e =
    let m : w * r ≤ 255 * r = mul-le-mul_right r (let h : w ≤ 255 = omega arith in h) in
    omega arith
