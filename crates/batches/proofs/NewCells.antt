-- The checker takes a cell just as the reading does. Assumes nothing.
use Rattle.std.proofs.Common.{◌≡◌, ℕ, zero, suc, ◌+◌, ◌-◌, ◌*◌, ◌<◌, ◌≤◌, Bool, true, false, ◌&&◌, ◌||◌, eqb, ltb, List, [], ◌∷◌, ◌++◌, length, get_or, take, drop, Some, None, Option, unwrap_or, sym, refl, ap, ◌∙◌, subst, ap₂, inl, inr, mul-zero, mul-one, mul-add, arith}
use Rattle.std.proofs.lemmas.List.FromFn.{get_or-map-range_with_len}
use Rattle.std.proofs.lemmas.List.{drop_more, length-drop}
use Rattle.std.proofs.lemmas.Bool.{cond-false, cond-true, eq-eqb, ne_eqb}
use Rattle.values.specs.Cells.{Cell, null}
use Rattle.values.specs.Codes.{byte_fits, decoded}
use Rattle.values.specs.declared.kinds.ColumnType.{ColumnType}
use Rattle.batches.specs.Checking.{CellByte, InTable, Placed, PlacedAt, row_from, state_of, step_at}
use Rattle.batches.specs.Format.{operand_length}
use Rattle.batches.specs.Layouts.{cell_at, cells_at, cells_from, heading_at, headings_at, rows_at, slice_at, told_by, type_at}
use Rattle.batches.specs.Reading.{Stage, cells, State, goes, stops, step, may_stand, after, after_cell, with_cell, cell_may}
use Rattle.batches.specs.Tables.{Heading}
use Rattle.batches.specs.declared.checker.Begun.{Begun}
use Rattle.batches.specs.declared.checker.Progress.{Progress}
use Rattle.batches.specs.declared.checker.Stage.{Stage as Expects}
use Rattle.batches.specs.declared.checker.Stage.TheVariants.{Cells}
use Rattle.batches.proofs.Commands.{cell_operand, fits_is_cell}
use Rattle.batches.proofs.Stages.{state_at, step_is, length_headings, length_cells, cells_more, rows_more, bytes_left}
use Rattle.batches.proofs.StepBy.{byte_refused, cut_short, operand_refused, taken_on}

-- a cell's command under a heading that there is not, and under one that there is
may_past : (hs : List Heading) (k b : ℕ) → length hs ≤ k → cell_may hs k b ≡ false
may_past [] k b h = refl
may_past (g ∷ hs) zero b h = absurd (omega arith)
may_past (g ∷ hs) (suc k) b h = may_past hs k b (omega arith)

may_under : (hs : List Heading) (k b : ℕ) (d : Heading) → k < length hs → cell_may hs k b ≡ byte_fits (get_or hs k d).holds b
may_under [] k b d h = absurd (omega arith)
may_under (g ∷ hs) zero b d h = refl
may_under (g ∷ hs) (suc k) b d h = may_under hs k b d (omega arith)

-- the type of the column that the next cell stands in
abbrev pub next_type : List ℕ → Begun → ColumnType
next_type bs t = type_at (get_or bs (t.at + 17 + 18 * t.cells + 17) 0)

may_next : (bs : List ℕ) (t : Begun) (b : ℕ) → t.cells < t.columns → cell_may (headings_at bs (t.at + 17) t.columns) t.cells b ≡ byte_fits (next_type bs t) b
unfolding headings_at
may_next bs t b h =
    let d = heading_at bs 0 in
    let at = t.at + 17 in
    may_under (headings_at bs at t.columns) t.cells b d (rw (length_headings bs at t.columns) h) ∙
    (ap (λ (g : Heading). byte_fits g.holds b) (get_or-map-range_with_len (λ k. heading_at bs (at + 18 * k)) 0 t.columns t.cells t.cells d h (omega arith)) ∙
    ap (λ (k : ℕ). byte_fits (type_at (get_or bs k 0)) b) (omega arith))

-- whether a cell's command may stand, and what it leads to, in either stage of a table
may_cell : (bs : List ℕ) (c : Progress) (t : Begun) (e : Expects) (b : ℕ) → PlacedAt c e → InTable t e → CellByte b → may_stand (state_at bs c e) b ≡ cell_may (headings_at bs (t.at + 17) t.columns) t.cells b
may_cell bs c t e b s (inl q) k =
    let r = subst (PlacedAt c) q s in
    let hs = headings_at bs (t.at + 17) t.columns in
    ap (λ x. may_stand (state_at bs c x) b) q ∙
    (ap₂ (λ (x y : Bool). (x && ltb (length hs) 8) || ((y && ltb 0 (length hs)) || cell_may hs 0 b)) (ne_eqb b 0x02 (omega arith)) (ne_eqb b 0x7F (omega arith)) ∙
    ap (λ (n : ℕ). cell_may hs n b) (sym r.3))
may_cell bs c t e b s (inr q) k =
    let hs = headings_at bs (t.at + 17) t.columns in
    let cs = cells_at bs (row_from t) t.cells in
    ap (λ x. may_stand (state_at bs c x) b) q ∙
    (ap (λ (x : Bool). (x && eqb (length cs) 0) || cell_may hs (length cs) b) (ne_eqb b 0x7F (omega arith)) ∙
    ap (λ (n : ℕ). cell_may hs n b) (length_cells bs (row_from t) t.cells))

abbrev after_by : List ℕ → Progress → Begun → ℕ → ℕ → Option Cell → Option State
after_by bs c t n k o =
    after_cell (told_by bs c.catalog) (slice_at bs (t.at + 1) 16) (headings_at bs (t.at + 17) t.columns) (rows_at bs (cells_from t.at t.columns) t.columns n) (cells_at bs (row_from t) k) o

after_cell_lem : (bs : List ℕ) (c : Progress) (t : Begun) (e : Expects) (b : ℕ) (os : List ℕ) → PlacedAt c e → InTable t e → CellByte b → after (state_at bs c e) b os ≡ after_by bs c t t.rows t.cells (decoded (b ∷ os))
unfolding rows_at cells_at
after_cell_lem bs c t e b os s (inl q) k =
    let r = subst (PlacedAt c) q s in
    ap (λ x. after (state_at bs c x) b os) q ∙
    (cond-false (eqb b 0x02) _ _ (ne_eqb b 0x02 (omega arith)) ∙
    (cond-false (eqb b 0x7F) _ _ (ne_eqb b 0x7F (omega arith)) ∙
    ap₂ (λ (n m : ℕ). after_by bs c t n m (decoded (b ∷ os))) (sym r.2) (sym r.3)))
after_cell_lem bs c t e b os s (inr q) k =
    ap (λ x. after (state_at bs c x) b os) q ∙ cond-false (eqb b 0x7F) _ _ (ne_eqb b 0x7F (omega arith))

-- the position is that of the next cell
place : (c : Progress) (t : Begun) (e : Expects) → PlacedAt c e → InTable t e → c.pos ≡ row_from t + 17 * t.cells
place c t e s (inl q) =
    let r = subst (PlacedAt c) q s in
    let m : t.columns * t.rows ≡ 0 = ap (λ (k : ℕ). t.columns * k) r.2 ∙ mul-zero t.columns in
    omega arith
place c t e s (inr q) = (subst (PlacedAt c) q s).0

limits : (c : Progress) (t : Begun) (e : Expects) → PlacedAt c e → InTable t e → (t.columns ≤ 8) × (c.catalog.count < 8)
limits c t e s (inl q) = let r = subst (PlacedAt c) q s in (r.1, r.4)
limits c t e s (inr q) = let r = subst (PlacedAt c) q s in (r.1, r.3)

slice_cons : (bs : List ℕ) (pos : ℕ) → pos < length bs → slice_at bs pos 17 ≡ get_or bs pos 0 ∷ take 16 (drop (pos + 1) bs)
slice_cons bs pos h = ap (take 17) (drop_more bs pos 0 h)

cell_is : (bs : List ℕ) (pos : ℕ) (d : Cell) → decoded (slice_at bs pos 17) ≡ Some d → cell_at bs pos ≡ d
unfolding cell_at
cell_is bs pos d e = ap (λ (o : Option Cell). unwrap_or o null) e

-- the progress after a cell that leaves its row open, and after one that fills it
abbrev pub with_cell_more : Progress → Begun → Progress
with_cell_more c t =
    record {
      stage = Cells (record { at = t.at; columns = t.columns; rows = t.rows; cells = t.cells + 1 });
      pos = c.pos + 17;
      catalog = c.catalog;
    }

abbrev pub with_row : Progress → Begun → Progress
with_row c t =
    record {
      stage = Cells (record { at = t.at; columns = t.columns; rows = t.rows + 1; cells = 0 });
      pos = c.pos + 17;
      catalog = c.catalog;
    }

module _ (bs : List ℕ) (c : Progress) (t : Begun) (p : Placed bs c) (u : InTable t c.stage) (k : CellByte (get_or bs c.pos 0)) (l : c.pos < length bs) where
  abbrev byte : ℕ
  byte = get_or bs c.pos 0

  may : may_stand (state_at bs c c.stage) (get_or bs c.pos 0) ≡ cell_may (headings_at bs (t.at + 17) t.columns) t.cells (get_or bs c.pos 0)
  may = may_cell bs c t c.stage (get_or bs c.pos 0) p.stands u k

  at_stage : step_at bs c ≡ step (state_at bs c c.stage) c.pos (get_or bs c.pos 0) (drop (c.pos + 1) bs)
  at_stage = step_is bs c c.stage (get_or bs c.pos 0) refl refl

  pub cell_past : t.columns ≤ t.cells → step_at bs c ≡ stops c.pos
  cell_past h =
      at_stage ∙
      byte_refused (state_at bs c c.stage) c.pos (get_or bs c.pos 0) (drop (c.pos + 1) bs) (may ∙ may_past (headings_at bs (t.at + 17) t.columns) t.cells (get_or bs c.pos 0) (rw (length_headings bs (t.at + 17) t.columns) h))

  pub cell_of_other_type : t.cells < t.columns → byte_fits (next_type bs t) (get_or bs c.pos 0) ≡ false → step_at bs c ≡ stops c.pos
  cell_of_other_type h f =
      at_stage ∙
      byte_refused (state_at bs c c.stage) c.pos (get_or bs c.pos 0) (drop (c.pos + 1) bs) (may ∙ (may_next bs t (get_or bs c.pos 0) h ∙ f))

  module _ (h : t.cells < t.columns) (f : byte_fits (next_type bs t) (get_or bs c.pos 0) ≡ true) where
    may_here : may_stand (state_at bs c c.stage) (get_or bs c.pos 0) ≡ true
    may_here = may ∙ (may_next bs t (get_or bs c.pos 0) h ∙ f)

    sixteen : operand_length (get_or bs c.pos 0) ≡ 16
    sixteen = cell_operand (fits_is_cell (next_type bs t) (get_or bs c.pos 0) f)

    pub cell_cut : length bs - c.pos < 17 → step_at bs c ≡ stops (length bs)
    cell_cut s =
        at_stage ∙
        (cut_short (state_at bs c c.stage) c.pos (get_or bs c.pos 0) (drop (c.pos + 1) bs) may_here (rw (sixteen, length-drop) (omega arith)) ∙
        ap stops (bytes_left bs c.pos l))

    module _ (s : 17 ≤ length bs - c.pos) where
      whole : operand_length (get_or bs c.pos 0) ≤ length (drop (c.pos + 1) bs)
      whole = rw (sixteen, length-drop) (omega arith)

      after_is : (o : Option Cell) → decoded (slice_at bs c.pos 17) ≡ o → after (state_at bs c c.stage) (get_or bs c.pos 0) (take (operand_length (get_or bs c.pos 0)) (drop (c.pos + 1) bs)) ≡ after_by bs c t t.rows t.cells o
      after_is o e =
          ap (λ (n : ℕ). after (state_at bs c c.stage) (get_or bs c.pos 0) (take n (drop (c.pos + 1) bs))) sixteen ∙
          (after_cell_lem bs c t c.stage (get_or bs c.pos 0) (take 16 (drop (c.pos + 1) bs)) p.stands u k ∙
          ap (after_by bs c t t.rows t.cells) (sym (ap decoded (slice_cons bs c.pos l)) ∙ e))

      pub cell_unlawful : decoded (slice_at bs c.pos 17) ≡ None → step_at bs c ≡ stops c.pos
      cell_unlawful e =
          at_stage ∙ operand_refused (state_at bs c c.stage) c.pos (get_or bs c.pos 0) (drop (c.pos + 1) bs) may_here whole (after_is None e)

      -- the row in progress with the cell
      row_more : (d : Cell) → decoded (slice_at bs c.pos 17) ≡ Some d → cells_at bs (row_from t) t.cells ++ d ∷ [] ≡ cells_at bs (row_from t) (t.cells + 1)
      row_more d e =
          sym (cells_more bs (row_from t) t.cells ∙ ap (λ (x : Cell). cells_at bs (row_from t) t.cells ++ x ∷ []) (ap (cell_at bs) (sym (place c t c.stage p.stands u)) ∙ cell_is bs c.pos d e))

      abbrev stage_with : List Cell → Stage
      stage_with cs =
          with_cell (slice_at bs (t.at + 1) 16) (headings_at bs (t.at + 17) t.columns) (rows_at bs (cells_from t.at t.columns) t.columns t.rows) cs

      goes_by : (d : Cell) → decoded (slice_at bs c.pos 17) ≡ Some d → step_at bs c ≡ goes (record { done = told_by bs c.catalog; stage = stage_with (cells_at bs (row_from t) (t.cells + 1)) }) 16
      goes_by d e =
          at_stage ∙
          (taken_on (state_at bs c c.stage) c.pos (get_or bs c.pos 0) (drop (c.pos + 1) bs) (record { done = told_by bs c.catalog; stage = stage_with (cells_at bs (row_from t) t.cells ++ d ∷ []) }) may_here whole (after_is (Some d) e) ∙
          ap₂ (λ (cs : List Cell) (n : ℕ). goes (record { done = told_by bs c.catalog; stage = stage_with cs }) n) (row_more d e) sixteen)

      width_test : (b : Bool) → eqb (t.cells + 1) t.columns ≡ b → eqb (length (cells_at bs (row_from t) (t.cells + 1))) (length (headings_at bs (t.at + 17) t.columns)) ≡ b
      width_test b e = ap₂ eqb (length_cells bs (row_from t) (t.cells + 1)) (length_headings bs (t.at + 17) t.columns) ∙ e

      pub cell_taken : (d : Cell) → decoded (slice_at bs c.pos 17) ≡ Some d → t.cells + 1 < t.columns → step_at bs c ≡ goes (state_of bs (with_cell_more c t)) 16
      unfolding state_of
      cell_taken d e n =
          goes_by d e ∙
          ap (λ (x : Stage). goes (record { done = told_by bs c.catalog; stage = x }) 16) (cond-false _ _ _ (width_test false (ne_eqb (t.cells + 1) t.columns (omega arith))))

      pub row_taken : (d : Cell) → decoded (slice_at bs c.pos 17) ≡ Some d → t.columns ≤ t.cells + 1 → step_at bs c ≡ goes (state_of bs (with_row c t)) 16
      unfolding state_of cells_at
      row_taken d e n =
          let w : t.cells + 1 ≡ t.columns = omega arith in
          let rs = rows_at bs (cells_from t.at t.columns) t.columns t.rows in
          goes_by d e ∙
          ap (λ (x : Stage). goes (record { done = told_by bs c.catalog; stage = x }) 16)
          (cond-true _ _ _ (width_test true (eq-eqb (t.cells + 1) t.columns w)) ∙
          ap (λ (xs : List (List Cell)). cells (slice_at bs (t.at + 1) 16) (headings_at bs (t.at + 17) t.columns) xs []) (ap (λ (m : ℕ). rs ++ cells_at bs (row_from t) m ∷ []) w ∙ sym (rows_more bs (cells_from t.at t.columns) t.columns t.rows)))

      pub cell_placed : t.cells + 1 < t.columns → Placed bs (with_cell_more c t)
      cell_placed n =
          let m = limits c t c.stage p.stands u in
          let q = place c t c.stage p.stands u in
          record { within = omega arith; inside = p.inside; stands = (omega arith, m.0, n, m.1) }

      pub row_placed : t.columns ≤ t.cells + 1 → Placed bs (with_row c t)
      row_placed n =
          let m = limits c t c.stage p.stands u in
          let q = place c t c.stage p.stands u in
          let r : t.columns * (t.rows + 1) ≡ t.columns * t.rows + t.columns = mul-add t.columns t.rows 1 ∙ ap (λ (x : ℕ). t.columns * t.rows + x) (mul-one t.columns) in
          record { within = omega arith; inside = p.inside; stands = (omega arith, m.0, omega arith, m.1) }
