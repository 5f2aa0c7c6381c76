-- Bytes that no stage takes. Assumes nothing.
use Rattle.std.proofs.Common.{◌≡◌, ℕ, ◌+◌, Bool, true, false, ◌&&◌, ◌||◌, eqb, ltb, List, length, get_or, drop, refl, ap, ◌∙◌, ap₂, arith}
use Rattle.std.proofs.lemmas.Bool.{cond-false, ne_eqb}
use Rattle.values.specs.Codes.{byte_fits}
use Rattle.values.specs.declared.kinds.ColumnType.{ColumnType}
use Rattle.values.specs.declared.kinds.ColumnType.TheVariants.{Integer, Real, Text}
use Rattle.batches.specs.Checking.{CellByte, row_from, step_at}
use Rattle.batches.specs.Layouts.{cells_at, headings_at, told_by}
use Rattle.batches.specs.Reading.{stops, cell_may}
use Rattle.batches.specs.declared.checker.Begun.{Begun}
use Rattle.batches.specs.declared.checker.Progress.{Progress}
use Rattle.batches.specs.declared.checker.Stage.TheVariants.{Between, Columns, Cells}
use Rattle.batches.proofs.Stages.{state_at, step_is, no_cell}
use Rattle.batches.proofs.StepBy.{byte_refused}

not_fitting : (b : ℕ) → (CellByte b → ⊥) → (t : ColumnType) → byte_fits t b ≡ false
unfolding byte_fits
not_fitting b n Integer =
    cond-false (eqb b 0x10) true (eqb b 0x11) (ne_eqb b 0x10 (λ e. n (omega arith, omega arith))) ∙ ne_eqb b 0x11 (λ e. n (omega arith, omega arith))
not_fitting b n Real =
    cond-false (eqb b 0x10) true (eqb b 0x12) (ne_eqb b 0x10 (λ e. n (omega arith, omega arith))) ∙ ne_eqb b 0x12 (λ e. n (omega arith, omega arith))
not_fitting b n Text =
    cond-false (eqb b 0x10) true (eqb b 0x13) (ne_eqb b 0x10 (λ e. n (omega arith, omega arith))) ∙ ne_eqb b 0x13 (λ e. n (omega arith, omega arith))

module _ (bs : List ℕ) (c : Progress) where
  -- between tables only a table's command
  pub no_table : c.stage ≡ Between → (get_or bs c.pos 0 ≡ 0x01 → ⊥) → step_at bs c ≡ stops c.pos
  no_table q n =
      step_is bs c Between (get_or bs c.pos 0) q refl ∙
      byte_refused (state_at bs c Between) c.pos (get_or bs c.pos 0) (drop (c.pos + 1) bs) (ap (λ (t : Bool). t && ltb (length (told_by bs c.catalog)) 8) (ne_eqb (get_or bs c.pos 0) 0x01 n))

  -- after columns only a column's, a cell's or an end
  pub no_column : (t : Begun) → c.stage ≡ Columns t → (get_or bs c.pos 0 ≡ 0x02 → ⊥) → (get_or bs c.pos 0 ≡ 0x7F → ⊥) → (CellByte (get_or bs c.pos 0) → ⊥) → step_at bs c ≡ stops c.pos
  no_column t q n m k =
      let b = get_or bs c.pos 0 in
      let hs = headings_at bs (t.at + 17) t.columns in
      step_is bs c (Columns t) b q refl ∙
      byte_refused (state_at bs c (Columns t)) c.pos b (drop (c.pos + 1) bs)
      (ap₂ (λ (x y : Bool). (x && ltb (length hs) 8) || ((y && ltb 0 (length hs)) || cell_may hs 0 b)) (ne_eqb b 0x02 n) (ne_eqb b 0x7F m) ∙ no_cell b (not_fitting b k) hs 0)

  -- after cells only a cell's or an end
  pub no_cell_or_end : (t : Begun) → c.stage ≡ Cells t → (get_or bs c.pos 0 ≡ 0x7F → ⊥) → (CellByte (get_or bs c.pos 0) → ⊥) → step_at bs c ≡ stops c.pos
  no_cell_or_end t q m k =
      let b = get_or bs c.pos 0 in
      let hs = headings_at bs (t.at + 17) t.columns in
      let cs = cells_at bs (row_from t) t.cells in
      step_is bs c (Cells t) b q refl ∙
      byte_refused (state_at bs c (Cells t)) c.pos b (drop (c.pos + 1) bs)
      (ap (λ (x : Bool). (x && eqb (length cs) 0) || cell_may hs (length cs) b) (ne_eqb b 0x7F m) ∙ no_cell b (not_fitting b k) hs (length cs))
