-- The checker takes an end just as the reading does. Assumes nothing.
use Rattle.std.proofs.Common.{◌≡◌, ℕ, ◌+◌, ◌*◌, ◌<◌, ◌≤◌, Bool, true, false, ◌||◌, eqb, ltb, ◌⊎◌, List, [], ◌∷◌, ◌++◌, length, get_or, take, drop, set, sym, refl, ap, ◌∙◌, subst, ap₂, inl, inr, mul-zero, arith}
use Rattle.std.proofs.lemmas.Nat.{mul-le}
use Rattle.std.proofs.ByRecursion.{All-push}
use Rattle.std.proofs.lemmas.List.{take_more_set}
use Rattle.std.proofs.lemmas.Bool.{eq-eqb, ne_eqb, lt-ltb}
use Rattle.std.specs.List.{AllByRecursion}
use Rattle.std.proofs.Math.Bool.{or-false}
use Rattle.batches.specs.Checking.{InTable, Placed, row_from, step_at}
use Rattle.batches.specs.Layouts.{Lies, cells_from, headings_at, cells_at, rows_at, slice_at, table_at, told_by}
use Rattle.batches.specs.Reading.{State, goes, stops, may_stand, ending, between}
use Rattle.batches.specs.declared.checker.Begun.{Begun}
use Rattle.batches.specs.declared.checker.Progress.{Progress}
use Rattle.batches.specs.declared.checker.Stage.TheVariants.{Columns, Cells}
use Rattle.batches.specs.declared.layout.Layout.{Layout}
use Rattle.batches.proofs.Stages.{placed_in, state_at, step_is, length_headings, length_cells, no_cell_end}
use Rattle.batches.proofs.StepBy.{byte_refused, taken_on}

-- an end may stand where there are columns and no row is begun
columns_end : (bs : List ℕ) (c : Progress) (t : Begun) (b : Bool) → ltb 0 t.columns ≡ b → may_stand (state_at bs c (Columns t)) 0x7F ≡ b
columns_end bs c t b h =
    ap₂ (λ (x y : Bool). x || y) (ap (ltb 0) (length_headings bs (t.at + 17) t.columns) ∙ h) (no_cell_end (headings_at bs (t.at + 17) t.columns) 0) ∙ or-false b

cells_end : (bs : List ℕ) (c : Progress) (t : Begun) (b : Bool) → eqb t.cells 0 ≡ b → may_stand (state_at bs c (Cells t)) 0x7F ≡ b
cells_end bs c t b h =
    ap₂ (λ (x y : Bool). x || y) (ap (λ (n : ℕ). eqb n 0) (length_cells bs (row_from t) t.cells) ∙ h) (no_cell_end (headings_at bs (t.at + 17) t.columns) (length (cells_at bs (row_from t) t.cells))) ∙ or-false b

-- the layout of the table that ends
abbrev pub closing : Begun → Layout
closing t = record { at = t.at; width = t.columns; rows = t.rows }

module _ (bs : List ℕ) (c : Progress) (t : Begun) (p : Placed bs c) where
  pub end_refused : InTable t c.stage → get_or bs c.pos 0 ≡ 0x7F → (t.columns ≡ 0) ⊎ (t.cells ≡ 0 → ⊥) → step_at bs c ≡ stops c.pos
  end_refused (inl q) b (inl z) =
      step_is bs c (Columns t) 0x7F q b ∙ byte_refused (state_at bs c (Columns t)) c.pos 0x7F (drop (c.pos + 1) bs) (columns_end bs c t false (ap (ltb 0) z))
  end_refused (inl q) b (inr n) = absurd (n (placed_in bs c (Columns t) q p).3)
  end_refused (inr q) b (inl z) = let s = placed_in bs c (Cells t) q p in absurd (omega arith)
  end_refused (inr q) b (inr n) =
      step_is bs c (Cells t) 0x7F q b ∙ byte_refused (state_at bs c (Cells t)) c.pos 0x7F (drop (c.pos + 1) bs) (cells_end bs c t false (ne_eqb t.cells 0 n))

  named : ℕ → State
  named m =
      ending (told_by bs c.catalog) (slice_at bs (t.at + 1) 16) (headings_at bs (t.at + 17) t.columns) (rows_at bs (cells_from t.at t.columns) t.columns m)

  pub end_taken : InTable t c.stage → get_or bs c.pos 0 ≡ 0x7F → (t.columns ≡ 0 → ⊥) → t.cells ≡ 0 → step_at bs c ≡ goes (record { done = told_by bs c.catalog ++ table_at bs (closing t) ∷ []; stage = between }) 0
  unfolding rows_at named
  end_taken (inl q) b n z =
      step_is bs c (Columns t) 0x7F q b ∙
      (taken_on (state_at bs c (Columns t)) c.pos 0x7F (drop (c.pos + 1) bs) (named 0) (columns_end bs c t true (lt-ltb 0 t.columns (omega arith))) (omega arith) refl ∙
      ap (λ (m : ℕ). goes (named m) 0) (sym (placed_in bs c (Columns t) q p).2))
  end_taken (inr q) b n z =
      step_is bs c (Cells t) 0x7F q b ∙
      taken_on (state_at bs c (Cells t)) c.pos 0x7F (drop (c.pos + 1) bs) (named t.rows) (cells_end bs c t true (eq-eqb t.cells 0 z)) (omega arith) refl

  -- the rows of a table in progress are few
  pub rows_few : InTable t c.stage → (t.columns ≡ 0 → ⊥) → t.rows ≤ length bs
  rows_few (inl q) n = let s = placed_in bs c (Columns t) q p in omega arith
  rows_few (inr q) n =
      let s = placed_in bs c (Cells t) q p in
      let w = p.within in
      let m : 1 * t.rows ≤ t.columns * t.rows = mul-le 1 t.rows t.columns t.rows (omega arith) (omega arith) in
      omega arith

  -- and it lies within the bytes
  pub closing_lies : InTable t c.stage → c.pos < length bs → t.cells ≡ 0 → Lies bs (closing t)
  closing_lies (inl q) l z =
      let s = placed_in bs c (Columns t) q p in
      let m : t.columns * t.rows ≡ 0 = ap (λ (k : ℕ). t.columns * k) s.2 ∙ mul-zero t.columns in
      record { lies = omega arith }
  closing_lies (inr q) l z = let s = placed_in bs c (Cells t) q p in record { lies = omega arith }

  -- a table in progress leaves room in the catalog
  pub room_left : InTable t c.stage → c.catalog.count < 8
  room_left (inl q) = (placed_in bs c (Columns t) q p).4
  room_left (inr q) = (placed_in bs c (Cells t) q p).3

pub inside_more : (bs : List ℕ) (ls : List Layout) (n : ℕ) (l : Layout) → n < length ls → AllByRecursion (Lies bs) (take n ls) → Lies bs l → AllByRecursion (Lies bs) (take (n + 1) (set ls n l))
inside_more bs ls n l h p q = subst (AllByRecursion (Lies bs)) (sym (take_more_set ls n l h)) (All-push (Lies bs) (take n ls) l p q)
