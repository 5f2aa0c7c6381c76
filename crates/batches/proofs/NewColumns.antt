-- The checker takes a column just as the reading does. Assumes nothing.
use Rattle.std.proofs.Common.{◌≡◌, ℕ, ◌+◌, ◌-◌, ◌<◌, ◌≤◌, Bool, true, false, cond, ◌||◌, eqb, ltb, ◌⊎◌, List, [], ◌∷◌, ◌++◌, length, get_or, take, drop, Some, None, Option, sym, refl, ap, ◌∙◌, ap₂, inl, inr, arith}
use Rattle.std.proofs.lemmas.List.{get_or-drop, get_or-take, length-drop, take-take}
use Rattle.std.proofs.lemmas.Bool.{le-ltb, lt-ltb}
use Rattle.values.specs.Codes.{type_of}
use Rattle.values.specs.Names.{lawful_name}
use Rattle.values.specs.declared.kinds.ColumnType.{ColumnType}
use Rattle.values.specs.declared.kinds.ColumnType.TheVariants.{Integer, Real, Text}
use Rattle.std.proofs.Math.Bool.{or-false}
use Rattle.batches.specs.Checking.{Placed, state_of, step_at}
use Rattle.batches.specs.Layouts.{cells_from, heading_at, headings_at, slice_at, told_by, type_at}
use Rattle.batches.specs.Reading.{State, goes, stops, may_stand, after, columns, with_type}
use Rattle.batches.specs.Tables.{Heading, Told}
use Rattle.batches.specs.declared.checker.Begun.{Begun}
use Rattle.batches.specs.declared.checker.Progress.{Progress}
use Rattle.batches.specs.declared.checker.Stage.TheVariants.{Columns}
use Rattle.batches.proofs.Stages.{placed_in, state_at, state_is, step_is, length_headings, headings_more, no_cell_column, bytes_left}
use Rattle.batches.proofs.StepBy.{byte_refused, cut_short, operand_refused, taken_on}

may_column : (bs : List ℕ) (c : Progress) (t : Begun) (b : Bool) → ltb t.columns 8 ≡ b → may_stand (state_at bs c (Columns t)) 0x02 ≡ b
may_column bs c t b h =
    ap₂ (λ (x y : Bool). x || y) (ap (λ (n : ℕ). ltb n 8) (length_headings bs (t.at + 17) t.columns) ∙ h) (no_cell_column (headings_at bs (t.at + 17) t.columns) 0) ∙ or-false b

-- the operand's name and type, where they stand in the bytes
operand : (bs : List ℕ) (c : Progress) (t : Begun) → after (state_at bs c (Columns t)) 0x02 (take 17 (drop (c.pos + 1) bs)) ≡ with_type (told_by bs c.catalog) (slice_at bs (t.at + 1) 16) (headings_at bs (t.at + 17) t.columns) (slice_at bs (c.pos + 1) 16) (type_of (get_or bs (c.pos + 17) 0))
operand bs c t =
    ap₂ (λ (n : List ℕ) (b : ℕ). with_type (told_by bs c.catalog) (slice_at bs (t.at + 1) 16) (headings_at bs (t.at + 17) t.columns) n (type_of b))
    (take-take 16 17 (drop (c.pos + 1) bs) (omega arith))
    (get_or-take 17 (drop (c.pos + 1) bs) 16 0 (omega arith) ∙ (get_or-drop (c.pos + 1) bs 16 0 ∙ ap (λ (k : ℕ). get_or bs k 0) (omega arith)))

unlawful : (ts : Told) (n : List ℕ) (hs : List Heading) (name : List ℕ) (o : Option ColumnType) → (lawful_name name ≡ false) ⊎ (o ≡ None) → with_type ts n hs name o ≡ None
unlawful ts n hs name None w = refl
unlawful ts n hs name (Some t) (inl f) =
    ap (λ (y : Bool). cond y (Some (record { done = ts; stage = columns n (hs ++ record { name = name; holds = t } ∷ []) })) None) f
unlawful ts n hs name (Some t) (inr e) = absurd (let z : ◌≡◌ {A = ℕ} 0 1 = cc in omega arith)

-- the type's byte is read the same way again
type_again : (b : ℕ) (t : ColumnType) → type_of b ≡ Some t → type_at b ≡ t
type_again b t e = go (eqb b 1) (eqb b 2) (eqb b 3) e
  where
    go : (x y z : Bool) → cond x (Some Integer) (cond y (Some Real) (cond z (Some Text) None)) ≡ Some t → cond x Integer (cond y Real Text) ≡ t
    go true y z e = cc
    go false true z e = cc
    go false false true e = cc
    go false false false e = absurd (let z : ◌≡◌ {A = ℕ} 0 1 = cc in omega arith)

-- the progress after a column
abbrev pub with_column : Progress → Begun → Progress
with_column c t =
    record {
      stage = Columns (record { at = t.at; columns = t.columns + 1; rows = t.rows; cells = t.cells });
      pos = c.pos + 18;
      catalog = c.catalog;
    }

module _ (bs : List ℕ) (c : Progress) (t : Begun) (q : c.stage ≡ Columns t) (b : get_or bs c.pos 0 ≡ 0x02) (l : c.pos < length bs) where
  pub ninth_column : 8 ≤ t.columns → step_at bs c ≡ stops c.pos
  ninth_column h =
      step_is bs c (Columns t) 0x02 q b ∙ byte_refused (state_at bs c (Columns t)) c.pos 0x02 (drop (c.pos + 1) bs) (may_column bs c t false (le-ltb t.columns 8 h))

  pub column_cut : t.columns < 8 → length bs - c.pos < 18 → step_at bs c ≡ stops (length bs)
  column_cut h s =
      step_is bs c (Columns t) 0x02 q b ∙
      (cut_short (state_at bs c (Columns t)) c.pos 0x02 (drop (c.pos + 1) bs) (may_column bs c t true (lt-ltb t.columns 8 h)) (simp length-drop (omega arith)) ∙
      ap stops (bytes_left bs c.pos l))

  whole : 18 ≤ length bs - c.pos → 17 ≤ length (drop (c.pos + 1) bs)
  whole s = simp length-drop (omega arith)

  pub column_unlawful : t.columns < 8 → 18 ≤ length bs - c.pos → (lawful_name (slice_at bs (c.pos + 1) 16) ≡ false) ⊎ (type_of (get_or bs (c.pos + 17) 0) ≡ None) → step_at bs c ≡ stops c.pos
  column_unlawful h s w =
      step_is bs c (Columns t) 0x02 q b ∙
      operand_refused (state_at bs c (Columns t)) c.pos 0x02 (drop (c.pos + 1) bs) (may_column bs c t true (lt-ltb t.columns 8 h)) (whole s) (operand bs c t ∙ unlawful _ _ _ _ (type_of (get_or bs (c.pos + 17) 0)) w)

  pub column_taken : Placed bs c → t.columns < 8 → 18 ≤ length bs - c.pos → lawful_name (slice_at bs (c.pos + 1) 16) ≡ true → (k : ColumnType) → type_of (get_or bs (c.pos + 17) 0) ≡ Some k → step_at bs c ≡ goes (state_of bs (with_column c t)) 17
  column_taken p h s f k e =
      let place : c.pos ≡ cells_from t.at t.columns = (placed_in bs c (Columns t) q p).0 in
      let ts = told_by bs c.catalog in
      let n = slice_at bs (t.at + 1) 16 in
      let hs = headings_at bs (t.at + 17) t.columns in
      let name = slice_at bs (c.pos + 1) 16 in
      step_is bs c (Columns t) 0x02 q b ∙
      (taken_on (state_at bs c (Columns t)) c.pos 0x02 (drop (c.pos + 1) bs) (record { done = ts; stage = columns n (hs ++ record { name = name; holds = k } ∷ []) }) (may_column bs c t true (lt-ltb t.columns 8 h)) (whole s) (operand bs c t ∙ (ap (with_type ts n hs name) e ∙ ap (λ (y : Bool). cond y (Some (record { done = ts; stage = columns n (hs ++ record { name = name; holds = k } ∷ []) })) None) f)) ∙
      (ap (λ (j : ColumnType). goes (record { done = ts; stage = columns n (hs ++ record { name = name; holds = j } ∷ []) }) 17) (sym (type_again (get_or bs (c.pos + 17) 0) k e)) ∙
      (ap (λ (j : ℕ). goes (record { done = ts; stage = columns n (hs ++ heading_at bs j ∷ []) }) 17) place ∙
      (ap (λ (ks : List Heading). goes (record { done = ts; stage = columns n ks }) 17) (sym (headings_more bs (t.at + 17) t.columns)) ∙
      ap (λ (u : State). goes u 17) (sym (state_is bs (with_column c t) (with_column c t).stage refl))))))

  pub column_placed : Placed bs c → t.columns < 8 → 18 ≤ length bs - c.pos → Placed bs (with_column c t)
  column_placed p h s =
      let place = placed_in bs c (Columns t) q p in
      record {
        within = omega arith;
        inside = p.inside;
        stands = (omega arith, omega arith, place.2, place.3, place.4);
      }
