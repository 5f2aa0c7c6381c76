-- What the format says stands for tables is read as those tables.
use Rattle.std.proofs.Common.{◌≡◌, ℕ, suc, ◌+◌, ◌<◌, ◌≤◌, true, false, ◌&&◌, eqb, ltb, List, [], ◌∷◌, ◌++◌, length, get_or, take, Some, sym, refl, ap, ◌∙◌, subst, inl, inr, append_assoc, append-nil, arith}
use Rattle.std.specs.List.{flat_map, AllByRecursion}
use Rattle.std.proofs.lemmas.List.{take_at, get_or_push, length-append, length_push}
use Rattle.std.proofs.lemmas.Bool.{eqb-true, eq-eqb, ne_eqb, lt-ltb, or_cases, or_left, or_right, and_parts, and_from}
use Rattle.values.specs.Cells.{Cell}
use Rattle.values.specs.Codes.{decoded, fits, type_byte, type_of}
use Rattle.values.specs.Names.{lawful_name}
use Rattle.batches.specs.Format.{column_bytes, operand_length, IsRow, IsRows, IsTable, IsTables, IsBatch}
use Rattle.batches.specs.Reading.{Stage, between, columns, cells, State, taken, cell_may, may_stand, after, with_type, with_cell, ending, tables, run, start}
use Rattle.batches.specs.Tables.{Heading, Named, Told, Distinct}
use Rattle.batches.proofs.Commands.{cell_bytes, cell_operand, cell_not_column, cell_not_end, type_of_byte, name_length, cell_may_at, cell_may_is, distinct_free}
use Rattle.batches.proofs.Moves.{Moves, here, there, there_by, first, run_moves}

abbrev pub at : Told → Stage → State
at ts g = record { done = ts; stage = g }

-- the name of a table
pub name_moves : {v : State} (ts : Told) (n bs : List ℕ) → lawful_name n ≡ true → taken n ts ≡ false → length ts < 8 → Moves (at ts (columns n [])) bs v → Moves (at ts between) (0x01 ∷ (n ++ bs)) v
name_moves ts n bs l f few m =
    there_by (at ts (columns n [])) 0x01 n bs (lt-ltb (length ts) 8 few) (name_length n l) (rw (l, f)) m

pub column_leads : (ts : Told) (n : List ℕ) (gs : List Heading) (h : Heading) → lawful_name h.name ≡ true → after (at ts (columns n gs)) 0x02 (h.name ++ type_byte h.holds ∷ []) ≡ Some (at ts (columns n (gs ++ h ∷ [])))
column_leads ts n gs h l =
    let e : length h.name ≡ 16 = name_length h.name l in
    let t : take 16 (h.name ++ type_byte h.holds ∷ []) ≡ h.name = take_at h.name (type_byte h.holds ∷ []) 16 e in
    let g : get_or (h.name ++ type_byte h.holds ∷ []) 16 0 ≡ type_byte h.holds = get_or_push h.name (type_byte h.holds) 0 16 e in
    let o : type_of (get_or (h.name ++ type_byte h.holds ∷ []) 16 0) ≡ Some h.holds = ap type_of g ∙ type_of_byte h.holds in
    let w : with_type ts n gs h.name (Some h.holds) ≡ Some (at ts (columns n (gs ++ h ∷ []))) = rw l in
    let k : with_type ts n gs (take 16 (h.name ++ type_byte h.holds ∷ [])) (type_of (get_or (h.name ++ type_byte h.holds ∷ []) 16 0)) ≡ with_type ts n gs h.name (Some h.holds) = cc in
    k ∙ w

-- the columns
pub column_moves : {v : State} (ts : Told) (n : List ℕ) (gs hs : List Heading) (bs : List ℕ) → AllByRecursion (λ h. lawful_name h.name ≡ true) hs → length (gs ++ hs) ≤ 8 → Moves (at ts (columns n (gs ++ hs))) bs v → Moves (at ts (columns n gs)) (flat_map column_bytes hs ++ bs) v
column_moves {v} ts n gs [] bs l few m = subst (λ x. Moves (at ts (columns n x)) bs v) (append-nil gs) m
column_moves {v} ts n gs (h ∷ hs) bs l few m =
    let e : (gs ++ h ∷ []) ++ hs ≡ gs ++ h ∷ hs = append_assoc gs (h ∷ []) hs in
    let p : length (h.name ++ type_byte h.holds ∷ []) ≡ 17 = omega (arith, length_push h.name (type_byte h.holds), name_length h.name l.0) in
    let r : Moves (at ts (columns n (gs ++ h ∷ []))) (flat_map column_bytes hs ++ bs) v = column_moves ts n (gs ++ h ∷ []) hs bs l.1 (rw e few) (rw e m) in
    let q : Moves (at ts (columns n gs)) (0x02 ∷ ((h.name ++ type_byte h.holds ∷ []) ++ (flat_map column_bytes hs ++ bs))) v = there_by (at ts (columns n (gs ++ h ∷ []))) 0x02 (h.name ++ type_byte h.holds ∷ []) (flat_map column_bytes hs ++ bs) (or_left (ltb (length gs) 8) _ (lt-ltb (length gs) 8 (omega (arith, length-append gs (h ∷ hs))))) p (column_leads ts n gs h l.0) r in
    rw append_assoc q

-- one cell, under its heading
pub cell_moves : {v : State} (ts : Told) (n : List ℕ) (rs : List (List Cell)) (cs : List Cell) (hs gs : List Heading) (h : Heading) (back : List Heading) (bs ds : List ℕ) (c : Cell) → hs ≡ gs ++ h ∷ back → length cs ≡ length gs → decoded bs ≡ Some c → fits h.holds c ≡ true → Moves (at ts (with_cell n hs rs (cs ++ c ∷ []))) ds v → Moves (at ts (cells n hs rs cs)) (bs ++ ds) v
cell_moves {v} ts n rs cs hs gs h back bs ds c e k d f m =
    let p = cell_bytes bs c d in
    let b = p.byte in
    let os = p.operand in
    let d' : decoded (b ∷ os) ≡ Some c = rw p.is at d in
    let may : cell_may hs (length cs) b ≡ true = rw (e, k) (cell_may_at gs h back b ∙ (p.same h.holds ∙ f)) in
    let long : length os ≡ operand_length b = p.long ∙ sym (cell_operand p.command) in
    let leads : after (at ts (cells n hs rs cs)) b os ≡ Some (at ts (with_cell n hs rs (cs ++ c ∷ []))) = rw (cell_not_end p.command, d') in
    let q : Moves (at ts (cells n hs rs cs)) (b ∷ (os ++ ds)) v = there_by (at ts (with_cell n hs rs (cs ++ c ∷ []))) b os ds (or_right (eqb b 0x7F && eqb (length cs) 0) (cell_may hs (length cs) b) may) long leads m in
    rw p.is q

-- the cells of a row, from the one under the headings `hs` on
row_moves : {v : State} {hs : List Heading} {bs : List ℕ} {ds : List Cell} → IsRow hs bs ds → (ts : Told) (n : List ℕ) (rs : List (List Cell)) (cs : List Cell) (all gs : List Heading) (es : List ℕ) → all ≡ gs ++ hs → length cs ≡ length gs → Moves (at ts (cells n all (rs ++ (cs ++ ds) ∷ []) [])) es v → Moves (at ts (with_cell n all rs cs)) (bs ++ es) v
row_moves {v} IsRow.ended ts n rs cs all gs es e k m =
    let full : eqb (length cs) (length all) ≡ true = eq-eqb (length cs) (length all) (k ∙ ap length (sym (e ∙ append-nil gs))) in
    rw full (subst (λ x. Moves (at ts (cells n all (rs ++ x ∷ []) [])) es v) (append-nil cs) m)
row_moves {v} (IsRow.cell {h = h} {hs = hs} bs {ds = ds} {c = c} {cs = ds'} d f r) ts n rs cs all gs es e k m =
    let long : length all ≡ length gs + suc (length hs) = ap length e ∙ length-append gs (h ∷ hs) in
    let open' : eqb (length cs) (length all) ≡ false = ne_eqb (length cs) (length all) (omega arith) in
    let e' : all ≡ (gs ++ h ∷ []) ++ hs = e ∙ sym (append_assoc gs (h ∷ []) hs) in
    let k' : length (cs ++ c ∷ []) ≡ length (gs ++ h ∷ []) = omega (arith, length_push cs c, length_push gs h) in
    let m' : Moves (at ts (cells n all (rs ++ ((cs ++ c ∷ []) ++ ds') ∷ []) [])) es v = rw (append_assoc cs (c ∷ []) ds') m in
    let q : Moves (at ts (with_cell n all rs (cs ++ c ∷ []))) (ds ++ es) v = row_moves r ts n rs (cs ++ c ∷ []) all (gs ++ h ∷ []) es e' k' m' in
    let w : Moves (at ts (cells n all rs cs)) (bs ++ (ds ++ es)) v = cell_moves ts n rs cs all gs h hs bs (ds ++ es) c e k d f q in
    rw (open', append_assoc bs ds es) w

-- whole rows
pub rows_moves : {v : State} {hs : List Heading} {bs : List ℕ} {us : List (List Cell)} → IsRows hs bs us → 1 ≤ length hs → (ts : Told) (n : List ℕ) (rs : List (List Cell)) (es : List ℕ) → Moves (at ts (cells n hs (rs ++ us) [])) es v → Moves (at ts (cells n hs rs [])) (bs ++ es) v
rows_moves {v} {hs} IsRows.ended some ts n rs es m = subst (λ x. Moves (at ts (cells n hs x [])) es v) (append-nil rs) m
rows_moves {v} {hs} (IsRows.row {bs = bs} {ds = ds} {r = r} {rs = us} x xs) some ts n rs es m =
    let open' : eqb 0 (length hs) ≡ false = ne_eqb 0 (length hs) (omega arith) in
    let m' : Moves (at ts (cells n hs ((rs ++ r ∷ []) ++ us) [])) es v = rw (append_assoc rs (r ∷ []) us) m in
    let q : Moves (at ts (cells n hs (rs ++ r ∷ []) [])) (ds ++ es) v = rows_moves xs some ts n (rs ++ r ∷ []) es m' in
    let w : Moves (at ts (with_cell n hs rs [])) (bs ++ (ds ++ es)) v = row_moves x ts n rs [] hs [] (ds ++ es) refl refl q in
    rw append_assoc (rw open' at w)

-- the end of a table
pub end_moves : {v : State} (ts : Told) (n : List ℕ) (hs : List Heading) (rs : List (List Cell)) (es : List ℕ) → Moves (ending ts n hs rs) es v → Moves (at ts (cells n hs rs [])) (0x7F ∷ es) v
end_moves ts n hs rs es m = there_by (ending ts n hs rs) 0x7F [] es refl refl refl m

same_after : (ts : Told) (n : List ℕ) (hs : List Heading) (b : ℕ) (os : List ℕ) → eqb b 0x02 ≡ false → after (at ts (columns n hs)) b os ≡ after (at ts (cells n hs [] [])) b os
same_after ts n hs b os e = rw e

-- the first command after the columns reads as it would after no rows
pub from_columns : {v : State} (ts : Told) (n : List ℕ) (hs : List Heading) (bs : List ℕ) → 1 ≤ length hs → 1 ≤ length bs → Moves (at ts (cells n hs [] [])) bs v → Moves (at ts (columns n hs)) bs v
from_columns ts n hs [] some any m = absurd (omega arith)
from_columns {v} ts n hs (b ∷ bs) some any m =
    let f = first m in
    let may : (eqb b 0x02 ≡ false) × (may_stand (at ts (columns n hs)) b ≡ true) = elim (or_cases (eqb b 0x7F && true) (cell_may hs 0 b) f.may) [
      | inl e ↦
          let k : eqb b 0x7F ≡ true = (and_parts (eqb b 0x7F) true e).0 in
          (rw (eqb-true b 0x7F k), or_right (eqb b 0x02 && ltb (length hs) 8) _ (or_left (eqb b 0x7F && ltb 0 (length hs)) (cell_may hs 0 b) (and_from (eqb b 0x7F) (ltb 0 (length hs)) k (lt-ltb 0 (length hs) some))))
      | inr e ↦
          (cell_not_column (cell_may_is hs 0 b e).0, or_right (eqb b 0x02 && ltb (length hs) 8) _ (or_right (eqb b 0x7F && ltb 0 (length hs)) (cell_may hs 0 b) e))
    ] in
    let leads : after (at ts (columns n hs)) b (take (operand_length b) bs) ≡ Some f.to = same_after ts n hs b (take (operand_length b) bs) may.0 ∙ f.leads in
    there f.to may.1 f.whole leads f.rest

table_moves : {v : State} {bs : List ℕ} {t : Named} → IsTable bs t → (ts : Told) (es : List ℕ) → taken t.name ts ≡ false → length ts < 8 → Moves (at (ts ++ t ∷ []) between) es v → Moves (at ts between) (bs ++ es) v
table_moves {v} (IsTable.table {n = n} {hs = hs} {bs = bs} {rs = rs} l hl r) ts es free few m =
    let e : Moves (at ts (cells n hs rs [])) (0x7F ∷ es) v = end_moves ts n hs rs es m in
    let q : Moves (at ts (cells n hs [] [])) (bs ++ 0x7F ∷ es) v = rows_moves r hl.some ts n [] (0x7F ∷ es) e in
    let c : Moves (at ts (columns n hs)) (bs ++ 0x7F ∷ es) v = from_columns ts n hs (bs ++ 0x7F ∷ es) hl.some (omega (arith, length-append bs (0x7F ∷ es))) q in
    let h : Moves (at ts (columns n [])) (flat_map column_bytes hs ++ (bs ++ 0x7F ∷ es)) v = column_moves ts n [] hs (bs ++ 0x7F ∷ es) hl.named hl.few c in
    let w : Moves (at ts between) (0x01 ∷ (n ++ (flat_map column_bytes hs ++ (bs ++ 0x7F ∷ es)))) v = name_moves ts n (flat_map column_bytes hs ++ (bs ++ 0x7F ∷ es)) l free few h in
    simp append_assoc w

tables_moves : {bs : List ℕ} {us : Told} → IsTables bs us → (ts : Told) → length (ts ++ us) ≤ 8 → Distinct (ts ++ us) → Moves (at ts between) bs (at (ts ++ us) between)
tables_moves IsTables.ended ts few apart = subst (λ x. Moves (at ts between) [] (at x between)) (sym (append-nil ts)) here
tables_moves (IsTables.table {bs = bs} {ds = ds} {t = t} {ts = us} x xs) ts few apart =
    let e : (ts ++ t ∷ []) ++ us ≡ ts ++ t ∷ us = append_assoc ts (t ∷ []) us in
    let r : Moves (at (ts ++ t ∷ []) between) ds (at ((ts ++ t ∷ []) ++ us) between) = tables_moves xs (ts ++ t ∷ []) (rw e few) (rw e apart) in
    table_moves x ts ds (distinct_free ts t us apart) (omega (arith, length-append ts (t ∷ us))) (rw e at r)

-- a lawful batch moves from the start to its tables
pub batch_moves : {bs : List ℕ} {ts : Told} → IsBatch bs ts → Moves start bs (at ts between)
batch_moves b = tables_moves b.tables [] b.few b.distinct

-- and so it is read as them
pub batch_read : (bs : List ℕ) (ts : Told) → IsBatch bs ts → run (length bs) start 0 bs ≡ tables ts
batch_read bs ts b = run_moves (batch_moves b) (length bs) 0 (omega arith)
