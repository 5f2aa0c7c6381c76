-- Every state that is reached can be led to the end of a lawful batch, and every byte that may stand there has an operand.
use Rattle.std.proofs.Common.{◌≡◌, ℕ, zero, suc, ◌+◌, ◌-◌, ◌<◌, ◌≤◌, true, false, ◌&&◌, ◌||◌, eqb, ltb, List, [], ◌∷◌, ◌++◌, length, replicate, Some, None, sym, refl, ◌∙◌, subst, inl, inr, append_assoc, arith, lit≤}
use lib.Ieee.{of_bits}
use Rattle.std.specs.Float.{float_is_finite}
use Rattle.std.specs.List.{flat_map}
use Rattle.std.proofs.lemmas.List.{length_push, take_at}
use Rattle.std.proofs.lemmas.Bool.{eqb-true, eq-eqb, ne_eqb, ltb-true, or_cases, and_parts, both_ways}
use Rattle.values.specs.Cells.{Cell, null}
use Rattle.values.specs.Codes.{decoded, fits}
use Rattle.values.specs.declared.kinds.ColumnType.{ColumnType}
use Rattle.values.specs.declared.kinds.ColumnType.TheVariants.{Integer, Real, Text}
use Rattle.batches.specs.Format.{column_bytes, operand_length, Begins}
use Rattle.batches.specs.Reading.{Stage, between, columns, cells, State, cell_may, may_stand, after, after_cell, with_cell, ending, start}
use Rattle.batches.specs.Tables.{Heading, Told}
use Rattle.batches.proofs.Commands.{CellByte, nulls, integers, reals, texts, none_some, name_length, cell_operand, cell_not_column, cell_not_end, heading_at_lem, cell_may_is}
use Rattle.batches.proofs.Complete.{at, column_leads, column_moves, cell_moves, end_moves, from_columns, batch_moves}
use Rattle.batches.proofs.Fresh.{free_name, free_name_lawful, free_name_free}
use Rattle.batches.proofs.Moves.{Moves, here, there_by, moves_append, moves_onward, first}
use Rattle.batches.proofs.Sound.{moves_batch}
use Rattle.batches.proofs.States.{Fine, moves_fine, start_fine}

-- bytes that lead from a state to tables
Finish : State → Type 0
Finish s = (es : List ℕ) × (vs : Told) × Moves s es (at vs between)

null_read : decoded (0x10 ∷ replicate 16 0) ≡ Some null
unfolding decoded
null_read = refl

null_fits : (t : ColumnType) → fits t null ≡ true
unfolding fits
null_fits Integer = refl
null_fits Real = refl
null_fits Text = refl

finish_table : (ts : Told) (n : List ℕ) (hs : List Heading) (rs : List (List Cell)) → Finish (at ts (cells n hs rs []))
unfolding Finish
finish_table ts n hs rs = (0x7F ∷ [], (ending ts n hs rs).done, end_moves ts n hs rs [] here)

-- nulls fill the row
finish_row : (d : ℕ) (ts : Told) (n : List ℕ) (hs : List Heading) (rs : List (List Cell)) (cs : List Cell) → length cs + d ≡ length hs → Finish (at ts (with_cell n hs rs cs))
unfolding Finish
finish_row zero ts n hs rs cs e =
    let full : eqb (length cs) (length hs) ≡ true = eq-eqb (length cs) (length hs) (omega arith) in
    rw full (finish_table ts n hs (rs ++ cs ∷ []))
finish_row (suc d) ts n hs rs cs e =
    let l : length cs < length hs = omega arith in
    let open' : eqb (length cs) (length hs) ≡ false = ne_eqb (length cs) (length hs) (omega arith) in
    let p = heading_at_lem hs (length cs) l in
    let r = finish_row d ts n hs rs (cs ++ null ∷ []) (omega (arith, length_push cs null)) in
    let m : Moves (at ts (cells n hs rs cs)) ((0x10 ∷ replicate 16 0) ++ r.0) (at r.1 between) = cell_moves ts n rs cs hs p.front p.heading p.back (0x10 ∷ replicate 16 0) r.0 null p.is (sym p.before) null_read (null_fits p.heading.holds) r.2 in
    rw open' ((0x10 ∷ replicate 16 0) ++ r.0, r.1, m)

finish_columns : (ts : Told) (n : List ℕ) (hs : List Heading) → 1 ≤ length hs → Finish (at ts (columns n hs))
unfolding Finish
finish_columns ts n hs any =
    (0x7F ∷ [], (ending ts n hs []).done, from_columns ts n hs (0x7F ∷ []) any (lit≤ tt) (end_moves ts n hs [] [] here))

-- a column that may follow any others
abbrev spare : Heading
spare = record { name = free_name []; holds = Integer }

finish : (ts : Told) (g : Stage) → Fine ts g → Finish (at ts g)
unfolding Finish
finish ts between f = ([], ts, here)
finish ts (columns n []) f =
    let r = finish_columns ts n (spare ∷ []) (lit≤ tt) in
    (flat_map column_bytes (spare ∷ []) ++ r.0, r.1, column_moves ts n [] (spare ∷ []) r.0 (free_name_lawful [], tt) (lit≤ tt) r.2)
finish ts (columns n (h ∷ hs)) f = finish_columns ts n (h ∷ hs) (omega arith)
finish ts (cells n hs rs cs) f =
    let open' : eqb (length cs) (length hs) ≡ false = ne_eqb (length cs) (length hs) (omega arith) in
    rw open' at (finish_row (length hs - length cs) ts n hs rs cs (omega arith))

-- every cell command has an operand
cell_some : {b : ℕ} → CellByte b → (os : List ℕ) × (c : Cell) × (length os ≡ 16) × (decoded (b ∷ os) ≡ Some c)
unfolding decoded float_is_finite of_bits
cell_some nulls = (replicate 16 0, null, refl, refl)
cell_some integers = (replicate 16 0, _, refl, refl)
cell_some reals = (replicate 16 0, _, refl, refl)
cell_some texts = (replicate 16 32, _, refl, refl)

-- an operand with which a command goes on
record Operand (s : State) (b : ℕ) : Type 0 where
  bytes : List ℕ
  to : State
  long : length bytes ≡ operand_length b
  leads : after s b bytes ≡ Some to

cell_goes : (ts : Told) (n : List ℕ) (hs : List Heading) (rs : List (List Cell)) (cs : List Cell) (b : ℕ) (k : CellByte b) → after_cell ts n hs rs cs (decoded (b ∷ (cell_some k).0)) ≡ Some (at ts (with_cell n hs rs (cs ++ (cell_some k).1 ∷ [])))
cell_goes ts n hs rs cs b k = rw (cell_some k).3

operand : (ts : Told) (g : Stage) (b : ℕ) → Fine ts g → may_stand (at ts g) b ≡ true → Operand (at ts g) b
operand ts between b fine may =
    let p = and_parts (eqb b 0x01) (ltb (length ts) 8) may in
    let k : b ≡ 0x01 = eqb-true b 0x01 p.0 in
    let l = free_name_lawful ts in
    let f = free_name_free ts (ltb-true (length ts) 8 p.1) in
    subst (λ x. Operand (at ts between) x) (sym k) (record { bytes = free_name ts; to = at ts (columns (free_name ts) []); long = name_length (free_name ts) l; leads = rw (l, f) })
operand ts (columns n hs) b fine may = elim (or_cases (eqb b 0x02 && ltb (length hs) 8) ((eqb b 0x7F && ltb 0 (length hs)) || cell_may hs 0 b) may) [
  | inl e ↦
      let p = and_parts (eqb b 0x02) (ltb (length hs) 8) e in
      let k : b ≡ 0x02 = eqb-true b 0x02 p.0 in
      subst (λ x. Operand (at ts (columns n hs)) x) (sym k) (record { bytes = free_name [] ++ 1 ∷ []; to = at ts (columns n (hs ++ spare ∷ [])); long = refl; leads = column_leads ts n hs spare (free_name_lawful []) })
  | inr r ↦ elim (or_cases (eqb b 0x7F && ltb 0 (length hs)) (cell_may hs 0 b) r) [
    | inl e ↦
        let p = and_parts (eqb b 0x7F) (ltb 0 (length hs)) e in
        let k : b ≡ 0x7F = eqb-true b 0x7F p.0 in
        subst (λ x. Operand (at ts (columns n hs)) x) (sym k) (record { bytes = []; to = ending ts n hs []; long = refl; leads = refl })
    | inr e ↦
        let c = (cell_may_is hs 0 b e).0 in
        let o = cell_some c in
        record { bytes = o.0; to = at ts (with_cell n hs [] (o.1 ∷ [])); long = o.2 ∙ sym (cell_operand c); leads = rw (cell_not_column c, cell_not_end c) (cell_goes ts n hs [] [] b c) }
  ]
]
operand ts (cells n hs rs cs) b fine may = elim (or_cases (eqb b 0x7F && eqb (length cs) 0) (cell_may hs (length cs) b) may) [
  | inl e ↦
      let p = and_parts (eqb b 0x7F) (eqb (length cs) 0) e in
      let k : b ≡ 0x7F = eqb-true b 0x7F p.0 in
      subst (λ x. Operand (at ts (cells n hs rs cs)) x) (sym k) (record { bytes = []; to = ending ts n hs rs; long = refl; leads = refl })
  | inr e ↦
      let c = (cell_may_is hs (length cs) b e).0 in
      let o = cell_some c in
      record { bytes = o.0; to = at ts (with_cell n hs rs (cs ++ o.1 ∷ [])); long = o.2 ∙ sym (cell_operand c); leads = rw (cell_not_end c) (cell_goes ts n hs rs cs b c) }
]

-- what is read so far begins some lawful batch
pub begins_reached : {t : State} {ds : List ℕ} → Moves start ds t → Begins ds
unfolding Finish
begins_reached {t} {ds} m =
    let f = finish t.done t.stage (moves_fine m start_fine) in
    (f.0, f.1, moves_batch (ds ++ f.0) f.1 (moves_append m f.2))

-- and so it does with one byte more that may stand there
pub begins_byte : {t : State} {ds : List ℕ} (b : ℕ) → Moves start ds t → may_stand t b ≡ true → Begins (ds ++ b ∷ [])
begins_byte {t} {ds} b m may =
    let o = operand t.done t.stage b (moves_fine m start_fine) may in
    let n : Moves t (b ∷ (o.bytes ++ [])) o.to = there_by o.to b o.bytes [] may o.long o.leads here in
    let r = begins_reached (moves_append m n) in
    (o.bytes ++ [] ++ r.0, r.1, simp append_assoc (simp append_assoc at r.2))

-- no lawful batch goes on with a byte that may not stand there
pub no_forbidden : {t : State} {ds : List ℕ} (b : ℕ) (bs : List ℕ) → Moves start ds t → may_stand t b ≡ false → Begins (ds ++ b ∷ bs) → ⊥
no_forbidden {t} {ds} b bs m may (es, vs, x) =
    let k : Moves start (ds ++ (b ∷ (bs ++ es))) (at vs between) = rw (append_assoc ds (b ∷ bs) es) at (batch_moves x) in
    let f = first (moves_onward m k) in
    both_ways (may_stand t b) may f.may

-- nor with a command whose operand is against the rules
pub no_unlawful : {t : State} {ds : List ℕ} (b : ℕ) (os : List ℕ) → Moves start ds t → length os ≡ operand_length b → after t b os ≡ None → Begins (ds ++ b ∷ os) → ⊥
no_unlawful {t} {ds} b os m long a (es, vs, x) =
    let k : Moves start (ds ++ (b ∷ (os ++ es))) (at vs between) = rw (append_assoc ds (b ∷ os) es) at (batch_moves x) in
    let f = first (moves_onward m k) in
    let l : after t b os ≡ Some f.to = subst (λ y. after t b y ≡ Some f.to) (take_at os es (operand_length b) long) f.leads in
    none_some f.to (after t b os) l a
