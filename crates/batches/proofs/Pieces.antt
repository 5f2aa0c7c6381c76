-- Names and cells that are read from a part of the bytes. Assumes nothing.
use Rattle.std.proofs.Common.{◌≡◌, ℕ, ◌+◌, ◌-◌, ◌<◌, ◌≤◌, Bool, true, false, List, [], ◌∷◌, length, take, drop, Some, None, Option, unwrap_or, sym, refl, ap, ◌∙◌, arith}
use Rattle.std.proofs.lemmas.List.{length-drop, length-take}
use Rattle.std.specs.Option.{option_map}
use Rattle.std.specs.Bool.{then_some}
use Rattle.values.proofs.Filled.{filled_whole}
use Rattle.values.proofs.NameLaws.{unlawful_length}
use Rattle.values.proofs.Operands.{decoded_none}
use Rattle.values.specs.Cells.{Cell, cell_of, null}
use Rattle.values.specs.Codes.{decoded}
use Rattle.values.specs.Named.{name_from, name_if}
use Rattle.values.specs.Names.{lawful_name}
use Rattle.values.specs.declared.value.Value.{Value}
use Rattle.batches.specs.Layouts.{cell_at, slice_at}

-- the n bytes from a up to b, as a slice has them
pub part_is : (bs : List ℕ) (a b n : ℕ) → b - a ≡ n → take (b - a) (drop a bs) ≡ slice_at bs a n
part_is bs a b n e = rw e

-- a part that runs past the end is short
pub part_short : (bs : List ℕ) (at n : ℕ) → 0 < n → length bs < at + n → length (slice_at bs at n) ≡ n → ⊥
part_short bs at n p h = simp (length-take, length-drop) (omega arith)

part_whole : (bs : List ℕ) (at n : ℕ) → at + n ≤ length bs → length (slice_at bs at n) ≡ n
part_whole bs at n h = simp (length-take, length-drop) (omega arith)

name_if_lem : (t : Bool) (bs : List ℕ) → name_if t bs ≡ then_some t bs
name_if_lem true bs = refl
name_if_lem false bs = refl

pub name_short : (bs : List ℕ) (at : ℕ) → length bs < at + 16 → None ≡ then_some (lawful_name (slice_at bs at 16)) (slice_at bs at 16)
name_short bs at h =
    sym (ap (λ (t : Bool). then_some t (slice_at bs at 16)) (unlawful_length (slice_at bs at 16) (part_short bs at 16 (omega arith) h)))

pub name_whole : (bs : List ℕ) (at : ℕ) → at + 16 ≤ length bs → name_from (take (at + 16 - at) (drop at bs)) ≡ then_some (lawful_name (slice_at bs at 16)) (slice_at bs at 16)
name_whole bs at h =
    ap name_from (part_is bs at (at + 16) 16 (omega arith)) ∙
    (ap (λ ns. name_if (lawful_name ns) ns) (filled_whole (slice_at bs at 16) (part_whole bs at 16 h)) ∙ name_if_lem (lawful_name (slice_at bs at 16)) (slice_at bs at 16))

-- only seventeen bytes stand for a cell
pub no_cell_of : (bs : List ℕ) → (length bs ≡ 17 → ⊥) → None ≡ decoded bs
unfolding decoded
no_cell_of [] h = refl
no_cell_of (b ∷ os) h = decoded_none (b ∷ os) os b refl (λ e. h (omega arith))

pub cell_short : (bs : List ℕ) (at : ℕ) → length bs < at + 17 → None ≡ decoded (slice_at bs at 17)
cell_short bs at h = no_cell_of (slice_at bs at 17) (part_short bs at 17 (omega arith) h)

pub cell_whole : (bs : List ℕ) (at : ℕ) (o : Option Cell) → o ≡ decoded (take (at + 17 - at) (drop at bs)) → unwrap_or o null ≡ cell_at bs at
unfolding cell_at
cell_whole bs at o e = ap (λ (o : Option Cell). unwrap_or o null) (e ∙ ap decoded (part_is bs at (at + 17) 17 (omega arith)))

-- a cell that is read, or null
pub cell_or_null : (bs : List ℕ) (at : ℕ) (r : Option Value) (v : Value) → option_map cell_of r ≡ decoded (slice_at bs at 17) → cell_of v ≡ null → cell_of (unwrap_or r v) ≡ cell_at bs at
unfolding cell_at
cell_or_null bs at r v e n = go r ∙ ap (λ (o : Option Cell). unwrap_or o null) e
  where
    go : (r : Option Value) → cell_of (unwrap_or r v) ≡ unwrap_or (option_map cell_of r) null
    go None = n
    go (Some x) = refl
