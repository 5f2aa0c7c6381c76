-- Rows that fit the same headings are equal exactly when their bytes are. Assumes nothing.
use Rattle.std.proofs.Common.{◌≡◌, true, false, List, [], ◌∷◌, take, drop, Decides, sym, refl, ap, ◌∙◌, ap₂}
use Rattle.std.proofs.lemmas.Slice.Eq.{bytes_eq-Decides}
use Rattle.std.proofs.lemmas.List.{drop_at, take_at}
use Rattle.std.proofs.lemmas.Bool.Decides.{Decides-like, not_from_Decides, same_from_decides}
use Rattle.std.specs.List.{flat_map}
use Rattle.values.proofs.Codec.{encoded_injective, encoded_length}
use Rattle.values.specs.Cells.{Cell}
use Rattle.values.specs.Codes.{encoded}
use Rattle.batches.specs.Tables.{Heading, RowFits}
use Rattle.stores.specs.Agreeing.{same_row}

-- ---- rows with the same bytes

pub same_row_bytes : (r s : List Cell) → Decides (same_row r s) (flat_map encoded r ≡ flat_map encoded s)
unfolding same_row
same_row_bytes r s = bytes_eq-Decides (flat_map encoded r) (flat_map encoded s)

pub same_row_itself : (r : List Cell) → same_row r r ≡ true
same_row_itself r = (same_row_bytes r r).1 refl

-- a row that has the bytes of another has the bytes of what the other has
pub same_row_alike : (r s t : List Cell) → same_row r s ≡ true → same_row r t ≡ same_row s t
same_row_alike r s t e =
    let b = (same_row_bytes r s).0 e in
    same_from_decides (same_row r t) (same_row s t) (same_row_bytes r t) (Decides-like (same_row s t) (λ f. b ∙ f) (λ f. sym b ∙ f) (same_row_bytes s t))

pub same_row_swapped : (r s : List Cell) → same_row r s ≡ same_row s r
same_row_swapped r s =
    same_from_decides (same_row r s) (same_row s r) (same_row_bytes r s) (Decides-like (same_row s r) sym sym (same_row_bytes s r))

-- rows whose bytes differ are different
pub different_rows : (r s : List Cell) → same_row r s ≡ false → r ≡ s → ⊥
different_rows r s e f = not_from_Decides (same_row r s) (same_row_bytes r s) e (ap (flat_map encoded) f)

-- ---- rows that fit

pub row_from_bytes : (hs : List Heading) (r s : List Cell) → RowFits hs r → RowFits hs s → flat_map encoded r ≡ flat_map encoded s → r ≡ s
row_from_bytes [] [] [] f g e = refl
row_from_bytes [] [] (d ∷ s) f g e = absurd g
row_from_bytes [] (c ∷ r) s f g e = absurd f
row_from_bytes (h ∷ hs) [] s f g e = absurd f
row_from_bytes (h ∷ hs) (c ∷ r) [] f g e = absurd g
row_from_bytes (h ∷ hs) (c ∷ r) (d ∷ s) f g e =
    let m = encoded_length c f.0 in
    let n = encoded_length d g.0 in
    let head = sym (take_at (encoded c) (flat_map encoded r) 17 m) ∙ ap (take 17) e ∙ take_at (encoded d) (flat_map encoded s) 17 n in
    let rest = sym (drop_at (encoded c) (flat_map encoded r) 17 m) ∙ ap (drop 17) e ∙ drop_at (encoded d) (flat_map encoded s) 17 n in
    ap₂ ◌∷◌ (encoded_injective c d f.0 g.0 head) (row_from_bytes hs r s f.2 g.2 rest)

-- for rows under the same headings the test of bytes decides whether they are equal
pub same_row_decides : (hs : List Heading) (r s : List Cell) → RowFits hs r → RowFits hs s → Decides (same_row r s) (r ≡ s)
same_row_decides hs r s f g = Decides-like (same_row r s) (row_from_bytes hs r s f g) (ap (flat_map encoded)) (same_row_bytes r s)
