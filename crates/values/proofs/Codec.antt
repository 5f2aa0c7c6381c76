-- A cell's bytes are read back as the cell, and what is read is lawful. Assumes nothing.
use Rattle.std.proofs.Common.{◌≡◌, ℕ, suc, ◌-◌, ◌^◌, ◌<◌, ◌≤◌, Bool, true, false, cond, ◌&&◌, T, eqb, leb, ◌⊎◌, List, [], ◌∷◌, ◌++◌, length, take, drop, replicate, ℤ, pos, negsuc, Some, None, Option, sym, refl, ap, ◌∙◌, subst, ap₂, subst₂, inl, inr, arith, lit<, w32, SFits, to_z, of_z}
use lib.Ieee
use lib.Ieee.{Float, fin, binary64, of_bits, to_bits}
use lib.Ieee.Bits.{of_bits-to_bits, to_bits-of_bits, to_bits-lt, of_bits-fits, is_true}
use mir.Facts.{sfits_to_z, Fits-of_z}
use Rattle.std.specs.Float.{float_is_finite}
use Rattle.std.proofs.ByRecursion.{All-append, All-take}
use Rattle.std.proofs.lemmas.List.{length-take-le, length-drop, take-append-drop}
use Rattle.std.proofs.lemmas.Int.{to_z-of_z, of_z-to_z}
use Rattle.std.proofs.lemmas.Bool.{and_parts, and_from, eqb-true, eq-eqb, leb-true, le-leb}
use Rattle.values.specs.Bytes.{bytes_of, number_of, printable, each, zeros}
use Rattle.values.specs.Cells.{Cell, null, integer, real, text, in_range, lawful_cell}
use Rattle.values.specs.Codes.{encoded, decoded, without_negative_zero, given, null_from, integer_from, real_from, text_from, operand_cell, fits, byte_fits}
use Rattle.values.specs.Kept.{plain_real}
use Rattle.values.specs.Laws.{negative_zero_bytes}
use Rattle.values.specs.declared.kinds.ColumnType.{ColumnType}
use Rattle.values.specs.declared.kinds.ColumnType.TheVariants.{Integer, Real, Text}
use Rattle.values.proofs.Filled.{bytes_printable, each_same}
use Rattle.values.proofs.Numbers.{Bytes, bytes_replicate, bytes_bytes_of, number_of_bytes_of, number_of_lt, bytes_of_number_of_at}
use Rattle.values.proofs.Reals.{finite_not_nan, plain_unsigned, plain_same, plain_finite, fits_unsigned, same_or_negative_zero}

-- ---- integers of 32 bits

pub sfits_in_range : (n : ℤ) → in_range n ≡ true → SFits w32 n
sfits_in_range (pos n) h = record { sfits = omega (arith, leb-true n 2147483647 h) }
sfits_in_range (negsuc n) h = record { sfits = omega (arith, leb-true n 2147483647 (and_parts (leb n 2147483647) true h).0) }

pub in_range_sfits : (n : ℤ) → SFits w32 n → in_range n ≡ true
in_range_sfits (pos n) h = le-leb n 2147483647 (omega (arith, h.sfits))
in_range_sfits (negsuc n) h = and_from (leb n 2147483647) true (le-leb n 2147483647 (omega (arith, h.sfits))) refl

-- ---- read back

decoded_integer : (n : ℤ) → in_range n ≡ true → decoded (encoded (integer n)) ≡ Some (integer n)
unfolding decoded encoded
decoded_integer n h =
    let f = sfits_in_range n h in
    ap (λ k. Some (integer (to_z w32 k))) (number_of_bytes_of 4 (of_z w32 n) (Fits-of_z f).fits) ∙ ap (λ z. Some (integer z)) (to_z-of_z w32 n f)

real_from_lem : (x y : Float) → plain_real y ≡ true → T (Ieee.fits binary64 y) → x ≡ y → given (float_is_finite x) (real (without_negative_zero x)) ≡ Some (real y)
real_from_lem x y h k e = rw (e, plain_finite y h, plain_same y h k)

decoded_real : (x : Float) → plain_real x ≡ true → T (Ieee.fits binary64 x) → decoded (encoded (real x)) ≡ Some (real x)
unfolding decoded encoded
decoded_real x h k =
    let e = number_of_bytes_of 8 (to_bits binary64 x) (to_bits-lt binary64 x k) in
    real_from_lem (of_bits binary64 (number_of (bytes_of 8 (to_bits binary64 x)))) x h k (ap (of_bits binary64) e ∙ of_bits-to_bits binary64 x k)

decoded_text : (bs : List ℕ) → length bs ≡ 16 → each printable bs ≡ true → decoded (encoded (text bs)) ≡ Some (text bs)
unfolding decoded encoded
decoded_text bs h k = rw (h, k)

pub decoded_encoded : (c : Cell) → lawful_cell c ≡ true → decoded (encoded c) ≡ Some c
unfolding lawful_cell decoded encoded
decoded_encoded null h = refl
decoded_encoded (integer n) h = decoded_integer n h
decoded_encoded (real x) h =
    let p = and_parts (plain_real x) (Ieee.fits binary64 x) h in
    decoded_real x p.0 (subst T (sym p.1) tt)
decoded_encoded (text bs) h =
    let p = and_parts (eqb (length bs) 16) (each printable bs) h in
    decoded_text bs (eqb-true (length bs) 16 p.0) p.1

pub encoded_injective : (c d : Cell) → lawful_cell c ≡ true → lawful_cell d ≡ true → encoded c ≡ encoded d → c ≡ d
encoded_injective c d h k e = let p = decoded_encoded c h in let q = decoded_encoded d k in cc

pub encoded_length : (c : Cell) → lawful_cell c ≡ true → length (encoded c) ≡ 17
unfolding lawful_cell encoded
encoded_length null h = refl
encoded_length (integer n) h = refl
encoded_length (real x) h = refl
encoded_length (text bs) h = ap suc (eqb-true (length bs) 16 (and_parts (eqb (length bs) 16) (each printable bs) h).0)

bytes_zeros : (k : ℕ) → Bytes (replicate k 0)
bytes_zeros k = bytes_replicate k 0 (lit< tt)

pub encoded_bytes : (c : Cell) → lawful_cell c ≡ true → Bytes (encoded c)
unfolding lawful_cell encoded
encoded_bytes null h = (lit< tt, bytes_zeros 16)
encoded_bytes (integer n) h =
    (lit< tt, All-append (λ b. b < 256) (bytes_of 4 (of_z w32 n)) (replicate 12 0) (bytes_bytes_of 4 (of_z w32 n)) (bytes_zeros 12))
encoded_bytes (real x) h =
    (lit< tt, All-append (λ b. b < 256) (bytes_of 8 (to_bits binary64 x)) (replicate 8 0) (bytes_bytes_of 8 (to_bits binary64 x)) (bytes_zeros 8))
encoded_bytes (text bs) h = (lit< tt, bytes_printable bs (and_parts (eqb (length bs) 16) (each printable bs) h).1)

-- ---- what is read

-- how a command and its operand are read as a cell
data Reading (bs : List ℕ) : ℕ → Cell → Type 0 where
  as_null : zeros bs ≡ true → Reading bs 0x10 null
  as_integer : zeros (drop 4 bs) ≡ true → Reading bs 0x11 (integer (to_z w32 (number_of (take 4 bs))))
  as_real :
      zeros (drop 8 bs) ≡ true →
      float_is_finite (of_bits binary64 (number_of (take 8 bs))) ≡ true →
      Reading bs 0x12 (real (without_negative_zero (of_bits binary64 (number_of (take 8 bs)))))
  as_text : each printable bs ≡ true → Reading bs 0x13 (text bs)

given_some : (t : Bool) (d c : Cell) → given t d ≡ Some c → (t ≡ true) × (d ≡ c)
given_some true d c h = (refl, cc)
given_some false d c h = (cc, cc)

cond_some : (t : Bool) (o : Option Cell) (c : Cell) → cond t o None ≡ Some c → (t ≡ true) × (o ≡ Some c)
cond_some true o c h = (refl, h)
cond_some false o c h = (cc, cc)

command : (bs : List ℕ) (a b : ℕ) (c d : Cell) → eqb b a ≡ true → d ≡ c → Reading bs a d → Reading bs b c
command bs a b c d h e r = subst₂ (Reading bs) (sym (eqb-true b a h)) e r

operand_text : (b : ℕ) (bs : List ℕ) (c : Cell) → cond (eqb b 0x13) (text_from bs) None ≡ Some c → Reading bs b c
operand_text b bs c h =
    let p = cond_some (eqb b 0x13) (text_from bs) c h in
    let q = given_some (each printable bs) (text bs) c p.1 in
    command bs 0x13 b c (text bs) p.0 q.1 (as_text q.0)

operand_real :
    (b : ℕ) (bs : List ℕ) (c : Cell) (t : Bool) →
    eqb b 0x12 ≡ t →
    cond t (real_from bs) (cond (eqb b 0x13) (text_from bs) None) ≡ Some c →
    Reading bs b c
operand_real b bs c true e h =
    let x = of_bits binary64 (number_of (take 8 bs)) in
    let q = given_some (zeros (drop 8 bs) && float_is_finite x) (real (without_negative_zero x)) c h in
    let p = and_parts (zeros (drop 8 bs)) (float_is_finite x) q.0 in
    command bs 0x12 b c (real (without_negative_zero x)) e q.1 (as_real p.0 p.1)
operand_real b bs c false e h = operand_text b bs c h

operand_integer :
    (b : ℕ) (bs : List ℕ) (c : Cell) (t : Bool) →
    eqb b 0x11 ≡ t →
    cond t (integer_from bs) (cond (eqb b 0x12) (real_from bs) (cond (eqb b 0x13) (text_from bs) None)) ≡ Some c →
    Reading bs b c
operand_integer b bs c true e h =
    let n = to_z w32 (number_of (take 4 bs)) in
    let q = given_some (zeros (drop 4 bs)) (integer n) c h in
    command bs 0x11 b c (integer n) e q.1 (as_integer q.0)
operand_integer b bs c false e h = operand_real b bs c (eqb b 0x12) refl h

operand_null :
    (b : ℕ) (bs : List ℕ) (c : Cell) (t : Bool) →
    eqb b 0x10 ≡ t →
    cond t (null_from bs) (cond (eqb b 0x11) (integer_from bs) (cond (eqb b 0x12) (real_from bs) (cond (eqb b 0x13) (text_from bs) None))) ≡ Some c →
    Reading bs b c
operand_null b bs c true e h =
    let q = given_some (zeros bs) null c h in
    command bs 0x10 b c null e q.1 (as_null q.0)
operand_null b bs c false e h = operand_integer b bs c (eqb b 0x11) refl h

reading : (b : ℕ) (bs : List ℕ) (c : Cell) → decoded (b ∷ bs) ≡ Some c → (length bs ≡ 16) × Reading bs b c
unfolding decoded
reading b bs c h =
    let p = cond_some (eqb (length bs) 16) (operand_cell b bs) c h in
    (eqb-true (length bs) 16 p.0, operand_null b bs c (eqb b 0x10) refl p.1)

reading_fits : (t : ColumnType) (b : ℕ) (bs : List ℕ) (c : Cell) → Reading bs b c → byte_fits t b ≡ fits t c
unfolding byte_fits fits
reading_fits Integer b bs c (as_null h) = refl
reading_fits Integer b bs c (as_integer h) = refl
reading_fits Integer b bs c (as_real h k) = refl
reading_fits Integer b bs c (as_text h) = refl
reading_fits Real b bs c (as_null h) = refl
reading_fits Real b bs c (as_integer h) = refl
reading_fits Real b bs c (as_real h k) = refl
reading_fits Real b bs c (as_text h) = refl
reading_fits Text b bs c (as_null h) = refl
reading_fits Text b bs c (as_integer h) = refl
reading_fits Text b bs c (as_real h k) = refl
reading_fits Text b bs c (as_text h) = refl

pub decoded_fits : (t : ColumnType) (b : ℕ) (bs : List ℕ) (c : Cell) → decoded (b ∷ bs) ≡ Some c → byte_fits t b ≡ fits t c
decoded_fits t b bs c h = reading_fits t b bs c (reading b bs c h).1

front_lt : (k : ℕ) (bs : List ℕ) → Bytes bs → k ≤ length bs → number_of (take k bs) < 256 ^ k
front_lt k bs t h = rw (length-take-le k bs h) at (number_of_lt (take k bs) (All-take (λ b. b < 256) k bs t))

reading_lawful : (b : ℕ) (bs : List ℕ) (c : Cell) → Bytes bs → length bs ≡ 16 → Reading bs b c → lawful_cell c ≡ true
unfolding lawful_cell
reading_lawful b bs c t l (as_null h) = refl
reading_lawful b bs c t l (as_integer h) =
    in_range_sfits (to_z w32 (number_of (take 4 bs))) (sfits_to_z (record { fits = front_lt 4 bs t (omega arith) }))
reading_lawful b bs c t l (as_real h k) =
    let n = number_of (take 8 bs) in
    let x = of_bits binary64 n in
    and_from (plain_real (without_negative_zero x)) (Ieee.fits binary64 (without_negative_zero x)) (plain_unsigned x k)
    (is_true (Ieee.fits binary64 (without_negative_zero x)) (fits_unsigned x (of_bits-fits binary64 n)))
reading_lawful b bs c t l (as_text h) = and_from (eqb (length bs) 16) (each printable bs) (eq-eqb (length bs) 16 l) h

pub decoded_lawful : (bs : List ℕ) → Bytes bs → (c : Cell) → decoded bs ≡ Some c → lawful_cell c ≡ true
unfolding decoded
decoded_lawful [] t c h = cc
decoded_lawful (b ∷ bs) (l, t) c h = let r = reading b bs c h in reading_lawful b bs c t r.0 r.1

-- ---- written again

-- bytes that begin with a number of k bytes and then have only zeros
front_and_zeros : (k : ℕ) (bs : List ℕ) → Bytes bs → k ≤ length bs → zeros (drop k bs) ≡ true → bytes_of k (number_of (take k bs)) ++ replicate (length bs - k) 0 ≡ bs
front_and_zeros k bs t l h =
    let front = bytes_of_number_of_at k (take k bs) (All-take (λ b. b < 256) k bs t) (length-take-le k bs l) in
    let back = each_same 0 (drop k bs) h ∙ ap (λ j. replicate j 0) (length-drop k bs) in
    ap₂ ◌++◌ front (sym back) ∙ take-append-drop k bs

negative_zero_bits : to_bits binary64 (fin true 0 (pos 0)) ≡ 9223372036854775808
unfolding to_bits
negative_zero_bits = refl

-- of a real, only negative zero's bytes are not written again
real_again :
    (bs : List ℕ) →
    Bytes bs →
    length bs ≡ 16 →
    zeros (drop 8 bs) ≡ true →
    float_is_finite (of_bits binary64 (number_of (take 8 bs))) ≡ true →
    (encoded (real (without_negative_zero (of_bits binary64 (number_of (take 8 bs))))) ≡ 0x12 ∷ bs) ⊎ (0x12 ∷ bs ≡ negative_zero_bytes)
unfolding encoded
real_again bs t l h k = from (same_or_negative_zero x (of_bits-fits binary64 n))
  where
    n : ℕ
    n = number_of (take 8 bs)

    x : Float
    x = of_bits binary64 n

    bits : to_bits binary64 x ≡ n
    bits = to_bits-of_bits binary64 n (front_lt 8 bs t (omega arith)) (finite_not_nan x k)

    written : ℕ → List ℕ
    written m = 0x12 ∷ (bytes_of 8 m ++ replicate 8 0)

    parts : bytes_of 8 n ++ replicate 8 0 ≡ bs
    parts = rw l at (front_and_zeros 8 bs t (omega arith) h)

    from : (without_negative_zero x ≡ x) ⊎ (x ≡ fin true 0 (pos 0)) → (encoded (real (without_negative_zero x)) ≡ 0x12 ∷ bs) ⊎ (0x12 ∷ bs ≡ negative_zero_bytes)
    from (inl e) = inl (ap written (ap (to_bits binary64) e ∙ bits) ∙ ap (λ cs. 0x12 ∷ cs) parts)
    from (inr e) = inr (ap (λ cs. 0x12 ∷ cs) (sym parts) ∙ ap written (sym bits ∙ ap (to_bits binary64) e ∙ negative_zero_bits))

reading_again : (b : ℕ) (bs : List ℕ) (c : Cell) → Bytes bs → length bs ≡ 16 → Reading bs b c → (encoded c ≡ b ∷ bs) ⊎ (b ∷ bs ≡ negative_zero_bytes)
unfolding encoded
reading_again b bs c t l (as_null h) = inl (ap (λ cs. 0x10 ∷ cs) (sym (each_same 0 bs h ∙ ap (λ j. replicate j 0) l)))
reading_again b bs c t l (as_integer h) =
    let n = number_of (take 4 bs) in
    let again = ap (λ m. bytes_of 4 m ++ replicate 12 0) (of_z-to_z w32 n (front_lt 4 bs t (omega arith))) in
    let parts : bytes_of 4 n ++ replicate 12 0 ≡ bs = rw l at (front_and_zeros 4 bs t (omega arith) h) in
    inl (ap (λ cs. 0x11 ∷ cs) (again ∙ parts))
reading_again b bs c t l (as_real h k) = real_again bs t l h k
reading_again b bs c t l (as_text h) = inl refl

pub encoded_decoded : (bs : List ℕ) → Bytes bs → (c : Cell) → decoded bs ≡ Some c → (encoded c ≡ bs) ⊎ (bs ≡ negative_zero_bytes)
unfolding decoded
encoded_decoded [] t c h = inl cc
encoded_decoded (b ∷ bs) (l, t) c h = let r = reading b bs c h in reading_again b bs c t r.0 r.1
