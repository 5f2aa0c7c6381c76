-- Reading a cell's command and operand. Assumes nothing.
use Rattle.std.proofs.Common.{◌≡◌, ℕ, suc, Ok, Err, Result, ◌/◌, ◌%◌, ◌^◌, ◌<◌, ◌≤◌, Bool, true, cond, ◌&&◌, List, [], ◌∷◌, ◌++◌, length, get_or, take, drop, Some, None, sym, refl, ap, ◌∙◌, subst, ap₂, arith, w8, Fits}
use lib.Ieee.{binary64, of_bits}
use Rattle.std.proofs.ByRecursion.{All-take}
use Rattle.std.proofs.lemmas.List.{length-drop, length-take}
use Rattle.std.proofs.lemmas.Bool.{ne_eqb, eq-eqb, le-leb, le-ltb}
use Rattle.std.specs.Float.{float_is_finite}
use Rattle.std.specs.Result.{MatchResult, result_ok}
use Rattle.values.specs.Bytes.{bytes_of, number_of, each, printable, zeros}
use Rattle.values.specs.Cells.{real, text, cell_of, cell_by}
use Rattle.values.specs.declared.kinds.Kind.{Kind}
use Rattle.values.specs.declared.value.Value.{Value}
use Rattle.values.specs.Codes.{decoded, operand_cell, real_from, text_from, given, without_negative_zero}
use Rattle.values.specs.Made.{real_cell, text_cell}
use Rattle.values.proofs.Filled.{filled_whole}
use Rattle.values.proofs.Numbers.{Bytes, number_of_lt, four_bytes, eight_bytes}
use Rattle.values.proofs.Reals.{finite_bits}

-- what a slice of bytes holds are bytes
pub bytes_typed : (xs : List ℕ) → ((i : ℕ) → Fits w8 (get_or xs i 0)) → Bytes xs
bytes_typed [] f = tt
bytes_typed (x ∷ xs) f = ((f 0).fits, bytes_typed xs (λ i. f (suc i)))

-- the value of a result that has become an option
pub some_ok : {T E : Type 0} (r : Result T E) (x : T) (P : T → Type 0) (Q : E → Type 0) → Some x ≡ result_ok r → MatchResult r P Q → P x
some_ok (Ok y) x P Q e m = let f : y ≡ x = cc in subst P f m
some_ok (Err d) x P Q e m = absurd (cc)

pub none_ok : {T E : Type 0} (r : Result T E) (P : T → Type 0) (Q : Type 0) → None ≡ result_ok r → MatchResult r P (λ _. Q) → Q
none_ok (Ok y) P Q e m = absurd (cc)
none_ok (Err d) P Q e m = m

-- only seventeen bytes are a cell's
pub decoded_empty : (bs : List ℕ) → length bs ≡ 0 → None ≡ decoded bs
unfolding decoded
decoded_empty [] h = refl
decoded_empty (b ∷ bs) h = absurd (omega arith)

pub decoded_none : (bs os : List ℕ) (b : ℕ) → bs ≡ b ∷ os → (length os ≡ 16 → ⊥) → None ≡ decoded bs
unfolding decoded
decoded_none bs os b e h =
    sym (ap decoded e ∙ ap (λ (t : Bool). cond t (operand_cell b os) None) (ne_eqb (length os) 16 h))

-- and they are read by the first and the rest
pub decoded_by : (bs os : List ℕ) (b k : ℕ) → bs ≡ b ∷ os → length os ≡ 16 → b ≡ k → decoded bs ≡ operand_cell k os
unfolding decoded
decoded_by bs os b k e h f =
    ap decoded e ∙
    (ap (λ (t : Bool). cond t (operand_cell b os) None) (eq-eqb (length os) 16 h) ∙ ap (λ (c : ℕ). operand_cell c os) f)

pub operand_length_lem : (bs : List ℕ) → length bs ≡ 17 → length (take 16 (drop 1 bs)) ≡ 16
operand_length_lem bs h = simp (length-take, length-drop) (omega arith)

pub front_below : (k : ℕ) (bs : List ℕ) → Bytes bs → k ≤ length bs → number_of (take k bs) < 256 ^ k
front_below k bs t h =
    let l : length (take k bs) ≡ k = simp length-take (omega arith) in
    subst (λ n. number_of (take k bs) < 256 ^ n) l (number_of_lt (take k bs) (All-take (λ b. b < 256) k bs t))

pub no_command : (b : ℕ) (bs : List ℕ) → (b ≡ 0x10 → ⊥) → (b ≡ 0x11 → ⊥) → (b ≡ 0x12 → ⊥) → (b ≡ 0x13 → ⊥) → operand_cell b bs ≡ None
no_command b bs p q r s = rw (ne_eqb b 0x10 p, ne_eqb b 0x11 q, ne_eqb b 0x12 r, ne_eqb b 0x13 s)

-- sixteen bytes of text need no filling
pub text_whole : (bs : List ℕ) → length bs ≡ 16 → text_cell bs ≡ text_from bs
text_whole bs h =
    ap₂ (λ (t : Bool) (ds : List ℕ). given (t && each printable bs) (text ds)) (le-leb (length bs) 16 (omega arith)) (filled_whole bs h)

-- a real by its bits, with the filling seen to be zeros
pub real_by : (bs : List ℕ) (n : ℕ) → true ≡ zeros (drop 8 bs) → n ≡ number_of (take 8 bs) → real_from bs ≡ real_cell (of_bits binary64 n)
real_by bs n z e =
    ap₂ (λ (t : Bool) (k : ℕ). let x = of_bits binary64 k in given (t && float_is_finite x) (real (without_negative_zero x))) (sym z) (sym e)

pub real_none : (n : ℕ) → 9218868437227405312 ≤ n % 9223372036854775808 → real_cell (of_bits binary64 n) ≡ None
real_none n h = ap (λ (t : Bool). given t (real (without_negative_zero (of_bits binary64 n)))) (finite_bits n ∙ le-ltb _ _ h)

-- a value's cell, by its kind
pub cell_at : (v : Value) (k : Kind) → v.kind ≡ k → cell_of v ≡ cell_by k v.integer v.real v.text
cell_at v k e = ap (λ (j : Kind). cell_by j v.integer v.real v.text) e

-- the bytes that the array of a number's bytes holds, one by one
abbrev pub Four : List ℕ → ℕ → Type 0
Four r n = r ≡ n / 16777216 % 256 ∷ n / 65536 % 256 ∷ n / 256 % 256 ∷ n % 256 ∷ []

abbrev pub four_of : List ℕ → List ℕ → List ℕ
four_of r zs = get_or r 0 0 ∷ get_or r 1 0 ∷ get_or r 2 0 ∷ get_or r 3 0 ∷ zs

pub four_array : (r : List ℕ) (n : ℕ) (zs : List ℕ) → Four r n → four_of r zs ≡ bytes_of 4 n ++ zs
four_array r n zs e = ap (λ (q : List ℕ). four_of q zs) e ∙ sym (ap (λ (q : List ℕ). q ++ zs) (four_bytes n))

abbrev pub Eight : List ℕ → ℕ → Type 0
Eight r n =
    r ≡ n / 72057594037927936 % 256 ∷ n / 281474976710656 % 256 ∷ n / 1099511627776 % 256 ∷ n / 4294967296 % 256 ∷ n / 16777216 % 256 ∷ n / 65536 % 256 ∷ n / 256 % 256 ∷ n % 256 ∷ []

abbrev pub eight_of : List ℕ → List ℕ → List ℕ
eight_of r zs =
    get_or r 0 0 ∷ get_or r 1 0 ∷ get_or r 2 0 ∷ get_or r 3 0 ∷ get_or r 4 0 ∷ get_or r 5 0 ∷ get_or r 6 0 ∷ get_or r 7 0 ∷ zs

pub eight_array : (r : List ℕ) (n : ℕ) (zs : List ℕ) → Eight r n → eight_of r zs ≡ bytes_of 8 n ++ zs
eight_array r n zs e = ap (λ (q : List ℕ). eight_of q zs) e ∙ sym (ap (λ (q : List ℕ). q ++ zs) (eight_bytes n))
