-- Finite reals, their bits, and negative zero made zero. Assumes nothing.
use Rattle.std.proofs.Common.{◌≡◌, ℕ, zero, suc, ◌+◌, ◌*◌, ◌/◌, ◌%◌, ◌^◌, ◌<◌, Bool, true, false, cond, not, ◌&&◌, ◌||◌, T, eqb, ltb, leb, ◌⊎◌, ℤ, pos, negsuc, sym, refl, ap, ◌∙◌, inl, inr, zero-lt-suc, mul-pos, zero-mul, arith, eqb→eq}
use mathlib.Core.Bool.{beq}
use lib.Dec.{eqb-suc-zero}
use lib.Ieee
use lib.Ieee.{Float, nan, inf, fin, binary64, up, down, odd, of_fields, of_bits, is_nan, nan_bits, eq}
use lib.Ieee.Bits.{nan_bits_is}
use lib.Ieee.Fits.{up_pos, cond-fits}
use Rattle.std.specs.Float as Floats
use Rattle.std.specs.Float.{float_is_finite}
use Rattle.std.proofs.lemmas.Nat.{pow_below}
use Rattle.std.proofs.lemmas.Bool.{false≢true, and_right, not_from_false}
use Rattle.std.proofs.lemmas.Bool.Decides.{nat_tests}
use Rattle.values.specs.Codes.{without_negative_zero}
use Rattle.values.specs.Kept.{plain_real}

-- ---- bits

finite_odd : (d : ℕ) (s : Bool) (q k l : ℕ) → float_is_finite (odd d s q k l) ≡ true
unfolding float_is_finite odd
finite_odd d s zero k l = refl
finite_odd d s (suc q) k l = refl

finite_cond : (a b s : Bool) (x : Float) → float_is_finite x ≡ true → float_is_finite (cond a (cond b (inf s) nan) x) ≡ not a
unfolding float_is_finite
finite_cond true true s x h = refl
finite_cond true false s x h = refl
finite_cond false b s x h = h

finite_fields : (s : Bool) (x t : ℕ) → float_is_finite (of_fields binary64 s x t) ≡ not (eqb x 2047)
unfolding of_fields
finite_fields s zero t = finite_odd 53 s t 0 1074
finite_fields s (suc x) t =
    finite_cond (eqb (suc x) 2047) (eqb t 0) s (odd 53 s (4503599627370496 + t) x 1074) (finite_odd 53 s (4503599627370496 + t) x 1074)

not_ones : (r : ℕ) → r < 9223372036854775808 → not (eqb (r / 4503599627370496) 2047) ≡ ltb r 9218868437227405312
not_ones r h = grind (arith, nat_tests)

-- a pattern is a finite double's where its sign's bit taken off leaves less than an infinity's
pub finite_bits : (b : ℕ) → float_is_finite (of_bits binary64 b) ≡ ltb (b % 9223372036854775808) 9218868437227405312
unfolding of_bits
finite_bits b =
    finite_fields (leb 9223372036854775808 b) (b % 9223372036854775808 / 4503599627370496) (b % 4503599627370496)
    ∙ not_ones (b % 9223372036854775808) (omega arith)

pub finite_not_nan : (x : Float) → float_is_finite x ≡ true → T (not (is_nan x))
unfolding float_is_finite is_nan
finite_not_nan nan h = absurd (false≢true h)
finite_not_nan (inf s) h = tt
finite_not_nan (fin s m e) h = tt

pub finite_not_nan_bits : (b : ℕ) → float_is_finite (of_bits binary64 b) ≡ true → T (not (nan_bits binary64 b))
finite_not_nan_bits b h = rw (nan_bits_is binary64 b) (finite_not_nan (of_bits binary64 b) h)

-- ---- negative zero made zero

-- a number's part that is compared with zero
zero_part : (s : Bool) (a b : ℕ) → b ≡ 0 → (eqb a b && (beq s false || eqb a 0)) ≡ eqb a 0
zero_part false a b e = grind (arith, nat_tests)
zero_part true a b e = grind (arith, nat_tests)

scaled_zero : (m : ℕ) (e : ℤ) → eqb (m * up e * 1) 0 ≡ eqb m 0
scaled_zero zero e = rw zero-mul
scaled_zero (suc m) e = let p : zero < suc m * up e = mul-pos (zero-lt-suc m) (up_pos e) in grind (arith, nat_tests)

equals_zero : (s : Bool) (m : ℕ) (e : ℤ) → eq (fin s m e) Floats.float_zero ≡ eqb m 0
unfolding eq
equals_zero s m e = zero_part s (m * up e * 1) (0 * down e) (zero-mul (down e)) ∙ scaled_zero m e

pub unsigned_zero : (x : Float) → without_negative_zero x ≡ cond (eq x Floats.float_zero) Floats.float_zero x
unfolding eq
unsigned_zero nan = refl
unsigned_zero (inf s) = refl
unsigned_zero (fin s m e) = ap (λ b. cond b Floats.float_zero (fin s m e)) (sym (equals_zero s m e))

pub plain_unsigned : (x : Float) → float_is_finite x ≡ true → plain_real (without_negative_zero x) ≡ true
unfolding float_is_finite
plain_unsigned nan h = h
plain_unsigned (inf s) h = h
plain_unsigned (fin s m e) h = by_zero (eqb m 0) refl
  where
    by_zero : (b : Bool) → eqb m 0 ≡ b → plain_real (cond b Floats.float_zero (fin s m e)) ≡ true
    by_zero true k = refl
    by_zero false k = not_from_false (s && eqb m 0) (and_right s (eqb m 0) k)

pub plain_finite : (x : Float) → plain_real x ≡ true → float_is_finite x ≡ true
unfolding float_is_finite
plain_finite nan h = h
plain_finite (inf s) h = h
plain_finite (fin s m e) h = refl

pub zero_fits : T (Ieee.fits binary64 Floats.float_zero)
unfolding Ieee.fits
zero_fits = tt

pub fits_unsigned : (x : Float) → T (Ieee.fits binary64 x) → T (Ieee.fits binary64 (without_negative_zero x))
fits_unsigned nan h = h
fits_unsigned (inf s) h = h
fits_unsigned (fin s m e) h = cond-fits binary64 (eqb m 0) Floats.float_zero (fin s m e) zero_fits h

no_power : (k : ℕ) → 2 ^ suc k ≡ 1 → ⊥
no_power k h = omega (arith, pow_below 0 (suc k) (omega arith))

unscaled : (e : ℤ) → T (eqb (up e * down e) 1) → e ≡ pos 0
unscaled (pos zero) h = refl
unscaled (pos (suc k)) h = absurd (no_power k (omega (arith, eqb→eq (2 ^ suc k * 1) 1 h)))
unscaled (negsuc k) h = absurd (no_power k (omega (arith, eqb→eq (1 * 2 ^ suc k) 1 h)))

-- only negative zero is changed
pub same_or_negative_zero : (x : Float) → T (Ieee.fits binary64 x) → (without_negative_zero x ≡ x) ⊎ (x ≡ fin true 0 (pos 0))
unfolding Ieee.fits
same_or_negative_zero nan h = inl refl
same_or_negative_zero (inf s) h = inl refl
same_or_negative_zero (fin true zero e) h = inr (ap (fin true 0) (unscaled e h))
same_or_negative_zero (fin false zero e) h = inl (ap (fin false 0) (sym (unscaled e h)))
same_or_negative_zero (fin s (suc m) e) h = inl (rw (eqb-suc-zero m))

pub plain_same : (x : Float) → plain_real x ≡ true → T (Ieee.fits binary64 x) → without_negative_zero x ≡ x
plain_same x h k = from (same_or_negative_zero x k)
  where
    from : (without_negative_zero x ≡ x) ⊎ (x ≡ fin true 0 (pos 0)) → without_negative_zero x ≡ x
    from (inl e) = e
    from (inr e) = absurd (false≢true (ap plain_real (sym e) ∙ h))
