-- The cell of a value is lawful. Assumes nothing.
use Rattle.std.proofs.Common.{◌≡◌, ℕ, true, T, length, ℤ, refl, subst, w32, SFits}
use lib.Ieee
use lib.Ieee.{Float, binary64}
use lib.Ieee.Bits.{is_true}
use Rattle.std.proofs.lemmas.Bool.{and_from}
use Rattle.std.specs.Float.{NotNan}
use Rattle.values.specs.Cells.{cell_by, cell_of, lawful_cell}
use Rattle.values.specs.Kept.{kept, plain_real, text_of}
use Rattle.values.specs.declared.kinds.Kind.{Kind}
use Rattle.values.specs.declared.kinds.Kind.TheVariants.{Null, Integer, Real, Text}
use Rattle.values.specs.declared.sixteen.SixteenBytes.{SixteenBytes}
use Rattle.values.specs.declared.value.Value.{Value}
use Rattle.values.proofs.Codec.{in_range_sfits}
use Rattle.values.proofs.Reals.{finite_not_nan, plain_finite}

pub length_text_of : (high low : ℕ) → length (text_of high low) ≡ 16
unfolding text_of
length_text_of high low = refl

lawful_by_kind :
    (k : Kind) (n : ℤ) (x : Float) (s : SixteenBytes) →
    SFits w32 n →
    T (Ieee.fits binary64 x) →
    kept k x s ≡ true →
    lawful_cell (cell_by k n x s) ≡ true
unfolding lawful_cell text_of
lawful_by_kind Null n x s f t h = refl
lawful_by_kind Integer n x s f t h = in_range_sfits n f
lawful_by_kind Real n x s f t h = and_from (plain_real x) (Ieee.fits binary64 x) h (is_true (Ieee.fits binary64 x) t)
lawful_by_kind Text n x s f t h = h

pub cell_lawful : (v : Value) → SFits w32 v.integer → T (Ieee.fits binary64 v.real) → lawful_cell (cell_of v) ≡ true
cell_lawful v f t = lawful_by_kind v.kind v.integer v.real v.text f t v.kept

-- the real of a real's value is a number
pub real_not_nan : (v : Value) → v.kind ≡ Real → NotNan v.real
real_not_nan v e = finite_not_nan v.real (plain_finite v.real (subst (λ (k : Kind). kept k v.real v.text ≡ true) e v.kept))
