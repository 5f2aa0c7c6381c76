-- Arithmetic on cells, and its faults by number. Assumes nothing.
use Rattle.std.specs.Prelude.{ℕ, cond, ℤ, ◌+ℤ◌, ◌-ℤ◌, ◌*ℤ◌, neg_ℤ, Some, None, Ok, Err, Option, Result, ◌==◌, int_div, unsigned_abs, Float}
use Rattle.std.specs.Float.Ieee.{add, sub, mul, div, neg, eq}
use Rattle.std.specs.Float.{float_is_finite, float_zero, binary64}
use Rattle.values.specs.Cells.{Cell, null, integer, real, text, cell_of, in_range}
use Rattle.values.specs.Codes.{without_negative_zero}
use Rattle.values.specs.declared.kinds.Operator.{Operator}
use Rattle.values.specs.declared.kinds.Operator.TheVariants.{Add, Subtract, Multiply, Divide}
use Rattle.values.specs.declared.kinds.Sign.{Sign}
use Rattle.values.specs.declared.kinds.Sign.TheVariants.{Plus, Minus}
use Rattle.values.specs.declared.kinds.DataFault.{DataFault}
use Rattle.values.specs.declared.kinds.DataFault.TheVariants.{IntegerRange, ZeroDivisor, NotFinite}
use Rattle.values.specs.declared.value.Value.{Value}

-- what a calculation gives: a cell, or a fault's number
pub data Outcome : Type 0 where
  cell : Cell → Outcome
  fault : ℕ → Outcome

-- the numbers of the faults: an integer out of range, a zero divisor, a real that is not finite
abbrev pub fault_number : DataFault → ℕ
fault_number IntegerRange = 18
fault_number ZeroDivisor = 19
fault_number NotFinite = 20

abbrev pub outcome_of : Result Value DataFault → Outcome
outcome_of (Ok v) = cell (cell_of v)
outcome_of (Err f) = fault (fault_number f)

-- an exact integer result
abbrev pub ranged : ℤ → Outcome
ranged n = cond (in_range n) (cell (integer n)) (fault 18)

-- the same of an integer that is there only where it is in range
abbrev pub exactly : Option ℤ → Outcome
exactly (Some n) = cell (integer n)
exactly None = fault 18

-- a real result, rounded once by the operation
abbrev pub finite_real : Float → Outcome
finite_real x = cond (float_is_finite x) (cell (real (without_negative_zero x))) (fault 20)

abbrev pub integers : Operator → ℤ → ℤ → Outcome
integers Add a b = ranged (a +ℤ b)
integers Subtract a b = ranged (a -ℤ b)
integers Multiply a b = ranged (a *ℤ b)
integers Divide a b = cond (unsigned_abs b == 0) (fault 19) (ranged (int_div a b))

abbrev pub reals : Operator → Float → Float → Outcome
reals Add x y = finite_real (add binary64 x y)
reals Subtract x y = finite_real (sub binary64 x y)
reals Multiply x y = finite_real (mul binary64 x y)
reals Divide x y = cond (eq y float_zero) (fault 19) (finite_real (div binary64 x y))

-- An operator on two cells. A null operand gives null before anything else is looked at.
-- Operands that are not two integers or two reals give null too; a checked query has none.
unfoldable pub calculated : Operator → Cell → Cell → Outcome
calculated op (integer a) (integer b) = integers op a b
calculated op (integer a) null = cell null
calculated op (integer a) (real y) = cell null
calculated op (integer a) (text bs) = cell null
calculated op (real x) (real y) = reals op x y
calculated op (real x) null = cell null
calculated op (real x) (integer b) = cell null
calculated op (real x) (text bs) = cell null
calculated op null d = cell null
calculated op (text cs) d = cell null

-- A sign. Plus leaves its operand; minus on a text gives null, and a checked query has none.
unfoldable pub signed : Sign → Cell → Outcome
signed Plus c = cell c
signed Minus null = cell null
signed Minus (integer n) = ranged (neg_ℤ n)
signed Minus (real x) = finite_real (neg x)
signed Minus (text bs) = cell null
