-- The cells that are made of a real and of a text, if any. Assumes nothing.
use Rattle.std.specs.Prelude.{ℕ, ◌&&◌, List, length, Option, nat_le, Float}
use Rattle.std.specs.Float.{float_is_finite}
use Rattle.values.specs.Bytes.{each, printable}
use Rattle.values.specs.Cells.{Cell, real, text}
use Rattle.values.specs.Codes.{given, without_negative_zero}
use Rattle.values.specs.Names.{filled}

-- a finite real, negative zero as zero
abbrev pub real_cell : Float → Option Cell
real_cell x = given (float_is_finite x) (real (without_negative_zero x))

-- up to sixteen printable bytes, filled with spaces
abbrev pub text_cell : List ℕ → Option Cell
text_cell bs = given (nat_le (length bs) 16 && each printable bs) (text (filled bs))
