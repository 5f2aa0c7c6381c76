-- What a value means. Assumes nothing.
use Rattle.std.specs.Prelude.{ℕ, Bool, true, ◌&&◌, List, length, ℤ, pos, negsuc, ◌==◌, int_le, Float}
use Rattle.std.specs.Float.{binary64}
use Rattle.std.specs.Float.Ieee
use Rattle.values.specs.Bytes.{each, printable}
use Rattle.values.specs.Kept.{bytes_held, plain_real}
use Rattle.values.specs.declared.kinds.Kind.{Kind}
use Rattle.values.specs.declared.kinds.Kind.TheVariants.{Null, Integer, Real, Text}
use Rattle.values.specs.declared.sixteen.SixteenBytes.{SixteenBytes}
use Rattle.values.specs.declared.value.Value.{Value}

-- a cell: nothing, an integer, a real, or a text of sixteen bytes
pub data Cell : Type 0 where
  null : Cell
  integer : ℤ → Cell
  real : Float → Cell
  text : List ℕ → Cell

abbrev pub cell_by : Kind → ℤ → Float → SixteenBytes → Cell
cell_by Null n x s = null
cell_by Integer n x s = integer n
cell_by Real n x s = real x
cell_by Text n x s = text (bytes_held s)

abbrev pub cell_of : Value → Cell
cell_of v = cell_by v.kind v.integer v.real v.text

-- the integers of 32 bits
abbrev pub in_range : ℤ → Bool
in_range n = int_le (negsuc 2147483647) n && int_le n (pos 2147483647)

-- what a cell may hold: an integer of 32 bits, a finite double other than negative zero, sixteen printable bytes
unfoldable pub lawful_cell : Cell → Bool
lawful_cell null = true
lawful_cell (integer n) = in_range n
lawful_cell (real x) = plain_real x && Ieee.fits binary64 x
lawful_cell (text bs) = length bs == 16 && each printable bs
