-- A cell's seventeen bytes: a command byte and sixteen bytes of operand. Assumes nothing.
use Rattle.std.specs.Prelude.{ℕ, Bool, true, false, cond, ◌&&◌, List, [], ◌∷◌, ◌++◌, length, take, drop, replicate, pos, Some, None, codes, Option, ◌==◌, from_bits, to_bits, Float}
use Rattle.std.specs.Int.{cast_signed, cast_unsigned, w32}
use Rattle.std.specs.Float.{float_is_finite, nan, inf, fin, binary64}
use Rattle.values.specs.Bytes.{bytes_of, number_of, printable, each, zeros}
use Rattle.values.specs.Cells.{Cell, null, integer, real, text}
use Rattle.values.specs.declared.kinds.Kind.{Kind}
use Rattle.values.specs.declared.kinds.ColumnType.{ColumnType}
use Rattle.values.specs.declared.kinds.ColumnType.TheVariants.{Integer, Real, Text}

-- how a cell is written: 10 null, 11 integer, 12 real, 13 text (hexadecimal), filled up with zeros
unfoldable pub encoded : Cell → List ℕ
encoded null = 0x10 ∷ replicate 16 0
encoded (integer n) = 0x11 ∷ (bytes_of 4 (cast_unsigned w32 n) ++ replicate 12 0)
encoded (real x) = 0x12 ∷ (bytes_of 8 (to_bits binary64 x) ++ replicate 8 0)
encoded (text bs) = 0x13 ∷ bs

-- negative zero becomes zero
abbrev pub without_negative_zero : Float → Float
without_negative_zero nan = nan
without_negative_zero (inf s) = inf s
without_negative_zero (fin s m e) = cond (m == 0) (fin false 0 (pos 0)) (fin s m e)

abbrev pub given : Bool → Cell → Option Cell
given true c = Some c
given false c = None

-- the cell that an operand of sixteen bytes stands for, if any, by its command
abbrev pub null_from : List ℕ → Option Cell
null_from bs = given (zeros bs) null

abbrev pub integer_from : List ℕ → Option Cell
integer_from bs = given (zeros (drop 4 bs)) (integer (cast_signed w32 (number_of (take 4 bs))))

abbrev pub real_from : List ℕ → Option Cell
real_from bs =
    let x = from_bits binary64 (number_of (take 8 bs)) in
    given (zeros (drop 8 bs) && float_is_finite x) (real (without_negative_zero x))

abbrev pub text_from : List ℕ → Option Cell
text_from bs = given (each printable bs) (text bs)

abbrev pub operand_cell : ℕ → List ℕ → Option Cell
operand_cell b bs =
    cond (b == 0x10) (null_from bs) (cond (b == 0x11) (integer_from bs) (cond (b == 0x12) (real_from bs) (cond (b == 0x13) (text_from bs) None)))

-- the cell that bytes stand for: none but for seventeen bytes that keep the rules
unfoldable pub decoded : List ℕ → Option Cell
decoded [] = None
decoded (b ∷ bs) = cond (length bs == 16) (operand_cell b bs) None

-- the type of the columns that hold a kind: for a null there is none
abbrev pub column_of : Kind → Option ColumnType
column_of Kind.Null = None
column_of Kind.Integer = Some Integer
column_of Kind.Real = Some Real
column_of Kind.Text = Some Text

-- a cell may stand in a column: it is null or of the column's type
unfoldable pub fits : ColumnType → Cell → Bool
fits t null = true
fits Integer (integer n) = true
fits Integer (real x) = false
fits Integer (text bs) = false
fits Real (integer n) = false
fits Real (real x) = true
fits Real (text bs) = false
fits Text (integer n) = false
fits Text (real x) = false
fits Text (text bs) = true

-- the command of the cells of a type
abbrev pub command_of : ColumnType → ℕ
command_of Integer = 0x11
command_of Real = 0x12
command_of Text = 0x13

-- a command byte may stand in a column: it is a null's, or that of the column's type
unfoldable pub byte_fits : ColumnType → ℕ → Bool
byte_fits t b = cond (b == 0x10) true (b == command_of t)

-- a column type's byte
abbrev pub type_byte : ColumnType → ℕ
type_byte Integer = 1
type_byte Real = 2
type_byte Text = 3

abbrev pub type_of : ℕ → Option ColumnType
type_of b = cond (b == 1) (Some Integer) (cond (b == 2) (Some Real) (cond (b == 3) (Some Text) None))

-- the word for a column type
abbrev pub type_word : ColumnType → List ℕ
type_word Integer = codes "integer"
type_word Real = codes "real"
type_word Text = codes "text"
