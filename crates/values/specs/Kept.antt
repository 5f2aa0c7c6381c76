-- What always holds of a value's fields. Assumes nothing.
use Rattle.std.specs.Prelude.{ℕ, Bool, true, false, not, ◌&&◌, List, ◌++◌, ◌==◌, Float}
use Rattle.std.specs.Float.{nan, inf, fin}
use Rattle.values.specs.Bytes.{bytes_of, printable, each}
use Rattle.values.specs.declared.kinds.Kind.{Kind}
use Rattle.values.specs.declared.sixteen.SixteenBytes.{SixteenBytes}
use Rattle.values.specs.declared.kinds.Kind.TheVariants.{Null, Integer, Real, Text}

-- a real that a cell may hold: finite, and not negative zero
abbrev pub plain_real : Float → Bool
plain_real nan = false
plain_real (inf s) = false
plain_real (fin s m e) = not (s && m == 0)

-- the sixteen bytes in two numbers
unfoldable pub text_of : ℕ → ℕ → List ℕ
text_of high low = bytes_of 8 high ++ bytes_of 8 low

abbrev pub bytes_held : SixteenBytes → List ℕ
bytes_held s = text_of s.high s.low

abbrev pub kept : Kind → Float → SixteenBytes → Bool
kept Null x s = true
kept Integer x s = true
kept Real x s = plain_real x
kept Text x s = each printable (bytes_held s)
