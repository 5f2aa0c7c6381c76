-- The words of a text, and what is wrong with them. Assumes nothing.
use Rattle.std.specs.Prelude.{ℕ, ◌+◌, ◌-◌, ◌*◌, ◌^◌, Bool, cond, ◌&&◌, List, map, length, drop, pos, Some, None, Ok, Err, filter, fold, Option, Result, ◌==◌, nat_le, nat_lt, slice_index}
use Rattle.std.specs.Float.{binary64}
use Rattle.std.specs.Float.Ieee.{div, of_int}
use Rattle.std.specs.List.{between}
use Rattle.std.specs.Option.{unwrap_or}
use Rattle.std.specs.Bool.{then_some}
use Rattle.std.specs.Char.{to_ascii_lowercase}
use Rattle.values.specs.Bytes.{printable}
use Rattle.values.specs.Cells.{Cell, integer, null, text, cell_of}
use Rattle.values.specs.Keywords.{keyword_of}
use Rattle.values.specs.Made.{real_cell}
use Rattle.values.specs.Named.{name_bytes}
use Rattle.values.specs.Names.{decimal_digit, filled}
use Rattle.values.specs.declared.keyword.Keyword.{Keyword}
use Rattle.reader.specs.Classes.{begins_name, blank, in_word, run_end, unquoted}
use Rattle.reader.specs.declared.word.ReaderFault.{ReaderFault}
use Rattle.reader.specs.declared.word.ReaderFault.TheVariants.{TextTooLong, Byte, WordTooLong}
use Rattle.reader.specs.declared.word.Scanned.{Scanned}
use Rattle.reader.specs.declared.word.Symbol.{Symbol}
use Rattle.reader.specs.declared.word.Symbol.TheVariants.{Comma, Point, Open, Close, Plus, Minus, Star, Slash, Equal, NotEqual, Less, Greater, LessOrEqual, GreaterOrEqual}
use Rattle.reader.specs.declared.word.Word.{Word}
use Rattle.reader.specs.declared.word.Word.TheVariants.{Keyword as KeywordWord, Symbol as SymbolWord, Name as NameWord, Literal as LiteralWord}

-- what a word is: a keyword, a symbol, a name of sixteen bytes, or a value
pub data Meant : Type 0 where
  keyword : Keyword → Meant
  symbol : Symbol → Meant
  name : List ℕ → Meant
  literal : Cell → Meant

-- what comes next in a text: its end; a word, where it begins and where it ends; or a fault, by number and place
pub data Scan : Type 0 where
  ended : Scan
  found : Meant → ℕ → ℕ → Scan
  faulty : ℕ → ℕ → Scan

-- the letters of a run of bytes, capitals as small ones, filled with spaces
unfoldable pub small_letters : List ℕ → ℕ → ℕ → List ℕ
small_letters bs at end = filled (map to_ascii_lowercase (between at end bs))

-- a keyword, or else a name
abbrev pub named : List ℕ → Option Keyword → Meant
named w (Some k) = keyword k
named w None = name w

-- the name or keyword that begins at an offset: at most sixteen letters, digits and underscores
unfoldable pub name_word : List ℕ → ℕ → ℕ → Scan
name_word bs at end =
    cond (nat_le (end - at) 16) (found (named (small_letters bs at end) (keyword_of (small_letters bs at end))) at end) (faulty 3 at)

-- the text whose quotes stand at two offsets: bytes from 32 to 126, at most sixteen
abbrev pub closed_text : List ℕ → ℕ → ℕ → ℕ → Scan
closed_text bs at odd close =
    cond (nat_lt odd close) (faulty 2 odd) (cond (nat_le (close - (at + 1)) 16) (found (literal (text (filled (between (at + 1) close bs)))) at (close + 1)) (faulty 3 at))

-- the text that begins at an offset, with its quote: it goes on to the next quote, and there must be one
unfoldable pub text_word : List ℕ → ℕ → Scan
text_word bs at =
    cond (nat_lt (run_end unquoted bs (at + 1)) (length bs)) (closed_text bs at (run_end printable bs (at + 1)) (run_end unquoted bs (at + 1))) (faulty 2 at)

-- the number that digits write, the first highest
abbrev pub written : List ℕ → ℕ
written = fold (λ n d. n * 10 + (d - 48)) 0

-- the digits between two offsets
abbrev pub digits_in : List ℕ → ℕ → ℕ → List ℕ
digits_in bs at end = filter decimal_digit (between at end bs)

-- their number, if they are not too many
unfoldable pub decimal_of : List ℕ → Option ℕ
decimal_of ds = then_some (nat_le (length ds) 15) (written ds)

-- the real of digits of which k stand behind the point: both numbers are doubles, so it is rounded once
unfoldable pub real_of : ℕ → ℕ → Cell
real_of n k = unwrap_or (real_cell (div binary64 (of_int binary64 (pos n)) (of_int binary64 (pos (10 ^ k))))) null

-- a point and a digit come first
unfoldable pub begins_fraction : List ℕ → Bool
begins_fraction bs = slice_index bs 0 == 46 && decimal_digit (slice_index bs 1)

-- a number without a point: an integer up to the largest
abbrev pub whole_by : ℕ → ℕ → Option ℕ → Scan
whole_by at end None = faulty 3 at
whole_by at end (Some n) = cond (nat_le n 2147483647) (found (literal (integer (pos n))) at end) (faulty 3 at)

-- a number with k digits behind its point
abbrev pub fraction_by : ℕ → ℕ → ℕ → Option ℕ → Scan
fraction_by at end k None = faulty 3 at
fraction_by at end k (Some n) = found (literal (real_of n k)) at end

-- the number that begins at an offset, where the digits up to a point, if any, end at a second, and those behind it at a third
abbrev pub number_by : List ℕ → ℕ → ℕ → ℕ → Scan
number_by bs at point end =
    cond (begins_fraction (drop point bs)) (fraction_by at end (end - (point + 1)) (decimal_of (digits_in bs at end))) (whole_by at point (decimal_of (digits_in bs at point)))

unfoldable pub number_word : List ℕ → ℕ → Scan
number_word bs at =
    number_by bs at (run_end decimal_digit bs at) (run_end decimal_digit bs (run_end decimal_digit bs at + 1))

-- two bytes that are one symbol
abbrev pub long_symbol : ℕ → ℕ → Option Symbol
long_symbol b c =
    cond (b == 60 && c == 61) (Some LessOrEqual) (cond (b == 60 && c == 62) (Some NotEqual) (cond (b == 62 && c == 61) (Some GreaterOrEqual) None))

-- one byte that is a symbol
abbrev pub short_symbol : ℕ → Option Symbol
short_symbol b =
    cond (b == 44) (Some Comma)
    (cond (b == 46) (Some Point)
    (cond (b == 40) (Some Open)
    (cond (b == 41) (Some Close)
    (cond (b == 43) (Some Plus)
    (cond (b == 45) (Some Minus)
    (cond (b == 42) (Some Star)
    (cond (b == 47) (Some Slash)
    (cond (b == 61) (Some Equal)
    (cond (b == 60) (Some Less)
    (cond (b == 62) (Some Greater) None))))))))))

-- the longer symbol, where there is one; else the shorter; else the byte begins no word
abbrev pub symbol_by : ℕ → Option Symbol → Option Symbol → Scan
symbol_by at (Some s) o = found (symbol s) at (at + 2)
symbol_by at None (Some s) = found (symbol s) at (at + 1)
symbol_by at None None = faulty 2 at

unfoldable pub symbol_word : List ℕ → ℕ → Scan
symbol_word bs at = symbol_by at (long_symbol (slice_index bs at) (slice_index bs (at + 1))) (short_symbol (slice_index bs at))

-- the word that begins at an offset with this byte: letters, a number, a text or a symbol
abbrev pub word_by : List ℕ → ℕ → ℕ → Scan
word_by bs at b =
    cond (begins_name b) (name_word bs at (run_end in_word bs at))
    (cond (decimal_digit b) (number_word bs at)
    (cond (b == 39) (text_word bs at)
    (symbol_word bs at)))

-- the word that begins at an offset
abbrev pub word_at : List ℕ → ℕ → Scan
word_at bs at = word_by bs at (slice_index bs at)

-- the next word from an offset on, behind the blanks
unfoldable pub scan_from : List ℕ → ℕ → Scan
scan_from bs from = cond (nat_lt (run_end blank bs from) (length bs)) (word_at bs (run_end blank bs from)) ended

-- what a word of the program means
abbrev pub meant_by : Word → Meant
meant_by (KeywordWord k) = keyword k
meant_by (SymbolWord s) = symbol s
meant_by (NameWord n) = name (name_bytes n)
meant_by (LiteralWord v) = literal (cell_of v)

-- the numbers and places of the faults
abbrev pub scan_fault : ReaderFault → Scan
scan_fault TextTooLong = faulty 1 1024
scan_fault (Byte p) = faulty 2 p
scan_fault (WordTooLong p) = faulty 3 p

-- what an answer with its offsets says
abbrev pub scan_of : Result Scanned ReaderFault → Scan
scan_of (Ok s) = found (meant_by s.word) s.place s.end
scan_of (Err f) = scan_fault f

-- and one that may say that the text has ended
abbrev pub next_scan : Result (Option Scanned) ReaderFault → Scan
next_scan (Ok None) = ended
next_scan (Ok (Some s)) = found (meant_by s.word) s.place s.end
next_scan (Err f) = scan_fault f
