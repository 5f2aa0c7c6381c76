-- The bytes that words are made of. Assumes nothing.
use Rattle.std.specs.Prelude.{ℕ, ◌+◌, Bool, not, ◌&&◌, ◌||◌, List, drop, ◌==◌, nat_le}
use Rattle.std.specs.List.{prefix_len}
use Rattle.values.specs.Names.{decimal_digit, letter}

abbrev pub capital : ℕ → Bool
capital b = nat_le 65 b && nat_le b 90

-- spaces, tabs and linefeeds part words
abbrev pub blank : ℕ → Bool
blank b = b == 32 || (b == 9 || b == 10)

-- a letter begins a name or a keyword
abbrev pub begins_name : ℕ → Bool
begins_name b = letter b || capital b

abbrev pub in_word : ℕ → Bool
in_word b = letter b || (capital b || (decimal_digit b || b == 95))

-- a text goes on to the next quote
abbrev pub unquoted : ℕ → Bool
unquoted b = not (b == 39)

-- where a run of such bytes ends that begins at an offset
unfoldable pub run_end : (ℕ → Bool) → List ℕ → ℕ → ℕ
run_end p bs at = at + prefix_len p (drop at bs)
