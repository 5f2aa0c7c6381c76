-- The names of tables and columns. Assumes nothing.
use Rattle.std.specs.Prelude.{ℕ, ◌-◌, Bool, true, false, not, ◌&&◌, ◌||◌, List, [], ◌∷◌, ◌++◌, map, length, replicate, Some, None, codes, Option, ◌==◌, nat_le}
use Rattle.std.specs.Str.{bytes_eq}
use Rattle.values.specs.Bytes.{spaces}

abbrev pub letter : ℕ → Bool
letter b = nat_le 97 b && nat_le b 122

abbrev pub decimal_digit : ℕ → Bool
decimal_digit b = nat_le 48 b && nat_le b 57

-- the bytes of a name after its first: small letters, digits and the underscore
abbrev pub name_byte : ℕ → Bool
name_byte b = letter b || decimal_digit b || b == 95

-- such bytes, and then only spaces
abbrev pub name_tail : List ℕ → Bool
name_tail [] = true
name_tail (b ∷ bs) = (name_byte b && name_tail bs) || spaces (b ∷ bs)

-- filled with spaces to sixteen
abbrev pub filled : List ℕ → List ℕ
filled w = w ++ replicate (16 - length w) 32

abbrev pub filled_if : Bool → List ℕ → Option (List ℕ)
filled_if true w = Some (filled w)
filled_if false w = None

-- the keywords of the query language
abbrev pub keyword_words : List (List ℕ)
keyword_words =
    codes "select" ∷ codes "from" ∷ codes "where" ∷ codes "union" ∷ codes "intersection" ∷ codes "and" ∷ codes "or" ∷ codes "not" ∷ []

abbrev pub keywords : List (List ℕ)
keywords = map filled keyword_words

abbrev pub among : List ℕ → List (List ℕ) → Bool
among bs [] = false
among bs (w ∷ ws) = bytes_eq bs w || among bs ws

-- sixteen bytes that are a name: a small letter, then small letters, digits and underscores, then spaces; and no keyword
unfoldable pub lawful_name : List ℕ → Bool
lawful_name [] = false
lawful_name (b ∷ bs) = length bs == 15 && (letter b && (name_tail bs && not (among (b ∷ bs) keywords)))
