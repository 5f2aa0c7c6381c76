-- What names are, and what cells and their seventeen bytes have to do with one another. Assumes nothing.
use Rattle.std.specs.Prelude.{◌≡◌, ℕ, ◌<◌, ◌≤◌, true, ◌⊎◌, List, ◌∷◌, length, replicate, Some, ◌≢◌, slice_index}
use Rattle.std.specs.List.{AllByRecursion}
use Rattle.values.specs.Cells.{Cell, lawful_cell}
use Rattle.values.specs.Codes.{decoded, encoded}
use Rattle.values.specs.Names.{filled, keyword_words, lawful_name, letter, name_byte}

-- a word of one to sixteen small letters, digits and underscores, a letter first, that is no keyword; filled with spaces
pub record IsName (bs : List ℕ) : Type 0 where
  pub word : List ℕ
  pub filling : bs ≡ filled word
  pub some : 1 ≤ length word
  pub short : length word ≤ 16
  pub first : letter (slice_index word 0) ≡ true
  pub all : AllByRecursion (λ b. name_byte b ≡ true) word
  pub free : AllByRecursion (λ k. word ≢ k) keyword_words

-- the test of sixteen bytes finds just these
abbrev pub NamesAreWords : Type 0
NamesAreWords = (bs : List ℕ) → (lawful_name bs ≡ true → IsName bs) × (IsName bs → lawful_name bs ≡ true)

-- the bytes of negative zero, which stand for zero
abbrev pub negative_zero_bytes : List ℕ
negative_zero_bytes = 0x12 ∷ 0x80 ∷ replicate 15 0

-- the bytes of a lawful cell are read as the cell
abbrev pub DecodesWhatIsEncoded : Type 0
DecodesWhatIsEncoded = (c : Cell) → lawful_cell c ≡ true → decoded (encoded c) ≡ Some c

-- what is read is written as the bytes it was read from, but for negative zero
abbrev pub EncodesWhatIsDecoded : Type 0
EncodesWhatIsDecoded =
    (bs : List ℕ) → AllByRecursion (λ b. b < 256) bs → (c : Cell) → decoded bs ≡ Some c → (encoded c ≡ bs) ⊎ (bs ≡ negative_zero_bytes)
