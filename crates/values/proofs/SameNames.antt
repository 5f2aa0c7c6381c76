-- Two texts are the same where the numbers that hold them are. Assumes nothing.
use Rattle.std.proofs.Common.{◌≡◌, ℕ, ◌^◌, ◌<◌, ◌&&◌, eqb, take, drop, sym, ap, ◌∙◌, ap₂}
use Rattle.std.proofs.lemmas.Slice.Eq.{bytes_eq-Decides}
use Rattle.std.proofs.lemmas.Bool.Decides.{Decides-and, Decides-eqb, Decides-like, same_from_decides}
use Rattle.std.specs.Str.{bytes_eq}
use Rattle.values.specs.Bytes.{bytes_of, number_of}
use Rattle.values.specs.Kept.{text_of}
use Rattle.values.specs.Named.{name_bytes}
use Rattle.values.specs.declared.name.Name.{Name}
use Rattle.values.proofs.Numbers.{number_of_bytes_of}

-- a number of eight bytes is told by them
same_number : (m n : ℕ) → m < 2 ^ 64 → n < 2 ^ 64 → bytes_of 8 m ≡ bytes_of 8 n → m ≡ n
same_number m n h k e = sym (number_of_bytes_of 8 m h) ∙ (ap number_of e ∙ number_of_bytes_of 8 n k)

module _ (a b c d : ℕ) (p : a < 2 ^ 64) (q : b < 2 ^ 64) (r : c < 2 ^ 64) (s : d < 2 ^ 64) where
  pub same_texts : text_of a b ≡ text_of c d → (a ≡ c) × (b ≡ d)
  unfolding text_of
  same_texts e = (same_number a c p r (ap (take 8) e), same_number b d q s (ap (drop 8) e))

  pub same_texts_test : (eqb a c && eqb b d) ≡ bytes_eq (text_of a b) (text_of c d)
  same_texts_test =
      same_from_decides _ _
      (Decides-like _ (λ t. ap₂ text_of t.0 t.1) same_texts (Decides-and _ _ (Decides-eqb a c) (Decides-eqb b d)))
      (bytes_eq-Decides (text_of a b) (text_of c d))

pub same_names :
    (n m : Name) →
    n.held.high < 2 ^ 64 →
    n.held.low < 2 ^ 64 →
    m.held.high < 2 ^ 64 →
    m.held.low < 2 ^ 64 →
    name_bytes n ≡ name_bytes m →
    (n.held.high ≡ m.held.high) × (n.held.low ≡ m.held.low)
unfolding name_bytes
same_names n m p q r s e = same_texts n.held.high n.held.low m.held.high m.held.low p q r s e
