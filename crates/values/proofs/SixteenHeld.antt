-- Sixteen bytes in two numbers. Assumes nothing.
use Rattle.std.proofs.Common.{◌≡◌, ℕ, zero, suc, Bool, true, false, cond, eqb, ltb, ◌+◌, ◌^◌, ◌<◌, ◌≤◌, List, [], ◌∷◌, length, get_or, take, drop, w64, Ordering, Less as below, Equal as level, Greater as above, sym, refl, ap, ◌∙◌, ap₂, arith, nat_cmp}
use Rattle.std.specs.Int.{from_be_bytes}
use Rattle.std.specs.Ordering.{ordering_then}
use Rattle.std.proofs.lemmas.Bool.Decides.{nat_tests}
use Rattle.std.proofs.lemmas.List.{drop_more, take_all, length-drop, length-take}
use Rattle.values.specs.Bytes.{number_of}
use Rattle.values.specs.Comparing.{by_bytes}
use Rattle.values.specs.Kept.{bytes_held, text_of}
use Rattle.values.specs.declared.sixteen.SixteenBytes.{SixteenBytes}
use Rattle.values.proofs.Numbers.{Bytes}
use Rattle.values.proofs.Texts.{order_or, text_of_from, texts_in_order}

-- the elements from an index on, one by one
abbrev pub from_at : ℕ → List ℕ → ℕ → List ℕ
from_at zero bs i = []
from_at (suc n) bs i = get_or bs i 0 ∷ from_at n bs (i + 1)

from_at_part : (n : ℕ) (bs : List ℕ) (i : ℕ) → i + n ≤ length bs → from_at n bs i ≡ take n (drop i bs)
from_at_part zero bs i h = refl
from_at_part (suc n) bs i h =
    ap (λ (zs : List ℕ). get_or bs i 0 ∷ zs) (from_at_part n bs (i + 1) (omega arith)) ∙
    sym (ap (take (suc n)) (drop_more bs i 0 (omega arith)))

eight_number : (a b c d e f g h : ℕ) → from_be_bytes w64 (a ∷ b ∷ c ∷ d ∷ e ∷ f ∷ g ∷ h ∷ []) ≡ number_of (a ∷ b ∷ c ∷ d ∷ e ∷ f ∷ g ∷ h ∷ [])
eight_number a b c d e f g h = omega arith

eight_number_at : (bs : List ℕ) (i : ℕ) → i + 8 ≤ length bs → from_be_bytes w64 (from_at 8 bs i) ≡ number_of (take 8 (drop i bs))
eight_number_at bs i h =
    eight_number (get_or bs i 0) (get_or bs (i + 1) 0) (get_or bs (i + 1 + 1) 0) (get_or bs (i + 1 + 1 + 1) 0) (get_or bs (i + 1 + 1 + 1 + 1) 0) (get_or bs (i + 1 + 1 + 1 + 1 + 1) 0) (get_or bs (i + 1 + 1 + 1 + 1 + 1 + 1) 0) (get_or bs (i + 1 + 1 + 1 + 1 + 1 + 1 + 1) 0) ∙
    ap number_of (from_at_part 8 bs i h)

pub number_of_eight : (xs : List ℕ) → length xs ≡ 8 → from_be_bytes w64 xs ≡ number_of xs
number_of_eight xs h = eight_number_at xs 0 (omega arith) ∙ ap number_of (take_all 8 xs (omega arith))

pub number_of_front : (bs xs : List ℕ) → length bs ≡ 16 → xs ≡ take 8 bs → from_be_bytes w64 xs ≡ number_of (take 8 bs)
number_of_front bs xs l e =
    number_of_eight xs (ap length e ∙ simp length-take (omega arith)) ∙ ap number_of e

-- the numbers of the two halves hold the bytes
pub held_from :
    (bs : List ℕ) (high low : ℕ) →
    length bs ≡ 16 →
    Bytes bs →
    high ≡ from_be_bytes w64 (from_at 8 bs 0) →
    low ≡ from_be_bytes w64 (from_at 8 bs 8) →
    text_of high low ≡ bs
held_from bs high low l t p q =
    let back : take 8 (drop 8 bs) ≡ drop 8 bs = take_all 8 (drop 8 bs) (simp length-drop (omega arith)) in
    ap₂ text_of (p ∙ eight_number_at bs 0 (omega arith)) (q ∙ (eight_number_at bs 8 (omega arith) ∙ ap number_of back)) ∙ text_of_from bs t l

numbers_in_order : (a b : ℕ) (o : Ordering) → ordering_then (nat_cmp a b) o ≡ order_or a b o
numbers_in_order a b o = go (ltb a b) (ltb b a) (eqb a b) refl refl refl
  where
    go :
        (l g e : Bool) →
        ltb a b ≡ l →
        ltb b a ≡ g →
        eqb a b ≡ e →
        ordering_then (cond l below (cond e level above)) o ≡ cond l below (cond g above o)
    go true g e p q r = refl
    go false true true p q r = absurd (grind (arith, nat_tests))
    go false true false p q r = refl
    go false false true p q r = refl
    go false false false p q r = absurd (grind (arith, nat_tests))

-- bytes compare as the numbers that hold them
pub held_in_order :
    (s t : SixteenBytes) →
    s.high < 2 ^ 64 →
    s.low < 2 ^ 64 →
    t.high < 2 ^ 64 →
    t.low < 2 ^ 64 →
    ordering_then (nat_cmp s.high t.high) (nat_cmp s.low t.low) ≡ by_bytes (bytes_held s) (bytes_held t)
held_in_order s t p q r u =
    numbers_in_order s.high t.high (nat_cmp s.low t.low) ∙
    (ap (order_or s.high t.high) (sym (then_level (nat_cmp s.low t.low)) ∙ numbers_in_order s.low t.low level) ∙
    sym (texts_in_order s.high s.low t.high t.low p q r u))
  where
    then_level : (o : Ordering) → ordering_then o level ≡ o
    then_level below = refl
    then_level level = refl
    then_level above = refl
