-- The order of bytes is the order of the numbers that they write. Assumes nothing.
use Rattle.std.proofs.Common.{◌≡◌, ℕ, zero, suc, ◌+◌, ◌*◌, ◌/◌, ◌%◌, ◌^◌, ◌<◌, ◌≤◌, cond, ltb, ◌⊎◌, List, [], ◌∷◌, ◌++◌, length, take, drop, Ordering, Less as below, Equal as level, Greater as above, sym, refl, ap, ◌∙◌, ap₂, inl, inr, mod-lt, mod-eq_of_lt, suc-mul, arith, lit<}
use native.Mathlib.Nat.{pow-succ'}
use lib.Arith.{mod-mul}
use Rattle.std.proofs.lemmas.Nat.{mul-le}
use Rattle.std.proofs.ByRecursion.{All-take, All-drop}
use Rattle.std.proofs.lemmas.List.{append-nil, length-take, length-drop, take-append-drop}
use Rattle.std.proofs.lemmas.Bool.{cases_order, lt-ltb, le-ltb}
use Rattle.std.proofs.lemmas.Bool.Decides.{nat_tests}
use Rattle.values.specs.Bytes.{bytes_of, number_of}
use Rattle.values.specs.Comparing.{by_bytes}
use Rattle.values.specs.Kept.{text_of}
use Rattle.values.proofs.Numbers.{Bytes, power_positive, bytes_of_number_of_at}

-- the order of two numbers, or else o
abbrev pub order_or : ℕ → ℕ → Ordering → Ordering
order_or m n o = cond (ltb m n) below (cond (ltb n m) above o)

order_or_below : (m n : ℕ) (o : Ordering) → m < n → order_or m n o ≡ below
order_or_below m n o h = rw (lt-ltb m n h)

order_or_above : (m n : ℕ) (o : Ordering) → n < m → order_or m n o ≡ above
order_or_above m n o h = let k : n ≤ m = omega arith in rw (le-ltb m n k, lt-ltb n m h)

order_or_same : (m n : ℕ) (o : Ordering) → m ≡ n → order_or m n o ≡ o
order_or_same m n o h = let k : n ≤ m = omega arith in let l : m ≤ n = omega arith in rw (le-ltb m n k, le-ltb n m l)

digits_below : (a b p r s : ℕ) → r < p → a < b → a * p + r < b * p + s
digits_below a b p r s h l = omega (arith, mul-le (suc a) p b p l (omega arith), suc-mul a p)

order_or_add : (c d r s : ℕ) (o : Ordering) → c ≡ d → order_or r s o ≡ order_or (c + r) (d + s) o
order_or_add c d r s o e = grind (arith, nat_tests)

order_or_digits :
    (a b p r s : ℕ) (o : Ordering) → r < p → s < p → (a ≡ b) ⊎ ((a < b) ⊎ (b < a)) → order_or a b (order_or r s o) ≡ order_or (a * p + r) (b * p + s) o
order_or_digits a b p r s o h k (inl e) =
    order_or_same a b (order_or r s o) e ∙ order_or_add (a * p) (b * p) r s o (ap (λ x. x * p) e)
order_or_digits a b p r s o h k (inr (inl l)) =
    order_or_below a b (order_or r s o) l ∙ sym (order_or_below (a * p + r) (b * p + s) o (digits_below a b p r s h l))
order_or_digits a b p r s o h k (inr (inr l)) =
    order_or_above a b (order_or r s o) l ∙ sym (order_or_above (a * p + r) (b * p + s) o (digits_below b a p s r k l))

by_bytes_lowest : (k m n : ℕ) (xs ys : List ℕ) → by_bytes (bytes_of k m ++ xs) (bytes_of k n ++ ys) ≡ order_or (m % 256 ^ k) (n % 256 ^ k) (by_bytes xs ys)
by_bytes_lowest zero m n xs ys = sym (order_or_same (m % 1) (n % 1) (by_bytes xs ys) (omega arith))
by_bytes_lowest (suc k) m n xs ys =
    rw (by_bytes_lowest k m n xs ys, pow-succ', mod-mul m (lit< tt) (power_positive k), mod-mul n (lit< tt) (power_positive k))
    (order_or_digits
    (m / 256 ^ k % 256)
    (n / 256 ^ k % 256)
    (256 ^ k)
    (m % 256 ^ k)
    (n % 256 ^ k)
    (by_bytes xs ys)
    (mod-lt m (power_positive k))
    (mod-lt n (power_positive k))
    (cases_order (m / 256 ^ k % 256) (n / 256 ^ k % 256)))

-- numbers of k bytes decide first, and what follows them decides where they are equal
pub by_bytes_numbers :
    (k m n : ℕ) (xs ys : List ℕ) →
    m < 256 ^ k →
    n < 256 ^ k →
    by_bytes (bytes_of k m ++ xs) (bytes_of k n ++ ys) ≡ cond (ltb m n) below (cond (ltb n m) above (by_bytes xs ys))
by_bytes_numbers k m n xs ys h l =
    by_bytes_lowest k m n xs ys ∙ ap₂ (λ a b. order_or a b (by_bytes xs ys)) (mod-eq_of_lt h) (mod-eq_of_lt l)

pub by_bytes_same : (xs : List ℕ) → by_bytes xs xs ≡ level
by_bytes_same [] = refl
by_bytes_same (x ∷ xs) = order_or_same x x (by_bytes xs xs) refl ∙ by_bytes_same xs

-- sixteen bytes are the text of the numbers that their halves write
pub text_of_from : (bs : List ℕ) → Bytes bs → length bs ≡ 16 → text_of (number_of (take 8 bs)) (number_of (drop 8 bs)) ≡ bs
unfolding text_of
text_of_from bs t e =
    let front = bytes_of_number_of_at 8 (take 8 bs) (All-take (λ b. b < 256) 8 bs t) (simp length-take (omega arith)) in
    let back = bytes_of_number_of_at 8 (drop 8 bs) (All-drop (λ b. b < 256) 8 bs t) (simp length-drop (omega arith)) in
    ap₂ ◌++◌ front back ∙ take-append-drop 8 bs

-- two texts compare by their first numbers, and then by their second
pub texts_in_order : (a b c d : ℕ) → a < 2 ^ 64 → b < 2 ^ 64 → c < 2 ^ 64 → d < 2 ^ 64 → by_bytes (text_of a b) (text_of c d) ≡ order_or a c (order_or b d level)
unfolding text_of
texts_in_order a b c d p q r s =
    by_bytes_numbers 8 a c (bytes_of 8 b) (bytes_of 8 d) p r ∙
    ap (order_or a c)
    (sym (ap₂ by_bytes (append-nil (bytes_of 8 b)) (append-nil (bytes_of 8 d))) ∙ by_bytes_numbers 8 b d [] [] q s)
