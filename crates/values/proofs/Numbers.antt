-- Numbers as bytes, there and back. Assumes nothing.
use Rattle.std.proofs.Common.{◌≡◌, ℕ, zero, suc, ◌+◌, ◌*◌, ◌/◌, ◌%◌, ◌^◌, ◌<◌, ◌≤◌, List, [], ◌∷◌, ◌++◌, length, get_or, take, replicate, sym, refl, ap, ◌∙◌, ap₂, mod-eq_of_lt, mul_assoc, add-mul, add_comm, pow-suc, div-one, add-one, arith, lit<, length-append, pow-add}
use native.Mathlib.Nat.{pow-succ', one-le-pow, add-mul-div_right, add-mul-mod_self_right, pow-le-pow_right}
use lib.Arith.{digits_lt, digits_div, mod-mul}
use Rattle.std.proofs.lemmas.List.{take_more}
use Rattle.std.specs.List.{AllByRecursion}
use Rattle.values.specs.Bytes.{bytes_of, number_of}

-- each element is a byte
abbrev pub Bytes : List ℕ → Type 0
Bytes = AllByRecursion (λ b. b < 256)

pub power_positive : (k : ℕ) → zero < 256 ^ k
power_positive k = one-le-pow k 256 (lit< tt)

pub length_bytes_of : (k n : ℕ) → length (bytes_of k n) ≡ k
length_bytes_of zero n = refl
length_bytes_of (suc k) n = ap suc (length_bytes_of k n)

pub bytes_bytes_of : (k n : ℕ) → Bytes (bytes_of k n)
bytes_bytes_of zero n = tt
bytes_bytes_of (suc k) n = (omega arith, bytes_bytes_of k n)

pub bytes_replicate : (k b : ℕ) → b < 256 → Bytes (replicate k b)
bytes_replicate zero b h = tt
bytes_replicate (suc k) b h = (h, bytes_replicate k b h)

-- of any number, what its lowest bytes write
pub number_of_lowest : (k n : ℕ) → number_of (bytes_of k n) ≡ n % 256 ^ k
number_of_lowest zero n = omega arith
number_of_lowest (suc k) n =
    rw (length_bytes_of k n, number_of_lowest k n, pow-succ') (sym (mod-mul n (lit< tt) (power_positive k)))

pub number_of_bytes_of : (k n : ℕ) → n < 256 ^ k → number_of (bytes_of k n) ≡ n
number_of_bytes_of k n h = number_of_lowest k n ∙ mod-eq_of_lt h

pub number_of_lt : (bs : List ℕ) → Bytes bs → number_of bs < 256 ^ length bs
number_of_lt [] t = lit< tt
number_of_lt (b ∷ bs) (h, t) = rw pow-succ' (digits_lt h (number_of_lt bs t))

head_is : (k a n : ℕ) → (a * 256 * 256 ^ k + n) / 256 ^ k % 256 ≡ n / 256 ^ k % 256
head_is k a n =
    rw (add_comm (a * 256 * 256 ^ k) n, add-mul-div_right n (a * 256) (power_positive k)) (add-mul-mod_self_right (n / 256 ^ k) a 256)

-- what stands above the lowest bytes does not show in them
pub bytes_of_lowest : (k a n : ℕ) → bytes_of k (a * 256 ^ k + n) ≡ bytes_of k n
bytes_of_lowest zero a n = refl
bytes_of_lowest (suc k) a n =
    let e : a * 256 ^ suc k + n ≡ a * 256 * 256 ^ k + n = rw (pow-succ', ← mul_assoc) in
    rw e (ap₂ ◌∷◌ (head_is k a n) (bytes_of_lowest k (a * 256) n))

pub bytes_of_number_of : (bs : List ℕ) → Bytes bs → bytes_of (length bs) (number_of bs) ≡ bs
bytes_of_number_of [] t = refl
bytes_of_number_of (b ∷ bs) (h, t) =
    ap₂ ◌∷◌ (rw (digits_div b (number_of_lt bs t)) (mod-eq_of_lt h)) (bytes_of_lowest (length bs) b (number_of bs) ∙ bytes_of_number_of bs t)

pub bytes_of_number_of_at : (k : ℕ) (bs : List ℕ) → Bytes bs → length bs ≡ k → bytes_of k (number_of bs) ≡ bs
bytes_of_number_of_at k bs t e = rw (← e) (bytes_of_number_of bs t)

pub number_of_append : (xs ys : List ℕ) → number_of (xs ++ ys) ≡ number_of xs * 256 ^ length ys + number_of ys
number_of_append [] ys = omega arith
number_of_append (x ∷ xs) ys = rw (length-append xs ys, pow-add 256 (length xs) (length ys), number_of_append xs ys, add-mul, mul_assoc x) (omega arith)

-- four and eight bytes, written out
pub four_bytes : (n : ℕ) → bytes_of 4 n ≡ n / 16777216 % 256 ∷ n / 65536 % 256 ∷ n / 256 % 256 ∷ n % 256 ∷ []
four_bytes n = rw div-one

pub eight_bytes : (n : ℕ) → bytes_of 8 n ≡ n / 72057594037927936 % 256 ∷ n / 281474976710656 % 256 ∷ n / 1099511627776 % 256 ∷ n / 4294967296 % 256 ∷ n / 16777216 % 256 ∷ n / 65536 % 256 ∷ n / 256 % 256 ∷ n % 256 ∷ []
eight_bytes n = rw div-one

pub of_four_bytes : (a b c d : ℕ) → number_of (a ∷ b ∷ c ∷ d ∷ []) ≡ a * 16777216 + b * 65536 + c * 256 + d
of_four_bytes a b c d = omega arith

pub of_eight_bytes : (b0 b1 b2 b3 b4 b5 b6 b7 : ℕ) → number_of (b0 ∷ b1 ∷ b2 ∷ b3 ∷ b4 ∷ b5 ∷ b6 ∷ b7 ∷ []) ≡ b0 * 72057594037927936 + b1 * 281474976710656 + b2 * 1099511627776 + b3 * 4294967296 + b4 * 16777216 + b5 * 65536 + b6 * 256 + b7
of_eight_bytes b0 b1 b2 b3 b4 b5 b6 b7 = omega arith

-- one byte more at the end
pub number_of_more : (xs : List ℕ) (i : ℕ) → i < length xs → number_of (take (i + 1) xs) ≡ number_of (take i xs) * 256 + get_or xs i 0
number_of_more xs i h =
    ap number_of (take_more xs i 0 h) ∙ (number_of_append (take i xs) (get_or xs i 0 ∷ []) ∙ omega arith)

-- and the room that it takes
pub more_below : (n b i : ℕ) → n < 256 ^ i → b < 256 → n * 256 + b < 256 ^ (i + 1)
more_below n b i h l = rw (add-one, pow-suc) (omega arith)

pub more_fits : (n b i : ℕ) → n < 256 ^ i → b < 256 → i < 8 → n * 256 + b < 2 ^ 64
more_fits n b i h l u =
    let p : i + 1 ≤ 8 = omega arith in
    let m : 256 ^ (i + 1) ≤ 256 ^ 8 = pow-le-pow_right (lit< tt) p in
    omega (arith, more_below n b i h l, m)
