-- How large the numbers are that a few digits write. Assumes nothing.
use Rattle.std.proofs.Common.{◌≡◌, ℕ, suc, ◌+◌, ◌-◌, ◌*◌, ◌^◌, ◌<◌, ◌≤◌, Bool, true, false, cond, leb, List, [], ◌∷◌, ◌++◌, length, take, drop, filter, fold, sym, refl, ap, ◌∙◌, subst, arith, add-zero}
use Rattle.std.proofs.Math.Nat.{pow-le-pow_right}
use Rattle.std.proofs.lemmas.Bool.{and_parts, leb-true}
use Rattle.std.proofs.lemmas.Grind.{pow_more}
use Rattle.std.proofs.lemmas.List.Elements.{filter-append}
use Rattle.std.proofs.lemmas.List.{length-append, take-append-drop}
use Rattle.values.specs.Names.{decimal_digit}
use Rattle.reader.specs.Words.{written}

pub ten_most : (k : ℕ) → k ≤ 15 → 10 ^ k ≤ 10 ^ 15
ten_most k l = pow-le-pow_right {n = 10} (omega arith) {i = k} {j = 15} l

pub digit_most : (d : ℕ) → decimal_digit d ≡ true → d ≤ 57
digit_most d h = leb-true d 57 (and_parts (leb 48 d) (leb d 57) h).1

-- k digits write less than the kth power of ten
below : (bs : List ℕ) (n k : ℕ) → n < 10 ^ k → fold (λ n d. n * 10 + (d - 48)) n (filter decimal_digit bs) < 10 ^ (k + length (filter decimal_digit bs))
below [] n k l = subst (λ (j : ℕ). n < 10 ^ j) (sym (add-zero k)) l
below (b ∷ bs) n k l = go (decimal_digit b) refl (below bs)
  where
    rest : List ℕ
    rest = filter decimal_digit bs

    go : (t : Bool) → decimal_digit b ≡ t → ((m j : ℕ) → m < 10 ^ j → fold (λ n d. n * 10 + (d - 48)) m (filter decimal_digit bs) < 10 ^ (j + length (filter decimal_digit bs))) → fold (λ n d. n * 10 + (d - 48)) n (cond t (b ∷ filter decimal_digit bs) (filter decimal_digit bs)) < 10 ^ (k + length (cond t (b ∷ filter decimal_digit bs) (filter decimal_digit bs)))
    go true e more =
        let z : k + 1 + length (filter decimal_digit bs) ≡ k + suc (length (filter decimal_digit bs)) = omega arith in
        subst (λ (j : ℕ). fold (λ n d. n * 10 + (d - 48)) (n * 10 + (b - 48)) (filter decimal_digit bs) < 10 ^ j) z (more (n * 10 + (b - 48)) (k + 1) (omega (arith, l, digit_most b e, pow_more 10 k)))
    go false e more = more n k l

-- the first of at most fifteen digits write a number of fifteen digits
pub written_small : (bs : List ℕ) (i : ℕ) → length (filter decimal_digit bs) ≤ 15 → written (filter decimal_digit (take i bs)) < 10 ^ 15
written_small bs i l =
    let front = filter decimal_digit (take i bs) in
    let both : filter decimal_digit bs ≡ front ++ filter decimal_digit (drop i bs) = ap (filter decimal_digit) (sym (take-append-drop i bs)) ∙ filter-append decimal_digit (take i bs) (drop i bs) in
    let long : length (filter decimal_digit bs) ≡ length front + length (filter decimal_digit (drop i bs)) = ap length both ∙ length-append front (filter decimal_digit (drop i bs)) in
    let most = ten_most (0 + length front) (omega arith) in
    let small = below (take i bs) 0 0 (omega arith) in
    omega arith
