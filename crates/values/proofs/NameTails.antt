-- The bytes of a name after its first: a name's bytes, and then only spaces. Assumes nothing.
use Rattle.std.proofs.Common.{◌≡◌, ℕ, suc, ◌+◌, Bool, true, false, cond, not, ◌&&◌, ◌||◌, eqb, List, [], ◌∷◌, take, drop, sym, refl, ap, ◌∙◌, ap₂, arith}
use Rattle.std.proofs.lemmas.Bool.Decides.{nat_tests}
use Rattle.std.specs.List.{prefix_len}
use Rattle.values.specs.Bytes.{spaces}
use Rattle.values.specs.Named.{trimmed}
use Rattle.values.specs.Names.{name_byte, name_tail}

pub not_space : (b : ℕ) → name_byte b ≡ true → eqb 32 b ≡ false
not_space b h = grind (arith, nat_tests)

or_none : (t : Bool) → (t || false) ≡ t
or_none true = refl
or_none false = refl

-- a name's byte leaves the matter to those after it
pub tail_more : (b : ℕ) (bs : List ℕ) → name_byte b ≡ true → name_tail (b ∷ bs) ≡ name_tail bs
tail_more b bs h =
    ap₂ (λ (t u : Bool). (t && name_tail bs) || (u && spaces bs)) h (not_space b h) ∙ or_none (name_tail bs)

-- and any other byte has to begin the spaces
pub tail_ends : (b : ℕ) (bs : List ℕ) → name_byte b ≡ false → name_tail (b ∷ bs) ≡ spaces (b ∷ bs)
tail_ends b bs h = ap (λ (t : Bool). (t && name_tail bs) || spaces (b ∷ bs)) h

skipped_one : (b : ℕ) (bs : List ℕ) (t : Bool) → name_byte b ≡ t → spaces (drop (prefix_len name_byte bs) bs) ≡ name_tail bs → spaces (drop (cond t (1 + prefix_len name_byte bs) 0) (b ∷ bs)) ≡ name_tail (b ∷ bs)
skipped_one b bs true h k =
    let e : 1 + prefix_len name_byte bs ≡ suc (prefix_len name_byte bs) = omega arith in
    ap (λ n. spaces (drop n (b ∷ bs))) e ∙ (k ∙ sym (tail_more b bs h))
skipped_one b bs false h k = sym (tail_ends b bs h)

-- so what follows the name's bytes has to be spaces
pub tail_skipped : (bs : List ℕ) → spaces (drop (prefix_len name_byte bs) bs) ≡ name_tail bs
tail_skipped [] = refl
tail_skipped (b ∷ bs) = skipped_one b bs (name_byte b) refl (tail_skipped bs)

trimmed_one : (b : ℕ) (bs : List ℕ) (t : Bool) → eqb b 32 ≡ t → take (prefix_len (λ c. not (eqb c 32)) bs) bs ≡ trimmed bs → take (cond (not t) (1 + prefix_len (λ c. not (eqb c 32)) bs) 0) (b ∷ bs) ≡ cond t [] (b ∷ trimmed bs)
trimmed_one b bs true h k = refl
trimmed_one b bs false h k =
    let e : 1 + prefix_len (λ c. not (eqb c 32)) bs ≡ suc (prefix_len (λ c. not (eqb c 32)) bs) = omega arith in
    ap (λ n. take n (b ∷ bs)) e ∙ ap (λ (cs : List ℕ). b ∷ cs) k

-- the bytes before the first space
pub trimmed_front : (bs : List ℕ) → take (prefix_len (λ b. not (eqb b 32)) bs) bs ≡ trimmed bs
trimmed_front [] = refl
trimmed_front (b ∷ bs) = trimmed_one b bs (eqb b 32) refl (trimmed_front bs)
