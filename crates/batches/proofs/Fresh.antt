-- Few tables leave some lawful name free: one that differs from each table's name at a place of its own.
use Rattle.std.proofs.Common.{◌≡◌, ℕ, zero, suc, ◌<◌, ◌≤◌, true, false, cond, ◌&&◌, eqb, List, [], ◌∷◌, ◌++◌, length, get_or, sym, refl, ap, ◌∙◌, subst, inl, inr, append_assoc, arith}
use Rattle.std.specs.Str.{bytes_eq}
use Rattle.std.proofs.lemmas.List.{get_or_at, length_push}
use Rattle.std.proofs.lemmas.Bool.{cases_Bool, eqb-true, eqb-false, or_from, or_left, and_from}
use Rattle.values.specs.Bytes.{each}
use Rattle.values.specs.Names.{lawful_name, name_byte, name_tail}
use Rattle.batches.specs.Reading.{taken}
use Rattle.batches.specs.Tables.{Told}
use Rattle.batches.proofs.Commands.{same_not}

-- a letter other than a byte
abbrev other : ℕ → ℕ
other b = cond (eqb b 97) 98 97

other_differs : (b : ℕ) → other b ≡ b → ⊥
other_differs b e = elim (cases_Bool (eqb b 97)) [
  | inl k ↦
      let p : b ≡ 97 = eqb-true b 97 k in
      let q : 98 ≡ b = rw k at e in
      omega arith
  | inr k ↦
      let q : 97 ≡ b = rw k at e in
      eqb-false b 97 k (sym q)
]

other_named : (b : ℕ) → name_byte (other b) ≡ true
other_named b = elim (cases_Bool (eqb b 97)) [ inl k ↦ rw k | inr k ↦ rw k ]

-- k bytes, the first of which stands at the place i: for each table a byte that its name does not have there, then spaces
abbrev fresh : ℕ → ℕ → Told → List ℕ
fresh zero i ts = []
fresh (suc k) i [] = 32 ∷ fresh k i []
fresh (suc k) i (t ∷ ts) = other (get_or t.name i 0) ∷ fresh k (suc i) ts

fresh_length : (k i : ℕ) (ts : Told) → length (fresh k i ts) ≡ k
fresh_length zero i ts = refl
fresh_length (suc k) i [] = ap suc (fresh_length k i [])
fresh_length (suc k) i (t ∷ ts) = ap suc (fresh_length k (suc i) ts)

fresh_spaces : (k i : ℕ) → each (eqb 32) (fresh k i []) ≡ true
fresh_spaces zero i = refl
fresh_spaces (suc k) i = fresh_spaces k i

fresh_tail : (k i : ℕ) (ts : Told) → name_tail (fresh k i ts) ≡ true
fresh_tail zero i ts = refl
fresh_tail (suc k) i [] = fresh_spaces k i
fresh_tail (suc k) i (t ∷ ts) =
    or_left (name_byte (other (get_or t.name i 0)) && name_tail (fresh k (suc i) ts)) _ (and_from (name_byte (other (get_or t.name i 0))) (name_tail (fresh k (suc i) ts)) (other_named (get_or t.name i 0)) (fresh_tail k (suc i) ts))

fresh_free : (k i : ℕ) (ts : Told) (front : List ℕ) → length front ≡ i → length ts ≤ k → taken (front ++ fresh k i ts) ts ≡ false
fresh_free zero i [] front e l = refl
fresh_free zero i (t ∷ ts) front e l = absurd (omega arith)
fresh_free (suc k) i [] front e l = refl
fresh_free (suc k) i (t ∷ ts) front e l =
    let x = other (get_or t.name i 0) in
    let name = front ++ x ∷ fresh k (suc i) ts in
    let moved : (front ++ x ∷ []) ++ fresh k (suc i) ts ≡ name = append_assoc front (x ∷ []) (fresh k (suc i) ts) in
    let here : get_or name i 0 ≡ x = get_or_at front x (fresh k (suc i) ts) 0 i e in
    let differs : bytes_eq name t.name ≡ false = same_not name t.name (λ q. other_differs (get_or t.name i 0) (sym here ∙ ap (λ y. get_or y i 0) q)) in
    let rest : taken ((front ++ x ∷ []) ++ fresh k (suc i) ts) ts ≡ false = fresh_free k (suc i) ts (front ++ x ∷ []) (omega (arith, length_push front x)) (omega arith) in
    or_from (bytes_eq name t.name) (taken name ts) differs (subst (λ y. taken y ts ≡ false) moved rest)

abbrev pub free_name : Told → List ℕ
free_name ts = 122 ∷ fresh 15 1 ts

pub free_name_lawful : (ts : Told) → lawful_name (free_name ts) ≡ true
unfolding lawful_name
free_name_lawful ts = rw (fresh_length 15 1 ts, fresh_tail 15 1 ts)

pub free_name_free : (ts : Told) → length ts < 8 → taken (free_name ts) ts ≡ false
free_name_free ts l = fresh_free 15 1 ts (122 ∷ []) refl (omega arith)
