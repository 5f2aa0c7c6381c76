-- What lawful names keep. Assumes nothing.
use Rattle.std.proofs.Common.{◌≡◌, ℕ, suc, ◌<◌, Bool, true, false, not, ◌&&◌, eqb, List, [], ◌∷◌, length, get_or, take, drop, sym, refl, ap, ◌∙◌, arith}
use Rattle.std.proofs.lemmas.List.{length-append, length-replicate, take_all}
use Rattle.std.proofs.lemmas.Bool.{and_parts, eqb-true, eq-eqb, ne_eqb, false≢true}
use Rattle.values.specs.Named.{name_bytes}
use Rattle.values.specs.Names.{among, filled, keywords, lawful_name, letter, name_tail}
use Rattle.values.specs.declared.name.Name.{Name}

pub name_lawful : (n : Name) → lawful_name (name_bytes n) ≡ true
unfolding name_bytes
name_lawful n = n.lawful

pub lawful_length : (bs : List ℕ) → lawful_name bs ≡ true → length bs ≡ 16
unfolding lawful_name
lawful_length [] h = absurd (false≢true h)
lawful_length (b ∷ bs) h = ap suc (eqb-true (length bs) 15 (and_parts (eqb (length bs) 15) _ h).0)

pub unlawful_length : (bs : List ℕ) → (length bs ≡ 16 → ⊥) → lawful_name bs ≡ false
unfolding lawful_name
unlawful_length [] h = refl
unlawful_length (b ∷ bs) h =
    ap (λ (t : Bool). t && (letter b && (name_tail bs && not (among (b ∷ bs) keywords)))) (ne_eqb (length bs) 15 (λ e. h (ap suc e)))

-- bytes that are more than sixteen stay so
pub unlawful_long : (bs : List ℕ) → 16 < length bs → lawful_name (filled bs) ≡ false
unlawful_long bs h = unlawful_length (filled bs) (simp (length-append, length-replicate) (λ e. omega arith))

-- sixteen bytes by the first and the rest
pub lawful_by :
    (bs : List ℕ) →
    length bs ≡ 16 →
    lawful_name bs ≡ (letter (get_or bs 0 0) && (name_tail (take 15 (drop 1 bs)) && not (among bs keywords)))
unfolding lawful_name
lawful_by [] h = let z : ◌≡◌ {A = ℕ} 0 16 = h in absurd (omega arith)
lawful_by (b ∷ bs) h =
    let l : length bs ≡ 15 = omega arith in
    ap (λ (t : Bool). t && (letter b && (name_tail bs && not (among (b ∷ bs) keywords)))) (eq-eqb (length bs) 15 l) ∙
    ap (λ (cs : List ℕ). letter b && (name_tail cs && not (among (b ∷ bs) keywords))) (sym (take_all 15 bs (omega arith)))
