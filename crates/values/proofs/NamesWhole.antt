-- Names handed over as sixteen bytes. Assumes nothing.
use Rattle.std.proofs.Common.{◌≡◌, ℕ, Bool, true, false, List, length, Some, None, refl, ap, ◌∙◌, arith}
use Rattle.values.proofs.Filled.{filled_whole}
use Rattle.values.specs.Named.{name_bytes, name_from, name_if}
use Rattle.values.specs.Names.{lawful_name}
use Rattle.values.specs.declared.name.Name.{Name}

-- sixteen bytes need no filling
whole : (bs : List ℕ) → length bs ≡ 16 → name_from bs ≡ name_if (lawful_name bs) bs
whole bs h = ap (λ (ds : List ℕ). name_if (lawful_name ds) ds) (filled_whole bs h)

-- a name that was taken has those bytes, and they are lawful
pub name_taken : (n : Name) (bs : List ℕ) → length bs ≡ 16 → Some (name_bytes n) ≡ name_from bs → (lawful_name bs ≡ true) × (name_bytes n ≡ bs)
name_taken n bs h e = go (lawful_name bs) (e ∙ whole bs h)
  where
    go : (t : Bool) → Some (name_bytes n) ≡ name_if t bs → (t ≡ true) × (name_bytes n ≡ bs)
    go true f = (refl, cc)
    go false f = absurd (let z : ◌≡◌ {A = ℕ} 0 1 = cc in omega arith)

-- a name that was not taken is not lawful
pub name_refused : (bs : List ℕ) → length bs ≡ 16 → None ≡ name_from bs → lawful_name bs ≡ false
name_refused bs h e = go (lawful_name bs) (e ∙ whole bs h)
  where
    go : (t : Bool) → None ≡ name_if t bs → t ≡ false
    go true f = absurd (let z : ◌≡◌ {A = ℕ} 0 1 = cc in omega arith)
    go false f = refl
