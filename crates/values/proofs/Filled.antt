-- Texts filled with spaces to sixteen bytes. Assumes nothing.
use Rattle.std.proofs.Common.{◌≡◌, ℕ, zero, suc, ◌-◌, ◌<◌, ◌≤◌, Bool, true, false, eqb, leb, List, [], ◌∷◌, length, replicate, Some, None, sym, refl, ◌∙◌, ap₂, arith, lit<}
use Rattle.std.proofs.ByRecursion.{All-append}
use Rattle.std.proofs.lemmas.List.{append-nil, length-append, length-replicate}
use Rattle.std.proofs.lemmas.List.Folds.{list_all-append}
use Rattle.std.proofs.lemmas.Bool.{and_parts, and_from, eqb-true, leb-true}
use Rattle.values.specs.Bytes.{each, printable}
use Rattle.values.specs.Names.{filled, filled_if}
use Rattle.values.proofs.Numbers.{Bytes, bytes_replicate}

pub bytes_printable : (bs : List ℕ) → each printable bs ≡ true → Bytes bs
bytes_printable [] h = tt
bytes_printable (b ∷ bs) h =
    let p = and_parts (printable b) (each printable bs) h in
    let l = leb-true b 126 (and_parts (leb 32 b) (leb b 126) p.0).1 in
    (omega arith, bytes_printable bs p.1)

pub each_replicate : (p : ℕ → Bool) (n b : ℕ) → p b ≡ true → each p (replicate n b) ≡ true
each_replicate p zero b h = refl
each_replicate p (suc n) b h = and_from _ _ h (each_replicate p n b h)

-- bytes that are all the same
pub each_same : (b : ℕ) (bs : List ℕ) → each (eqb b) bs ≡ true → bs ≡ replicate (length bs) b
each_same b [] h = refl
each_same b (c ∷ bs) h =
    let p = and_parts (eqb b c) (each (eqb b) bs) h in
    ap₂ ◌∷◌ (sym (eqb-true b c p.0)) (each_same b bs p.1)

pub filled_printable : (bs : List ℕ) → each printable bs ≡ true → each printable (filled bs) ≡ true
filled_printable bs h =
    list_all-append printable bs (replicate (16 - length bs) 32) ∙
    and_from _ _ h (each_replicate printable (16 - length bs) 32 refl)

pub length_filled : (bs : List ℕ) → length bs ≤ 16 → length (filled bs) ≡ 16
length_filled bs h = simp (length-append, length-replicate) (omega arith)

pub bytes_filled : (bs : List ℕ) → Bytes bs → Bytes (filled bs)
bytes_filled bs t = All-append (λ b. b < 256) bs (replicate (16 - length bs) 32) t (bytes_replicate (16 - length bs) 32 (lit< tt))

-- sixteen bytes are filled already
pub filled_whole : (bs : List ℕ) → length bs ≡ 16 → filled bs ≡ bs
filled_whole bs h = rw h (append-nil bs)

-- what `filled_if` gave
pub filled_if_some : (t : Bool) (bs ds : List ℕ) → Some ds ≡ filled_if t bs → (t ≡ true) × (ds ≡ filled bs)
filled_if_some true bs ds e = (refl, cc)
filled_if_some false bs ds e = absurd (let z : ◌≡◌ {A = ℕ} 0 1 = cc in omega arith)

pub filled_if_none : (t : Bool) (bs : List ℕ) → None ≡ filled_if t bs → t ≡ false
filled_if_none true bs e = absurd (let z : ◌≡◌ {A = ℕ} 0 1 = cc in omega arith)
filled_if_none false bs e = refl
