-- Small letters in an area filled with spaces. Assumes nothing.
use Rattle.std.proofs.Common.{◌≡◌, ℕ, zero, suc, ◌-◌, List, ◌∷◌, ◌++◌, map, length, replicate, sym, refl, ap, ◌∙◌, arith}
use Rattle.std.proofs.lemmas.List.{get_or-map, length-map, map-append, same_lists}
use Rattle.std.specs.Array.{IsMapOf}
use Rattle.std.specs.Char.{to_ascii_lowercase}
use Rattle.std.specs.Fn.{Called}
use Rattle.values.specs.Names.{filled}
use denote.Param.Members.{Mut}

-- what an array's map gives, where each call gives what h does
pub mapped : {F : Type 0} {g : Mut F (ℕ × Unit {0}) ℕ} {f : F} (h : ℕ → ℕ) (xs ys : List ℕ) (n : ℕ) → length xs ≡ n → IsMapOf g f xs ys n → ((p q : F) (x y : ℕ) → Called g p (x, tt) y q → y ≡ h x) → ys ≡ map h xs
mapped h xs ys n e m call =
    same_lists ys (map h xs) (m.long ∙ sym (length-map xs h ∙ e)) (λ k d l. (let one = m.at k d d (let o = m.long in omega arith) in call one.0 one.1 _ _ one.2 ∙ sym (get_or-map h xs k d d (let o = m.long in omega arith))))

spaces_small : (n : ℕ) → map to_ascii_lowercase (replicate n 32) ≡ replicate n 32
spaces_small zero = refl
spaces_small (suc n) = ap (λ (bs : List ℕ). 32 ∷ bs) (spaces_small n)

-- the spaces stay as they are
pub filled_small : (bs : List ℕ) → map to_ascii_lowercase (filled bs) ≡ filled (map to_ascii_lowercase bs)
filled_small bs =
    map-append to_ascii_lowercase bs (replicate (16 - length bs) 32) ∙
    (ap (λ (ds : List ℕ). map to_ascii_lowercase bs ++ ds) (spaces_small (16 - length bs)) ∙
    ap (λ (n : ℕ). map to_ascii_lowercase bs ++ replicate (16 - n) 32) (sym (length-map bs to_ascii_lowercase)))
