-- The bytes of a run are of its kind. Assumes nothing.
use Rattle.std.proofs.Common.{◌≡◌, ℕ, zero, suc, ◌+◌, ◌-◌, ◌≤◌, Bool, true, false, cond, ◌&&◌, List, [], ◌∷◌, ◌++◌, length, take, drop, filter, refl, ap, ◌∙◌, arith}
use Rattle.std.proofs.Math.Seq.{take-add}
use Rattle.std.proofs.lemmas.Bool.{and_from, and_parts}
use Rattle.std.proofs.lemmas.List.Elements.{filter-append}
use Rattle.std.proofs.lemmas.List.Folds.{length-prefix_len}
use Rattle.std.proofs.lemmas.List.{drop-drop, length-append}
use Rattle.std.specs.List.{between, prefix_len}
use Rattle.values.specs.Bytes.{each}
use Rattle.reader.specs.Classes.{run_end}

front_each : (p : ℕ → Bool) (ds : List ℕ) (n : ℕ) → n ≤ prefix_len p ds → each p (take n ds) ≡ true
front_each p ds zero l = refl
front_each p [] (suc n) l = refl
front_each p (d ∷ ds) (suc n) l = go (p d) refl l (λ k. front_each p ds n k)
  where
    go : (t : Bool) → p d ≡ t → suc n ≤ cond t (1 + prefix_len p ds) 0 → (n ≤ prefix_len p ds → each p (take n ds) ≡ true) → (p d && each p (take n ds)) ≡ true
    go true e l ih = and_from (p d) (each p (take n ds)) e (ih (omega arith))
    go false e l ih = absurd (omega arith)

-- a test that makes a run holds of each byte up to its end
pub run_each : (p : ℕ → Bool) (bs : List ℕ) (at j : ℕ) → j ≤ run_end p bs at → each p (between at j bs) ≡ true
unfolding run_end
run_each p bs at j l = front_each p (drop at bs) (j - at) (omega arith)

-- a filter keeps what passes
kept : (p : ℕ → Bool) (ds : List ℕ) → each p ds ≡ true → filter p ds ≡ ds
kept p [] h = refl
kept p (d ∷ ds) h =
    let q = and_parts (p d) (each p ds) h in
    ap (λ (t : Bool). cond t (d ∷ filter p ds) (filter p ds)) q.0 ∙ ap (λ (es : List ℕ). d ∷ es) (kept p ds q.1)

-- so a part that ends with a run has at least as many bytes of the kind as the run
pub run_kept : (p : ℕ → Bool) (bs : List ℕ) (at from end : ℕ) → at ≤ from → end ≡ run_end p bs from → end - from ≤ length (filter p (between at end bs))
unfolding run_end
run_kept p bs at from end l e =
    let n = from - at in
    let k = prefix_len p (drop from bs) in
    let parts : end - at ≡ n + k = omega (arith, e) in
    let behind : drop n (drop at bs) ≡ drop from bs = drop-drop n at bs ∙ ap (λ (j : ℕ). drop j bs) (omega arith) in
    let both : between at end bs ≡ take n (drop at bs) ++ take k (drop from bs) = ap (λ (j : ℕ). take j (drop at bs)) parts ∙ (take-add n k (drop at bs) ∙ ap (λ (ds : List ℕ). take n (drop at bs) ++ take k ds) behind) in
    let count = ap (λ (ds : List ℕ). length (filter p ds)) both ∙ (ap length (filter-append p (take n (drop at bs)) (take k (drop from bs))) ∙ length-append (filter p (take n (drop at bs))) (filter p (take k (drop from bs)))) in
    let run = ap length (kept p (take k (drop from bs)) (front_each p (drop from bs) k (omega arith))) ∙ length-prefix_len p (drop from bs) in
    omega (arith, count, e, run)
