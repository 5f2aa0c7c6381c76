use Rattle.std.proofs.Common.{◌≡◌, ℕ, ◌-◌, List, ◌++◌, length, drop, replicate, Some, sym, ap, ◌∙◌, ap₂, arith}
use native.Mathlib.Nat.{sub-zero}
use borrow.Rule.Slice.PartMut.{post_of}
use Rattle.std.proofs.lemmas.List.{drop-replicate}
use Rattle.std.proofs.lemmas.Bool.{le-leb}
use Rattle.values.specs.Names.{filled_if}
use Rattle.values.proofs.bytes.fill.Goals as goal

-- what is left of sixteen spaces behind the bytes
spaces_left : (n : ℕ) → post_of {X = ℕ} 0 (n - 0) (replicate 16 32) ≡ replicate (16 - n) 32
spaces_left n = ap (λ (k : ℕ). drop {A = ℕ} k (replicate 16 32)) (sub-zero n) ∙ drop-replicate n 16 32

pub returns : goal.returns
returns c =
    ap₂ (λ (ys zs : List ℕ). Some (ys ++ zs)) c.copy_from_slice.ensures.after (spaces_left (length c.args.bytes.now)) ∙
    sym (ap (λ t. filled_if t c.args.bytes.now) (le-leb (length c.args.bytes.now) 16 (omega arith)))
