-- The order of two reals that are no NaNs. Assumes nothing.
use Rattle.std.proofs.Common.{◌≡◌, Bool, true, false, cond, T, ◌⊎◌, Some, None, Less as below, Equal as level, Greater as above, refl, inl, inr}
use lib.Ieee.{Float, lt, eq}
use Rattle.std.proofs.lemmas.Float.{T_from_false, le_of_not-lt, lt-or-eq, eq_flip, eq-not_lt}
use Rattle.std.specs.Float.{NotNan}
use Rattle.std.specs.Ordering.{float_partial_cmp}
use Rattle.values.specs.Comparing.{order_by}

in_order_by :
    (l e g : Bool) →
    (l ≡ false → T e ⊎ T g) →
    (T e → T g → ⊥) →
    cond l (Some below) (cond e (Some level) (cond g (Some above) None)) ≡ Some (order_by l g)
in_order_by true e g h k = refl
in_order_by false true true h k = absurd (k tt tt)
in_order_by false true false h k = refl
in_order_by false false true h k = refl
in_order_by false false false h k = absurd (elim (h refl) [ inl p ↦ p | inr q ↦ q ])

-- such reals always compare
pub reals_in_order : (x y : Float) → NotNan x → NotNan y → float_partial_cmp x y ≡ Some (order_by (lt x y) (lt y x))
reals_in_order x y p q =
    in_order_by (lt x y) (eq x y) (lt y x)
    (λ n. turned (lt-or-eq y x (le_of_not-lt x y p q (T_from_false (lt x y) n))))
    (λ e g. eq-not_lt y x (eq_flip x y e) g)
  where
    turned : T (lt y x) ⊎ T (eq y x) → T (eq x y) ⊎ T (lt y x)
    turned (inl g) = inr g
    turned (inr e) = inl (eq_flip y x e)
