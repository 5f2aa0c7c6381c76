use Rattle.std.proofs.Common.{◌≡◌, Some, sym, ap, ◌∙◌, ap₂, rules}
use Rattle.values.specs.Cells.{Cell, cell_by, cell_of}
use Rattle.values.specs.Comparing.{order_of}
use Rattle.values.specs.declared.kinds.Kind.{Kind}
use Rattle.values.specs.declared.kinds.Kind.TheVariants.{Real, Text}
use Rattle.values.specs.declared.value.Value.{Value}
use Rattle.values.proofs.LawfulCells.{real_not_nan}
use Rattle.values.proofs.Operands.{cell_at}
use Rattle.values.proofs.RealOrder.{reals_in_order}
use Rattle.values.proofs.SixteenHeld.{held_in_order}
use Rattle.values.proofs.value.Value.order.Goals as goal

cells_ordered :
    (s t : Value) (j k : Kind) →
    s.kind ≡ j →
    t.kind ≡ k →
    order_of (cell_of s) (cell_of t) ≡ order_of (cell_by j s.integer s.real s.text) (cell_by k t.integer t.real t.text)
cells_ordered s t j k p q = ap₂ (λ (x y : Cell). order_of x y) (cell_at s j p) (cell_at t k q)

pub returns-in-Real-Real : goal.returns-in-Real-Real
unfolding order_of
returns-in-Real-Real c =
    let s = c.args.self in
    let t = c.args.other in
    c.partial_cmp.ensures ∙
    (reals_in_order s.real t.real (real_not_nan s c.in-Real-Real.is-0) (real_not_nan t c.in-Real-Real.is-1) ∙
    sym (cells_ordered s t Real Real c.in-Real-Real.is-0 c.in-Real-Real.is-1))

pub returns-in-Text-Text : goal.returns-in-Text-Text
unfolding order_of
returns-in-Text-Text c =
    let s = c.args.self in
    let t = c.args.other in
    let e = held_in_order s.text t.text (search rules) (search rules) (search rules) (search rules) in
    ap Some (c.cmp-in-Text-Text.ensures ∙ e) ∙
    sym (cells_ordered s t Text Text c.in-Text-Text.is-0 c.in-Text-Text.is-1)
