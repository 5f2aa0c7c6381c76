use Rattle.std.proofs.Common.{◌≡◌, Bool, true, false, not, ◌&&◌, take, drop, sym, ap, ◌∙◌, ap₂, rules}
use Rattle.std.specs.Option.{is_some}
use Rattle.values.specs.Names.{among, keywords, name_tail}
use Rattle.values.proofs.Keys.{not_among}
use Rattle.values.proofs.NameLaws.{lawful_by}
use Rattle.values.proofs.naming.is_lawful.Goals as goal
use Rattle.values.proofs.naming.is_lawful.Goals.{then-is_ascii_lowercase, else-is_ascii_lowercase}

pub returns-then-is_name_tail : goal.returns-then-is_name_tail
returns-then-is_name_tail c =
    let bs = c.args.bytes in
    let free = not_among bs c.is_none.result (sym (ap is_some c.of.ensures) ∙ c.is_none.ensures) in
    elim c.if-is_ascii_lowercase.branch [
      | then-is_ascii_lowercase w ↦
          free ∙
          (ap₂ (λ (t u : Bool). t && (u && not (among bs keywords))) (w.if-is_ascii_lowercase.ensures.value) (sym c.if-is_name_tail.true ∙ (w.value-is ∙ w.is_name_tail.ensures)) ∙
          sym (lawful_by bs (search rules)))
      | else-is_ascii_lowercase w ↦ let e : true ≡ false = sym c.if-is_name_tail.true ∙ (w.value-is ∙ w.if-is_ascii_lowercase.false) in absurd (cc)
    ]

pub returns-else-is_name_tail : goal.returns-else-is_name_tail
returns-else-is_name_tail c =
    let bs = c.args.bytes in
    elim c.if-is_ascii_lowercase.branch [
      | then-is_ascii_lowercase w ↦
          c.if-is_name_tail.false ∙
          (ap₂ (λ (t u : Bool). t && (u && not (among bs keywords))) w.if-is_ascii_lowercase.ensures.value (sym c.if-is_name_tail.false ∙ (w.value-is ∙ w.is_name_tail.ensures)) ∙
          sym (lawful_by bs (search rules)))
      | else-is_ascii_lowercase w ↦
          c.if-is_name_tail.false ∙
          (ap (λ (t : Bool). t && (name_tail (take 15 (drop 1 bs)) && not (among bs keywords))) w.if-is_ascii_lowercase.ensures.value ∙
          sym (lawful_by bs (search rules)))
    ]
