use Rattle.std.proofs.Common.{◌≡◌, ℕ, Bool, leb, List, length, Some, sym, ap, ◌∙◌}
use Rattle.std.proofs.lemmas.Bool.{leb-false}
use Rattle.std.specs.Option.{option_map}
use Rattle.values.specs.Named.{name_bytes, name_if}
use Rattle.values.specs.Names.{filled, lawful_name}
use Rattle.values.proofs.Filled.{filled_if_none, filled_if_some}
use Rattle.values.proofs.NameLaws.{unlawful_long}
use Rattle.values.proofs.NameWords.{names_are_words}
use Rattle.values.proofs.name.Name.new.Goals as goal

pub returns-in_err-filled : goal.returns-in_err-filled
returns-in_err-filled c =
    let bs = c.args.bytes.now in
    let long = leb-false (length bs) 16 (filled_if_none (leb (length bs) 16) bs c.in_err-filled.ensures) in
    record {
      answer = ap (option_map name_bytes) c.from_residual.ensures ∙ sym (ap (λ (t : Bool). name_if t (filled bs)) (unlawful_long bs long));
      rule = names_are_words;
    }

pub returns-then-not-is_lawful : goal.returns-then-not-is_lawful
returns-then-not-is_lawful c =
    let bs = c.args.bytes.now in
    let same = filled_if_some (leb (length bs) 16) bs c.in_ok-filled.filled c.in_ok-filled.ensures in
    record {
      answer = sym (ap (λ (t : Bool). name_if t (filled bs)) (ap lawful_name (sym same.1) ∙ sym c.if-not-is_lawful.ensures));
      rule = names_are_words;
    }

pub invariant_of-result : goal.invariant_of-result
invariant_of-result c = record { lawful = ap lawful_name c.into.ensures ∙ sym c.if-not-is_lawful.ensures }

pub returns : goal.returns
unfolding name_bytes
returns c =
    let bs = c.args.bytes.now in
    let same = filled_if_some (leb (length bs) 16) bs c.in_ok-filled.filled c.in_ok-filled.ensures in
    let lawful : lawful_name (filled bs) ≡ lawful_name c.in_ok-filled.filled = ap lawful_name (sym same.1) in
    record {
      answer =
          ap (λ (cs : List ℕ). Some cs) (c.into.ensures ∙ same.1) ∙
          sym (ap (λ (t : Bool). name_if t (filled bs)) (lawful ∙ sym c.if-not-is_lawful.ensures));
      rule = names_are_words;
    }
