-- The ways in which the reading takes a command. Assumes nothing.
use Rattle.std.proofs.Common.{◌≡◌, ℕ, ◌+◌, ◌<◌, ◌≤◌, Bool, true, false, cond, ltb, List, length, take, Some, None, Option, ap, ◌∙◌}
use Rattle.std.proofs.lemmas.Bool.{lt-ltb, le-ltb}
use Rattle.batches.specs.Format.{operand_length}
use Rattle.batches.specs.Reading.{State, Step, goes, stops, step, step_to, may_stand, after}

module _ (s : State) (at b : ℕ) (bs : List ℕ) where
  -- the rest of a step whose byte may stand here
  abbrev rest : Bool → Step
  rest short =
      cond short (stops (at + 1 + length bs)) (step_to at (operand_length b) (after s b (take (operand_length b) bs)))

  -- its byte may not stand here
  pub byte_refused : may_stand s b ≡ false → step s at b bs ≡ stops at
  byte_refused e = ap (λ (t : Bool). cond t (rest (ltb (length bs) (operand_length b))) (stops at)) e

  may : may_stand s b ≡ true → step s at b bs ≡ rest (ltb (length bs) (operand_length b))
  may e = ap (λ (t : Bool). cond t (rest (ltb (length bs) (operand_length b))) (stops at)) e

  -- it is cut short
  pub cut_short : may_stand s b ≡ true → length bs < operand_length b → step s at b bs ≡ stops (at + 1 + length bs)
  cut_short e h = may e ∙ ap rest (lt-ltb _ _ h)

  by_operand : (o : Option State) → may_stand s b ≡ true → operand_length b ≤ length bs → after s b (take (operand_length b) bs) ≡ o → step s at b bs ≡ step_to at (operand_length b) o
  by_operand o e h p = may e ∙ (ap rest (le-ltb _ _ h) ∙ ap (step_to at (operand_length b)) p)

  -- its operand is against the rules
  pub operand_refused : may_stand s b ≡ true → operand_length b ≤ length bs → after s b (take (operand_length b) bs) ≡ None → step s at b bs ≡ stops at
  operand_refused = by_operand None

  -- it is taken
  pub taken_on : (t : State) → may_stand s b ≡ true → operand_length b ≤ length bs → after s b (take (operand_length b) bs) ≡ Some t → step s at b bs ≡ goes t (operand_length b)
  taken_on t = by_operand (Some t)
