use Rattle.std.proofs.Common.{ℕ, List, w32, SFits, rules, [], ◌∷◌, ◌++◌, replicate, sym, ap, ◌∙◌}
use Rattle.std.proofs.lemmas.Int.{to_z-of_z}
use Rattle.std.proofs.lemmas.List.{append-nil}
use Rattle.values.specs.Cells.{integer}
use Rattle.values.specs.Codes.{encoded}
use Rattle.values.specs.Kept.{bytes_held}
use Rattle.values.specs.declared.kinds.Kind.TheVariants.{Null, Integer, Real, Text}
use Rattle.values.proofs.Codec.{decoded_encoded}
use Rattle.values.proofs.Numbers.{four_bytes, eight_bytes}
use Rattle.values.proofs.Operands.{cell_at}
use Rattle.values.proofs.LawfulCells.{real_not_nan}
use Rattle.values.proofs.value.Value.to_bytes.Goals as goal

pub to_be_bytes-requires-in-Real : goal.to_be_bytes-requires-in-Real
to_be_bytes-requires-in-Real c = real_not_nan c.args.self c.in-Real.is

pub returns-in-Null : goal.returns-in-Null
unfolding encoded
returns-in-Null c = record { answer = c.cell_bytes.ensures ∙ sym (ap encoded (cell_at c.args.self Null c.in-Null.is)); back = decoded_encoded }

pub returns-in-Integer : goal.returns-in-Integer
unfolding encoded
returns-in-Integer c =
    let v = c.args.self in
    let f : SFits w32 v.integer = search rules in
    let e = c.to_be_bytes.ensures ∙ sym (four_bytes _) in
    record {
      answer =
          c.cell_bytes-in-Integer.ensures ∙
          (ap (λ (bs : List ℕ). 0x11 ∷ (bs ++ replicate 12 0)) e ∙ (ap (λ n. encoded (integer n)) (to_z-of_z w32 v.integer f) ∙ sym (ap encoded (cell_at v Integer c.in-Integer.is))));
      back = decoded_encoded;
    }

pub returns-in-Real : goal.returns-in-Real
unfolding encoded
returns-in-Real c =
    let e = c.to_be_bytes-in-Real.ensures ∙ sym (eight_bytes _) in
    record {
      answer =
          c.cell_bytes-in-Real.ensures ∙
          (ap (λ (bs : List ℕ). 0x12 ∷ (bs ++ replicate 8 0)) e ∙ sym (ap encoded (cell_at c.args.self Real c.in-Real.is)));
      back = decoded_encoded;
    }

pub returns-in-Text : goal.returns-in-Text
unfolding encoded
returns-in-Text c =
    let e = ap (λ (bs : List ℕ). 0x13 ∷ (bs ++ [])) c.from.ensures ∙ ap (λ (bs : List ℕ). 0x13 ∷ bs) (append-nil (bytes_held c.args.self.text)) in
    record {
      answer = c.cell_bytes-in-Text.ensures ∙ (e ∙ sym (ap encoded (cell_at c.args.self Text c.in-Text.is)));
      back = decoded_encoded;
    }
