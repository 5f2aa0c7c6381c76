use Rattle.std.proofs.Common.{◌≡◌, ℕ, Bool, true, false, List, length, is_some, None, Option, Err, Result, sym, ap, ◌∙◌, inl, inr, arith, rules}
use Rattle.std.proofs.lemmas.Result.{err_from_is_err_and}
use Rattle.std.specs.Option.{ok_or, option_map}
use Rattle.values.specs.Named.{name_bytes}
use Rattle.values.specs.declared.name.Name.{Name}
use Rattle.batches.specs.declared.layout.BatchFault.{BatchFault}
use Rattle.batches.specs.Layouts.{place_of, told_by}
use Rattle.batches.specs.Tables.{Told}
use Rattle.batches.proofs.NameParts.{name_read, no_name_read}
use Rattle.batches.proofs.NewTables.{table_unlawful, table_taken, table_placed}
use Rattle.batches.proofs.Stages.{byte_within}
use Rattle.batches.proofs.checker.Checker.take_table.Goals as goal

-- the test of the name, at the bytes that it was read from
tested : (n m : List ℕ) (ts : Told) (o : Option ℕ) (r : Bool) → n ≡ m → o ≡ place_of n ts → is_some o ≡ r → is_some (place_of m ts) ≡ r
tested n m ts o r e f g = sym (ap is_some (f ∙ ap (λ (k : List ℕ). place_of k ts) e)) ∙ g

-- the fault that stands for a name that is not there
given : (o : Option Name) (x y : BatchFault) → o ≡ None → ◌≡◌ {A = Result Name BatchFault} (Err x) (ok_or o y) → x ≡ y
given o x y n e = let f : ◌≡◌ {A = Result Name BatchFault} (Err x) (Err y) = e ∙ ap (λ (q : Option Name). ok_or q y) n in cc

pub returns-in_err-name-clause-step : goal.returns-in_err-name-clause-step
returns-in_err-name-clause-step c =
    let e : length c.args.self.now.progress.catalog.tables ≡ 8 = search rules in
    let p = err_from_is_err_and c.from_residual.result c.from_residual.ensures.1 in
    let f : p.0 ≡ record { place = c.args.self.now.progress.pos } =
    p.2 ∙ given c.name_at.result c.in_err-name.field-0.0 (record { place = c.args.self.now.progress.pos }) c.in_err-name.ensures.ok_part c.in_err-name.ensures.value in
    rw (p.1, f)
    (table_unlawful c.args.self.now.bytes.now c.args.self.now.progress c.requires.stage c.requires.byte (byte_within _ _ c.requires.byte (omega arith)) e c.if-catalog-ge8.false c.if-len-at-lt-TABLE_WIDTH.false (inl (no_name_read _ _ (ap (option_map name_bytes) (sym c.in_err-name.ensures.ok_part) ∙ c.name_at.ensures))))

pub returns-then-is_some-clause-step : goal.returns-then-is_some-clause-step
returns-then-is_some-clause-step c =
    let e : length c.args.self.now.progress.catalog.tables ≡ 8 = search rules in
    let n = name_read c.in_ok-name.name _ _ (ap (option_map name_bytes) (sym c.in_ok-name.ensures.ok_part) ∙ c.name_at.ensures) in
    table_unlawful c.args.self.now.bytes.now c.args.self.now.progress c.requires.stage c.requires.byte (byte_within _ _ c.requires.byte (omega arith)) e c.if-catalog-ge8.false c.if-len-at-lt-TABLE_WIDTH.false (inr (tested _ _ (told_by c.args.self.now.bytes.now c.args.self.now.progress.catalog) c.find.result true n.1 c.find.ensures (sym c.if-is_some.ensures)))

pub returns-clause-step : goal.returns-clause-step
returns-clause-step c =
    let e : length c.args.self.now.progress.catalog.tables ≡ 8 = search rules in
    let n = name_read c.in_ok-name.name _ _ (ap (option_map name_bytes) (sym c.in_ok-name.ensures.ok_part) ∙ c.name_at.ensures) in (
      16,
      table_taken c.args.self.now.bytes.now c.args.self.now.progress c.requires.stage c.requires.byte (byte_within _ _ c.requires.byte (omega arith)) e c.if-catalog-ge8.false c.if-len-at-lt-TABLE_WIDTH.false n.0 (tested _ _ (told_by c.args.self.now.bytes.now c.args.self.now.progress.catalog) c.find.result false n.1 c.find.ensures (sym c.if-is_some.ensures)),
      omega arith,
      table_placed c.args.self.now.bytes.now c.args.self.now.progress c.requires.stage c.requires.byte (byte_within _ _ c.requires.byte (omega arith)) e c.if-catalog-ge8.false c.if-len-at-lt-TABLE_WIDTH.false c.args.self.now.placed,
    )
