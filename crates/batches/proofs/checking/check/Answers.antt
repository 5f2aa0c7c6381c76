use Rattle.std.proofs.Common.{◌≡◌, ℕ, List, Ok, Err, ap, ◌∙◌, subst}
use Rattle.std.proofs.lemmas.Result.{err_from_is_err_and}
use Rattle.batches.specs.Checking.{Stepped, reading_by}
use Rattle.batches.specs.Reading.{Reading, refused}
use Rattle.batches.specs.Theorems.{OneReading, ReadsExactly, RefusedThere, TablesDescribed}
use Rattle.batches.specs.declared.layout.BatchFault.{BatchFault}
use Rattle.batches.proofs.Described.{tables_described}
use Rattle.batches.proofs.Exactly.{reads_exactly, one_reading}
use Rattle.batches.proofs.Refusals.{refused_there}
use Rattle.batches.proofs.Runs.{going_on, stopped, closed, reading_run, reading_long}
use Rattle.batches.proofs.checking.check.Goals as goal

-- the answer, with the theorems that stand beside it
ensured : {x y : Reading} → x ≡ y → record { answer : x ≡ y; exactly : ReadsExactly; one : OneReading; refused : RefusedThere; described : TablesDescribed }
ensured e =
    record { answer = e; exactly = reads_exactly; one = one_reading; refused = refused_there; described = tables_described }

pub returns-then-bytes-gt-LONGEST : goal.returns-then-bytes-gt-LONGEST
returns-then-bytes-gt-LONGEST c = ensured (reading_long c.args.bytes.now c.if-bytes-gt-LONGEST.true)

pub loop-checker-preserved : goal.loop-checker-preserved
loop-checker-preserved c =
    let bs = c.args.bytes.now in
    let k = c.loop-checker.checker in
    let d = c.step.new.self.progress in
    let h = subst (λ (xs : List ℕ). Stepped xs k.progress (Ok d)) c.loop-checker.invariant.0 c.in_ok-step.ensures.step in
    (ap (λ b. b.now) c.in_ok-step.ensures.bytes ∙ c.loop-checker.invariant.0, going_on bs k.progress c.loop-checker-test.true c.loop-checker.invariant.1 d h.0 h.1 h.2)

pub returns-in_err-step : goal.returns-in_err-step
returns-in_err-step c =
    let bs = c.args.bytes.now in
    let k = c.loop-checker.checker in
    let p = err_from_is_err_and c.from_residual.result c.from_residual.ensures.1 in
    let h = subst (λ (xs : List ℕ). Stepped xs k.progress (Err c.in_err-step.field-0.0)) c.loop-checker.invariant.0 c.in_err-step.ensures.step in
    ensured (ap (reading_by bs) p.1 ∙
    (ap (λ (f : BatchFault). refused f.place) p.2 ∙
    (stopped bs k.progress c.loop-checker-test.true c.loop-checker.invariant.1 _ h ∙ reading_run bs c.if-bytes-gt-LONGEST.false)))

pub returns : goal.returns
returns c =
    let bs = c.args.bytes.now in
    ensured (c.close.ensures bs ∙
    (closed bs c.loop-checker.checker.progress c.loop-checker-test.false c.loop-checker.invariant.1 ∙ reading_run bs c.if-bytes-gt-LONGEST.false))
