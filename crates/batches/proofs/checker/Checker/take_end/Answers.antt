use Rattle.std.proofs.Common.{◌≡◌, length, sym, ap, ◌∙◌, inl, inr, arith, rules}
use Rattle.batches.specs.Checking.{state_of}
use Rattle.batches.specs.Reading.{goes, between}
use Rattle.batches.specs.Tables.{Told}
use Rattle.batches.proofs.Ends.{closing, end_refused, end_taken, closing_lies, inside_more, room_left}
use Rattle.batches.proofs.Stages.{byte_within, told_more}
use Rattle.batches.proofs.checker.Checker.take_end.Goals as goal
use Rattle.batches.proofs.checker.Checker.take_end.Goals.{then-table-eq0-via-then-table-eq0, then-table-eq0-via-else-table-eq0+then-table-ne0}

pub returns-then-table-eq0-clause-step : goal.returns-then-table-eq0-clause-step
returns-then-table-eq0-clause-step c =
    end_refused c.args.self.now.bytes.now c.args.self.now.progress c.args.table c.args.self.now.placed c.requires.table c.requires.byte
    (elim c.then-table-eq0.branch [
      | then-table-eq0-via-then-table-eq0 w ↦ inl w.if-table-eq0.true
      | then-table-eq0-via-else-table-eq0+then-table-ne0 w ↦ inr w.if-table-ne0.true
    ])

pub returns-clause-step : goal.returns-clause-step
unfolding state_of
returns-clause-step c =
    let bs = c.args.self.now.bytes.now in
    let s = c.args.self.now.progress in
    let e : length s.catalog.tables ≡ 8 = search rules in
    let l = byte_within bs s.pos c.requires.byte (omega arith) in
    let r = room_left bs s c.args.table c.args.self.now.placed c.requires.table in (
      0,
      end_taken bs s c.args.table c.args.self.now.placed c.requires.table c.requires.byte c.if-table-eq0.false c.if-table-ne0.false ∙
          ap (λ (ts : Told). goes (record { done = ts; stage = between }) 0) (sym (told_more bs s.catalog.tables s.catalog.count (closing c.args.table) (omega arith))),
      omega arith,
      record {
        within = omega arith;
        inside =
            inside_more bs s.catalog.tables s.catalog.count (closing c.args.table) (omega arith) c.args.self.now.placed.inside (closing_lies bs s c.args.table c.args.self.now.placed c.requires.table l c.if-table-ne0.false);
        stands = tt;
      },
    )
