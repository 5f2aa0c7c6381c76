use Rattle.std.proofs.Common.{◌≡◌, ◌++◌, length, is_ok, vec_items, vec_len, sym, ap, ◌∙◌, arith}
use Rattle.std.proofs.lemmas.Bool.{cond-true, eqb-false, eqb-true}
use Rattle.std.specs.List.{flat_map}
use Rattle.batches.specs.Commands.{bytes_in, column_command, end_command}
use Rattle.batches.proofs.Appended.{made_if, rows_none, rows_some, rows_written, whole_table}
use Rattle.batches.proofs.writer.BatchWriter.whole_table.Goals as goal
use Rattle.batches.proofs.writer.BatchWriter.whole_table.Goals.{then-not-is_empty+in_ok-put_all-2, else-not-is_empty}

-- the columns, as the vector lends them
width : (c : goal.After-put-2) → length (vec_items c.args.table.now.columns) ≡ vec_len c.args.table.now.columns
width c = ap length (sym c.deref.ensures.value) ∙ c.deref.ensures.len

-- the rows behind the columns, if there are columns
rows_behind : (c : goal.After-put-2) → bytes_in c.if-not-is_empty.self ≡ bytes_in c.put_all.new.self ++ rows_written c.args.table.now
rows_behind c =
    let l = width c in
    elim c.if-not-is_empty.branch [
      | then-not-is_empty+in_ok-put_all-2 w ↦
          let h : vec_len c.args.table.now.columns ≡ 0 → ⊥ = eqb-false (vec_len c.args.table.now.columns) 0 (sym c.is_empty.ensures ∙ w.if-not-is_empty.true) in
          ap bytes_in w.self-is ∙
          rows_some c.args.table.now (bytes_in c.put_all.new.self) (omega arith) w.deref-then-not-is_empty.ensures.value w.in_ok-put_all-2.ensures
      | else-not-is_empty w ↦
          let h : vec_len c.args.table.now.columns ≡ 0 = eqb-true (vec_len c.args.table.now.columns) 0 (sym c.is_empty.ensures ∙ w.if-not-is_empty.false) in
          ap bytes_in w.self-is ∙ rows_none c.args.table.now (bytes_in c.put_all.new.self) (omega arith)
    ]

pub returns : goal.returns
returns c =
    made_if c.put-2.result (λ ok.
    whole_table c.args.table.now (bytes_in c.args.self.now)
    c.in_ok-put.ensures
    (c.in_ok-put_all.ensures ∙ ap (λ xs. bytes_in c.put.new.self ++ flat_map column_command xs) c.deref.ensures.value)
    (rows_behind c)
    (c.put-2.ensures ∙ cond-true (is_ok c.put-2.result) (bytes_in c.if-not-is_empty.self ++ end_command) (bytes_in c.if-not-is_empty.self) ok))
