-- A batch is read as tables exactly when it is lawful and stands for them, and it stands for one list of tables at most.
use Rattle.std.proofs.Common.{◌≡◌, ℕ, ◌+◌, ◌≤◌, Bool, true, false, ltb, List, [], ◌++◌, length, sym, refl, ap, ◌∙◌, subst, append-nil, arith}
use Rattle.std.proofs.lemmas.Bool.{le-ltb, ltb-false}
use Rattle.batches.specs.Format.{IsBatch}
use Rattle.batches.specs.Reading.{Stage, between, columns, cells, State, Reading, tables, refused, close, run, reading, start, longest}
use Rattle.batches.specs.Tables.{Told}
use Rattle.batches.specs.Theorems.{ReadsExactly, OneReading}
use Rattle.batches.proofs.Complete.{at, batch_read}
use Rattle.batches.proofs.Moves.{Moves, Halts, closed, forbidden, short, unlawful, run_followed}
use Rattle.batches.proofs.Sound.{moves_batch}

pub reading_short : (bs : List ℕ) → length bs ≤ longest → reading bs ≡ run (length bs) start 0 bs
unfolding reading
reading_short bs l = rw (le-ltb longest (length bs) l)

pub refused_is_no_tables : {P : Type 0} (p : ℕ) (ts : Told) → refused p ≡ tables ts → P
refused_is_no_tables p ts e = absurd (let z : ◌≡◌ {A = ℕ} 0 1 = cc in omega arith)

close_tables : (ts : Told) (g : Stage) (p : ℕ) (vs : Told) → close (at ts g) p ≡ tables vs → at ts g ≡ at vs between
close_tables ts between p vs e = let k : ts ≡ vs = cc in rw k
close_tables ts (columns n hs) p vs e = refused_is_no_tables p vs e
close_tables ts (cells n hs rs cs) p vs e = refused_is_no_tables p vs e

-- what halts with tables has read every byte
halts_tables : {s : State} {p : ℕ} {ds : List ℕ} {r : Reading} → Halts s p ds r → (vs : Told) → r ≡ tables vs → (ds ≡ []) × (s ≡ at vs between)
halts_tables {s} {p} closed vs e = (refl, close_tables s.done s.stage p vs e)
halts_tables {p = p} (forbidden m) vs e = refused_is_no_tables p vs e
halts_tables {p = p} (short {bs = bs} m l) vs e = refused_is_no_tables (p + 1 + length bs) vs e
halts_tables {p = p} (unlawful m l a) vs e = refused_is_no_tables p vs e

pub read_batch : (bs : List ℕ) (ts : Told) → run (length bs) start 0 bs ≡ tables ts → IsBatch bs ts
read_batch bs ts e =
    let f = run_followed (length bs) start 0 bs (omega arith) in
    let h = halts_tables f.halts ts e in
    let m : Moves start f.before (at ts between) = subst (λ x. Moves start f.before x) h.1 f.moves in
    let k : bs ≡ f.before = f.split ∙ (ap (λ x. f.before ++ x) h.0 ∙ append-nil f.before) in
    rw k (moves_batch f.before ts m)

pub reads_exactly : ReadsExactly
unfolding reading
reads_exactly bs ts = (
  (λ e. by_length (ltb longest (length bs)) refl e),
  λ b l. reading_short bs l ∙ batch_read bs ts b,
)
  where
    by_length : (t : Bool) → ltb longest (length bs) ≡ t → reading bs ≡ tables ts → IsBatch bs ts × (length bs ≤ longest)
    by_length true k e = refused_is_no_tables longest ts (rw (k, reading) at e)
    by_length false k e =
        let l : length bs ≤ longest = ltb-false longest (length bs) k in
        (read_batch bs ts (sym (reading_short bs l) ∙ e), l)

pub one_reading : OneReading
one_reading bs ts us a b =
    let p = batch_read bs ts a in
    let q = batch_read bs us b in
    cc
