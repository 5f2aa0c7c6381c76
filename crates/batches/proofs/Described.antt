-- What a batch is read as are lawful tables, and none of them has many rows. Assumes nothing.
use Rattle.std.proofs.Common.{◌≡◌, ℕ, zero, suc, ◌+◌, ◌*◌, ◌<◌, ◌≤◌, Bool, true, List, [], ◌∷◌, ◌++◌, length, Some, None, Option, refl, ap, inl, inr, arith}
use Rattle.std.proofs.ByRecursion.{All-weaker}
use Rattle.std.proofs.lemmas.List.{length-append}
use Rattle.std.proofs.lemmas.Bool.{cases_eq}
use Rattle.std.specs.List.{slice_get, flat_map, AllByRecursion}
use Rattle.std.specs.Option.{option_map}
use Rattle.std.specs.Bool.{then_some}
use Rattle.values.proofs.Codec.{decoded_lawful}
use Rattle.values.specs.Cells.{Cell}
use Rattle.values.specs.Codes.{decoded}
use Rattle.values.specs.Names.{lawful_name}
use Rattle.batches.specs.Asked.{chained, column_asked, name_asked}
use Rattle.batches.specs.Described.{RowsUpTo}
use Rattle.batches.specs.Format.{column_bytes, IsRow, IsRows, IsTable, IsTables}
use Rattle.batches.specs.Reading.{longest}
use Rattle.batches.specs.Tables.{Heading, Named, Told, LawfulHeadings, RowFits}
use Rattle.batches.specs.Theorems.{TablesDescribed}
use Rattle.batches.specs.Written.{BodyFits}
use Rattle.batches.proofs.Exactly.{reads_exactly}
use Rattle.batches.proofs.Pieces.{no_cell_of}

-- what holds of each element of two lists joined holds of each of theirs
all_parts : {X : Type 0} (P : X → Type 0) (xs ys : List X) → AllByRecursion P (xs ++ ys) → AllByRecursion P xs × AllByRecursion P ys
all_parts P [] ys h = (tt, h)
all_parts P (x ∷ xs) ys h = let k = all_parts P xs ys h.1 in ((h.0, k.0), k.1)

abbrev Bytes : List ℕ → Type 0
Bytes = AllByRecursion (λ b. b < 256)

-- only seventeen bytes stand for a cell
cell_length : (bs : List ℕ) (c : Cell) → decoded bs ≡ Some c → length bs ≡ 17
cell_length bs c e =
    elim (cases_eq (length bs) 17) [ inl h ↦ h | inr h ↦ absurd (let k = no_cell_of bs h in let z : ◌≡◌ {A = ℕ} 0 1 = cc in omega arith) ]

row_fits : {hs : List Heading} {bs : List ℕ} {cs : List Cell} → IsRow hs bs cs → Bytes bs → RowFits hs cs
row_fits IsRow.ended b = tt
row_fits (IsRow.cell bs {ds} {c} e f r) b =
    let p = all_parts (λ b. b < 256) bs ds b in
    (decoded_lawful bs p.0 c e, f, row_fits r p.1)

-- a row has a cell under the first heading
row_long : {h : Heading} {hs : List Heading} {bs : List ℕ} {cs : List Cell} → IsRow (h ∷ hs) bs cs → 17 ≤ length bs
row_long (IsRow.cell bs {ds} {c} e f r) =
    let l = cell_length bs c e in
    simp length-append (omega arith)

rows_fit : {hs : List Heading} {bs : List ℕ} {rs : List (List Cell)} → IsRows hs bs rs → Bytes bs → AllByRecursion (RowFits hs) rs
rows_fit IsRows.ended b = tt
rows_fit (IsRows.row {bs} {ds} r rs) b =
    let p = all_parts (λ b. b < 256) bs ds b in
    (row_fits r p.0, rows_fit rs p.1)

rows_long : {h : Heading} {hs : List Heading} {bs : List ℕ} {rs : List (List Cell)} → IsRows (h ∷ hs) bs rs → 17 * length rs ≤ length bs
rows_long IsRows.ended = omega arith
rows_long (IsRows.row {bs} {ds} r rs) =
    let k = row_long r in
    let l = rows_long rs in
    simp length-append (omega arith)

-- a lawful table of few rows
record Fine (t : Named) : Type 0 where
  name : lawful_name t.name ≡ true
  headings : LawfulHeadings t.table.headings
  fitting : BodyFits t.table.headings t.table.body
  short : RowsUpTo 1000000 t.table.body

some_rows : (hs : List Heading) (bs : List ℕ) (rs : List (List Cell)) → 1 ≤ length hs → IsRows hs bs rs → 17 * length rs ≤ length bs
some_rows [] bs rs l r = absurd (omega arith)
some_rows (h ∷ hs) bs rs l r = rows_long r

table_fine : {bs : List ℕ} {t : Named} → IsTable bs t → Bytes bs → length bs ≤ longest → Fine t
table_fine (IsTable.table {n} {hs} {bs} {rs} l h r) b s =
    let p = all_parts (λ b. b < 256) n (flat_map column_bytes hs ++ (bs ++ 0x7F ∷ [])) b.1 in
    let q = all_parts (λ b. b < 256) (flat_map column_bytes hs) (bs ++ 0x7F ∷ []) p.1 in
    let i = all_parts (λ b. b < 256) bs (0x7F ∷ []) q.1 in
    let k = some_rows hs bs rs h.some r in
    let m : suc (length n + (length (flat_map column_bytes hs) + (length bs + 1))) ≤ longest = simp length-append at s in
    record { name = l; headings = h; fitting = rows_fit r i.0; short = omega arith }

tables_fine : {bs : List ℕ} {ts : Told} → IsTables bs ts → Bytes bs → length bs ≤ longest → AllByRecursion Fine ts
tables_fine IsTables.ended b s = tt
tables_fine (IsTables.table {bs} {ds} t ts) b s =
    let p = all_parts (λ b. b < 256) bs ds b in
    let m : length bs + length ds ≤ longest = simp length-append at s in
    (table_fine t p.0 (omega arith), tables_fine ts p.1 (omega arith))

pub tables_described : TablesDescribed
tables_described bs ts b e =
    let r = (reads_exactly bs ts).0 e in
    let f = tables_fine r.0.tables b r.1 in
    record {
      named = All-weaker Fine (λ t. lawful_name t.name ≡ true) (λ t x. x.name) ts f;
      headed = All-weaker Fine (λ t. LawfulHeadings t.table.headings) (λ t x. x.headings) ts f;
      filled = All-weaker Fine (λ t. BodyFits t.table.headings t.table.body) (λ t x. x.fitting) ts f;
      short = All-weaker Fine (λ t. RowsUpTo 1000000 t.table.body) (λ t x. x.short) ts f;
      few = r.0.few;
      distinct = r.0.distinct;
    }

-- what holds of each element holds of the one at a place
pub all_nth : {X : Type 0} (P : X → Type 0) (xs : List X) (i : ℕ) (x : X) → AllByRecursion P xs → slice_get xs i ≡ Some x → P x
all_nth P [] i x h e = absurd (let z : ◌≡◌ {A = ℕ} 0 1 = cc in omega arith)
all_nth P (y ∷ ys) zero x h e = let k : y ≡ x = cc in rw k at h.0
all_nth P (y ∷ ys) (suc i) x h e = all_nth P ys i x h.1 e

-- of lawfully named tables each name is told
pub names_told : (ts : Told) (t : ℕ) → AllByRecursion (λ t. lawful_name t.name ≡ true) ts → name_asked ts t ≡ option_map (λ n. n.name) (slice_get ts t)
unfolding name_asked
names_told ts t h = by_table (slice_get ts t) refl
  where
    by_table : (o : Option Named) → slice_get ts t ≡ o → chained o (λ n. then_some (lawful_name n.name) n.name) ≡ option_map (λ n. n.name) o
    by_table None e = refl
    by_table (Some n) e =
        ap (λ (b : Bool). then_some b n.name) (all_nth (λ t. lawful_name t.name ≡ true) ts t n h e)

-- and of lawful headings each column
pub columns_told : (ts : Told) (t i : ℕ) → AllByRecursion (λ t. LawfulHeadings t.table.headings) ts → column_asked ts t i ≡ chained (slice_get ts t) (λ n. slice_get n.table.headings i)
unfolding column_asked
columns_told ts t i h = by_table (slice_get ts t) refl
  where
    by_heading : (hs : List Heading) → LawfulHeadings hs → (o : Option Heading) → slice_get hs i ≡ o → chained o (λ h. then_some (lawful_name h.name) h) ≡ o
    by_heading hs l None e = refl
    by_heading hs l (Some k) e =
        ap (λ (b : Bool). then_some b k) (all_nth (λ h. lawful_name h.name ≡ true) hs i k l.named e)

    by_table : (o : Option Named) → slice_get ts t ≡ o → chained o (λ n. chained (slice_get n.table.headings i) (λ h. then_some (lawful_name h.name) h)) ≡ chained o (λ n. slice_get n.table.headings i)
    by_table None e = refl
    by_table (Some n) e =
        by_heading n.table.headings (all_nth (λ t. LawfulHeadings t.table.headings) ts t n h e) (slice_get n.table.headings i) refl
