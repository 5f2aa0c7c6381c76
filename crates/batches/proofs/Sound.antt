-- What is read as tables stands for them, as the format says.
use Rattle.std.proofs.Common.{◌≡◌, ℕ, ◌≤◌, true, eqb, List, [], ◌∷◌, ◌++◌, length, take, drop, Some, sym, refl, ap, ◌∙◌, subst, inl, inr, append_assoc, append-nil, arith}
use Rattle.std.specs.List.{flat_map}
use Rattle.std.proofs.lemmas.List.{length_push, length-append, drop_all, drop_at, take-append-drop}
use Rattle.std.proofs.lemmas.Bool.{cases_Bool, eqb-true}
use Rattle.values.specs.Cells.{Cell}
use Rattle.values.specs.Codes.{decoded, fits, type_byte}
use Rattle.values.specs.Names.{lawful_name}
use Rattle.batches.specs.Format.{column_bytes, operand_length, IsRow, IsRows, IsTable, IsTables, IsBatch}
use Rattle.batches.specs.Reading.{Stage, between, columns, cells, State, with_cell, start}
use Rattle.batches.specs.Tables.{Heading, rows, Named, Told, LawfulHeadings}
use Rattle.batches.proofs.Commands.{HeadingAt}
use Rattle.batches.proofs.Complete.{at}
use Rattle.batches.proofs.Moves.{Moves, here, there}
use Rattle.batches.proofs.States.{Fills, unfilled, filling, Command, named, headed, ended, filled, Fine, moves_command, moves_fine, command_fine, start_fine}

abbrev table_of : List ℕ → List Heading → List (List Cell) → Named
table_of n hs rs = record { name = n; table = record { headings = hs; body = rows rs } }

-- bytes that stand for the rest of a row, after the cells cs, and whole rows
record RowRest (hs : List Heading) (cs : List Cell) (bs : List ℕ) (us : List (List Cell)) : Type 0 where
  row : List ℕ
  with : List Cell
  after : List ℕ
  more : List (List Cell)
  bytes : bs ≡ row ++ after
  are : us ≡ (cs ++ with) ∷ more
  ends : IsRow (drop (length cs) hs) row with
  follow : IsRows hs after more

-- the same, where no row need be left after no cells
abbrev FromCell : List Heading → List Cell → List ℕ → List (List Cell) → Type 0
FromCell hs [] bs us = IsRows hs bs us
FromCell hs (c ∷ cs) bs us = RowRest hs (c ∷ cs) bs us

from_rest : (hs : List Heading) (cs : List Cell) (bs : List ℕ) (us : List (List Cell)) → RowRest hs cs bs us → FromCell hs cs bs us
from_rest hs [] bs us r = rw (r.bytes, r.are) (IsRows.row r.ends r.follow)
from_rest hs (c ∷ cs) bs us r = r

rest_from : (hs : List Heading) (cs : List Cell) (c : Cell) (bs : List ℕ) (us : List (List Cell)) → FromCell hs (cs ++ c ∷ []) bs us → RowRest hs (cs ++ c ∷ []) bs us
rest_from hs [] c bs us r = r
rest_from hs (d ∷ cs) c bs us r = r

-- no cell is left where the row is full
full_rest : (hs : List Heading) (cs : List Cell) (bs : List ℕ) (us : List (List Cell)) → length cs ≡ length hs → IsRows hs bs us → RowRest hs cs bs (cs ∷ us)
full_rest hs cs bs us e x =
    let d : drop (length cs) hs ≡ [] = drop_all (length cs) hs (omega arith) in
    record {
      row = [];
      with = [];
      after = bs;
      more = us;
      bytes = refl;
      are = ap (λ y. y ∷ us) (sym (append-nil cs));
      ends = rw d IsRow.ended;
      follow = x;
    }

-- one cell more in front
cell_rest : (hs : List Heading) (cs : List Cell) (c : Cell) (p : HeadingAt hs (length cs)) (bs ds : List ℕ) (us : List (List Cell)) → decoded bs ≡ Some c → fits p.heading.holds c ≡ true → RowRest hs (cs ++ c ∷ []) ds us → RowRest hs cs (bs ++ ds) us
cell_rest hs cs c p bs ds us d f r =
    let one : drop (length cs) hs ≡ p.heading ∷ p.back = ap (drop (length cs)) p.is ∙ drop_at p.front (p.heading ∷ p.back) (length cs) p.before in
    let split : hs ≡ (p.front ++ p.heading ∷ []) ++ p.back = p.is ∙ sym (append_assoc p.front (p.heading ∷ []) p.back) in
    let long : length (p.front ++ p.heading ∷ []) ≡ length (cs ++ c ∷ []) = omega (arith, length_push p.front p.heading, length_push cs c, p.before) in
    let two : drop (length (cs ++ c ∷ [])) hs ≡ p.back = ap (drop (length (cs ++ c ∷ []))) split ∙ drop_at (p.front ++ p.heading ∷ []) p.back (length (cs ++ c ∷ [])) long in
    let tail : IsRow p.back r.row r.with = rw two at r.ends in
    record {
      row = bs ++ r.row;
      with = c ∷ r.with;
      after = r.after;
      more = r.more;
      bytes = ap (λ x. bs ++ x) r.bytes ∙ sym (append_assoc bs r.row r.after);
      are = r.are ∙ ap (λ x. x ∷ r.more) (append_assoc cs (c ∷ []) r.with);
      ends = rw one (IsRow.cell bs d f tail);
      follow = r.follow;
    }

-- what is left to read, by stage, of bytes that lead to the tables vs
record TablesRest (ts : Told) (ds : List ℕ) (vs : Told) : Type 0 where
  later : Told
  follow : IsTables ds later
  told : vs ≡ ts ++ later

record BodyRest (ts : Told) (n : List ℕ) (hs : List Heading) (rs : List (List Cell)) (cs : List Cell) (ds : List ℕ) (vs : Told) : Type 0 where
  body : List ℕ
  tail : List ℕ
  more : List (List Cell)
  later : Told
  bytes : ds ≡ body ++ 0x7F ∷ tail
  fill : FromCell hs cs body more
  follow : IsTables tail later
  told : vs ≡ ts ++ table_of n hs (rs ++ more) ∷ later

record ColumnsRest (ts : Told) (n : List ℕ) (hs : List Heading) (ds : List ℕ) (vs : Told) : Type 0 where
  more : List Heading
  rest : List ℕ
  bytes : ds ≡ flat_map column_bytes more ++ rest
  lawful : LawfulHeadings (hs ++ more)
  body : BodyRest ts n (hs ++ more) [] [] rest vs

abbrev Rest : Told → Stage → List ℕ → Told → Type 0
Rest ts between ds vs = TablesRest ts ds vs
Rest ts (columns n hs) ds vs = ColumnsRest ts n hs ds vs
Rest ts (cells n hs rs cs) ds vs = BodyRest ts n hs rs cs ds vs

-- the body after the columns
fill_rest : (ts : Told) (ds : List ℕ) (vs : Told) {g : Stage} {n : List ℕ} {hs : List Heading} {rs : List (List Cell)} {cs : List Cell} → Fills g n hs rs cs → Fine ts g → 1 ≤ length hs → BodyRest ts n hs rs cs ds vs → Rest ts g ds vs
fill_rest ts ds vs (unfilled {n = n} {hs = hs}) fine any b =
    record {
      more = [];
      rest = ds;
      bytes = refl;
      lawful = rw (append-nil hs) (record { some = any; few = fine.few; named = fine.all });
      body = rw (append-nil hs) b;
    }
fill_rest ts ds vs filling fine any b = b

-- the end of the table
end_rest : (ts : Told) (n : List ℕ) (hs : List Heading) (rs : List (List Cell)) (ds : List ℕ) (vs : Told) → TablesRest (ts ++ table_of n hs rs ∷ []) ds vs → BodyRest ts n hs rs [] (0x7F ∷ ds) vs
end_rest ts n hs rs ds vs r =
    record {
      body = [];
      tail = ds;
      more = [];
      later = r.later;
      bytes = refl;
      fill = IsRows.ended;
      follow = r.follow;
      told = r.told ∙ (append_assoc ts (table_of n hs rs ∷ []) r.later ∙ ap (λ x. ts ++ table_of n hs x ∷ r.later) (sym (append-nil rs)));
    }

-- a cell
filled_rest : (ts : Told) (n : List ℕ) (hs : List Heading) (rs : List (List Cell)) (cs : List Cell) (c : Cell) (p : HeadingAt hs (length cs)) (bs ds : List ℕ) (vs : Told) → decoded bs ≡ Some c → fits p.heading.holds c ≡ true → Rest ts (with_cell n hs rs (cs ++ c ∷ [])) ds vs → BodyRest ts n hs rs cs (bs ++ ds) vs
filled_rest ts n hs rs cs c p bs ds vs d f r = elim (cases_Bool (eqb (length (cs ++ c ∷ [])) (length hs))) [
  | inl e ↦
      let q : BodyRest ts n hs (rs ++ (cs ++ c ∷ []) ∷ []) [] ds vs = rw e at r in
      let x = full_rest hs (cs ++ c ∷ []) q.body q.more (eqb-true (length (cs ++ c ∷ [])) (length hs) e) q.fill in
      record {
        body = bs ++ q.body;
        tail = q.tail;
        more = (cs ++ c ∷ []) ∷ q.more;
        later = q.later;
        bytes = ap (λ y. bs ++ y) q.bytes ∙ sym (append_assoc bs q.body (0x7F ∷ q.tail));
        fill = from_rest hs cs (bs ++ q.body) ((cs ++ c ∷ []) ∷ q.more) (cell_rest hs cs c p bs q.body ((cs ++ c ∷ []) ∷ q.more) d f x);
        follow = q.follow;
        told = q.told ∙ ap (λ y. ts ++ table_of n hs y ∷ q.later) (append_assoc rs ((cs ++ c ∷ []) ∷ []) q.more);
      }
  | inr e ↦
      let q : BodyRest ts n hs rs (cs ++ c ∷ []) ds vs = rw e at r in
      let x = rest_from hs cs c q.body q.more q.fill in
      record {
        body = bs ++ q.body;
        tail = q.tail;
        more = q.more;
        later = q.later;
        bytes = ap (λ y. bs ++ y) q.bytes ∙ sym (append_assoc bs q.body (0x7F ∷ q.tail));
        fill = from_rest hs cs (bs ++ q.body) q.more (cell_rest hs cs c p bs q.body q.more d f x);
        follow = q.follow;
        told = q.told;
      }
]

-- a column
headed_rest : (ts : Told) (n : List ℕ) (hs : List Heading) (h : Heading) (ds : List ℕ) (vs : Told) → ColumnsRest ts n (hs ++ h ∷ []) ds vs → ColumnsRest ts n hs (0x02 ∷ ((h.name ++ type_byte h.holds ∷ []) ++ ds)) vs
headed_rest ts n hs h ds vs r =
    let e : (hs ++ h ∷ []) ++ r.more ≡ hs ++ h ∷ r.more = append_assoc hs (h ∷ []) r.more in
    record {
      more = h ∷ r.more;
      rest = r.rest;
      bytes = ap (λ x. 0x02 ∷ ((h.name ++ type_byte h.holds ∷ []) ++ x)) r.bytes ∙ sym (append_assoc (column_bytes h) (flat_map column_bytes r.more) r.rest);
      lawful = rw e at r.lawful;
      body = rw e at r.body;
    }

-- a name
named_rest : (ts : Told) (n ds : List ℕ) (vs : Told) → lawful_name n ≡ true → ColumnsRest ts n [] ds vs → TablesRest ts (0x01 ∷ (n ++ ds)) vs
named_rest ts n ds vs l r =
    let b = r.body in
    let t : IsTable (0x01 ∷ (n ++ (flat_map column_bytes r.more ++ (b.body ++ 0x7F ∷ [])))) (table_of n r.more b.more) = IsTable.table l r.lawful b.fill in
    let w : IsTables (0x01 ∷ (n ++ (flat_map column_bytes r.more ++ (b.body ++ 0x7F ∷ [])) ++ b.tail)) (table_of n r.more b.more ∷ b.later) = IsTables.table t b.follow in
    let e : n ++ ds ≡ n ++ (flat_map column_bytes r.more ++ (b.body ++ 0x7F ∷ [])) ++ b.tail = ap (λ x. n ++ x) (r.bytes ∙ ap (λ x. flat_map column_bytes r.more ++ x) b.bytes) ∙ sym (simp append_assoc) in
    record { later = table_of n r.more b.more ∷ b.later; follow = rw e w; told = b.told }

command_rest : {ts : Told} {g : Stage} {b : ℕ} {os : List ℕ} {u : State} → Command ts g b os u → Fine ts g → (ds : List ℕ) (vs : Told) → Rest u.done u.stage ds vs → Rest ts g (b ∷ (os ++ ds)) vs
command_rest {ts} {g} (named {n = n} e l f room) fine ds vs r =
    subst (λ x. Rest ts x (0x01 ∷ (n ++ ds)) vs) (sym e) (named_rest ts n ds vs l r)
command_rest {ts} {g} (headed {n = n} {hs = hs} h e l room) fine ds vs r =
    subst (λ x. Rest ts x (0x02 ∷ ((h.name ++ type_byte h.holds ∷ []) ++ ds)) vs) (sym e) (headed_rest ts n hs h ds vs r)
command_rest {ts} {g} (ended {n = n} {hs = hs} {rs = rs} f any) fine ds vs r =
    fill_rest ts (0x7F ∷ ds) vs f fine any (end_rest ts n hs rs ds vs r)
command_rest {ts} {g} (filled {b = b} {os = os} {n = n} {hs = hs} {rs = rs} {cs = cs} c f p d fit) fine ds vs r =
    let any : 1 ≤ length hs = omega (arith, ap length p.is, length-append p.front (p.heading ∷ p.back)) in
    fill_rest ts (b ∷ (os ++ ds)) vs f fine any (filled_rest ts n hs rs cs c p (b ∷ os) ds vs d fit r)

moves_rest : {s v : State} {ds : List ℕ} → Moves s ds v → Fine s.done s.stage → (vs : Told) → v ≡ at vs between → Rest s.done s.stage ds vs
moves_rest (here {s = s}) fine vs e =
    subst (λ x. Rest x.done x.stage [] vs) (sym e) (record { later = []; follow = IsTables.ended; told = sym (append-nil vs) })
moves_rest (there {s = s} u {b = b} {bs = bs} may le af m) fine vs e =
    let c = moves_command {s = s} b bs fine may le af in
    let r = moves_rest m (command_fine c fine) vs e in
    let w : Rest s.done s.stage (b ∷ (take (operand_length b) bs ++ drop (operand_length b) bs)) vs = command_rest c fine (drop (operand_length b) bs) vs r in
    rw (take-append-drop (operand_length b) bs) at w

-- moves from the start to tables show a lawful batch
pub moves_batch : (ds : List ℕ) (vs : Told) → Moves start ds (at vs between) → IsBatch ds vs
moves_batch ds vs m =
    let f = moves_fine m start_fine in
    let r = moves_rest m start_fine vs refl in
    record { tables = rw r.told r.follow; few = f.0; distinct = f.1 }
