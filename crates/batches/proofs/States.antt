-- The commands that move from one state to the next, written out, and what holds of every state that is reached.
use Rattle.std.proofs.Common.{◌≡◌, ℕ, ◌<◌, ◌≤◌, true, false, not, ◌&&◌, ◌||◌, eqb, ltb, List, [], ◌∷◌, ◌++◌, length, get_or, take, Some, None, Option, sym, refl, ap, ◌∙◌, subst, inl, inr, arith, lit≤}
use Rattle.std.specs.List.{AllByRecursion}
use Rattle.std.proofs.ByRecursion.{All-push}
use Rattle.std.proofs.lemmas.List.{length_push, length-append, length-take-le, take_more, take_all, nil_from_length}
use Rattle.std.proofs.lemmas.Bool.{eqb-true, eqb-false, ltb-true, or_cases, and_parts, cases_Bool, not-true}
use Rattle.values.specs.Cells.{Cell}
use Rattle.values.specs.Codes.{decoded, fits, byte_fits, type_byte, type_of}
use Rattle.values.specs.Names.{lawful_name}
use Rattle.values.specs.declared.kinds.ColumnType.{ColumnType}
use Rattle.batches.specs.Format.{operand_length}
use Rattle.batches.specs.Reading.{Stage, between, columns, cells, State, taken, cell_may, may_stand, after, after_table, with_type, after_cell, with_cell, ending, start}
use Rattle.batches.specs.Tables.{Heading, rows, Named, Told, Distinct}
use Rattle.batches.proofs.Commands.{none_some, cell_bytes, cell_not_column, cell_not_end, byte_of_type, HeadingAt, heading_at_lem, cell_may_at, cell_may_is, distinct_push}
use Rattle.batches.proofs.Complete.{at}
use Rattle.batches.proofs.Moves.{Moves, here, there}

-- a stage in which a cell or the end may come, with the rows and cells so far
pub data Fills : Stage → List ℕ → List Heading → List (List Cell) → List Cell → Type 0 where
  unfilled : {n : List ℕ} {hs : List Heading} → Fills (columns n hs) n hs [] []
  filling : {n : List ℕ} {hs : List Heading} {rs : List (List Cell)} {cs : List Cell} → Fills (cells n hs rs cs) n hs rs cs

-- what a command that goes on is, with its operand and the state after it
pub data Command (ts : Told) (g : Stage) : ℕ → List ℕ → State → Type 0 where
  named : {n : List ℕ} → g ≡ between → lawful_name n ≡ true → taken n ts ≡ false → length ts < 8 → Command ts g 0x01 n (at ts (columns n []))
  headed : {n : List ℕ} {hs : List Heading} (h : Heading) → g ≡ columns n hs → lawful_name h.name ≡ true → length hs < 8 → Command ts g 0x02 (h.name ++ type_byte h.holds ∷ []) (at ts (columns n (hs ++ h ∷ [])))
  ended : {n : List ℕ} {hs : List Heading} {rs : List (List Cell)} → Fills g n hs rs [] → 1 ≤ length hs → Command ts g 0x7F [] (ending ts n hs rs)
  filled : {b : ℕ} {os n : List ℕ} {hs : List Heading} {rs : List (List Cell)} {cs : List Cell} (c : Cell) → Fills g n hs rs cs → (p : HeadingAt hs (length cs)) → decoded (b ∷ os) ≡ Some c → fits p.heading.holds c ≡ true → Command ts g b os (at ts (with_cell n hs rs (cs ++ c ∷ [])))

-- what holds of the table that is being read: it may follow those before it, and its columns are lawful so far
pub record Headed (ts : Told) (n : List ℕ) (hs : List Heading) : Type 0 where
  pub room : length ts < 8
  pub distinct : Distinct ts
  pub lawful : lawful_name n ≡ true
  pub free : taken n ts ≡ false
  pub few : length hs ≤ 8
  pub all : AllByRecursion (λ h. lawful_name h.name ≡ true) hs

-- what holds of every state that is reached
abbrev pub Fine : Told → Stage → Type 0
Fine ts between = (length ts ≤ 8) × Distinct ts
Fine ts (columns n hs) = Headed ts n hs
Fine ts (cells n hs rs cs) = Headed ts n hs × (length cs < length hs)

cell_command_lem : (ts : Told) (g : Stage) (n : List ℕ) (hs : List Heading) (rs : List (List Cell)) (cs : List Cell) (b : ℕ) (os : List ℕ) (u : State) → Fills g n hs rs cs → cell_may hs (length cs) b ≡ true → (o : Option Cell) → decoded (b ∷ os) ≡ o → after_cell ts n hs rs cs o ≡ Some u → Command ts g b os u
cell_command_lem ts g n hs rs cs b os u f may None d e = none_some u None e refl
cell_command_lem ts g n hs rs cs b os u f may (Some c) d e =
    let k = cell_may_is hs (length cs) b may in
    let p = heading_at_lem hs (length cs) k.1 in
    let q = cell_bytes (b ∷ os) c d in
    let same : b ≡ q.byte = let i = q.is in cc in
    let may' : cell_may (p.front ++ p.heading ∷ p.back) (length p.front) b ≡ true = rw (← p.is, p.before) may in
    let fit : fits p.heading.holds c ≡ true = sym (q.same p.heading.holds) ∙ (ap (byte_fits p.heading.holds) (sym same) ∙ (sym (cell_may_at p.front p.heading p.back b) ∙ may')) in
    let s : at ts (with_cell n hs rs (cs ++ c ∷ [])) ≡ u = cc in
    subst (λ x. Command ts g b os x) s (filled c f p d fit)

end_command_lem : (ts : Told) (g : Stage) (n : List ℕ) (hs : List Heading) (rs : List (List Cell)) (b : ℕ) (os : List ℕ) (u : State) → Fills g n hs rs [] → 1 ≤ length hs → b ≡ 0x7F → length os ≡ operand_length b → Some (ending ts n hs rs) ≡ Some u → Command ts g b os u
end_command_lem ts g n hs rs b os u f some e long a =
    let s : ending ts n hs rs ≡ u = cc in
    let l : length os ≡ 0 = rw e at long in
    rw (e, nil_from_length os l) (subst (λ x. Command ts g 0x7F [] x) s (ended f some))

name_command : (ts : Told) (os : List ℕ) (u : State) → length ts < 8 → after_table ts os ≡ Some u → Command ts between 0x01 os u
name_command ts os u room a = elim (cases_Bool (lawful_name os && not (taken os ts))) [
  | inl e ↦
      let p = and_parts (lawful_name os) (not (taken os ts)) e in
      let s : at ts (columns os []) ≡ u = let k : Some (at ts (columns os [])) ≡ Some u = rw e at a in cc in
      subst (λ x. Command ts between 0x01 os x) s (named refl p.0 (not-true (taken os ts) p.1) room)
  | inr e ↦ none_some u (after_table ts os) a (rw e)
]

column_command_lem : (ts : Told) (n : List ℕ) (hs : List Heading) (os : List ℕ) (u : State) → length hs < 8 → length os ≡ 17 → (o : Option ColumnType) → type_of (get_or os 16 0) ≡ o → with_type ts n hs (take 16 os) o ≡ Some u → Command ts (columns n hs) 0x02 os u
column_command_lem ts n hs os u room long None d a = none_some u None a refl
column_command_lem ts n hs os u room long (Some t) d a =
    let h : Heading = record { name = take 16 os; holds = t } in
    let b : get_or os 16 0 ≡ type_byte t = byte_of_type (get_or os 16 0) t d in
    let e : os ≡ take 16 os ++ type_byte t ∷ [] = sym (take_all 17 os (omega arith)) ∙ (take_more os 16 0 (omega arith) ∙ ap (λ x. take 16 os ++ x ∷ []) b) in
    elim (cases_Bool (lawful_name (take 16 os))) [
      | inl l ↦
          let s : at ts (columns n (hs ++ h ∷ [])) ≡ u = let k : Some (at ts (columns n (hs ++ h ∷ []))) ≡ Some u = rw l at a in cc in
          let c : Command ts (columns n hs) 0x02 (take 16 os ++ type_byte t ∷ []) (at ts (columns n (hs ++ h ∷ []))) = headed h refl l room in
          subst (λ x. Command ts (columns n hs) 0x02 os x) s (subst (λ x. Command ts (columns n hs) 0x02 x (at ts (columns n (hs ++ h ∷ [])))) (sym e) c)
      | inr l ↦ none_some u (with_type ts n hs (take 16 os) (Some t)) a (rw l)
    ]

-- a command that goes on is one of these
pub command : (ts : Told) (g : Stage) (b : ℕ) (os : List ℕ) (u : State) → Fine ts g → may_stand (at ts g) b ≡ true → length os ≡ operand_length b → after (at ts g) b os ≡ Some u → Command ts g b os u
command ts between b os u fine may long a =
    let p = and_parts (eqb b 0x01) (ltb (length ts) 8) may in
    rw (eqb-true b 0x01 p.0) (name_command ts os u (ltb-true (length ts) 8 p.1) a)
command ts (columns n hs) b os u fine may long a = elim (or_cases (eqb b 0x02 && ltb (length hs) 8) ((eqb b 0x7F && ltb 0 (length hs)) || cell_may hs 0 b) may) [
  | inl e ↦
      let p = and_parts (eqb b 0x02) (ltb (length hs) 8) e in
      let k : b ≡ 0x02 = eqb-true b 0x02 p.0 in
      let l : length os ≡ 17 = rw k at long in
      let a' : after (at ts (columns n hs)) 0x02 os ≡ Some u = subst (λ x. after (at ts (columns n hs)) x os ≡ Some u) k a in
      rw k (column_command_lem ts n hs os u (ltb-true (length hs) 8 p.1) l (type_of (get_or os 16 0)) refl a')
  | inr r ↦ elim (or_cases (eqb b 0x7F && ltb 0 (length hs)) (cell_may hs 0 b) r) [
    | inl e ↦
        let p = and_parts (eqb b 0x7F) (ltb 0 (length hs)) e in
        let k : b ≡ 0x7F = eqb-true b 0x7F p.0 in
        let a' : after (at ts (columns n hs)) 0x7F os ≡ Some u = subst (λ x. after (at ts (columns n hs)) x os ≡ Some u) k a in
        end_command_lem ts (columns n hs) n hs [] b os u unfilled (ltb-true 0 (length hs) p.1) k long a'
    | inr e ↦
        let c = (cell_may_is hs 0 b e).0 in
        let a' : after_cell ts n hs [] [] (decoded (b ∷ os)) ≡ Some u = rw (cell_not_column c, cell_not_end c) at a in
        cell_command_lem ts (columns n hs) n hs [] [] b os u unfilled e (decoded (b ∷ os)) refl a'
  ]
]
command ts (cells n hs rs cs) b os u fine may long a = elim (or_cases (eqb b 0x7F && eqb (length cs) 0) (cell_may hs (length cs) b) may) [
  | inl e ↦
      let p = and_parts (eqb b 0x7F) (eqb (length cs) 0) e in
      let k : b ≡ 0x7F = eqb-true b 0x7F p.0 in
      let l : length cs ≡ 0 = eqb-true (length cs) 0 p.1 in
      let a' : after (at ts (cells n hs rs cs)) 0x7F os ≡ Some u = subst (λ x. after (at ts (cells n hs rs cs)) x os ≡ Some u) k a in
      end_command_lem ts (cells n hs rs cs) n hs rs b os u (subst (λ x. Fills (cells n hs rs cs) n hs rs x) (no_cells cs l) filling) (omega arith) k long a'
  | inr e ↦
      let c = (cell_may_is hs (length cs) b e).0 in
      let a' : after_cell ts n hs rs cs (decoded (b ∷ os)) ≡ Some u = rw (cell_not_end c) at a in
      cell_command_lem ts (cells n hs rs cs) n hs rs cs b os u filling e (decoded (b ∷ os)) refl a'
]
  where
    no_cells : (cs : List Cell) → length cs ≡ 0 → cs ≡ []
    no_cells [] e = refl
    no_cells (c ∷ cs) e = absurd (omega arith)

fills_headed : (ts : Told) {g : Stage} {n : List ℕ} {hs : List Heading} {rs : List (List Cell)} {cs : List Cell} → Fills g n hs rs cs → Fine ts g → Headed ts n hs
fills_headed ts unfilled f = f
fills_headed ts filling f = f.0

with_cell_fine : (ts : Told) (n : List ℕ) (hs : List Heading) (rs : List (List Cell)) (cs : List Cell) → Headed ts n hs → 1 ≤ length hs → length cs ≤ length hs → Fine ts (with_cell n hs rs cs)
with_cell_fine ts n hs rs cs h some l = elim (cases_Bool (eqb (length cs) (length hs))) [
  | inl e ↦ rw e (h, some)
  | inr e ↦ let d = eqb-false (length cs) (length hs) e in rw e (h, omega arith)
]

-- what holds of a state holds of the next
pub command_fine : {ts : Told} {g : Stage} {b : ℕ} {os : List ℕ} {u : State} → Command ts g b os u → Fine ts g → Fine u.done u.stage
command_fine {ts} (named e l f room) fine =
    let k : Fine ts between = subst (Fine ts) e fine in
    record { room = room; distinct = k.1; lawful = l; free = f; few = lit≤ tt; all = tt }
command_fine {ts} (headed {n = n} {hs = hs} h e l room) fine =
    let k : Headed ts n hs = subst (Fine ts) e fine in
    record {
      room = k.room;
      distinct = k.distinct;
      lawful = k.lawful;
      free = k.free;
      few = omega (arith, length_push hs h);
      all = All-push (λ (h : Heading). lawful_name h.name ≡ true) hs h k.all l;
    }
command_fine {ts} (ended {n = n} {hs = hs} {rs = rs} f some) fine =
    let k = fills_headed ts f fine in
    let t : Named = record { name = n; table = record { headings = hs; body = rows rs } } in
    (omega (arith, length_push ts t), distinct_push ts t k.distinct k.free)
command_fine {ts} (filled {n = n} {hs = hs} {rs = rs} {cs = cs} c f p d fit) fine =
    let k = fills_headed ts f fine in
    let l : length cs < length hs = at_heading hs (length cs) p in
    with_cell_fine ts n hs rs (cs ++ c ∷ []) k (omega arith) (omega (arith, length_push cs c))
  where
    at_heading : (hs : List Heading) (k : ℕ) → HeadingAt hs k → k < length hs
    at_heading hs k p = omega (arith, ap length p.is, length-append p.front (p.heading ∷ p.back), p.before)

-- the first command of moves, written out
pub moves_command : {s u : State} (b : ℕ) (bs : List ℕ) → Fine s.done s.stage → may_stand s b ≡ true → operand_length b ≤ length bs → after s b (take (operand_length b) bs) ≡ Some u → Command s.done s.stage b (take (operand_length b) bs) u
moves_command {s} {u} b bs fine may le af =
    command s.done s.stage b (take (operand_length b) bs) u fine may (length-take-le (operand_length b) bs le) af

pub moves_fine : {s t : State} {bs : List ℕ} → Moves s bs t → Fine s.done s.stage → Fine t.done t.stage
moves_fine here fine = fine
moves_fine (there {s = s} u {b = b} {bs = bs} may le af m) fine =
    moves_fine m (command_fine (moves_command {s = s} b bs fine may le af) fine)

pub start_fine : Fine start.done start.stage
start_fine = (lit≤ tt, tt)
