-- Where commands start: the offsets that whole commands lead to, and none between them.
use Rattle.std.proofs.Common.{◌≡◌, ℕ, suc, ◌+◌, ◌<◌, ◌≤◌, ◌⊎◌, List, [], ◌∷◌, ◌++◌, length, get_or, take, drop, sym, refl, ap, ◌∙◌, subst, inl, inr, append_assoc, append-nil, arith}
use Rattle.std.proofs.lemmas.List.{get_or_at, length-append, length-take-le, take-append-drop, take-append-le}
use Rattle.batches.specs.Format.{operand_length, command_end, Starts, first, next, WrongCommand, whole, short, Begins}
use Rattle.batches.specs.Reading.{State, start}
use Rattle.batches.proofs.Completions.{begins_reached}
use Rattle.batches.proofs.Moves.{Moves, here, there, there_by, moves_append, First}
use Rattle.batches.proofs.Moves as moved

-- the end of the command after some bytes
pub end_at : (bs front : List ℕ) (b : ℕ) (rest : List ℕ) → bs ≡ front ++ b ∷ rest → command_end bs (length front) ≡ length front + 1 + operand_length b
end_at bs front b rest e = ap (λ x. length front + 1 + operand_length x) (ap (λ x. get_or x (length front) 0) e ∙ get_or_at front b rest 0 (length front) refl)

take_more_than : (front : List ℕ) (b : ℕ) (rest : List ℕ) (w : ℕ) → take (length front + 1 + w) (front ++ b ∷ rest) ≡ front ++ b ∷ take w rest
take_more_than [] b rest w = let e : 0 + 1 + w ≡ suc w = omega arith in ap (λ x. take x (b ∷ rest)) e
take_more_than (a ∷ front) b rest w =
    let e : suc (length front) + 1 + w ≡ suc (length front + 1 + w) = omega arith in
    ap (λ x. take x (a ∷ (front ++ b ∷ rest))) e ∙ ap (λ x. a ∷ x) (take_more_than front b rest w)

-- the bytes up to that end
pub take_command : (bs front : List ℕ) (b : ℕ) (rest : List ℕ) → bs ≡ front ++ b ∷ rest → take (command_end bs (length front)) bs ≡ front ++ b ∷ take (operand_length b) rest
take_command bs front b rest e =
    ap (λ x. take x bs) (end_at bs front b rest e) ∙ (ap (take (length front + 1 + operand_length b)) e ∙ take_more_than front b rest (operand_length b))

pub take_byte : (bs front : List ℕ) (b : ℕ) (rest : List ℕ) → bs ≡ front ++ b ∷ rest → take (length front + 1) bs ≡ front ++ b ∷ []
take_byte bs front b rest e =
    let k : length front + 1 ≡ length front + 1 + 0 = omega arith in
    ap (λ x. take x bs) k ∙ (ap (take (length front + 1 + 0)) e ∙ take_more_than front b rest 0)

-- moves in two parts, the first of q bytes
pub record Between (ds : List ℕ) (t : State) (q : ℕ) : Type 0 where
  pub front : List ℕ
  pub back : List ℕ
  pub to : State
  pub is : ds ≡ front ++ back
  pub came : Moves start front to
  pub goes : Moves to back t
  pub stands : q ≡ length front

-- one command further
after_command : {t : State} {front : List ℕ} {u : State} {b : ℕ} {back : List ℕ} → Moves start front u → (f : First u b back t) → Moves start (front ++ b ∷ take (operand_length b) back) f.to
after_command {u = u} {b = b} {back = back} m f =
    let os = take (operand_length b) back in
    let n : Moves u (b ∷ (os ++ [])) f.to = there_by f.to b os [] f.may (length-take-le (operand_length b) back f.whole) f.leads here in
    moves_append m (rw (append-nil os) at n)

further : {t : State} (ds front : List ℕ) (u : State) (b : ℕ) (back : List ℕ) → ds ≡ front ++ b ∷ back → Moves start front u → First u b back t → Between ds t (length front + 1 + operand_length b)
further ds front u b back e m f =
    let w = operand_length b in
    let os = take w back in
    let long : length os ≡ w = length-take-le w back f.whole in
    record {
      front = front ++ b ∷ os;
      back = drop w back;
      to = f.to;
      is = e ∙ (ap (λ x. front ++ b ∷ x) (sym (take-append-drop w back)) ∙ sym (append_assoc front (b ∷ os) (drop w back)));
      came = after_command m f;
      goes = f.rest;
      stands = omega (arith, length-append front (b ∷ os));
    }

-- past all of the moves
pub record Past (bs ds : List ℕ) (q : ℕ) : Type 0 where
  pub further : length ds < q
  pub some : length ds < length bs
  pub whole : command_end bs (length ds) ≤ length bs

onward : {t : State} (bs ds es : List ℕ) (p : ℕ) → bs ≡ ds ++ es → (b : Between ds t p) → (back : List ℕ) → b.back ≡ back → p < length bs → command_end bs p ≤ length bs → Between ds t (command_end bs p) ⊎ Past bs ds (command_end bs p)
onward bs ds es p e b [] k l w =
    let all : ds ≡ b.front = b.is ∙ (ap (λ x. b.front ++ x) k ∙ append-nil b.front) in
    let same : p ≡ length ds = b.stands ∙ ap length (sym all) in
    inr (record { further = omega arith; some = omega arith; whole = subst (λ x. command_end bs x ≤ length bs) same w })
onward {t} bs ds es p e b (c ∷ back) k l w =
    let split : ds ≡ b.front ++ c ∷ back = b.is ∙ ap (λ x. b.front ++ x) k in
    let f : First b.to c back t = moved.first (subst (λ x. Moves b.to x t) k b.goes) in
    let ends : command_end bs p ≡ length b.front + 1 + operand_length c = ap (command_end bs) b.stands ∙ end_at bs b.front c (back ++ es) (e ∙ (ap (λ x. x ++ es) split ∙ append_assoc b.front (c ∷ back) es)) in
    inl (rw ends (further ds b.front b.to c back split b.came f))

-- a command starts after some of the moves, or past them all
pub starts_cases : {t : State} (bs ds es : List ℕ) → bs ≡ ds ++ es → Moves start ds t → {q : ℕ} → Starts bs q → Between ds t q ⊎ Past bs ds q
starts_cases bs ds es e m first =
    inl (record { front = []; back = ds; to = start; is = refl; came = here; goes = m; stands = refl })
starts_cases bs ds es e m (next {p = p} s l w) = elim (starts_cases bs ds es e m s) [
  | inl b ↦ onward bs ds es p e b b.back refl l w
  | inr x ↦ inr (record { further = omega (arith, x.further); some = x.some; whole = x.whole })
]

-- moves lead from start to start
pub moves_start : {u t : State} {back : List ℕ} → Moves u back t → (bs front es : List ℕ) → bs ≡ front ++ (back ++ es) → Starts bs (length front) → Starts bs (length front + length back)
moves_start here bs front es e s = let k : length front + 0 ≡ length front = omega arith in rw k s
moves_start (there u {b = b} {bs = back} may le af m) bs front es e s =
    let w = operand_length b in
    let os = take w back in
    let long : length os ≡ w = length-take-le w back le in
    let ends : command_end bs (length front) ≡ length front + 1 + w = end_at bs front b (back ++ es) e in
    let all : length bs ≡ length front + suc (length back + length es) = ap length e ∙ (length-append front (b ∷ (back ++ es)) ∙ ap (λ x. length front + suc x) (length-append back es)) in
    let split : back ++ es ≡ os ++ (drop w back ++ es) = ap (λ x. x ++ es) (sym (take-append-drop w back)) ∙ append_assoc os (drop w back) es in
    let e' : bs ≡ (front ++ b ∷ os) ++ (drop w back ++ es) = e ∙ (ap (λ x. front ++ b ∷ x) split ∙ sym (append_assoc front (b ∷ os) (drop w back ++ es))) in
    let far : command_end bs (length front) ≡ length (front ++ b ∷ os) = omega (arith, ends, length-append front (b ∷ os)) in
    let s' : Starts bs (length (front ++ b ∷ os)) = subst (Starts bs) far (next s (omega arith) (rw ends (omega arith))) in
    let r = moves_start m bs (front ++ b ∷ os) es e' s' in
    let same : length (front ++ b ∷ os) + length (drop w back) ≡ length front + suc (length back) = omega (arith, length-append front (b ∷ os), ap length (take-append-drop w back), length-append os (drop w back)) in
    rw same at r

-- a command that the moves go on by is not wrong
pub not_wrong : {t : State} (bs ds es : List ℕ) (q : ℕ) → bs ≡ ds ++ es → (b : Between ds t q) → (back : List ℕ) (c : ℕ) → b.back ≡ c ∷ back → WrongCommand bs q → ⊥
not_wrong {t} bs ds es q e b back c k x =
    let split : ds ≡ b.front ++ c ∷ back = b.is ∙ ap (λ y. b.front ++ y) k in
    let f : First b.to c back t = moved.first (subst (λ y. Moves b.to y t) k b.goes) in
    let w = operand_length c in
    let e' : bs ≡ b.front ++ c ∷ (back ++ es) = e ∙ (ap (λ y. y ++ es) split ∙ append_assoc b.front (c ∷ back) es) in
    let ends : command_end bs q ≡ length b.front + 1 + w = ap (command_end bs) b.stands ∙ end_at bs b.front c (back ++ es) e' in
    let upto : take (command_end bs q) bs ≡ b.front ++ c ∷ take w back = ap (λ y. take (command_end bs y) bs) b.stands ∙ (take_command bs b.front c (back ++ es) e' ∙ ap (λ y. b.front ++ c ∷ y) (take-append-le w back es f.whole)) in
    let begins : Begins (b.front ++ c ∷ take w back) = begins_reached (after_command b.came f) in
    let all : length bs ≡ length b.front + suc (length back + length es) = ap length e' ∙ (length-append b.front (c ∷ (back ++ es)) ∙ ap (λ y. length b.front + suc y) (length-append back es)) in
    let enough : w ≤ length back = f.whole in
    judged x begins upto (rw ends (omega arith))
  where
    judged : {ds : List ℕ} → WrongCommand bs q → Begins ds → take (command_end bs q) bs ≡ ds → command_end bs q ≤ length bs → ⊥
    judged (whole l h no-batch) begins upto enough = no-batch (rw upto begins)
    judged (short l h no-batch) begins upto enough = omega arith
