-- Whole commands as moves from state to state: how they compose, and that `run` follows them up to where it halts.
use Rattle.std.proofs.Common.{◌≡◌, ℕ, zero, suc, ◌+◌, ◌-◌, ◌<◌, ◌≤◌, Bool, true, false, ltb, List, [], ◌∷◌, ◌++◌, length, take, drop, Some, None, Option, sym, refl, ap, ◌∙◌, subst, append_assoc, arith}
use Rattle.std.proofs.lemmas.List.{take-append-le, drop-append-le, take_at, drop_at, take-append-drop, length-append, length-take-le, length-drop}
use Rattle.std.proofs.lemmas.Bool.{le-ltb, ltb-true, ltb-false}
use Rattle.batches.specs.Format.{operand_length}
use Rattle.batches.specs.Reading.{State, may_stand, after, Reading, refused, close, goes, stops, step, run}

-- from the state s, the bytes are whole commands that lead to the state t
pub data Moves : State → List ℕ → State → Type 0 where
  here : {s : State} → Moves s [] s
  there : {s t : State} (u : State) {b : ℕ} {bs : List ℕ} → may_stand s b ≡ true → operand_length b ≤ length bs → after s b (take (operand_length b) bs) ≡ Some u → Moves u (drop (operand_length b) bs) t → Moves s (b ∷ bs) t

-- a command with its operand written apart
pub there_by : {s t : State} (u : State) (b : ℕ) (os bs : List ℕ) → may_stand s b ≡ true → length os ≡ operand_length b → after s b os ≡ Some u → Moves u bs t → Moves s (b ∷ (os ++ bs)) t
there_by {s} {t} u b os bs may long af m =
    there u may (rw (length-append os bs) (omega arith)) (subst (λ x. after s b x ≡ Some u) (sym (take_at os bs (operand_length b) long)) af) (subst (λ x. Moves u x t) (sym (drop_at os bs (operand_length b) long)) m)

pub moves_append : {s t v : State} {bs ds : List ℕ} → Moves s bs t → Moves t ds v → Moves s (bs ++ ds) v
moves_append here n = n
moves_append {v = v} {ds = ds} (there {s = s} {t = t} u {b = b} {bs = bs} may le af m) n =
    let r : Moves u (drop (operand_length b) bs ++ ds) v = moves_append m n in
    there u may (rw (length-append bs ds) (omega arith)) (subst (λ x. after s b x ≡ Some u) (sym (take-append-le (operand_length b) bs ds le)) af) (subst (λ x. Moves u x v) (sym (drop-append-le (operand_length b) bs ds le)) r)

-- what follows a first command
pub record First (s : State) (b : ℕ) (bs : List ℕ) (t : State) : Type 0 where
  pub to : State
  pub may : may_stand s b ≡ true
  pub whole : operand_length b ≤ length bs
  pub leads : after s b (take (operand_length b) bs) ≡ Some to
  pub rest : Moves to (drop (operand_length b) bs) t

pub first : {s t : State} {b : ℕ} {bs : List ℕ} → Moves s (b ∷ bs) t → First s b bs t
first (there u may le af m) = record { to = u; may = may; whole = le; leads = af; rest = m }

-- moves are determined by the bytes: what begins alike goes on from the same state
pub moves_onward : {s t v : State} {bs ds : List ℕ} → Moves s bs t → Moves s (bs ++ ds) v → Moves t ds v
moves_onward here n = n
moves_onward {v = v} {ds = ds} (there {s = s} {t = t} u {b = b} {bs = bs} may le af m) n =
    let f = first n in
    let e : after s b (take (operand_length b) bs) ≡ Some f.to = subst (λ x. after s b x ≡ Some f.to) (take-append-le (operand_length b) bs ds le) f.leads in
    let same : f.to ≡ u = cc in
    let r : Moves f.to (drop (operand_length b) bs ++ ds) v = subst (λ x. Moves f.to x v) (drop-append-le (operand_length b) bs ds le) f.rest in
    moves_onward m (subst (λ x. Moves x (drop (operand_length b) bs ++ ds) v) same r)

step_goes : (s u : State) (at b : ℕ) (bs : List ℕ) → may_stand s b ≡ true → operand_length b ≤ length bs → after s b (take (operand_length b) bs) ≡ Some u → step s at b bs ≡ goes u (operand_length b)
step_goes s u at b bs may le af = rw (may, le-ltb (length bs) (operand_length b) le, af)

run_step : (k : ℕ) (s u : State) (at b w : ℕ) (bs : List ℕ) → step s at b bs ≡ goes u w → run (suc k) s at (b ∷ bs) ≡ run k u (at + 1 + w) (drop w bs)
unfolding run
run_step k s u at b w bs e = rw (e, run)

run_stop : (k : ℕ) (s : State) (at b p : ℕ) (bs : List ℕ) → step s at b bs ≡ stops p → run (suc k) s at (b ∷ bs) ≡ refused p
unfolding run
run_stop k s at b p bs e = rw (e, run)

run_none : (k : ℕ) (s : State) (at : ℕ) → run k s at [] ≡ close s at
unfolding run
run_none zero s at = refl
run_none (suc k) s at = refl

-- whole commands to the end of the bytes
pub run_moves : {s t : State} {bs : List ℕ} → Moves s bs t → (k at : ℕ) → length bs ≤ k → run k s at bs ≡ close t (at + length bs)
run_moves (here {s = s}) k at h = run_none k s at ∙ ap (close s) (omega arith)
run_moves (there {s = s} {t = t} u {b = b} {bs = bs} may le af m) zero at h = absurd (omega arith)
run_moves (there {s = s} {t = t} u {b = b} {bs = bs} may le af m) (suc k) at h =
    let w = operand_length b in
    let short : length (drop w bs) ≡ length bs - w = length-drop w bs in
    run_step k s u at b w bs (step_goes s u at b bs may le af) ∙ (run_moves m k (at + 1 + w) (omega arith) ∙ ap (close t) (omega arith))

-- why `run` goes no further: no byte is left, or a command stops it
pub data Halts (s : State) (at : ℕ) : List ℕ → Reading → Type 0 where
  closed : Halts s at [] (close s at)
  forbidden : {b : ℕ} {bs : List ℕ} → may_stand s b ≡ false → Halts s at (b ∷ bs) (refused at)
  short : {b : ℕ} {bs : List ℕ} → may_stand s b ≡ true → length bs < operand_length b → Halts s at (b ∷ bs) (refused (at + 1 + length bs))
  unlawful : {b : ℕ} {bs : List ℕ} → may_stand s b ≡ true → operand_length b ≤ length bs → after s b (take (operand_length b) bs) ≡ None → Halts s at (b ∷ bs) (refused at)

-- a reading in two parts: the commands that it follows, and where it halts
pub record Followed (s : State) (at : ℕ) (bs : List ℕ) (r : Reading) : Type 0 where
  pub before : List ℕ
  pub left : List ℕ
  pub reached : State
  pub split : bs ≡ before ++ left
  pub moves : Moves s before reached
  pub place : ℕ
  pub stands : place ≡ at + length before
  pub halts : Halts reached place left r

followed_none : (s : State) (at : ℕ) (r : Reading) → r ≡ close s at → Followed s at [] r
followed_none s at r e =
    record {
      before = [];
      left = [];
      reached = s;
      split = refl;
      moves = here;
      place = at;
      stands = omega arith;
      halts = subst (λ x. Halts s at [] x) (sym e) closed;
    }

followed_stop : (k : ℕ) (s : State) (at b p : ℕ) (bs : List ℕ) → step s at b bs ≡ stops p → Halts s at (b ∷ bs) (refused p) → Followed s at (b ∷ bs) (run (suc k) s at (b ∷ bs))
followed_stop k s at b p bs e h =
    record {
      before = [];
      left = b ∷ bs;
      reached = s;
      split = refl;
      moves = here;
      place = at;
      stands = omega arith;
      halts = subst (λ x. Halts s at (b ∷ bs) x) (sym (run_stop k s at b p bs e)) h;
    }

followed_more : (s u : State) (at b : ℕ) (bs : List ℕ) (r : Reading) → may_stand s b ≡ true → operand_length b ≤ length bs → after s b (take (operand_length b) bs) ≡ Some u → Followed u (at + 1 + operand_length b) (drop (operand_length b) bs) r → Followed s at (b ∷ bs) r
followed_more s u at b bs r may le af f =
    let w = operand_length b in
    let os = take w bs in
    let e : bs ≡ os ++ (f.before ++ f.left) = sym (take-append-drop w bs) ∙ ap (λ x. os ++ x) f.split in
    let long : length os ≡ w = length-take-le w bs le in
    record {
      before = b ∷ (os ++ f.before);
      left = f.left;
      reached = f.reached;
      split = ap (λ x. b ∷ x) (e ∙ sym (append_assoc os f.before f.left));
      moves = there_by u b os f.before may long af f.moves;
      place = f.place;
      stands = f.stands ∙ omega (arith, length-append os f.before);
      halts = f.halts;
    }

-- every reading is of this kind
pub run_followed : (k : ℕ) (s : State) (at : ℕ) (bs : List ℕ) → length bs ≤ k → Followed s at bs (run k s at bs)
run_followed zero s at [] h = followed_none s at (run zero s at []) (run_none zero s at)
run_followed zero s at (b ∷ bs) h = absurd (omega arith)
run_followed (suc k) s at [] h = followed_none s at (run (suc k) s at []) (run_none (suc k) s at)
run_followed (suc k) s at (b ∷ bs) h =
    let w = operand_length b in
    let drops : length (drop w bs) ≡ length bs - w = length-drop w bs in
    on_may (may_stand s b) refl (λ u at. run_followed k u at (drop w bs) (omega arith))
  where
    on_after : (o : Option State) → after s b (take (operand_length b) bs) ≡ o → may_stand s b ≡ true → operand_length b ≤ length bs → ((u : State) (at : ℕ) → Followed u at (drop (operand_length b) bs) (run k u at (drop (operand_length b) bs))) → Followed s at (b ∷ bs) (run (suc k) s at (b ∷ bs))
    on_after None e may le ih =
        followed_stop k s at b at bs (rw (may, le-ltb (length bs) (operand_length b) le, e)) (unlawful may le e)
    on_after (Some u) e may le ih =
        subst (λ x. Followed s at (b ∷ bs) x) (sym (run_step k s u at b (operand_length b) bs (step_goes s u at b bs may le e))) (followed_more s u at b bs (run k u (at + 1 + operand_length b) (drop (operand_length b) bs)) may le e (ih u (at + 1 + operand_length b)))

    on_long : (t : Bool) → ltb (length bs) (operand_length b) ≡ t → may_stand s b ≡ true → ((u : State) (at : ℕ) → Followed u at (drop (operand_length b) bs) (run k u at (drop (operand_length b) bs))) → Followed s at (b ∷ bs) (run (suc k) s at (b ∷ bs))
    on_long true e may ih =
        followed_stop k s at b (at + 1 + length bs) bs (rw (may, e)) (short may (ltb-true (length bs) (operand_length b) e))
    on_long false e may ih =
        on_after (after s b (take (operand_length b) bs)) refl may (ltb-false (length bs) (operand_length b) e) ih

    on_may : (t : Bool) → may_stand s b ≡ t → ((u : State) (at : ℕ) → Followed u at (drop (operand_length b) bs) (run k u at (drop (operand_length b) bs))) → Followed s at (b ∷ bs) (run (suc k) s at (b ∷ bs))
    on_may true e ih = on_long (ltb (length bs) (operand_length b)) refl e ih
    on_may false e ih = followed_stop k s at b at bs (rw e) (forbidden e)
