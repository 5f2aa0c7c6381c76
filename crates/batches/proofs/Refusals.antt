-- A batch is refused at its first wrong command, or at its length where it is unfinished, and only there.
use Rattle.std.proofs.Common.{◌≡◌, ℕ, suc, ◌+◌, ◌<◌, List, [], ◌∷◌, ◌++◌, length, take, drop, sym, refl, ap, ◌∙◌, subst, inl, inr, append-nil, arith}
use Rattle.std.proofs.lemmas.List.{length-append, length-take-le, take-append-drop}
use Rattle.std.proofs.lemmas.Bool.{cases_lt, cases_order}
use Rattle.batches.specs.Format.{operand_length, command_end, IsBatch, Begins, Starts, first, WrongCommand, whole, short, RefusedAt, wrong, unfinished}
use Rattle.batches.specs.Reading.{Stage, between, columns, cells, State, Reading, tables, refused, close, run, start}
use Rattle.batches.specs.Tables.{Told}
use Rattle.batches.specs.Theorems.{RefusedThere}
use Rattle.batches.proofs.Complete.{at, batch_read}
use Rattle.batches.proofs.Completions.{begins_byte, no_forbidden, no_unlawful}
use Rattle.batches.proofs.Exactly.{reading_short, read_batch, refused_is_no_tables}
use Rattle.batches.proofs.Moves.{Moves, Halts, run_followed}
use Rattle.batches.proofs.Places.{end_at, take_command, take_byte, Between, starts_cases, moves_start, not_wrong}

module _ {t : State} (bs ds es : List ℕ) (e : bs ≡ ds ++ es) (m : Moves start ds t) where
  -- no command before the place that is reached is wrong
  none_before : (q : ℕ) → q < length ds → Starts bs q → WrongCommand bs q → ⊥
  none_before q l s x = elim (starts_cases bs ds es e m s) [ inl b ↦ on_path b b.back refl | inr p ↦ omega (arith, p.further) ]
    where
      on_path : (b : Between ds t q) (back : List ℕ) → b.back ≡ back → ⊥
      on_path b [] k =
          let all : ds ≡ b.front = b.is ∙ (ap (λ y. b.front ++ y) k ∙ append-nil b.front) in
          omega (arith, ap length all, b.stands)
      on_path b (c ∷ back) k = not_wrong bs ds es q e b back c k x

  -- nor is any, where the one at that place is not, and is not whole
  none_at_all : (WrongCommand bs (length ds) → ⊥) → (length ds < length bs → length bs < command_end bs (length ds)) → (q : ℕ) → Starts bs q → WrongCommand bs q → ⊥
  none_at_all fine cut q s x = elim (starts_cases bs ds es e m s) [
    | inl b ↦ on_path b b.back refl
    | inr p ↦ let c = cut p.some in let w = p.whole in omega arith
  ]
    where
      on_path : (b : Between ds t q) (back : List ℕ) → b.back ≡ back → ⊥
      on_path b [] k =
          let all : ds ≡ b.front = b.is ∙ (ap (λ y. b.front ++ y) k ∙ append-nil b.front) in
          fine (subst (WrongCommand bs) (b.stands ∙ ap length (sym all)) x)
      on_path b (c ∷ back) k = not_wrong bs ds es q e b back c k x

  starts_here : Starts bs (length ds)
  starts_here = let k : 0 + length ds ≡ length ds = omega arith in rw k at (moves_start m bs [] es e first)

close_refused : (ts : Told) (g : Stage) (p q : ℕ) → close (at ts g) p ≡ refused q → q ≡ p
close_refused ts between p q e = refused_is_no_tables q ts (sym e)
close_refused ts (columns n hs) p q e = cc
close_refused ts (cells n hs rs cs) p q e = cc

-- where `run` halts, the batch is refused by the format
halts_refused : {t : State} {place : ℕ} {es : List ℕ} {r : Reading} (bs ds : List ℕ) → bs ≡ ds ++ es → Moves start ds t → place ≡ length ds → ((ts : Told) → IsBatch bs ts → ⊥) → Halts t place es r → (p : ℕ) → r ≡ refused p → RefusedAt bs p
halts_refused {t} {place} bs ds e m i no-batch Halts.closed p k =
    let all : bs ≡ ds = e ∙ append-nil ds in
    let same : p ≡ place = close_refused t.done t.stage place p k in
    unfinished (same ∙ (i ∙ ap length (sym all))) (none_at_all bs ds [] e m (λ x. elim x [ whole l h f ↦ omega (arith, ap length all) | short l h f ↦ omega (arith, ap length all) ]) (λ l. omega (arith, ap length all))) no-batch
halts_refused {t} {place} bs ds e m i no-batch (Halts.forbidden {b = b} {bs = rest} may) p k =
    let same : p ≡ length ds = let z : place ≡ p = cc in sym z ∙ i in
    let long : length bs ≡ length ds + suc (length rest) = ap length e ∙ length-append ds (b ∷ rest) in
    let is-wrong : WrongCommand bs (length ds) = elim (cases_lt (length bs) (command_end bs (length ds))) [
      | inl l ↦ short (omega arith) l (λ x. no_forbidden b [] m may (rw (take_byte bs ds b rest e) at x))
      | inr l ↦ whole (omega arith) l (λ x. no_forbidden b (take (operand_length b) rest) m may (rw (take_command bs ds b rest e) at x))
    ] in
    rw same (wrong (starts_here bs ds (b ∷ rest) e m) is-wrong (none_before bs ds (b ∷ rest) e m))
halts_refused {t} {place} bs ds e m i no-batch (Halts.short {b = b} {bs = rest} may l) p k =
    let same : p ≡ place + 1 + length rest = cc in
    let long : length bs ≡ length ds + suc (length rest) = ap length e ∙ length-append ds (b ∷ rest) in
    let ends : command_end bs (length ds) ≡ length ds + 1 + operand_length b = end_at bs ds b rest e in
    let cut : length bs < command_end bs (length ds) = rw ends (omega arith) in
    let begins : Begins (take (length ds + 1) bs) = rw (take_byte bs ds b rest e) (begins_byte b m may) in
    unfinished (omega arith) (none_at_all bs ds (b ∷ rest) e m (λ x. elim x [ whole l h f ↦ omega arith | short l h f ↦ f begins ]) (λ _. cut)) no-batch
halts_refused {t} {place} bs ds e m i no-batch (Halts.unlawful {b = b} {bs = rest} may l a) p k =
    let same : p ≡ length ds = let z : place ≡ p = cc in sym z ∙ i in
    let long : length bs ≡ length ds + suc (length rest) = ap length e ∙ length-append ds (b ∷ rest) in
    let ends : command_end bs (length ds) ≡ length ds + 1 + operand_length b = end_at bs ds b rest e in
    let is-wrong : WrongCommand bs (length ds) = whole (omega arith) (rw ends (omega arith)) (λ x. no_unlawful b (take (operand_length b) rest) m (length-take-le (operand_length b) rest l) a (rw (take_command bs ds b rest e) at x)) in
    rw same (wrong (starts_here bs ds (b ∷ rest) e m) is-wrong (none_before bs ds (b ∷ rest) e m))

-- a refusal is where the format has it
refused_forth : (bs : List ℕ) (p : ℕ) → run (length bs) start 0 bs ≡ refused p → RefusedAt bs p
refused_forth bs p e =
    let f = run_followed (length bs) start 0 bs (omega arith) in
    halts_refused bs f.before f.split f.moves (f.stands ∙ omega arith) (λ ts b. refused_is_no_tables p ts (sym e ∙ batch_read bs ts b)) f.halts p e

-- the format has one place for a refusal
refused_once : (bs : List ℕ) (p q : ℕ) → RefusedAt bs p → RefusedAt bs q → p ≡ q
refused_once bs p q (wrong s x n) (wrong s' x' n') = elim (cases_order p q) [
  | inl e ↦ e
  | inr d ↦ elim d [ inl l ↦ absurd (n' p l s x) | inr l ↦ absurd (n q l s' x') ]
]
refused_once bs p q (wrong s x n) (unfinished e none b) = absurd (none p s x)
refused_once bs p q (unfinished e none b) (wrong s x n) = absurd (none q s x)
refused_once bs p q (unfinished e none b) (unfinished e' none' b') = e ∙ sym e'

-- every front of a lawful batch begins one
begins_front : (bs : List ℕ) (ts : Told) (k : ℕ) → IsBatch bs ts → Begins (take k bs)
begins_front bs ts k b = (drop k bs, ts, rw (take-append-drop k bs) b)

lawful_not_refused : (bs : List ℕ) (ts : Told) (p : ℕ) → IsBatch bs ts → RefusedAt bs p → ⊥
lawful_not_refused bs ts p b (wrong s (whole l h f) n) = f (begins_front bs ts (command_end bs p) b)
lawful_not_refused bs ts p b (wrong s (short l h f) n) = f (begins_front bs ts (p + 1) b)
lawful_not_refused bs ts p b (unfinished e none f) = f ts b

refused_back : (bs : List ℕ) (p : ℕ) → RefusedAt bs p → (r : Reading) → run (length bs) start 0 bs ≡ r → r ≡ refused p
refused_back bs p x (tables ts) e = absurd (lawful_not_refused bs ts p (read_batch bs ts e) x)
refused_back bs p x (refused q) e = ap refused (refused_once bs q p (refused_forth bs q e) x)

pub refused_there : RefusedThere
refused_there bs p l = (
  (λ e. refused_forth bs p (sym (reading_short bs l) ∙ e)),
  λ x. reading_short bs l ∙ refused_back bs p x (run (length bs) start 0 bs) refl,
)
