-- The run of the reading, one command at a time. Assumes nothing.
use Rattle.std.proofs.Common.{◌≡◌, ℕ, zero, suc, ◌+◌, ◌<◌, ◌≤◌, List, [], ◌∷◌, length, get_or, drop, sym, refl, ap, ◌∙◌, arith}
use Rattle.std.proofs.lemmas.List.{drop_all, drop-drop, drop_more, length-drop}
use Rattle.std.proofs.lemmas.Bool.{cond-false, cond-true, le-ltb, lt-ltb}
use Rattle.batches.specs.Checking.{state_of, step_at}
use Rattle.batches.specs.Reading.{Reading, refused, State, Step, goes, stops, step, run, close, reading, start, longest}
use Rattle.batches.specs.declared.checker.Progress.{Progress}

-- what follows a step
abbrev onward : ℕ → ℕ → List ℕ → Step → Reading
onward k at bs x = elim x [
  | goes t w ↦ run k t (at + 1 + w) (drop w bs)
  | stops p ↦ refused p
]

by_step : (k : ℕ) (s : State) (at b : ℕ) (bs : List ℕ) → run (suc k) s at (b ∷ bs) ≡ onward k at bs (step s at b bs)
unfolding run
by_step k s at b bs = refl

pub run_end : (n : ℕ) (s : State) (at : ℕ) → run n s at [] ≡ close s at
unfolding run
run_end zero s at = refl
run_end (suc n) s at = refl

-- more turns than bytes change nothing
same_turns : (k m : ℕ) (s : State) (at : ℕ) (bs : List ℕ) → length bs ≤ k → length bs ≤ m → run k s at bs ≡ run m s at bs
same_turns k m s at [] h l = run_end k s at ∙ sym (run_end m s at)
same_turns zero m s at (b ∷ bs) h l = absurd (omega arith)
same_turns (suc k) zero s at (b ∷ bs) h l = absurd (omega arith)
same_turns (suc k) (suc m) s at (b ∷ bs) h l =
    by_step k s at b bs ∙ (go (step s at b bs) (λ t w. same_turns k m t (at + 1 + w) (drop w bs) (simp length-drop (omega arith)) (simp length-drop (omega arith))) ∙ sym (by_step m s at b bs))
  where
    go : (x : Step) → ((t : State) (w : ℕ) → run k t (at + 1 + w) (drop w bs) ≡ run m t (at + 1 + w) (drop w bs)) → onward k at bs x ≡ onward m at bs x
    go (goes t w) f = f t w
    go (stops p) f = refl

run_next : (n : ℕ) (s : State) (at b : ℕ) (bs : List ℕ) (t : State) (w : ℕ) → length bs < n → step s at b bs ≡ goes t w → run n s at (b ∷ bs) ≡ run n t (at + 1 + w) (drop w bs)
run_next zero s at b bs t w h e = absurd (omega arith)
run_next (suc n) s at b bs t w h e =
    by_step n s at b bs ∙
    (ap (onward n at bs) e ∙ same_turns n (suc n) t (at + 1 + w) (drop w bs) (simp length-drop (omega arith)) (simp length-drop (omega arith)))

run_stop : (n : ℕ) (s : State) (at b : ℕ) (bs : List ℕ) (p : ℕ) → length bs < n → step s at b bs ≡ stops p → run n s at (b ∷ bs) ≡ refused p
run_stop zero s at b bs p h e = absurd (omega arith)
run_stop (suc n) s at b bs p h e = by_step n s at b bs ∙ ap (onward n at bs) e

-- what is still to be read gives what the whole batch gives
abbrev pub Going : List ℕ → Progress → Type 0
Going bs c = run (length bs) (state_of bs c) c.pos (drop c.pos bs) ≡ run (length bs) start 0 bs

module _ (bs : List ℕ) (c : Progress) (l : c.pos < length bs) (g : Going bs c) where
  here : run (length bs) (state_of bs c) c.pos (get_or bs c.pos 0 ∷ drop (c.pos + 1) bs) ≡ run (length bs) start 0 bs
  here = ap (run (length bs) (state_of bs c) c.pos) (sym (drop_more bs c.pos 0 l)) ∙ g

  few : length (drop (c.pos + 1) bs) < length bs
  few = simp length-drop (omega arith)

  pub going_on : (d : Progress) (w : ℕ) → step_at bs c ≡ goes (state_of bs d) w → d.pos ≡ c.pos + 1 + w → Going bs d
  going_on d w e q =
      ap (λ (n : ℕ). run (length bs) (state_of bs d) n (drop n bs)) q ∙
      (ap (run (length bs) (state_of bs d) (c.pos + 1 + w)) (sym (drop-drop w (c.pos + 1) bs)) ∙
      (sym (run_next (length bs) (state_of bs c) c.pos (get_or bs c.pos 0) (drop (c.pos + 1) bs) (state_of bs d) w few e) ∙ here))

  pub stopped : (p : ℕ) → step_at bs c ≡ stops p → refused p ≡ run (length bs) start 0 bs
  stopped p e = sym (run_stop (length bs) (state_of bs c) c.pos (get_or bs c.pos 0) (drop (c.pos + 1) bs) p few e) ∙ here

pub closed : (bs : List ℕ) (c : Progress) → length bs ≤ c.pos → Going bs c → close (state_of bs c) c.pos ≡ run (length bs) start 0 bs
closed bs c h g =
    sym (run_end (length bs) (state_of bs c) c.pos) ∙ (ap (run (length bs) (state_of bs c) c.pos) (sym (drop_all c.pos bs h)) ∙ g)

pub reading_run : (bs : List ℕ) → length bs ≤ longest → run (length bs) start 0 bs ≡ reading bs
unfolding reading
reading_run bs h = sym (cond-false _ _ _ (le-ltb longest (length bs) h))

pub reading_long : (bs : List ℕ) → longest < length bs → refused longest ≡ reading bs
unfolding reading
reading_long bs h = sym (cond-true _ _ _ (lt-ltb longest (length bs) h))
