-- Commands written one after another. Assumes nothing.
use Rattle.std.proofs.Common.{◌≡◌, ℕ, zero, suc, ◌+◌, ◌<◌, ◌≤◌, true, List, [], ◌∷◌, ◌++◌, map, length, get_or, take, drop, is_ok, IfOk, Ok, Err, vec_items, Result, sym, refl, ap, ◌∙◌, ap₂, append_assoc, append-nil, arith}
use Rattle.std.proofs.lemmas.Grind.{flat_map-append}
use Rattle.std.proofs.lemmas.List.Folds.{flat_map-map}
use Rattle.std.proofs.lemmas.List.{flat_map_more, length-drop, take_all, take-append-drop, take_more}
use Rattle.std.specs.List.{flat_map}
use Rattle.values.specs.Cells.{cell_of}
use Rattle.values.specs.Codes.{encoded}
use Rattle.values.specs.declared.value.Value.{Value}
use Rattle.batches.specs.Columns.{heading_of}
use Rattle.batches.specs.Commands.{cell_command, column_command, cut, cut_up_to, end_command, table_command, table_of, tables_of}
use Rattle.batches.specs.Format.{column_bytes}
use Rattle.batches.specs.Written.{table_bytes, written}
use Rattle.batches.specs.declared.writer.TableData.{TableData}

-- a loop that writes f of each element behind what was written
module _ {X : Type 0} (f : X → List ℕ) (xs : List X) (bs : List ℕ) (i : ℕ) where
  pub one_more : {w v : List ℕ} (x : X) → i < length xs → x ≡ get_or xs i x → w ≡ bs ++ flat_map f (take i xs) → v ≡ w ++ f x → v ≡ bs ++ flat_map f (take (i + 1) xs)
  one_more x h e p q =
      q ∙ (ap (λ (ys : List ℕ). ys ++ f x) p ∙ (flat_map_more f bs (take i xs) x ∙ ap (λ (ys : List X). bs ++ flat_map f ys) (ap (λ (y : X). take i xs ++ y ∷ []) e ∙ sym (take_more xs i x h))))

  pub all_written : {w : List ℕ} → length xs ≤ i → w ≡ bs ++ flat_map f (take i xs) → w ≡ bs ++ flat_map f xs
  all_written h p = p ∙ ap (λ (ys : List X). bs ++ flat_map f ys) (take_all i xs h)

-- what is cut into rows is written as it was
module _ {X : Type 0} (f : X → List ℕ) where
  cut_up_to_lem : (n w : ℕ) (xs : List X) → length xs ≤ n → flat_map (flat_map f) (cut_up_to n (suc w) xs) ≡ flat_map f xs
  unfolding cut_up_to
  cut_up_to_lem zero w [] h = refl
  cut_up_to_lem zero w (x ∷ xs) h = absurd (omega arith)
  cut_up_to_lem (suc n) w [] h = refl
  cut_up_to_lem (suc n) w (x ∷ xs) h =
      let l : length (drop w xs) ≤ n = simp length-drop (omega arith) in
      ap (λ (zs : List ℕ). flat_map f (x ∷ take w xs) ++ zs) (cut_up_to_lem n w (drop w xs) l) ∙
      (sym (flat_map-append f (x ∷ take w xs) (drop w xs)) ∙ ap (λ (ys : List X). flat_map f (x ∷ ys)) (take-append-drop w xs))

  pub cut_some : (w : ℕ) (xs : List X) → 0 < w → flat_map (flat_map f) (cut w xs) ≡ flat_map f xs
  unfolding cut
  cut_some zero xs h = absurd (omega arith)
  cut_some (suc w) xs h = cut_up_to_lem (length xs) w xs (omega arith)

  pub cut_none : (w : ℕ) (xs : List X) → w ≡ 0 → flat_map (flat_map f) (cut w xs) ≡ []
  unfolding cut
  cut_none zero xs h = refl
  cut_none (suc w) xs h = absurd (omega arith)

-- the rows of a table, as they are written
abbrev pub rows_written : TableData → List ℕ
rows_written d = flat_map (flat_map encoded) (cut (length (vec_items d.columns)) (map cell_of (vec_items d.cells)))

-- the cells behind what was written are the rows, if there are columns
pub rows_some : (d : TableData) (bs : List ℕ) {vs : List Value} {w : List ℕ} → 0 < length (vec_items d.columns) → vs ≡ vec_items d.cells → w ≡ bs ++ flat_map cell_command vs → w ≡ bs ++ rows_written d
rows_some d bs h e p =
    let r = cut_some encoded (length (vec_items d.columns)) (map cell_of (vec_items d.cells)) h in
    p ∙ ap (λ (ys : List ℕ). bs ++ ys) (ap (flat_map cell_command) e ∙ sym (r ∙ flat_map-map encoded cell_of (vec_items d.cells)))

pub rows_none : (d : TableData) (bs : List ℕ) → length (vec_items d.columns) ≡ 0 → bs ≡ bs ++ rows_written d
rows_none d bs h =
    let r = cut_none encoded (length (vec_items d.columns)) (map cell_of (vec_items d.cells)) h in
    sym (append-nil bs) ∙ ap (λ (ys : List ℕ). bs ++ ys) (sym r)

-- a whole table behind what was written
pub whole_table : (d : TableData) (bs : List ℕ) {b₁ b₂ b₃ b₄ : List ℕ} → b₁ ≡ bs ++ table_command d.name → b₂ ≡ b₁ ++ flat_map column_command (vec_items d.columns) → b₃ ≡ b₂ ++ rows_written d → b₄ ≡ b₃ ++ end_command → b₄ ≡ bs ++ table_bytes (table_of d)
whole_table d bs p q r s =
    let cols = flat_map-map column_bytes heading_of (vec_items d.columns) in
    s ∙ (ap (λ (ys : List ℕ). ys ++ end_command) (r ∙ ap (λ (ys : List ℕ). ys ++ rows_written d) (q ∙ ap₂ (λ (ys zs : List ℕ). ys ++ zs) p (sym cols))) ∙ simp append_assoc)

pub tables_written : (ds : List TableData) → flat_map (λ d. table_bytes (table_of d)) ds ≡ written (tables_of ds)
unfolding written
tables_written ds = sym (flat_map-map table_bytes table_of ds)

-- a clause on what a call made, where it is known that it made it
pub made_if : {X Y P : Type 0} (r : Result X Y) → (is_ok r ≡ true → P) → IfOk r (λ _. P)
made_if (Ok x) h = h refl
made_if (Err y) h = tt
