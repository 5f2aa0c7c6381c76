-- The state of the reading that the checker's fields stand for, stage by stage. Assumes nothing.
use Rattle.std.proofs.Common.{◌≡◌, ℕ, zero, suc, ◌+◌, ◌*◌, ◌<◌, false, List, [], ◌∷◌, ◌++◌, map, length, get_or, take, drop, set, refl, ap, ◌∙◌, subst, ap₂, zero-add, arith}
use Rattle.std.proofs.lemmas.List.FromFn.{length-map-range_with_len, map-range_with_len_more}
use Rattle.std.proofs.lemmas.List.{get_or_past, length-drop, take_more_set, map_push}
use Rattle.values.specs.Codes.{byte_fits}
use Rattle.values.specs.declared.kinds.ColumnType.{ColumnType}
use Rattle.values.specs.declared.kinds.ColumnType.TheVariants.{Integer, Real, Text}
use Rattle.batches.specs.Checking.{Placed, PlacedAt, stage_by, state_of, step_at}
use Rattle.batches.specs.Layouts.{heading_at, headings_at, cell_at, cells_at, rows_at, table_at, told_by}
use Rattle.batches.specs.Reading.{State, step, cell_may}
use Rattle.batches.specs.Tables.{Heading}
use Rattle.batches.specs.declared.checker.Progress.{Progress}
use Rattle.batches.specs.declared.checker.Stage.{Stage as Expects}
use Rattle.batches.specs.declared.layout.Layout.{Layout}

abbrev pub state_at : List ℕ → Progress → Expects → State
state_at bs c e = record { done = told_by bs c.catalog; stage = stage_by bs e }

pub state_is : (bs : List ℕ) (c : Progress) (e : Expects) → c.stage ≡ e → state_of bs c ≡ state_at bs c e
unfolding state_of
state_is bs c e q = ap (state_at bs c) q

pub placed_in : (bs : List ℕ) (c : Progress) (e : Expects) → c.stage ≡ e → Placed bs c → PlacedAt c e
placed_in bs c e q p = subst (PlacedAt c) q p.stands

-- the step at the position, where the stage and the byte there are known
pub step_is : (bs : List ℕ) (c : Progress) (e : Expects) (b : ℕ) → c.stage ≡ e → get_or bs c.pos 0 ≡ b → step_at bs c ≡ step (state_at bs c e) c.pos b (drop (c.pos + 1) bs)
step_is bs c e b q r =
    ap₂ (λ (s : State) (a : ℕ). step s c.pos a (drop (c.pos + 1) bs)) (state_is bs c e q) r

pub length_headings : (bs : List ℕ) (at n : ℕ) → length (headings_at bs at n) ≡ n
unfolding headings_at
length_headings bs at n = length-map-range_with_len (λ k. heading_at bs (at + 18 * k)) 0 n

pub length_cells : (bs : List ℕ) (at n : ℕ) → length (cells_at bs at n) ≡ n
unfolding cells_at
length_cells bs at n = length-map-range_with_len (λ k. cell_at bs (at + 17 * k)) 0 n

pub headings_more : (bs : List ℕ) (at n : ℕ) → headings_at bs at (n + 1) ≡ headings_at bs at n ++ heading_at bs (at + 18 * n) ∷ []
unfolding headings_at
headings_more bs at n = map-range_with_len_more (λ k. heading_at bs (at + 18 * k)) 0 n n (zero-add n)

pub cells_more : (bs : List ℕ) (at n : ℕ) → cells_at bs at (n + 1) ≡ cells_at bs at n ++ cell_at bs (at + 17 * n) ∷ []
unfolding cells_at
cells_more bs at n = map-range_with_len_more (λ k. cell_at bs (at + 17 * k)) 0 n n (zero-add n)

pub rows_more : (bs : List ℕ) (at w n : ℕ) → rows_at bs at w (n + 1) ≡ rows_at bs at w n ++ cells_at bs (at + 17 * (w * n)) w ∷ []
unfolding rows_at
rows_more bs at w n = map-range_with_len_more (λ i. cells_at bs (at + 17 * (w * i)) w) 0 n n (zero-add n)

-- the tables with one more behind them
pub told_more : (bs : List ℕ) (ls : List Layout) (n : ℕ) (l : Layout) → n < length ls → map (table_at bs) (take (n + 1) (set ls n l)) ≡ map (table_at bs) (take n ls) ++ table_at bs l ∷ []
told_more bs ls n l h = ap (map (table_at bs)) (take_more_set ls n l h) ∙ map_push (table_at bs) (take n ls) l

-- a command that is none of a cell's
pub no_cell : (b : ℕ) → ((t : ColumnType) → byte_fits t b ≡ false) → (hs : List Heading) (k : ℕ) → cell_may hs k b ≡ false
no_cell b f [] k = refl
no_cell b f (h ∷ hs) zero = f h.holds
no_cell b f (h ∷ hs) (suc k) = no_cell b f hs k

byte_end : (t : ColumnType) → byte_fits t 0x7F ≡ false
unfolding byte_fits
byte_end Integer = refl
byte_end Real = refl
byte_end Text = refl

pub no_cell_end : (hs : List Heading) (k : ℕ) → cell_may hs k 0x7F ≡ false
no_cell_end = no_cell 0x7F byte_end

byte_column : (t : ColumnType) → byte_fits t 0x02 ≡ false
unfolding byte_fits
byte_column Integer = refl
byte_column Real = refl
byte_column Text = refl

pub no_cell_column : (hs : List Heading) (k : ℕ) → cell_may hs k 0x02 ≡ false
no_cell_column = no_cell 0x02 byte_column

-- how many bytes are left behind a command's
pub bytes_left : (bs : List ℕ) (pos : ℕ) → pos < length bs → pos + 1 + length (drop (pos + 1) bs) ≡ length bs
bytes_left bs pos h = simp length-drop (omega arith)

-- where a byte other than zero is read, the bytes go on
pub byte_within : (bs : List ℕ) (pos : ℕ) {b : ℕ} → get_or bs pos 0 ≡ b → 0 < b → pos < length bs
byte_within bs pos e h = grind (arith, get_or_past bs pos 0)
