-- What is proved of keeping and dropping, by what is told under each name. Assumes nothing.
use Rattle.std.specs.Prelude.{◌≡◌, ℕ, ◌<◌, List, ◌++◌, Some, None, ◌≢◌}
use Rattle.std.specs.List.{slice_get, AllByRecursion}
use Rattle.batches.specs.Tables.{Named, Told, Distinct}
use Rattle.stores.specs.Meaning.{lookup}
use Rattle.stores.specs.Places.{Places, in_places, place_holding}
use Rattle.stores.specs.Shelved.{Placing, done, after_drop, after_keep, dropping, keep_on, shelf_told}

-- the name was new and is told now, with the table; every other name has the table and the place that it had; the place
-- was free, and none lower was
pub record KeptSo (ts : Told) (ps : Places) (p : Placing) : Type 0 where
  pub new : lookup (shelf_told ts ps) p.kept.name ≡ None
  pub told : lookup (shelf_told ts (after_keep (done p) ps)) p.kept.name ≡ Some p.kept.table
  pub others : (m : List ℕ) → (m ≢ p.kept.name) → lookup (shelf_told ts (after_keep (done p) ps)) m ≡ lookup (shelf_told ts ps) m
  pub steady : (m : List ℕ) → (m ≢ p.kept.name) → place_holding (after_keep (done p) ps) m ≡ place_holding ps m
  pub free : slice_get ps p.place ≡ Some None
  pub lowest : (j : ℕ) → j < p.place → (t : Named) × (slice_get ps j ≡ Some (Some t))

-- A kept table is told under its name, from the lowest free place, and no other name is touched.
abbrev pub KeepTells : Type 0
KeepTells = (ts : Told) (ps : Places) (n bs : List ℕ) (p : Placing) → keep_on ts ps n bs ≡ done p → KeptSo ts ps p

-- the place held the name; what is told under the name is what is told below; every other name has the table and the
-- place that it had
pub record DroppedSo (ts : Told) (ps : Places) (n : List ℕ) (i : ℕ) : Type 0 where
  pub held : (t : Named) × (slice_get ps i ≡ Some (Some t)) × (t.name ≡ n)
  pub unkept : place_holding (after_drop (done i) ps) n ≡ None
  pub below : lookup (shelf_told ts (after_drop (done i) ps)) n ≡ lookup ts n
  pub others : (m : List ℕ) → (m ≢ n) → lookup (shelf_told ts (after_drop (done i) ps)) m ≡ lookup (shelf_told ts ps) m
  pub steady : (m : List ℕ) → (m ≢ n) → place_holding (after_drop (done i) ps) m ≡ place_holding ps m

-- A dropped name is kept no longer, and no other name is touched.
abbrev pub DropFrees : Type 0
DropFrees = (ts : Told) (ps : Places) (n : List ℕ) (i : ℕ) → Distinct (in_places ps) → dropping ps n ≡ done i → DroppedSo ts ps n i

-- no kept name is told below
abbrev pub Visible : Told → Places → Type 0
Visible ts ps = AllByRecursion (λ t. lookup ts t.name ≡ None) (in_places ps)

-- Keeping and dropping leave every kept table visible.
abbrev pub KeepVisible : Type 0
KeepVisible = (ts : Told) (ps : Places) (n bs : List ℕ) → Visible ts ps → Visible ts (after_keep (keep_on ts ps n bs) ps)

abbrev pub DropVisible : Type 0
DropVisible = (ts : Told) (ps : Places) (n : List ℕ) → Visible ts ps → Visible ts (after_drop (dropping ps n) ps)

-- A shelf whose kept tables are visible tells what is told below, and then all of these, in the order of their places.
abbrev pub AllTold : Type 0
AllTold = (ts : Told) (ps : Places) → Visible ts ps → Distinct (in_places ps) → shelf_told ts ps ≡ ts ++ in_places ps
