-- What a shelf tells, and what keeping and dropping come to. Assumes nothing.
use Rattle.std.specs.Prelude.{ℕ, cond, List, [], ◌∷◌, length, replicate, is_some, Some, None, Ok, Err, Option, Result, nat_le, slice_set}
use Rattle.batches.specs.Reading.{Reading, tables, refused, reading}
use Rattle.batches.specs.Tables.{Table, Named, Told}
use Rattle.values.specs.Names.{lawful_name}
use Rattle.stores.specs.Held.{first_table}
use Rattle.stores.specs.Kept.{holding}
use Rattle.stores.specs.Meaning.{lookup}
use Rattle.stores.specs.Places.{Places, lowest_free, in_places, place_holding, table_in, with_new}
use Rattle.stores.specs.Refusals.{Refusal, by_shelf, by_store}
use Rattle.stores.specs.declared.kept_tables.KeptTables.{KeptTables}
use Rattle.stores.specs.declared.shelf.ShelfNumber.{ShelfNumber}
use Rattle.stores.specs.declared.shelf.ShelfNumber.TheVariants.{Below, Place}

-- what the eight places hold
abbrev pub holds_in : KeptTables → Places
holds_in k = holding k.places

abbrev pub all_free : Places
all_free = replicate 8 None

-- what a shelf tells: what is told below, and behind it the tables in the places whose names are not told yet
unfoldable pub shelf_told : Told → Places → Told
shelf_told ts ps = with_new ts (in_places ps)

-- a table's number on a shelf, by its number below and its place
abbrev pub shelf_number : {N : Type 0} → Option N → Option ℕ → Option (ShelfNumber N)
shelf_number (Some k) o = Some (Below k)
shelf_number None (Some i) = Some (Place i)
shelf_number None None = None

-- what a shelf's number stands for, by what a number below stands for
abbrev pub shelf_stands : {N : Type 0} → (N → Option Table) → Places → ShelfNumber N → Option Table
shelf_stands f ps (Below k) = f k
shelf_stands f ps (Place i) = table_in ps i

-- what a call comes to: it is done and gives something, or it is refused
pub data Outcome (X : Type 0) : Type 0 where
  done : X → Outcome X
  refuses : Refusal → Outcome X

-- the outcome that an answer says
abbrev pub outcome : {X Y E : Type 0} → (X → Y) → (E → Refusal) → Result X E → Outcome Y
outcome f g (Ok x) = done (f x)
outcome f g (Err e) = refuses (g e)

-- why an answer refuses, if it does
abbrev pub answered : {X E : Type 0} → (E → Refusal) → Result X E → Option Refusal
answered g (Ok x) = None
answered g (Err e) = Some (g e)

-- why a call is refused, if it is
abbrev pub refusal_of : {X : Type 0} → Outcome X → Option Refusal
refusal_of (done x) = None
refusal_of (refuses r) = Some r

-- the bytes of a place
abbrev pub place_length : ℕ
place_length = 2048

-- a name to keep a table under
abbrev pub name_offered : List ℕ → Outcome (List ℕ)
name_offered n = cond (lawful_name n) (done n) (refuses (by_store 8 0))

-- the one table of a batch, by what the batch is read as
unfoldable pub table_offered : Reading → Outcome Told
table_offered (refused p) = refuses (by_store 7 p)
table_offered (tables []) = refuses (by_store 7 0)
table_offered (tables (t ∷ [])) = done (t ∷ [])
table_offered (tables (t ∷ u ∷ ts)) = refuses (by_store 7 0)

-- a batch's one table under a name
abbrev pub renamed : List ℕ → Outcome Told → Outcome Named
renamed n (refuses r) = refuses r
renamed n (done ts) = done (record { name = n; table = first_table ts })

-- what is to be kept: a lawful name; then a batch that is no longer than a place; then its one table
unfoldable pub offered : List ℕ → List ℕ → Outcome Named
offered n bs =
    cond (lawful_name n) (cond (nat_le (length bs) place_length) (renamed n (table_offered (reading bs))) (refuses (by_shelf 9))) (refuses (by_store 8 0))

-- a table and the place that it is kept in
pub record Placing : Type 0 where
  pub place : ℕ
  pub kept : Named

abbrev pub placing : Named → Option ℕ → Outcome Placing
placing t None = refuses (by_shelf 23)
placing t (Some i) = done (record { place = i; kept = t })

-- keeping what is offered, by what is told below and what the places hold: its name must be new, and a place free
unfoldable pub keeping : Told → Places → Outcome Named → Outcome Placing
keeping ts ps (refuses r) = refuses r
keeping ts ps (done t) = cond (is_some (lookup (shelf_told ts ps) t.name)) (refuses (by_shelf 22)) (placing t (lowest_free ps))

-- keeping a batch's table under a name
abbrev pub keep_on : Told → Places → List ℕ → List ℕ → Outcome Placing
keep_on ts ps n bs = keeping ts ps (offered n bs)

-- what the places hold after a keep
unfoldable pub after_keep : Outcome Placing → Places → Places
after_keep (refuses r) ps = ps
after_keep (done p) ps = slice_set ps p.place (Some p.kept)

abbrev pub freeing : Option ℕ → Outcome ℕ
freeing None = refuses (by_shelf 24)
freeing (Some i) = done i

-- dropping a name: its place is freed
unfoldable pub dropping : Places → List ℕ → Outcome ℕ
dropping ps n = freeing (place_holding ps n)

-- what the places hold after a drop
unfoldable pub after_drop : Outcome ℕ → Places → Places
after_drop (refuses r) ps = ps
after_drop (done i) ps = slice_set ps i None
