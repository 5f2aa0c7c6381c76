-- Lawful tables meet the test. Assumes nothing.
use Rattle.std.specs.Prelude.{◌≡◌, ℕ, Bool, true, false, not, List, [], ◌∷◌, length, refl}
use Rattle.std.proofs.lemmas.Slice.Eq.{bytes_eq-Decides}
use Rattle.std.proofs.lemmas.Bool.{and_from, le-leb}
use Rattle.std.specs.List.{AllByRecursion}
use Rattle.std.specs.Str.{bytes_eq}
use Rattle.values.specs.Cells.{Cell}
use Rattle.values.specs.Names.{lawful_name}
use Rattle.batches.specs.Described.{Described, RowsUpTo}
use Rattle.batches.specs.Tables.{Heading, Body, rows, too_long, Told, RowFits, LawfulHeadings, Apart, Distinct}
use Rattle.batches.specs.Written.{BodyFits}
use Rattle.stores.specs.Meaning.{Lawful, LawfulBody, most_rows}
use Rattle.stores.specs.Test.{every, is_lawful, test_apart, test_body, test_distinct, test_headings, test_row, test_table}

all_to : {X : Type 0} (p : X → Bool) (P : X → Type 0) → ((x : X) → P x → p x ≡ true) → (xs : List X) → AllByRecursion P xs → every p xs ≡ true
all_to p P f [] h = refl
all_to p P f (x ∷ xs) h = and_from (p x) (every p xs) (f x h.0) (all_to p P f xs h.1)

row_to : (hs : List Heading) (cs : List Cell) → RowFits hs cs → test_row hs cs ≡ true
row_to [] [] h = refl
row_to [] (c ∷ cs) h = absurd h
row_to (g ∷ hs) [] h = absurd h
row_to (g ∷ hs) (c ∷ cs) h = and_from _ _ h.0 (and_from _ _ h.1 (row_to hs cs h.2))

body_to : (hs : List Heading) (b : Body) → LawfulBody hs b → test_body hs b ≡ true
body_to hs (rows rs) h = and_from _ _ (all_to (test_row hs) (RowFits hs) (row_to hs) rs h.0) (le-leb (length rs) most_rows h.1)
body_to hs too_long h = refl

headings_to : (hs : List Heading) → LawfulHeadings hs → test_headings hs ≡ true
headings_to hs h =
    and_from _ _ (le-leb 1 (length hs) h.some) (and_from _ _ (le-leb (length hs) 8 h.few) (all_to (λ g. lawful_name g.name) (λ g. lawful_name g.name ≡ true) (λ g e. e) hs h.named))

apart_to : (n : List ℕ) (ts : Told) → Apart n ts → test_apart n ts ≡ true
apart_to n [] h = refl
apart_to n (t ∷ ts) h = and_from _ _ (go (bytes_eq n t.name) refl) (apart_to n ts h.1)
  where
    go : (b : Bool) → bytes_eq n t.name ≡ b → not b ≡ true
    go true e = absurd (h.0 ((bytes_eq-Decides n t.name).0 e))
    go false e = refl

pub distinct_to : (ts : Told) → Distinct ts → test_distinct ts ≡ true
distinct_to [] h = refl
distinct_to (t ∷ ts) h = and_from _ _ (apart_to t.name ts h.0) (distinct_to ts h.1)

every_table : (ts : Told) → AllByRecursion (λ t. lawful_name t.name ≡ true) ts → AllByRecursion (λ t. LawfulHeadings t.table.headings) ts → AllByRecursion (λ t. LawfulBody t.table.headings t.table.body) ts → every test_table ts ≡ true
every_table [] n h f = refl
every_table (t ∷ ts) n h f =
    and_from _ _ (and_from _ _ n.0 (and_from _ _ (headings_to t.table.headings h.0) (body_to t.table.headings t.table.body f.0))) (every_table ts n.1 h.1 f.1)

pub test_from_lawful : (ts : Told) → Lawful ts → is_lawful ts ≡ true
unfolding is_lawful
test_from_lawful ts h = and_from _ _ (every_table ts h.named h.headed h.filled) (distinct_to ts h.distinct)

-- what a batch is read as is lawful
bodies : (ts : Told) → AllByRecursion (λ t. BodyFits t.table.headings t.table.body) ts → AllByRecursion (λ t. RowsUpTo 1000000 t.table.body) ts → AllByRecursion (λ t. LawfulBody t.table.headings t.table.body) ts
bodies [] f s = tt
bodies (t ∷ ts) f s = (go t.table.body f.0 s.0, bodies ts f.1 s.1)
  where
    go : (b : Body) → BodyFits t.table.headings b → RowsUpTo 1000000 b → LawfulBody t.table.headings b
    go (rows rs) g l = (g, l)
    go too_long g l = tt

pub lawful_from_described : (ts : Told) → Described ts → Lawful ts
lawful_from_described ts d =
    record { named = d.named; headed = d.headed; filled = bodies ts d.filled d.short; distinct = d.distinct }
