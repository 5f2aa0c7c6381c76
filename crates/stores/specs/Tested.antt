-- The test of lawful tables finds just these. Assumes nothing.
use Rattle.std.specs.Prelude.{◌≡◌, ℕ, Bool, true, false, not, List, [], ◌∷◌, length, nat_le, refl}
use Rattle.std.proofs.lemmas.Slice.Eq.{bytes_eq-Decides}
use Rattle.std.proofs.lemmas.Bool.{and_parts, both_ways, leb-true, not-true}
use Rattle.std.specs.List.{AllByRecursion}
use Rattle.std.specs.Str.{bytes_eq}
use Rattle.values.specs.Cells.{Cell, lawful_cell}
use Rattle.values.specs.Codes.{fits}
use Rattle.values.specs.Names.{lawful_name}
use Rattle.batches.specs.Tables.{Heading, Body, rows, too_long, Told, RowFits, LawfulHeadings, Apart, Distinct}
use Rattle.stores.specs.Meaning.{Lawful, LawfulBody, most_rows}
use Rattle.stores.specs.Test.{every, is_lawful, test_apart, test_body, test_distinct, test_headings, test_row, test_table}

-- a test of each element, and what it shows
all_from : {X : Type 0} (p : X → Bool) (P : X → Type 0) → ((x : X) → p x ≡ true → P x) → (xs : List X) → every p xs ≡ true → AllByRecursion P xs
all_from p P f [] h = tt
all_from p P f (x ∷ xs) h = let q = and_parts (p x) (every p xs) h in (f x q.0, all_from p P f xs q.1)

row_from : (hs : List Heading) (cs : List Cell) → test_row hs cs ≡ true → RowFits hs cs
row_from [] [] h = tt
row_from [] (c ∷ cs) h = both_ways false refl h
row_from (g ∷ hs) [] h = both_ways false refl h
row_from (g ∷ hs) (c ∷ cs) h =
    let q = and_parts (lawful_cell c) _ h in
    let r = and_parts (fits g.holds c) (test_row hs cs) q.1 in
    (q.0, r.0, row_from hs cs r.1)

body_from : (hs : List Heading) (b : Body) → test_body hs b ≡ true → LawfulBody hs b
body_from hs (rows rs) h =
    let q = and_parts (every (test_row hs) rs) (nat_le (length rs) most_rows) h in
    (all_from (test_row hs) (RowFits hs) (row_from hs) rs q.0, leb-true (length rs) most_rows q.1)
body_from hs too_long h = tt

headings_from : (hs : List Heading) → test_headings hs ≡ true → LawfulHeadings hs
headings_from hs h =
    let q = and_parts (nat_le 1 (length hs)) _ h in
    let r = and_parts (nat_le (length hs) 8) (every (λ g. lawful_name g.name) hs) q.1 in
    record {
      some = leb-true 1 (length hs) q.0;
      few = leb-true (length hs) 8 r.0;
      named = all_from (λ g. lawful_name g.name) (λ g. lawful_name g.name ≡ true) (λ g e. e) hs r.1;
    }

apart_from : (n : List ℕ) (ts : Told) → test_apart n ts ≡ true → Apart n ts
apart_from n [] h = tt
apart_from n (t ∷ ts) h =
    let q = and_parts (not (bytes_eq n t.name)) (test_apart n ts) h in
    ((λ e. both_ways (bytes_eq n t.name) (not-true _ q.0) ((bytes_eq-Decides n t.name).1 e)), apart_from n ts q.1)

pub distinct_from : (ts : Told) → test_distinct ts ≡ true → Distinct ts
distinct_from [] h = tt
distinct_from (t ∷ ts) h =
    let q = and_parts (test_apart t.name ts) (test_distinct ts) h in
    (apart_from t.name ts q.0, distinct_from ts q.1)

pub lawful_from_test : (ts : Told) → is_lawful ts ≡ true → Lawful ts
unfolding is_lawful
lawful_from_test ts h =
    let q = and_parts (every test_table ts) (test_distinct ts) h in
    record {
      named = all_from test_table (λ t. lawful_name t.name ≡ true) (λ t e. (and_parts (lawful_name t.name) _ e).0) ts q.0;
      headed =
          all_from test_table (λ t. LawfulHeadings t.table.headings) (λ t e. headings_from t.table.headings (and_parts (test_headings t.table.headings) _ (and_parts (lawful_name t.name) _ e).1).0) ts q.0;
      filled =
          all_from test_table (λ t. LawfulBody t.table.headings t.table.body) (λ t e. body_from t.table.headings t.table.body (and_parts (test_headings t.table.headings) _ (and_parts (lawful_name t.name) _ e).1).1) ts q.0;
      distinct = distinct_from ts q.1;
    }
