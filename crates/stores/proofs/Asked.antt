-- What is asked of a store's tables by their numbers. Assumes nothing.
use Rattle.std.proofs.Common.{◌≡◌, ℕ, true, sym, ◌∙◌}
use Rattle.std.specs.List.{slice_get}
use Rattle.batches.proofs.Described.{columns_told, names_told}
use Rattle.batches.specs.Asked.{chained, row_count, cell_in, column_asked, count_asked, cell_asked, name_asked}
use Rattle.batches.specs.Tables.{Told}
use Rattle.stores.specs.Found.{chained_mapped, table_at}
use Rattle.stores.specs.Meaning.{column_of, count_of, name_told, value_of}
use Rattle.stores.specs.Test.{is_lawful}
use Rattle.stores.specs.Tested.{lawful_from_test}

-- what is asked of a table by its number, and of the table itself
pub column_asked_lem : (ts : Told) (k i : ℕ) → chained (slice_get ts k) (λ n. slice_get n.table.headings i) ≡ column_of (table_at ts k) i
unfolding column_of
column_asked_lem ts k i = sym (chained_mapped (λ t. t.table) (slice_get ts k) (λ t. slice_get t.headings i))

pub count_asked_lem : (ts : Told) (k : ℕ) → count_asked ts k ≡ count_of (table_at ts k)
unfolding count_asked count_of
count_asked_lem ts k = sym (chained_mapped (λ t. t.table) (slice_get ts k) (λ t. row_count t.body))

pub cell_asked_lem : (ts : Told) (k r c : ℕ) → cell_asked ts k r c ≡ value_of (table_at ts k) r c
unfolding cell_asked value_of
cell_asked_lem ts k r c = sym (chained_mapped (λ t. t.table) (slice_get ts k) (λ t. cell_in t.body r c))

-- what is asked of a store's tables by number is what they tell
pub column_told : (ts : Told) (k i : ℕ) → is_lawful ts ≡ true → column_asked ts k i ≡ column_of (table_at ts k) i
column_told ts k i l = columns_told ts k i (lawful_from_test ts l).headed ∙ column_asked_lem ts k i

pub name_asked_told : (ts : Told) (k : ℕ) → is_lawful ts ≡ true → name_asked ts k ≡ name_told ts k
unfolding name_told
name_asked_told ts k l = names_told ts k (lawful_from_test ts l).named
