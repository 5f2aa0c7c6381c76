-- What is asked of a kept table. Assumes nothing.
use Rattle.std.proofs.Common.{List, true, ◌≡◌, ℕ, [], ◌∷◌, Some, refl}
use Rattle.batches.proofs.Described.{columns_told}
use Rattle.batches.specs.Asked.{cell_asked, column_asked, count_asked}
use Rattle.batches.specs.Tables.{Told, LawfulHeadings}
use Rattle.stores.specs.Test.{is_lawful}
use Rattle.stores.specs.Tested.{lawful_from_test}
use Rattle.stores.specs.Held.{first_table}
use Rattle.stores.specs.Meaning.{column_of, count_of, value_of}

-- what is asked of the first table by its number, and of the table itself
pub headed_column : (ts : Told) (i : ℕ) → LawfulHeadings (first_table ts).headings → column_asked ts 0 i ≡ column_of (Some (first_table ts)) i
unfolding column_asked column_of first_table
headed_column [] i h = refl
headed_column (t ∷ ts) i h = columns_told (t ∷ []) 0 i (h, tt)

pub first_column : (ts : Told) (n : List ℕ) (i : ℕ) → is_lawful (record { name = n; table = first_table ts } ∷ []) ≡ true → column_asked ts 0 i ≡ column_of (Some (first_table ts)) i
first_column ts n i h = headed_column ts i (lawful_from_test _ h).headed.0

pub first_count : (ts : Told) → count_asked ts 0 ≡ count_of (Some (first_table ts))
unfolding count_asked count_of first_table
first_count [] = refl
first_count (t ∷ ts) = refl

pub first_cell : (ts : Told) (r c : ℕ) → cell_asked ts 0 r c ≡ value_of (Some (first_table ts)) r c
unfolding cell_asked value_of first_table
first_cell [] r c = refl
first_cell (t ∷ ts) r c = refl
