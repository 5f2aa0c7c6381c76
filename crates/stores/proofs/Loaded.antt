-- What a checked batch's store tells is lawful. Assumes nothing.
use Rattle.std.proofs.Common.{◌≡◌, ℕ, ◌<◌, true, List, sym, subst}
use Rattle.std.specs.List.{AllByRecursion}
use Rattle.batches.proofs.Described.{tables_described}
use Rattle.batches.specs.Layouts.{told_by}
use Rattle.batches.specs.Reading.{reading, tables}
use Rattle.batches.specs.declared.layout.Catalog.{Catalog}
use Rattle.stores.specs.Test.{is_lawful}
use Rattle.stores.proofs.TestMet.{lawful_from_described, test_from_lawful}

-- ds is the copy of the batch that the store keeps
pub loaded_lawful : (bs ds : List ℕ) (c : Catalog) → AllByRecursion (λ b. b < 256) bs → tables (told_by bs c) ≡ reading bs → ds ≡ bs → is_lawful (told_by ds c) ≡ true
loaded_lawful bs ds c o e q =
    subst (λ es. is_lawful (told_by es c) ≡ true) (sym q) (test_from_lawful (told_by bs c) (lawful_from_described (told_by bs c) (tables_described bs (told_by bs c) o (sym e))))
