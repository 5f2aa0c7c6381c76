-- The numbers, layers and places of the stores' refusals. Assumes nothing.
use Rattle.std.specs.Prelude.{◌≡◌, ℕ, List, Ok, Err, Result, codes}
use Rattle.batches.specs.Reading.{tables, refused, reading}
use Rattle.batches.specs.Tables.{Told}
use Rattle.stores.specs.declared.faults.Layer as part
use Rattle.stores.specs.declared.faults.Layer.TheVariants.{Reader as ReaderPart, Checker as CheckerPart, Runner as RunnerPart, Store as StorePart, Shelf as ShelfPart}
use Rattle.stores.specs.declared.faults.LoadError.{LoadError}
use Rattle.stores.specs.declared.faults.LoadError.TheVariants.{Refused, OutOfMemory}
use Rattle.stores.specs.declared.faults.ShelfFault.{ShelfFault}
use Rattle.stores.specs.declared.faults.ShelfFault.TheVariants.{Store, BatchTooLong, NameTold, NoPlaceFree, NameNotKept}
use Rattle.stores.specs.declared.faults.StoreFault.{StoreFault}
use Rattle.stores.specs.declared.faults.StoreFault.TheVariants.{Batch, Name}

-- the parts of the program that refuse
pub data Layer : Type 0 where
  reader_layer checker_layer runner_layer store_layer shelf_layer : Layer

-- the layer that an answer of the code names
abbrev pub layer_named : part.Layer → Layer
layer_named ReaderPart = reader_layer
layer_named CheckerPart = checker_layer
layer_named RunnerPart = runner_layer
layer_named StorePart = store_layer
layer_named ShelfPart = shelf_layer

-- the word for it
abbrev pub layer_word : part.Layer → List ℕ
layer_word ReaderPart = codes "reader"
layer_word CheckerPart = codes "checker"
layer_word RunnerPart = codes "runner"
layer_word StorePart = codes "store"
layer_word ShelfPart = codes "shelf"

-- a refusal: its layer, its number and its place
pub record Refusal : Type 0 where
  pub layer : Layer
  pub code : ℕ
  pub place : ℕ

-- a refusal of the store layer, and one of the shelf layer, which has no place
abbrev pub by_store : ℕ → ℕ → Refusal
by_store n p = record { layer = store_layer; code = n; place = p }

abbrev pub by_shelf : ℕ → Refusal
by_shelf n = record { layer = shelf_layer; code = n; place = 0 }

-- 7: a batch against the rules, at its place; 8: a name that is not lawful, at place 0
abbrev pub store_refusal : StoreFault → Refusal
store_refusal (Batch p) = record { layer = store_layer; code = 7; place = p }
store_refusal Name = record { layer = store_layer; code = 8; place = 0 }

-- 9: a batch longer than a place; 22: a name that is told already; 23: no place is free; 24: a name that is not kept;
-- a store's refusal stays as it is
abbrev pub shelf_refusal : ShelfFault → Refusal
shelf_refusal (Store f) = store_refusal f
shelf_refusal BatchTooLong = by_shelf 9
shelf_refusal NameTold = by_shelf 22
shelf_refusal NoPlaceFree = by_shelf 23
shelf_refusal NameNotKept = by_shelf 24

-- what loading a batch comes to, by what the store told before and tells after: the batch's tables; or its refusal,
-- and nothing changed; or no memory for a lawful batch, and nothing changed
abbrev pub Loads : {T : Type 0} → List ℕ → Told → Told → Result T LoadError → Type 0
Loads bs old new (Ok u) = reading bs ≡ tables new
Loads bs old new (Err (Refused f)) =
    (p : ℕ) × (reading bs ≡ refused p) × (store_refusal f ≡ record { layer = store_layer; code = 7; place = p }) × (new ≡ old)
Loads bs old new (Err OutOfMemory) = (ts : Told) × (reading bs ≡ tables ts) × (new ≡ old)
