-- What is proved of batches, in the format's own words.
use Rattle.std.specs.Prelude.{◌≡◌, ℕ, ◌<◌, ◌≤◌, List, length}
use Rattle.std.specs.List.{AllByRecursion}
use Rattle.batches.specs.Described.{Described}
use Rattle.batches.specs.Format.{IsBatch, RefusedAt}
use Rattle.batches.specs.Reading.{tables, refused, reading, longest}
use Rattle.batches.specs.Tables.{Told}
use Rattle.batches.specs.Written.{written, Writable}

-- A batch is read as tables exactly when it is lawful, stands for them, and is not too long.
abbrev pub ReadsExactly : Type 0
ReadsExactly = (bs : List ℕ) (ts : Told) → (reading bs ≡ tables ts → IsBatch bs ts × (length bs ≤ longest)) × (IsBatch bs ts → length bs ≤ longest → reading bs ≡ tables ts)

-- A batch stands for one list of tables at most.
abbrev pub OneReading : Type 0
OneReading = (bs : List ℕ) (ts us : Told) → IsBatch bs ts → IsBatch bs us → ts ≡ us

-- A batch that is not too long is refused at its first wrong command, or at its length where it is unfinished, and only there.
abbrev pub RefusedThere : Type 0
RefusedThere = (bs : List ℕ) (p : ℕ) → length bs ≤ longest → (reading bs ≡ refused p → RefusedAt bs p) × (RefusedAt bs p → reading bs ≡ refused p)

-- What is written of tables that a batch can hold is read as the same tables.
abbrev pub WrittenLoads : Type 0
WrittenLoads = (ts : Told) → Writable ts → reading (written ts) ≡ tables ts

-- What a batch is read as are lawful tables, each with at most a million rows.
abbrev pub TablesDescribed : Type 0
TablesDescribed = (bs : List ℕ) (ts : Told) → AllByRecursion (λ b. b < 256) bs → reading bs ≡ tables ts → Described ts
