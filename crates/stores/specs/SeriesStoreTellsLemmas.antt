use Rattle.std.specs.Prelude.{◌≡◌, ℕ, Bool, true, false, cond, List, is_some, Some, None, Option, refl}
use Rattle.std.proofs.Common.{sym, ◌∙◌, arith}
use Rattle.batches.specs.Asked.{chained}
use Rattle.batches.specs.Tables.{Table}
use Rattle.std.proofs.lemmas.Slice.Eq.{bytes_eq-Decides}
use Rattle.std.specs.Option.{option_map}
use Rattle.std.specs.Bool.{then_some}
use Rattle.std.specs.Str.{bytes_eq}
use Rattle.values.proofs.NameLaws.{name_lawful}
use Rattle.values.specs.Named.{name_bytes}
use Rattle.values.specs.Names.{lawful_name}
use Rattle.stores.specs.Meaning.{Lawful, lookup}
use Rattle.stores.specs.Series.{number_of, only, series_heading, series_table, told_of}
use Rattle.stores.specs.declared.series_store.OnlyTable.{OnlyTable}
use Rattle.stores.specs.declared.series_store.Series.{Series}
use Rattle.stores.specs.Numbered.{series_lawful}

abbrev pub table_of : Series → Table
table_of x = series_table x.first x.last

unfoldable pub lawful_told : (o : Option Series) → Lawful (told_of o)
unfolding lawful_name
lawful_told None = record { named = tt; headed = tt; filled = tt; distinct = tt }
lawful_told (Some x) =
    record {
      named = (name_lawful x.name, tt);
      headed = (record { some = omega arith; few = omega arith; named = (refl, tt) }, tt);
      filled = (series_lawful series_heading refl x.first x.last x.from x.to, tt);
      distinct = (tt, tt);
    }

unfoldable pub named_told : (o : Option Series) (n : List ℕ) → chained (number_of o n) (λ k. option_map table_of o) ≡ lookup (told_of o) n
unfolding lookup
named_told None n = refl
named_told (Some x) n = go (bytes_eq n (name_bytes x.name))
  where
    go : (b : Bool) → chained (then_some b only) (λ k. Some (table_of x)) ≡ cond b (Some (table_of x)) None
    go true = refl
    go false = refl

pub known_told : (o : Option Series) (n : List ℕ) (k : OnlyTable) → number_of o n ≡ Some k → is_some (option_map table_of o) ≡ true
known_told None n k p = absurd (let z : ◌≡◌ {A = ℕ} 0 1 = cc in omega arith)
known_told (Some x) n k p = refl

pub same_named : (o : Option Series) (m n : List ℕ) (k : OnlyTable) → number_of o m ≡ Some k → number_of o n ≡ Some k → m ≡ n
same_named None m n k p q = absurd (let z : ◌≡◌ {A = ℕ} 0 1 = cc in omega arith)
same_named (Some x) m n k p q = found m p ∙ sym (found n q)
  where
    by : (b : Bool) → then_some b only ≡ Some k → b ≡ true
    by true e = refl
    by false e = absurd (let z : ◌≡◌ {A = ℕ} 0 1 = cc in omega arith)

    found : (l : List ℕ) → number_of (Some x) l ≡ Some k → l ≡ name_bytes x.name
    found l e = (bytes_eq-Decides l (name_bytes x.name)).0 (by (bytes_eq l (name_bytes x.name)) e)
