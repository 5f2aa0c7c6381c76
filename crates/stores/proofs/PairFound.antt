-- The numbers that a pair finds and is asked for. Assumes nothing.
use Rattle.std.proofs.Common.{◌≡◌, ℕ, Bool, true, false, cond, List, is_some, Some, None, Option, sym, refl, ap, ap₂, ◌∙◌, subst}
use Rattle.std.proofs.lemmas.Bool.{both_ways}
use Rattle.std.specs.Option.{IfSome}
use Rattle.batches.specs.Asked.{chained}
use Rattle.batches.specs.Tables.{Table, Told, LawfulHeadings}
use Rattle.stores.specs.Meaning.{Lawful, lookup}
use Rattle.stores.specs.Paired.{Narrow, join_tables, pair_number, pair_stands, same_columns}
use Rattle.stores.specs.Pairing.{lookup_all}
use Rattle.stores.specs.declared.pair.PairNumber.{PairNumber}
use Rattle.stores.specs.declared.pair.PairNumber.TheVariants.{First, Second, Both}

module _ {M N : Type 0} (f : M → Option Table) (g : N → Option Table) where
  -- what a number of each kind stands for
  pub stands_first : (n : PairNumber M N) (k : M) → n ≡ First k → pair_stands f g n ≡ f k
  unfolding pair_stands
  stands_first n k e = ap (pair_stands f g) e

  pub stands_second : (n : PairNumber M N) (l : N) → n ≡ Second l → pair_stands f g n ≡ g l
  unfolding pair_stands
  stands_second n l e = ap (pair_stands f g) e

  pub stands_both : (n : PairNumber M N) (k : M) (l : N) → n ≡ Both k l → pair_stands f g n ≡ join_tables (f k) (g l)
  unfolding pair_stands
  stands_both n k l e = ap (pair_stands f g) e

  -- a pair's number where both stores have one
  pub number_of_both : (a : Option M) (b : Option N) (k : M) (l : N) (t : Bool) → a ≡ Some k → b ≡ Some l → same_columns (f k) (g l) ≡ t → pair_number f g a b ≡ Some (cond t (Both k l) (First k))
  unfolding pair_number
  number_of_both a b k l t p q e = ap₂ (pair_number f g) p q ∙ ap (λ (u : Bool). Some (cond u (Both k l) (First k))) e

-- the table that a name's number stands for has at most eight columns
pub number_narrow : {M : Type 0} (ts : Told) (n : List ℕ) (f : M → Option Table) (a : Option M) (k : M) → Lawful ts → chained a f ≡ lookup ts n → ((j : M) → a ≡ Some j → is_some (f j) ≡ true) → a ≡ Some k → Narrow (f k)
number_narrow ts n f a k h named known e =
    go (f k) (subst (λ (o : Option Table). IfSome o (λ t. LawfulHeadings t.headings)) (sym (ap (λ o. chained o f) (sym e) ∙ named)) (lookup_all (λ t. LawfulHeadings t.headings) ts n h.headed)) (known k e)
  where
    go : (o : Option Table) → IfSome o (λ t. LawfulHeadings t.headings) → is_some o ≡ true → Narrow o
    go None l i = both_ways false refl i
    go (Some t) l i = l.few
