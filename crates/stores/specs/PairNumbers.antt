-- The numbers of a pair's tables. Assumes nothing.
use Rattle.std.specs.Prelude.{◌≡◌, Bool, true, false, cond, is_some, Some, None, Option}
use Rattle.std.proofs.Math.Path.{refl, ap₂}
use Rattle.std.proofs.lemmas.Bool.{both_ways}
use Rattle.batches.specs.Asked.{chained}
use Rattle.batches.specs.Tables.{Table}
use Rattle.stores.specs.Paired.{join_table, join_tables, pair_number, pair_stands, paired_table, same_columns, same_headings, with_other}
use Rattle.stores.specs.declared.pair.PairNumber.{PairNumber}
use Rattle.stores.specs.declared.pair.PairNumber.TheVariants.{First, Second, Both}

module _ {M N : Type 0} (f : M → Option Table) (g : N → Option Table) where
  -- the table of a name that both stores tell
  both_named : (k : M) (l : N) (x y : Option Table) → f k ≡ x → g l ≡ y → is_some x ≡ true → pair_stands f g (cond (same_columns x y) (Both k l) (First k)) ≡ paired_table x y
  unfolding pair_stands paired_table same_columns join_tables with_other
  both_named k l None y p q h = absurd (both_ways false refl h)
  both_named k l (Some t) None p q h = p
  both_named k l (Some t) (Some u) p q h = go (same_headings t.headings u.headings)
    where
      go : (b : Bool) → pair_stands f g (cond b (Both k l) (First k)) ≡ Some (cond b (join_table t u) t)
      go true = ap₂ join_tables p q
      go false = p

  -- what a name's number stands for is what is told under the name
  pub numbers_named : (a : Option M) (b : Option N) → ((k : M) → a ≡ Some k → is_some (f k) ≡ true) → chained (pair_number f g a b) (pair_stands f g) ≡ paired_table (chained a f) (chained b g)
  unfolding pair_number pair_stands paired_table with_other
  numbers_named None None h = refl
  numbers_named None (Some l) h = refl
  numbers_named (Some k) None h = go (f k)
    where
      go : (o : Option Table) → o ≡ paired_table o None
      go None = refl
      go (Some t) = refl
  numbers_named (Some k) (Some l) h = both_named k l (f k) (g l) refl refl (h k refl)

  -- which numbers a pair's number is made of
  first_from : (a : Option M) (b : Option N) (k : M) → pair_number f g a b ≡ Some (First k) → a ≡ Some k
  unfolding pair_number
  first_from None None k e = cc
  first_from None (Some l) k e = cc
  first_from (Some j) None k e = cc
  first_from (Some j) (Some l) k e = go (same_columns (f j) (g l)) e
    where
      go : (b : Bool) → Some (cond b (Both j l) (First j)) ≡ Some (First k) → Some j ≡ Some k
      go true e = cc
      go false e = cc

  second_from : (a : Option M) (b : Option N) (l : N) → pair_number f g a b ≡ Some (Second l) → b ≡ Some l
  unfolding pair_number
  second_from None None l e = cc
  second_from None (Some j) l e = cc
  second_from (Some k) None l e = cc
  second_from (Some k) (Some j) l e = go (same_columns (f k) (g j)) e
    where
      go : (b : Bool) → Some (cond b (Both k j) (First k)) ≡ Some (Second l) → Some j ≡ Some l
      go true e = cc
      go false e = cc

  both_from : (a : Option M) (b : Option N) (k : M) (l : N) → pair_number f g a b ≡ Some (Both k l) → (a ≡ Some k) × (b ≡ Some l)
  unfolding pair_number
  both_from None None k l e = (cc, cc)
  both_from None (Some j) k l e = (cc, cc)
  both_from (Some i) None k l e = (cc, cc)
  both_from (Some i) (Some j) k l e = go (same_columns (f i) (g j)) e
    where
      go : (b : Bool) → Some (cond b (Both i j) (First i)) ≡ Some (Both k l) → (Some i ≡ Some k) × (Some j ≡ Some l)
      go true e = (cc, cc)
      go false e = (cc, cc)

  -- a number that a name has stands for a table
  pub numbers_known : (a : Option M) (b : Option N) → ((k : M) → a ≡ Some k → is_some (f k) ≡ true) → ((l : N) → b ≡ Some l → is_some (g l) ≡ true) → (n : PairNumber M N) → pair_number f g a b ≡ Some n → is_some (pair_stands f g n) ≡ true
  unfolding pair_stands join_tables
  numbers_known a b p q (First k) e = p k (first_from a b k e)
  numbers_known a b p q (Second l) e = q l (second_from a b l e)
  numbers_known a b p q (Both k l) e = let h = both_from a b k l e in go (f k) (g l) (p k h.0) (q l h.1)
    where
      go : (x y : Option Table) → is_some x ≡ true → is_some y ≡ true → is_some (join_tables x y) ≡ true
      go None y c d = c
      go (Some t) None c d = refl
      go (Some t) (Some u) c d = refl

  -- a number shows which name has it, since the numbers that it is made of do
  pub numbers_distinct : {P : Type 0} (a c : Option M) (b d : Option N) → ((k : M) → a ≡ Some k → c ≡ Some k → P) → ((l : N) → b ≡ Some l → d ≡ Some l → P) → (n : PairNumber M N) → pair_number f g a b ≡ Some n → pair_number f g c d ≡ Some n → P
  numbers_distinct a c b d p q (First k) e h = p k (first_from a b k e) (first_from c d k h)
  numbers_distinct a c b d p q (Second l) e h = q l (second_from a b l e) (second_from c d l h)
  numbers_distinct a c b d p q (Both k l) e h = p k (both_from a b k l e).0 (both_from c d k l h).0
