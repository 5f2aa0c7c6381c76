-- Columns compared by `==`. Assumes nothing.
use Rattle.std.proofs.Common.{Decides, cond, ◌≡◌, ◌≢◌, ℕ, zero, suc, ◌<◌, ◌≤◌, Bool, true, false, ◌&&◌, List, [], ◌∷◌, length, Some, None, Option, sym, refl, ap, ap₂, ◌∙◌, subst, arith, zero-add}
use Rattle.std.proofs.lemmas.Bool.{and_from, and_parts, both_ways}
use Rattle.std.proofs.lemmas.Slice.Eq.{bytes_eq-Decides}
use Rattle.std.specs.Option.{option_eq, option_map}
use Rattle.std.specs.Str.{bytes_eq}
use Rattle.batches.specs.Columns.{heading_of}
use Rattle.batches.specs.Tables.{Heading}
use Rattle.batches.specs.contracts.columns.ColumnPartialEq.TheImpl.{eq-value}
use Rattle.batches.specs.declared.columns.Column.{Column}
use Rattle.values.specs.Named.{name_bytes}
use Rattle.values.specs.contracts.kinds.ColumnTypePartialEq.TheImpl as by_type
use Rattle.values.specs.declared.kinds.ColumnType.{ColumnType}
use Rattle.values.specs.declared.kinds.ColumnType.TheVariants.{Integer, Real, Text}
use Rattle.std.proofs.lemmas.List.FromFn.{get_or-range_with_len}
use Rattle.std.specs.Bool.{MatchBool}
use Rattle.std.specs.List.{AllWithin, HoldsAt, range_with_len, slice_get}
use Rattle.batches.specs.Tables.{Table}
use Rattle.stores.specs.Headings.{same_heading, same_headings_decides, same_type_decides}
use Rattle.stores.specs.Meaning.{column_of}
use Rattle.stores.specs.Paired.{Narrow, same_columns, same_headings, same_type}

types_compared : (t u : ColumnType) → (by_type.eq-value).it t u ≡ same_type t u
types_compared Integer Integer = refl
types_compared Integer Real = refl
types_compared Integer Text = refl
types_compared Real Integer = refl
types_compared Real Real = refl
types_compared Real Text = refl
types_compared Text Integer = refl
types_compared Text Real = refl
types_compared Text Text = refl

columns_compared : (a b : Column) → (eq-value).it a b ≡ (bytes_eq (name_bytes a.name) (name_bytes b.name) && same_type a.holds b.holds)
columns_compared a b = ap (λ t. bytes_eq (name_bytes a.name) (name_bytes b.name) && t) (types_compared a.holds b.holds)

-- columns are equal where their headings are
same_headed : (a b : Column) → (eq-value).it a b ≡ true → heading_of a ≡ heading_of b
same_headed a b e =
    let p = and_parts (bytes_eq (name_bytes a.name) (name_bytes b.name)) _ (sym (columns_compared a b) ∙ e) in
    same_heading (heading_of a) (heading_of b) ((bytes_eq-Decides (name_bytes a.name) (name_bytes b.name)).0 p.0) ((same_type_decides a.holds b.holds).0 p.1)

headed_same : (a b : Column) → heading_of a ≡ heading_of b → (eq-value).it a b ≡ true
headed_same a b e =
    columns_compared a b ∙
    and_from _ _ ((bytes_eq-Decides (name_bytes a.name) (name_bytes b.name)).1 (ap (λ (h : Heading). h.name) e)) ((same_type_decides a.holds b.holds).1 (ap (λ (h : Heading). h.holds) e))

-- the columns at a position of two tables, if there are any, are equal where the headings there are
pub same_column : (a b : Option Column) (x y : Option Heading) → option_map heading_of a ≡ x → option_map heading_of b ≡ y → true ≡ option_eq ((eq-value).it) a b → x ≡ y
same_column None None x y p q h = sym p ∙ q
same_column None (Some b) x y p q h = absurd (both_ways false refl (sym h))
same_column (Some a) None x y p q h = absurd (both_ways false refl (sym h))
same_column (Some a) (Some b) x y p q h = sym p ∙ (ap Some (same_headed a b (sym h)) ∙ q)

pub other_column : (a b : Option Column) (x y : Option Heading) → option_map heading_of a ≡ x → option_map heading_of b ≡ y → false ≡ option_eq ((eq-value).it) a b → x ≢ y
other_column a b x y p q h = λ e. by a b (p ∙ (e ∙ sym q)) h
  where
    by : (a b : Option Column) → option_map heading_of a ≡ option_map heading_of b → false ≡ option_eq ((eq-value).it) a b → ⊥
    by None None e h = both_ways false refl h
    by None (Some b) e h = cc
    by (Some a) None e h = cc
    by (Some a) (Some b) e h = both_ways false refl (h ∙ headed_same a b (let z : heading_of a ≡ heading_of b = cc in z))

-- for headings of one name, whether they hold the same decides
pub heading_decides : (h g : Heading) (r : Bool) → h.name ≡ g.name → cond r (h.holds ≡ g.holds) (h.holds ≢ g.holds) → Decides r (h ≡ g)
heading_decides h g true n t = (λ e. same_heading h g n t, λ e. refl)
heading_decides h g false n t = (λ e. cc, λ e. absurd (t (ap (λ (x : Heading). x.holds) e)))

-- lists that are no longer than n and the same at each place below n are the same
pub same_from_places : {X : Type 0} (n : ℕ) (xs ys : List X) → length xs ≤ n → length ys ≤ n → ((i : ℕ) → i < n → slice_get xs i ≡ slice_get ys i) → xs ≡ ys
same_from_places n [] [] p q e = refl
same_from_places zero [] (y ∷ ys) p q e = absurd (omega arith)
same_from_places (suc n) [] (y ∷ ys) p q e = let z = e 0 (omega arith) in cc
same_from_places zero (x ∷ xs) ys p q e = absurd (omega arith)
same_from_places (suc n) (x ∷ xs) [] p q e = let z = e 0 (omega arith) in cc
same_from_places (suc n) (x ∷ xs) (y ∷ ys) p q e =
    let z = e 0 (omega arith) in
    let h : x ≡ y = cc in
    ap₂ ◌∷◌ h (same_from_places n xs ys (omega arith) (omega arith) (λ i l. e (suc i) (omega arith)))

-- tables of at most eight columns that are the same at the first eight positions have the same headings
pub columns_same : (x y : Option Table) → Narrow x → Narrow y → ((i : ℕ) → i < 8 → column_of x i ≡ column_of y i) → same_columns x y ≡ true
unfolding column_of same_columns
columns_same None y p q e = absurd p
columns_same (Some t) None p q e = absurd q
columns_same (Some t) (Some u) p q e =
    (same_headings_decides t.headings u.headings).1 (same_from_places 8 t.headings u.headings p q e)

-- tables that differ at a position have other headings
pub columns_differ : (x y : Option Table) (i : ℕ) → (column_of x i ≢ column_of y i) → same_columns x y ≡ false
unfolding column_of same_columns
columns_differ None y i h = refl
columns_differ (Some t) None i h = refl
columns_differ (Some t) (Some u) i h = go (same_headings t.headings u.headings) refl
  where
    go : (b : Bool) → same_headings t.headings u.headings ≡ b → b ≡ false
    go true e = absurd (h (ap (λ (hs : List Heading). slice_get hs i) ((same_headings_decides t.headings u.headings).0 e)))
    go false e = refl

-- what a look at the first eight positions shows
pub columns_alike : (x y : Option Table) → Narrow x → Narrow y → (r : Bool) → MatchBool r (AllWithin (λ i. column_of x i ≡ column_of y i) (range_with_len 0 8) 0 8) ((k : ℕ) × (k < 8) × HoldsAt (λ i. column_of x i ≢ column_of y i) (range_with_len 0 8) k) → r ≡ same_columns x y
columns_alike x y p q true h = sym (columns_same x y p q (λ i l. each i l))
  where
    each : (i : ℕ) → i < 8 → column_of x i ≡ column_of y i
    each i l = subst (λ j. column_of x j ≡ column_of y j) (get_or-range_with_len 0 8 i 0 l ∙ zero-add i) (h i 0 (omega arith) l)
columns_alike x y p q false h = sym (columns_differ x y _ (h.2 0))
