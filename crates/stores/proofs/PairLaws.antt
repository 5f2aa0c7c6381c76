-- What a pair tells, name by name. Assumes nothing.
use Rattle.std.proofs.Common.{◌≡◌, ℕ, ◌+◌, ◌<◌, ◌≤◌, Bool, true, false, cond, ◌⊎◌, List, [], ◌∷◌, ◌++◌, length, Some, None, Option, sym, refl, ap, ◌∙◌, subst, ap₂, inl, inr}
use Rattle.std.proofs.ByRecursion.{has_append_left}
use Rattle.std.proofs.lemmas.Bool.{le-leb, lt-leb}
use Rattle.std.specs.List.{ContainsAt as Has}
use Rattle.values.specs.Cells.{Cell}
use Rattle.batches.specs.Tables.{Heading, Body, rows, too_long, Table, Told}
use Rattle.stores.specs.Agreeing.{AgreeingBodies, AgreeingTables, SameRows}
use Rattle.stores.specs.Meaning.{lookup, most_rows}
use Rattle.stores.specs.PairLaws.{Joined, PairAlike, PairOfEquals, PairSingle, PairUnlike}
use Rattle.stores.specs.Paired.{join_body, join_table, paired, paired_table, same_headings, with_other}
use Rattle.stores.proofs.AgreeingKept.{has_behind, has_cases, has_same}
use Rattle.stores.specs.Headings.{same_headings_decides}
use Rattle.stores.specs.Pairing.{lookup_paired}

-- what a pair tells under a name, by what the two tell
told_under : (ts us : Told) (n : List ℕ) (o p : Option Table) → lookup ts n ≡ o → lookup us n ≡ p → lookup (paired ts us) n ≡ paired_table o p
told_under ts us n o p e f = lookup_paired ts us n ∙ ap₂ paired_table e f

only_first : (o : Option Table) → paired_table o None ≡ o
unfolding paired_table with_other
only_first None = refl
only_first (Some t) = refl

only_second : (o : Option Table) → paired_table None o ≡ o
unfolding paired_table
only_second o = refl

pub pair_single : PairSingle
pair_single =
    record {
      first = λ ts us n e. told_under ts us n (lookup ts n) None refl e ∙ only_first (lookup ts n);
      second = λ ts us n e. told_under ts us n None (lookup us n) e refl ∙ only_second (lookup us n);
    }

unlike : (hs gs : List Heading) → (hs ≡ gs → ⊥) → same_headings hs gs ≡ false
unlike hs gs h = go (same_headings hs gs) refl
  where
    go : (b : Bool) → same_headings hs gs ≡ b → same_headings hs gs ≡ false
    go true e = absurd (h ((same_headings_decides hs gs).0 e))
    go false e = e

two_tables : (t u : Table) (b : Bool) → same_headings t.headings u.headings ≡ b → paired_table (Some t) (Some u) ≡ Some (cond b (join_table t u) t)
unfolding paired_table with_other
two_tables t u b e = ap (λ (c : Bool). Some (cond c (join_table t u) t)) e

pub pair_unlike : PairUnlike
pair_unlike ts us n t u e f h =
    told_under ts us n (Some t) (Some u) e f ∙ two_tables t u false (unlike t.headings u.headings h)

-- the rows of two bodies
rows_within : (xs ys : List (List Cell)) → length xs + length ys ≤ most_rows → join_body (rows xs) (rows ys) ≡ rows (xs ++ ys)
unfolding join_body
rows_within xs ys l = ap (λ (b : Bool). cond b (rows (xs ++ ys)) too_long) (le-leb (length xs + length ys) most_rows l)

rows_over : (xs ys : List (List Cell)) → most_rows < length xs + length ys → join_body (rows xs) (rows ys) ≡ too_long
unfolding join_body
rows_over xs ys l = ap (λ (b : Bool). cond b (rows (xs ++ ys)) too_long) (lt-leb (length xs + length ys) most_rows l)

first_marked_lem : (b : Body) → join_body too_long b ≡ too_long
unfolding join_body
first_marked_lem (rows ys) = refl
first_marked_lem too_long = refl

second_marked_lem : (a : Body) → join_body a too_long ≡ too_long
unfolding join_body
second_marked_lem (rows xs) = refl
second_marked_lem too_long = refl

join_joined : (a b : Body) → Joined a b (join_body a b)
join_joined a b =
    record {
      joined = λ xs ys e f l. ap₂ join_body e f ∙ rows_within xs ys l;
      over = λ xs ys e f l. ap₂ join_body e f ∙ rows_over xs ys l;
      first_marked = λ e. ap (λ (x : Body). join_body x b) e ∙ first_marked_lem b;
      second_marked = λ e. ap (join_body a) e ∙ second_marked_lem a;
    }

pub pair_alike : PairAlike
unfolding join_table
pair_alike ts us n t u e f h =
    record {
      table = join_table t u;
      told = told_under ts us n (Some t) (Some u) e f ∙ two_tables t u true ((same_headings_decides t.headings u.headings).1 h);
      headed = refl;
      rows = join_joined t.body u.body;
    }

-- a row of two lists is a row of one of them
has_append : (xs ys : List (List Cell)) (r : List Cell) → Has (xs ++ ys) r → Has xs r ⊎ Has ys r
has_append [] ys r h = inr h
has_append (x ∷ xs) ys r h = by (λ k. has_append xs ys r k) (has_cases x (xs ++ ys) r h)
  where
    behind : Has xs r ⊎ Has ys r → Has (x ∷ xs) r ⊎ Has ys r
    behind (inl k) = inl (has_behind x xs r k)
    behind (inr k) = inr k

    by : (Has (xs ++ ys) r → Has xs r ⊎ Has ys r) → (x ≡ r) ⊎ Has (xs ++ ys) r → Has (x ∷ xs) r ⊎ Has ys r
    by rest (inl e) = inl (has_same x r xs e)
    by rest (inr k) = behind (rest k)

-- the rows of two lists with the same rows are those of the one
same_together : (xs ys : List (List Cell)) → SameRows xs ys → SameRows xs (xs ++ ys)
same_together xs ys s r = (has_append_left xs ys r, λ h. by (has_append xs ys r h))
  where
    by : Has xs r ⊎ Has ys r → Has xs r
    by (inl k) = k
    by (inr k) = (s r).1 k

bodies_together : (a b : Body) → AgreeingBodies a b → ((xs ys : List (List Cell)) → a ≡ rows xs → b ≡ rows ys → length xs + length ys ≤ most_rows) → AgreeingBodies a (join_body a b)
bodies_together (rows xs) (rows ys) s l =
    subst (λ (c : Body). AgreeingBodies (rows xs) c) (sym (rows_within xs ys (l xs ys refl refl))) (same_together xs ys s)
bodies_together (rows xs) too_long s l = absurd s
bodies_together too_long (rows ys) s l = absurd s
bodies_together too_long too_long s l = absurd s

pub pair_of_equals : PairOfEquals
unfolding join_table
pair_of_equals ts us e l n =
    subst (λ (o : Option Table). AgreeingTables (lookup ts n) o) (sym (lookup_paired ts us n)) (by (lookup ts n) (lookup us n) refl refl (e n))
  where
    by : (o p : Option Table) → lookup ts n ≡ o → lookup us n ≡ p → AgreeingTables o p → AgreeingTables o (paired_table o p)
    by None None x y a = subst (AgreeingTables None) (sym (only_second None)) tt
    by None (Some u) x y a = absurd a
    by (Some t) None x y a = absurd a
    by (Some t) (Some u) x y a =
        subst (λ (o : Option Table). AgreeingTables (Some t) o) (sym (two_tables t u true ((same_headings_decides t.headings u.headings).1 a.0))) (refl, bodies_together t.body u.body a.1 (λ xs ys. l n t u xs ys x y))
