-- Equal tables, and the table under a name and its equal. Assumes nothing.
use Rattle.std.proofs.Common.{◌≡◌, ℕ, Bool, true, false, cond, List, [], ◌∷◌, Some, None, Option, sym, refl, ap, ◌∙◌, subst, arith}
use Rattle.std.proofs.ByRecursion.{all_from_every, all-has, has_get_or}
use Rattle.std.specs.List.{ContainsAt as Has, AllByRecursion}
use Rattle.std.specs.Str.{bytes_eq}
use Rattle.values.specs.Cells.{Cell}
use Rattle.batches.specs.Tables.{Body, rows, too_long, Table, Told}
use Rattle.stores.specs.Agreeing.{AgreeingBodies, AgreeingTables, BothRows, Counted, Counterpart, EqualTables, EqualByName, EqualReflexive, EqualSymmetric, EqualTransitive, firsts, LikeOrder, LikeByName, LikeGivesEqual, LikeReflexive, LikeSymmetric, LikeTransitive, rows_in, rows_of, SameRows, Unmarked}
use Rattle.stores.specs.Meaning.{lookup}

-- ---- the same rows

pub same_rows_reflexive : (xs : List (List Cell)) → SameRows xs xs
same_rows_reflexive xs r = ((λ h. h), λ h. h)

pub same_rows_symmetric : (xs ys : List (List Cell)) → SameRows xs ys → SameRows ys xs
same_rows_symmetric xs ys e r = ((e r).1, (e r).0)

pub same_rows_transitive : (xs ys zs : List (List Cell)) → SameRows xs ys → SameRows ys zs → SameRows xs zs
same_rows_transitive xs ys zs e f r = ((λ h. (f r).0 ((e r).0 h)), λ h. (e r).1 ((f r).1 h))

-- what holds of some row of the one holds of some row of the other
pub some_row : (P : List Cell → Type 0) (xs ys : List (List Cell)) → SameRows xs ys → ((r : List Cell) × Has xs r × P r) → (r : List Cell) × Has ys r × P r
some_row P xs ys e h = (h.0, (e h.0).0 h.1, h.2)

pub some_row_both : (P : List Cell → Type 0) (xs ys : List (List Cell)) → SameRows xs ys → (((r : List Cell) × Has xs r × P r) → (r : List Cell) × Has ys r × P r) × (((r : List Cell) × Has ys r × P r) → (r : List Cell) × Has xs r × P r)
some_row_both P xs ys e = (some_row P xs ys e, some_row P ys xs (same_rows_symmetric xs ys e))

-- what holds of each row of the one holds of each row of the other
pub each_row : (P : List Cell → Type 0) (xs ys : List (List Cell)) → SameRows xs ys → AllByRecursion P xs → AllByRecursion P ys
each_row P xs ys e h = all_from_every P ys (λ k d low lt. all-has P xs _ h ((e _).1 (has_get_or ys k d lt)))

-- ---- tables that agree

bodies_reflexive : (b : Body) → Counted b → AgreeingBodies b b
bodies_reflexive (rows xs) h = same_rows_reflexive xs
bodies_reflexive too_long h = absurd h

bodies_symmetric : (a b : Body) → AgreeingBodies a b → AgreeingBodies b a
bodies_symmetric (rows xs) (rows ys) h = same_rows_symmetric xs ys h
bodies_symmetric (rows xs) too_long h = absurd h
bodies_symmetric too_long (rows ys) h = absurd h
bodies_symmetric too_long too_long h = absurd h

bodies_transitive : (a b c : Body) → AgreeingBodies a b → AgreeingBodies b c → AgreeingBodies a c
bodies_transitive (rows xs) (rows ys) (rows zs) h k = same_rows_transitive xs ys zs h k
bodies_transitive (rows xs) (rows ys) too_long h k = absurd k
bodies_transitive (rows xs) too_long c h k = absurd h
bodies_transitive too_long (rows ys) c h k = absurd h
bodies_transitive too_long too_long c h k = absurd h

pub tables_symmetric : (o p : Option Table) → AgreeingTables o p → AgreeingTables p o
tables_symmetric None None h = tt
tables_symmetric None (Some u) h = absurd h
tables_symmetric (Some t) None h = absurd h
tables_symmetric (Some t) (Some u) h = (sym h.0, bodies_symmetric t.body u.body h.1)

pub tables_transitive : (o p q : Option Table) → AgreeingTables o p → AgreeingTables p q → AgreeingTables o q
tables_transitive None None q h k = k
tables_transitive None (Some u) q h k = absurd h
tables_transitive (Some t) None q h k = absurd h
tables_transitive (Some t) (Some u) None h k = absurd k
tables_transitive (Some t) (Some u) (Some v) h k =
    (h.0 ∙ k.0, bodies_transitive t.body u.body v.body h.1 k.1)

-- ---- what is told

lookup_reflexive : (ts : Told) → Unmarked ts → (n : List ℕ) → AgreeingTables (lookup ts n) (lookup ts n)
unfolding lookup
lookup_reflexive [] h n = tt
lookup_reflexive (t ∷ ts) h n = go (bytes_eq n t.name) (lookup_reflexive ts h.1 n)
  where
    go : (b : Bool) → AgreeingTables (lookup ts n) (lookup ts n) → AgreeingTables (cond b (Some t.table) (lookup ts n)) (cond b (Some t.table) (lookup ts n))
    go true k = (refl, bodies_reflexive t.table.body h.0)
    go false k = k

pub equal_reflexive : EqualReflexive
equal_reflexive ts h n = lookup_reflexive ts h n

pub equal_symmetric : EqualSymmetric
equal_symmetric ts us e n = tables_symmetric (lookup ts n) (lookup us n) (e n)

pub equal_transitive : EqualTransitive
equal_transitive ts us vs e f n = tables_transitive (lookup ts n) (lookup us n) (lookup vs n) (e n) (f n)

pub like_reflexive : LikeReflexive
like_reflexive ts h = record { equal = equal_reflexive ts h; order = λ n. refl }

pub like_symmetric : LikeSymmetric
like_symmetric ts us e = record { equal = equal_symmetric ts us e.equal; order = λ n. sym (e.order n) }

pub like_transitive : LikeTransitive
like_transitive ts us vs e f = record { equal = equal_transitive ts us vs e.equal f.equal; order = λ n. e.order n ∙ f.order n }

pub like_gives_equal : LikeGivesEqual
like_gives_equal ts us e = e.equal

-- ---- the table under a name, and its equal

pub both_rows : (a b : Body) → AgreeingBodies a b → BothRows a b
both_rows (rows xs) (rows ys) h = record { here = xs; there = ys; body_here = refl; body_there = refl; same_rows = h }
both_rows (rows xs) too_long h = absurd h
both_rows too_long (rows ys) h = absurd h
both_rows too_long too_long h = absurd h

counterpart_from : (us : Told) (n : List ℕ) (t : Table) (o : Option Table) → lookup us n ≡ o → AgreeingTables (Some t) o → Counterpart us n t
counterpart_from us n t None e h = absurd h
counterpart_from us n t (Some u) e h = record { table = u; told = e; headed = h.0; bodies = both_rows t.body u.body h.1 }

pub counterpart : EqualByName
counterpart ts us e n t h =
    counterpart_from us n t (lookup us n) refl (subst (λ o. AgreeingTables o (lookup us n)) h (e n))

none_from : (o p : Option Table) → AgreeingTables o p → o ≡ None → p ≡ None
none_from None None h e = refl
none_from None (Some u) h e = absurd h
none_from (Some t) None h e = refl
none_from (Some t) (Some u) h e = absurd (let z : ◌≡◌ {A = ℕ} 0 1 = cc in omega arith)

-- a name is told by both or by neither
pub none_told : (ts us : Told) → EqualTables ts us → (n : List ℕ) → (lookup ts n ≡ None → lookup us n ≡ None) × (lookup us n ≡ None → lookup ts n ≡ None)
none_told ts us e n =
    (none_from (lookup ts n) (lookup us n) (e n), none_from (lookup us n) (lookup ts n) (equal_symmetric ts us e n))

rows_of_lem : (o : Option Table) (t : Table) (rs : List (List Cell)) → o ≡ Some t → t.body ≡ rows rs → rows_of o ≡ rs
rows_of_lem o t rs e f = ap rows_of e ∙ ap rows_in f

-- in the order of another, the rows under a name are the same list when each that repeats an earlier one is struck out
pub firsts_told : (ts us : Told) → LikeOrder ts us → (n : List ℕ) (t u : Table) (xs ys : List (List Cell)) → lookup ts n ≡ Some t → lookup us n ≡ Some u → t.body ≡ rows xs → u.body ≡ rows ys → firsts xs ≡ firsts ys
firsts_told ts us e n t u xs ys h k f g =
    ap firsts (sym (rows_of_lem (lookup ts n) t xs h f)) ∙ e.order n ∙ ap firsts (rows_of_lem (lookup us n) u ys k g)

pub counterpart_firsts : LikeByName
counterpart_firsts ts us e n t h c =
    let b = c.bodies in
    firsts_told ts us e n t c.table b.here b.there h c.told b.body_here b.body_there
