-- What two stores tell together: what is told under a name, and that it is lawful. Assumes nothing.
use Rattle.std.specs.Prelude.{◌≡◌, ℕ, ◌+◌, Bool, true, false, cond, not, List, [], ◌∷◌, ◌++◌, map, length, is_some, IfSome, Some, None, filter, Option, nat_le, refl}
use Rattle.std.proofs.Common.{sym, ap, subst, ◌∙◌, arith, length-append}
use Rattle.std.proofs.ByRecursion.{All-append, all_kept_by, All-map, All-weaker}
use Rattle.std.proofs.lemmas.Slice.Eq.{bytes_eq-Decides}
use Rattle.std.proofs.lemmas.Bool.{both_ways, cond_both, leb-true}
use Rattle.std.specs.List.{AllByRecursion}
use Rattle.std.specs.Str.{bytes_eq}
use Rattle.values.specs.Names.{lawful_name}
use Rattle.batches.specs.Tables.{Heading, Body, rows, too_long, Table, Named, Told, RowFits, LawfulHeadings, Apart, Distinct}
use Rattle.stores.specs.Meaning.{Lawful, LawfulBody, lookup, most_rows}
use Rattle.stores.specs.Paired.{beside, join_body, join_table, paired, paired_table, same_headings, untold, with_other}
use Rattle.stores.specs.Headings.{same_headings_decides}

-- a table of the front part, or else what the rest tells
abbrev front_table : Option Table → Option Table → Option Table → Option Table
front_table None o r = r
front_table (Some t) o r = Some (with_other t o)

lookup_front : (ts us rest : Told) (n : List ℕ) → lookup (map (beside us) ts ++ rest) n ≡ front_table (lookup ts n) (lookup us n) (lookup rest n)
unfolding lookup
lookup_front [] us rest n = refl
lookup_front (t ∷ ts) us rest n = go (bytes_eq n t.name) refl (lookup_front ts us rest n)
  where
    go : (b : Bool) → bytes_eq n t.name ≡ b → lookup (map (beside us) ts ++ rest) n ≡ front_table (lookup ts n) (lookup us n) (lookup rest n) → cond b (Some (with_other t.table (lookup us t.name))) (lookup (map (beside us) ts ++ rest) n) ≡ front_table (cond b (Some t.table) (lookup ts n)) (lookup us n) (lookup rest n)
    go true e ih = ap (λ (m : List ℕ). Some (with_other t.table (lookup us m))) (sym ((bytes_eq-Decides n t.name).0 e))
    go false e ih = ih

-- what is not told by the one is told by the part of the other that is kept
lookup_kept : (ts us : Told) (n : List ℕ) → lookup ts n ≡ None → lookup (filter (untold ts) us) n ≡ lookup us n
unfolding lookup
lookup_kept ts [] n z = refl
lookup_kept ts (u ∷ us) n z = go (untold ts u) refl (bytes_eq n u.name) refl (lookup_kept ts us n z)
  where
    go : (b : Bool) → untold ts u ≡ b → (a : Bool) → bytes_eq n u.name ≡ a → lookup (filter (untold ts) us) n ≡ lookup us n → lookup (cond b (u ∷ filter (untold ts) us) (filter (untold ts) us)) n ≡ cond a (Some u.table) (lookup us n)
    go true f a e ih =
        ap (λ (c : Bool). cond c (Some u.table) (lookup (filter (untold ts) us) n)) e ∙ ap (cond a (Some u.table)) ih
    go false f false e ih = ih
    go false f true e ih =
        absurd (both_ways (untold ts u) f (ap (λ (m : List ℕ). not (is_some (lookup ts m))) (sym ((bytes_eq-Decides n u.name).0 e)) ∙ ap (λ (o : Option Table). not (is_some o)) z))

-- what a pair tells under a name comes from what its two stores tell under it
pub lookup_paired : (ts us : Told) (n : List ℕ) → lookup (paired ts us) n ≡ paired_table (lookup ts n) (lookup us n)
unfolding paired paired_table
lookup_paired ts us n = lookup_front ts us (filter (untold ts) us) n ∙ go (lookup ts n) refl
  where
    go : (o : Option Table) → lookup ts n ≡ o → front_table o (lookup us n) (lookup (filter (untold ts) us) n) ≡ paired_table o (lookup us n)
    go None e = lookup_kept ts us n e
    go (Some t) e = refl

-- what holds of each table holds of the one under a name
pub lookup_all : (P : Table → Type 0) (ts : Told) (n : List ℕ) → AllByRecursion (λ t. P t.table) ts → IfSome (lookup ts n) P
unfolding lookup
lookup_all P [] n h = tt
lookup_all P (t ∷ ts) n h =
    cond_both (bytes_eq n t.name) (Some t.table) (lookup ts n) (λ o. IfSome o P) (λ e. h.0) (λ e. lookup_all P ts n h.1)

-- the names that are told can be looked up
names_found : (ts : Told) → AllByRecursion (λ t. is_some (lookup ts t.name) ≡ true) ts
unfolding lookup
names_found [] = tt
names_found (t ∷ ts) = (
  ap (λ (b : Bool). is_some (cond b (Some t.table) (lookup ts t.name))) ((bytes_eq-Decides t.name t.name).1 refl),
  All-weaker (λ x. is_some (lookup ts x.name) ≡ true) (λ x. is_some (cond (bytes_eq x.name t.name) (Some t.table) (lookup ts x.name)) ≡ true) (λ x e. go (bytes_eq x.name t.name) (lookup ts x.name) e) ts (names_found ts),
)
  where
    go : (b : Bool) (o : Option Table) → is_some o ≡ true → is_some (cond b (Some t.table) o) ≡ true
    go true o e = refl
    go false o e = e

apart_append : (n : List ℕ) (xs ys : Told) → Apart n xs → Apart n ys → Apart n (xs ++ ys)
apart_append n [] ys p q = q
apart_append n (x ∷ xs) ys p q = (p.0, apart_append n xs ys p.1 q)

apart_beside : (n : List ℕ) (us ts : Told) → Apart n ts → Apart n (map (beside us) ts)
apart_beside n us [] p = tt
apart_beside n us (t ∷ ts) p = (p.0, apart_beside n us ts p.1)

apart_kept : (n : List ℕ) (p : Named → Bool) (us : Told) → Apart n us → Apart n (filter p us)
apart_kept n p [] h = tt
apart_kept n p (u ∷ us) h =
    let ih = apart_kept n p us h.1 in
    cond_both (p u) (u ∷ filter p us) (filter p us) (Apart n) (λ e. (h.0, ih)) (λ e. ih)

distinct_kept : (p : Named → Bool) (us : Told) → Distinct us → Distinct (filter p us)
distinct_kept p [] h = tt
distinct_kept p (u ∷ us) h =
    let ih = distinct_kept p us h.1 in
    cond_both (p u) (u ∷ filter p us) (filter p us) Distinct (λ e. (apart_kept u.name p us h.0, ih)) (λ e. ih)

-- a name that is told is not among the tables that are kept for not being told
apart_untold : (ts : Told) (n : List ℕ) → is_some (lookup ts n) ≡ true → (us : Told) → Apart n (filter (untold ts) us)
apart_untold ts n h [] = tt
apart_untold ts n h (u ∷ us) =
    let ih = apart_untold ts n h us in
    cond_both (untold ts u) (u ∷ filter (untold ts) us) (filter (untold ts) us) (Apart n) (λ e. ((λ q. both_ways (not (is_some (lookup ts n))) (ap not h) (ap (λ (m : List ℕ). not (is_some (lookup ts m))) q ∙ e)), ih)) (λ e. ih)

distinct_beside : (us rest ts : Told) → Distinct ts → Distinct rest → AllByRecursion (λ t. Apart t.name rest) ts → Distinct (map (beside us) ts ++ rest)
distinct_beside us rest [] d e a = e
distinct_beside us rest (t ∷ ts) d e a =
    (apart_append t.name (map (beside us) ts) rest (apart_beside t.name us ts d.0) a.0, distinct_beside us rest ts d.1 e a.1)

-- a table with the other's rows keeps its headings
pub with_headings : (t : Table) (o : Option Table) → (with_other t o).headings ≡ t.headings
unfolding with_other join_table
with_headings t None = refl
with_headings t (Some u) = go (same_headings t.headings u.headings)
  where
    go : (b : Bool) → (cond b (join_table t u) t).headings ≡ t.headings
    go true = refl
    go false = refl

-- lawful rows under the same headings are lawful together
pub join_filled : (hs : List Heading) (a b : Body) → LawfulBody hs a → LawfulBody hs b → LawfulBody hs (join_body a b)
unfolding join_body
join_filled hs (rows xs) (rows ys) p q = go (nat_le (length xs + length ys) most_rows) refl
  where
    go : (b : Bool) → nat_le (length xs + length ys) most_rows ≡ b → LawfulBody hs (cond b (rows (xs ++ ys)) too_long)
    go true e =
        (All-append (RowFits hs) xs ys p.0 q.0, omega (arith, length-append xs ys, leb-true (length xs + length ys) most_rows e))
    go false e = tt
join_filled hs (rows xs) too_long p q = tt
join_filled hs too_long b p q = tt

abbrev Filled : Table → Type 0
Filled t = LawfulBody t.headings t.body

with_filled : (t : Table) (o : Option Table) → Filled t → IfSome o Filled → Filled (with_other t o)
unfolding with_other join_table
with_filled t None p q = p
with_filled t (Some u) p q = go (same_headings t.headings u.headings) refl
  where
    go : (b : Bool) → same_headings t.headings u.headings ≡ b → Filled (cond b (join_table t u) t)
    go true e =
        join_filled t.headings t.body u.body p (subst (λ (hs : List Heading). LawfulBody hs u.body) (sym ((same_headings_decides t.headings u.headings).0 e)) q)
    go false e = p

-- what a pair of lawful stores tells is lawful
pub paired_lawful : (ts us : Told) → Lawful ts → Lawful us → Lawful (paired ts us)
unfolding paired
paired_lawful ts us p q =
    record {
      named =
          All-append (λ t. lawful_name t.name ≡ true) (map (beside us) ts) (filter (untold ts) us) (All-map (λ t. lawful_name t.name ≡ true) (beside us) ts p.named) (all_kept_by (untold ts) (λ t. lawful_name t.name ≡ true) us q.named);
      headed =
          All-append (λ t. LawfulHeadings t.table.headings) (map (beside us) ts) (filter (untold ts) us) (All-map (λ t. LawfulHeadings t.table.headings) (beside us) ts (All-weaker (λ t. LawfulHeadings t.table.headings) (λ t. LawfulHeadings (beside us t).table.headings) (λ t h. subst (λ (hs : List Heading). LawfulHeadings hs) (sym (with_headings t.table (lookup us t.name))) h) ts p.headed)) (all_kept_by (untold ts) (λ t. LawfulHeadings t.table.headings) us q.headed);
      filled =
          All-append (λ t. Filled t.table) (map (beside us) ts) (filter (untold ts) us) (All-map (λ t. Filled t.table) (beside us) ts (All-weaker (λ t. Filled t.table) (λ t. Filled (beside us t).table) (λ t h. with_filled t.table (lookup us t.name) h (lookup_all Filled us t.name q.filled)) ts p.filled)) (all_kept_by (untold ts) (λ t. Filled t.table) us q.filled);
      distinct =
          distinct_beside us (filter (untold ts) us) ts p.distinct (distinct_kept (untold ts) us q.distinct) (All-weaker (λ t. is_some (lookup ts t.name) ≡ true) (λ t. Apart t.name (filter (untold ts) us)) (λ t h. apart_untold ts t.name h us) ts (names_found ts));
    }
