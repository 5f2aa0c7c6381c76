-- Tables in places, found by name and by place, and told behind others. Assumes nothing.
use Rattle.std.specs.Prelude.{◌≡◌, ℕ, zero, suc, Bool, true, false, cond, ◌||◌, List, [], ◌∷◌, ◌++◌, is_some, Some, None, Option, refl}
use Rattle.std.proofs.Common.{sym, ap, ◌∙◌, arith}
use Rattle.batches.proofs.Commands.{distinct_push}
use Rattle.batches.specs.Asked.{chained}
use Rattle.batches.specs.Reading.{taken}
use Rattle.batches.specs.Tables.{Table, Named, Told, LawfulHeadings}
use Rattle.std.proofs.ByRecursion.{All-push}
use Rattle.std.proofs.lemmas.Slice.Eq.{bytes_eq-Decides}
use Rattle.std.proofs.lemmas.Bool.{both_ways}
use Rattle.std.specs.List.{slice_get, AllByRecursion}
use Rattle.std.specs.Option.{option_map}
use Rattle.std.specs.Str.{bytes_eq}
use Rattle.values.specs.Names.{lawful_name}
use Rattle.stores.specs.Meaning.{Lawful, LawfulBody, lookup}
use Rattle.stores.specs.Places.{Places, first_place, in_places, place_holding, table_in, with_new}
use Rattle.stores.specs.Found.{chained_mapped}

-- the first that is there
abbrev pub either : {X : Type 0} → Option X → Option X → Option X
either None o = o
either (Some x) o = Some x

-- the table in the place of a name is the one told under it
pub holding_stands : (ps : Places) (n : List ℕ) → chained (place_holding ps n) (table_in ps) ≡ lookup (in_places ps) n
unfolding first_place table_in in_places lookup
holding_stands [] n = refl
holding_stands (None ∷ ps) n = chained_mapped suc (place_holding ps n) (table_in (None ∷ ps)) ∙ holding_stands ps n
holding_stands (Some t ∷ ps) n = go (bytes_eq n t.name) (holding_stands ps n)
  where
    go : (b : Bool) → chained (place_holding ps n) (table_in ps) ≡ lookup (in_places ps) n → chained (cond b (Some 0) (option_map suc (place_holding ps n))) (table_in (Some t ∷ ps)) ≡ cond b (Some t.table) (lookup (in_places ps) n)
    go true e = refl
    go false e = chained_mapped suc (place_holding ps n) (table_in (Some t ∷ ps)) ∙ e

-- the name of the table in a place
abbrev pub name_in : Places → ℕ → Option (List ℕ)
name_in ps i = chained (slice_get ps i) (option_map (λ t. t.name))

pub holding_name : (ps : Places) (n : List ℕ) (i : ℕ) → place_holding ps n ≡ Some i → name_in ps i ≡ Some n
unfolding first_place
holding_name [] n i p = absurd (let z : ◌≡◌ {A = ℕ} 0 1 = cc in omega arith)
holding_name (None ∷ ps) n i p = under (place_holding ps n) refl i p (λ j q. holding_name ps n j q)
  where
    under : (o : Option ℕ) → place_holding ps n ≡ o → (i : ℕ) → option_map suc o ≡ Some i → ((j : ℕ) → place_holding ps n ≡ Some j → name_in ps j ≡ Some n) → name_in (None ∷ ps) i ≡ Some n
    under None x i p ih = absurd (let z : ◌≡◌ {A = ℕ} 0 1 = cc in omega arith)
    under (Some j) x zero p ih = absurd (let z : ◌≡◌ {A = ℕ} 0 (suc j) = cc in omega arith)
    under (Some j) x (suc i) p ih =
        let z : suc j ≡ suc i = cc in
        let w : j ≡ i = omega arith in
        ih i (x ∙ ap Some w)
holding_name (Some t ∷ ps) n i p = under (bytes_eq n t.name) refl (place_holding ps n) refl i p (λ j q. holding_name ps n j q)
  where
    under : (b : Bool) → bytes_eq n t.name ≡ b → (o : Option ℕ) → place_holding ps n ≡ o → (i : ℕ) → cond b (Some 0) (option_map suc o) ≡ Some i → ((j : ℕ) → place_holding ps n ≡ Some j → name_in ps j ≡ Some n) → name_in (Some t ∷ ps) i ≡ Some n
    under true e o x zero p ih = ap Some (sym ((bytes_eq-Decides n t.name).0 e))
    under true e o x (suc i) p ih = absurd (let z : ◌≡◌ {A = ℕ} 0 (suc i) = cc in omega arith)
    under false e None x i p ih = absurd (let z : ◌≡◌ {A = ℕ} 0 1 = cc in omega arith)
    under false e (Some j) x zero p ih = absurd (let z : ◌≡◌ {A = ℕ} 0 (suc j) = cc in omega arith)
    under false e (Some j) x (suc i) p ih =
        let z : suc j ≡ suc i = cc in
        let w : j ≡ i = omega arith in
        ih i (x ∙ ap Some w)

pub holding_distinct : (ps : Places) (m n : List ℕ) (i : ℕ) → place_holding ps m ≡ Some i → place_holding ps n ≡ Some i → m ≡ n
holding_distinct ps m n i p q =
    let a = holding_name ps m i p in
    let b = holding_name ps n i q in
    cc

pub holding_known : (ps : Places) (n : List ℕ) (i : ℕ) → place_holding ps n ≡ Some i → is_some (table_in ps i) ≡ true
unfolding table_in
holding_known ps n i p = go (slice_get ps i) (holding_name ps n i p)
  where
    go : (o : Option (Option Named)) → chained o (option_map (λ t. t.name)) ≡ Some n → is_some (chained o (option_map (λ t. t.table))) ≡ true
    go None e = absurd (let z : ◌≡◌ {A = ℕ} 0 1 = cc in omega arith)
    go (Some None) e = absurd (let z : ◌≡◌ {A = ℕ} 0 1 = cc in omega arith)
    go (Some (Some t)) e = refl

-- a name that is not told has no table
pub free_lookup : (ts : Told) (n : List ℕ) → taken n ts ≡ is_some (lookup ts n)
unfolding lookup
free_lookup [] n = refl
free_lookup (t ∷ ts) n = go (bytes_eq n t.name) (free_lookup ts n)
  where
    go : (b : Bool) → taken n ts ≡ is_some (lookup ts n) → (b || taken n ts) ≡ is_some (cond b (Some t.table) (lookup ts n))
    go true e = refl
    go false e = e

pub lookup_push : (ts : Told) (u : Named) (n : List ℕ) → lookup (ts ++ u ∷ []) n ≡ either (lookup ts n) (lookup (u ∷ []) n)
unfolding lookup
lookup_push [] u n = refl
lookup_push (t ∷ ts) u n = go (bytes_eq n t.name) (lookup_push ts u n)
  where
    go : (b : Bool) → lookup (ts ++ u ∷ []) n ≡ either (lookup ts n) (lookup (u ∷ []) n) → cond b (Some t.table) (lookup (ts ++ u ∷ []) n) ≡ either (cond b (Some t.table) (lookup ts n)) (lookup (u ∷ []) n)
    go true e = refl
    go false e = e

either_none : {X : Type 0} (o : Option X) → o ≡ either o None
either_none None = refl
either_none (Some x) = refl

either_known : {X : Type 0} (o p q : Option X) → is_some o ≡ true → either o p ≡ either o q
either_known None p q h = absurd (both_ways false refl h)
either_known (Some x) p q h = refl

either_thrice : {X : Type 0} (o p q : Option X) → either (either o p) q ≡ either o (either p q)
either_thrice None p q = refl
either_thrice (Some x) p q = refl

either_cond : {X : Type 0} (b : Bool) (x : X) (o : Option X) → either (cond b (Some x) None) o ≡ cond b (Some x) o
either_cond true x o = refl
either_cond false x o = refl

-- a table whose name is told already adds nothing
hidden : (ts : Told) (u : Named) (n : List ℕ) (o : Option Table) → taken u.name ts ≡ true → either (lookup ts n) o ≡ either (lookup ts n) (cond (bytes_eq n u.name) (Some u.table) o)
hidden ts u n o t = go (bytes_eq n u.name) refl
  where
    go : (b : Bool) → bytes_eq n u.name ≡ b → either (lookup ts n) o ≡ either (lookup ts n) (cond b (Some u.table) o)
    go true e =
        let q : n ≡ u.name = (bytes_eq-Decides n u.name).0 e in
        either_known (lookup ts n) o (Some u.table) (sym (free_lookup ts n) ∙ (ap (λ (m : List ℕ). taken m ts) q ∙ t))
    go false e = refl

-- behind tables that are told, further ones are told under names that are new
pub lookup_new : (ts us : Told) (n : List ℕ) → lookup (with_new ts us) n ≡ either (lookup ts n) (lookup us n)
unfolding with_new lookup
lookup_new ts [] n = either_none (lookup ts n)
lookup_new ts (u ∷ us) n = go (taken u.name ts) refl (lookup_new ts us n) (lookup_new (ts ++ u ∷ []) us n)
  where
    go : (b : Bool) → taken u.name ts ≡ b → lookup (with_new ts us) n ≡ either (lookup ts n) (lookup us n) → lookup (with_new (ts ++ u ∷ []) us) n ≡ either (lookup (ts ++ u ∷ []) n) (lookup us n) → lookup (cond b (with_new ts us) (with_new (ts ++ u ∷ []) us)) n ≡ either (lookup ts n) (cond (bytes_eq n u.name) (Some u.table) (lookup us n))
    go true e old new = old ∙ hidden ts u n (lookup us n) e
    go false e old new =
        new ∙
        (ap (λ (o : Option Table). either o (lookup us n)) (lookup_push ts u n) ∙
        (either_thrice (lookup ts n) (lookup (u ∷ []) n) (lookup us n) ∙ ap (either (lookup ts n)) (either_cond (bytes_eq n u.name) u.table (lookup us n))))

-- tables that are lawful each by itself
pub record Each (us : Told) : Type 0 where
  pub named : AllByRecursion (λ t. lawful_name t.name ≡ true) us
  pub headed : AllByRecursion (λ t. LawfulHeadings t.table.headings) us
  pub filled : AllByRecursion (λ t. LawfulBody t.table.headings t.table.body) us

pub each_lawful : (ts : Told) → Lawful ts → Each ts
each_lawful ts h = record { named = h.named; headed = h.headed; filled = h.filled }

lawful_push : (ts : Told) (u : Named) (us : Told) → Lawful ts → Each (u ∷ us) → taken u.name ts ≡ false → Lawful (ts ++ u ∷ [])
lawful_push ts u us h e f =
    record {
      named = All-push (λ t. lawful_name t.name ≡ true) ts u h.named e.named.0;
      headed = All-push (λ t. LawfulHeadings t.table.headings) ts u h.headed e.headed.0;
      filled = All-push (λ t. LawfulBody t.table.headings t.table.body) ts u h.filled e.filled.0;
      distinct = distinct_push ts u h.distinct f;
    }

each_rest : (u : Named) (us : Told) → Each (u ∷ us) → Each us
each_rest u us e = record { named = e.named.1; headed = e.headed.1; filled = e.filled.1 }

pub lawful_new : (ts us : Told) → Lawful ts → Each us → Lawful (with_new ts us)
unfolding with_new
lawful_new ts [] h e = h
lawful_new ts (u ∷ us) h e =
    go (taken u.name ts) refl (lawful_new ts us h (each_rest u us e)) (λ f. lawful_new (ts ++ u ∷ []) us (lawful_push ts u us h e f) (each_rest u us e))
  where
    go : (b : Bool) → taken u.name ts ≡ b → Lawful (with_new ts us) → (taken u.name ts ≡ false → Lawful (with_new (ts ++ u ∷ []) us)) → Lawful (cond b (with_new ts us) (with_new (ts ++ u ∷ []) us))
    go true q old new = old
    go false q old new = new q
