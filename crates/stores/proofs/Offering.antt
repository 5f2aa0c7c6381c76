-- What is offered to a shelf. Assumes nothing.
use Rattle.std.proofs.Common.{◌≡◌, ℕ, ◌<◌, ◌≤◌, Bool, true, false, cond, leb, List, [], ◌∷◌, length, take, sym, refl, ap, ◌∙◌, subst, arith}
use Rattle.std.proofs.lemmas.Bool.{le-leb, lt-leb}
use Rattle.std.specs.List.{AllByRecursion}
use Rattle.batches.proofs.Described.{tables_described}
use Rattle.batches.specs.Layouts.{told_by}
use Rattle.batches.specs.Reading.{Reading, tables, refused, reading}
use Rattle.batches.specs.Tables.{Named, Told}
use Rattle.batches.specs.declared.layout.Catalog.{Catalog}
use Rattle.values.specs.Named.{name_bytes}
use Rattle.values.specs.Names.{lawful_name}
use Rattle.values.specs.declared.name.Name.{Name}
use Rattle.stores.specs.Held.{first_table, held_as}
use Rattle.stores.specs.Meaning.{Lawful}
use Rattle.stores.specs.Refusals.{Refusal, by_shelf, by_store}
use Rattle.stores.specs.Shelved.{Outcome, done, refuses, name_offered, offered, place_length, renamed, table_offered}
use Rattle.stores.specs.Test.{is_lawful}
use Rattle.stores.proofs.TestMet.{lawful_from_described, test_from_lawful}

-- a batch's one table
pub one_offered : (ts : Told) (r : Reading) → tables ts ≡ r → length ts ≡ 1 → done ts ≡ table_offered r
unfolding table_offered
one_offered [] r e l = absurd (omega arith)
one_offered (t ∷ []) r e l = ap table_offered e
one_offered (t ∷ u ∷ ts) r e l = absurd (omega arith)

pub not_one : (ts : Told) (r : Reading) → tables ts ≡ r → (length ts ≡ 1 → ⊥) → refuses (by_store 7 0) ≡ table_offered r
unfolding table_offered
not_one [] r e l = ap table_offered e
not_one (t ∷ []) r e l = absurd (l refl)
not_one (t ∷ u ∷ ts) r e l = ap table_offered e

pub unread : (p : ℕ) (r : Reading) → refused p ≡ r → refuses (by_store 7 p) ≡ table_offered r
unfolding table_offered
unread p r e = ap table_offered e

-- a refusal is nothing that was done
pub done_refuses : {X : Type 0} (x : X) (r : Refusal) → done x ≡ refuses r → ⊥
done_refuses x r e = let z : ◌≡◌ {A = ℕ} 0 1 = cc in omega arith

-- where a batch offers tables, it is read as these, and there is one
pub offered_one : (r : Reading) (ts : Told) → done ts ≡ table_offered r → (r ≡ tables ts) × (length ts ≡ 1)
unfolding table_offered
offered_one (refused p) ts e = absurd (done_refuses ts (by_store 7 p) e)
offered_one (tables []) ts e = absurd (done_refuses ts (by_store 7 0) e)
offered_one (tables (t ∷ [])) ts e =
    let z : ts ≡ t ∷ [] = cc in
    (ap tables (sym z), ap length z)
offered_one (tables (t ∷ u ∷ us)) ts e = absurd (done_refuses ts (by_store 7 0) e)

-- that one is lawful under any lawful name
pub held_lawful : (bs n : List ℕ) (ts : Told) → AllByRecursion (λ b. b < 256) bs → lawful_name n ≡ true → done ts ≡ table_offered (reading bs) → is_lawful (record { name = n; table = first_table ts } ∷ []) ≡ true
unfolding first_table
held_lawful bs n ts b h e =
    let o = offered_one (reading bs) ts e in
    by ts (lawful_from_described ts (tables_described bs ts b o.0)) o.1
  where
    by : (ts : Told) → Lawful ts → length ts ≡ 1 → is_lawful (record { name = n; table = first_table ts } ∷ []) ≡ true
    by [] l k = absurd (omega arith)
    by (t ∷ ts) l k =
        test_from_lawful _ (record { named = (h, tt); headed = (l.headed.0, tt); filled = (l.filled.0, tt); distinct = (tt, tt) })

pub bad_name : (n bs : List ℕ) (r : Refusal) → refuses r ≡ name_offered n → refuses r ≡ offered n bs
unfolding offered
bad_name n bs r e = by (lawful_name n) _ e
  where
    by : (b : Bool) (o : Outcome Named) → refuses r ≡ cond b (done n) (refuses (by_store 8 0)) → refuses r ≡ cond b o (refuses (by_store 8 0))
    by true o e = absurd (done_refuses n r (sym e))
    by false o e = let z : r ≡ by_store 8 0 = cc in ap refuses z

pub good_name : (n m : List ℕ) → done m ≡ name_offered n → (lawful_name n ≡ true) × (m ≡ n)
good_name n m e = by (lawful_name n) refl e
  where
    by : (b : Bool) → lawful_name n ≡ b → done m ≡ cond b (done n) (refuses (by_store 8 0)) → (lawful_name n ≡ true) × (m ≡ n)
    by true x e = let z : m ≡ n = cc in (x, z)
    by false x e = absurd (done_refuses m (by_store 8 0) e)

module _ (n bs : List ℕ) (h : lawful_name n ≡ true) where
  named_offer : offered n bs ≡ cond (leb (length bs) place_length) (renamed n (table_offered (reading bs))) (refuses (by_shelf 9))
  unfolding offered
  named_offer =
      ap (λ (b : Bool). cond b (cond (leb (length bs) place_length) (renamed n (table_offered (reading bs))) (refuses (by_shelf 9))) (refuses (by_store 8 0))) h

  pub too_long_lem : 2048 < length bs → refuses (by_shelf 9) ≡ offered n bs
  too_long_lem l =
      sym (named_offer ∙ ap (λ (b : Bool). cond b (renamed n (table_offered (reading bs))) (refuses (by_shelf 9))) (lt-leb (length bs) 2048 l))

  pub from_table : length bs ≤ 2048 → offered n bs ≡ renamed n (table_offered (reading bs))
  from_table l =
      named_offer ∙ ap (λ (b : Bool). cond b (renamed n (table_offered (reading bs))) (refuses (by_shelf 9))) (le-leb (length bs) 2048 l)

-- the table of a batch that an area begins with
module _ (n : Name) (xs bs : List ℕ) (c : Catalog) (e : take (length bs) xs ≡ bs) where
  held_from : held_as n (length bs) xs c ≡ record { name = name_bytes n; table = first_table (told_by bs c) }
  unfolding held_as
  held_from = ap (λ (ds : List ℕ). record { name = name_bytes n; table = first_table (told_by ds c) }) e

  pub area_lawful : AllByRecursion (λ b. b < 256) bs → done (told_by bs c) ≡ table_offered (reading bs) → is_lawful (held_as n (length bs) xs c ∷ []) ≡ true
  unfolding name_bytes
  area_lawful b o =
      subst (λ (t : Named). is_lawful (t ∷ []) ≡ true) (sym held_from) (held_lawful bs (name_bytes n) (told_by bs c) b n.lawful o)

  pub area_offered : (m : List ℕ) → length bs ≤ 2048 → done (name_bytes n) ≡ name_offered m → done (told_by bs c) ≡ table_offered (reading bs) → done (held_as n (length bs) xs c) ≡ offered m bs
  area_offered m l h o =
      let g = good_name m (name_bytes n) h in
      ap done (held_from ∙ ap (λ (k : List ℕ). record { name = k; table = first_table (told_by bs c) }) g.1) ∙ (ap (renamed m) o ∙ sym (from_table m bs g.0 l))
