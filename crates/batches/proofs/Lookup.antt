-- Finding a table by its name. Assumes nothing.
use Rattle.std.proofs.Common.{◌≡◌, ℕ, suc, ◌+◌, ◌<◌, ◌≤◌, Bool, true, false, cond, ltb, List, [], ◌∷◌, map, length, get_or, take, Some, None, Option, sym, refl, ap, ◌∙◌, subst, add-zero, zero-add, arith}
use Rattle.std.proofs.lemmas.Iterator.Adapters.{position_from-zero}
use Rattle.std.proofs.ByRecursion.{All-get_or}
use Rattle.std.proofs.lemmas.List.{get_or-take, length-take}
use Rattle.std.specs.List.{position_from, position_or_len}
use Rattle.std.specs.Option.{option_map}
use Rattle.std.specs.Str.{bytes_eq}
use Rattle.std.proofs.lemmas.Slice.Eq.{bytes_eq-Decides}
use Rattle.batches.specs.Layouts.{Inside, Lies, place_of, slice_at}
use Rattle.batches.proofs.Pieces.{part_short}
use Rattle.batches.specs.declared.layout.Catalog.{Catalog}
use Rattle.batches.specs.declared.layout.Layout.{Layout}
use Rattle.batches.specs.Tables.{Named}

-- a place counted from i on
abbrev pub from : ℕ → Option ℕ → Option ℕ
from i = option_map (λ k. i + k)

from_none : (o : Option ℕ) → from 0 o ≡ o
from_none None = refl
from_none (Some k) = ap Some (zero-add k)

from_more : (i : ℕ) (o : Option ℕ) → from (i + 1) o ≡ from i (option_map suc o)
from_more i None = refl
from_more i (Some k) = ap Some (omega arith)

-- the place of a name is where the test of the names passes first
module _ {L : Type 0} (f : L → Named) (n : List ℕ) where
  abbrev pub bears : L → Bool
  bears l = bytes_eq n (f l).name

  searched : (i : ℕ) (ls : List L) → position_from bears i ls ≡ from i (place_of n (map f ls))
  unfolding place_of
  searched i [] = refl
  searched i (l ∷ ls) = go (bears l) (searched (i + 1) ls)
    where
      go : (b : Bool) → position_from bears (i + 1) ls ≡ from (i + 1) (place_of n (map f ls)) → cond b (Some i) (position_from bears (i + 1) ls) ≡ from i (cond b (Some 0) (option_map suc (place_of n (map f ls))))
      go true e = ap Some (sym (add-zero i))
      go false e = e ∙ from_more i (place_of n (map f ls))

  pub found : (ls : List L) → cond (ltb (position_or_len bears ls) (length ls)) (Some (position_or_len bears ls)) None ≡ place_of n (map f ls)
  found ls = position_from-zero bears ls ∙ (searched 0 ls ∙ from_none (place_of n (map f ls)))

-- a catalog lists as many tables as it counts
pub listed : (c : Catalog) → length c.tables ≡ 8 → length (take c.count c.tables) ≡ c.count
listed c e = let f = c.few in simp length-take (omega arith)

-- no table's layout
abbrev pub none : Layout
none = record { at = 0; width = 0; rows = 0 }

-- what the catalog lists at i is what its array holds there
pub listed_at : (c : Catalog) (i : ℕ) → i < c.count → get_or (take c.count c.tables) i none ≡ get_or c.tables i none
listed_at c i h = get_or-take c.count c.tables i none h

pub few_listed : (c : Catalog) → length (take c.count c.tables) ≤ c.count
few_listed c = simp length-take (omega arith)

-- a listed table lies within the bytes
pub lies_at : (bs : List ℕ) (c : Catalog) (i : ℕ) → length c.tables ≡ 8 → i < c.count → Inside bs c → Lies bs (get_or c.tables i none)
lies_at bs c i e h p =
    let l = listed c e in
    subst (Lies bs) (listed_at c i h) (All-get_or (Lies bs) (take c.count c.tables) i none (omega arith) p)

-- bytes of two lengths differ
pub differ_by_length : (xs ys : List ℕ) → (length xs ≡ length ys → ⊥) → bytes_eq xs ys ≡ false
differ_by_length xs ys h = by_test (bytes_eq xs ys) refl
  where
    by_test : (t : Bool) → bytes_eq xs ys ≡ t → t ≡ false
    by_test true e = absurd (h (ap length ((bytes_eq-Decides xs ys).0 e)))
    by_test false e = refl

-- sixteen bytes are no slice that runs past the end
pub slice_short : (n bs : List ℕ) (at : ℕ) → length n ≡ 16 → length bs < at + 17 → bytes_eq n (slice_at bs (at + 1) 16) ≡ false
slice_short n bs at e h =
    differ_by_length n (slice_at bs (at + 1) 16) (λ k. part_short bs (at + 1) 16 (omega arith) (omega arith) (sym k ∙ e))
