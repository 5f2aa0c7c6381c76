-- The tests of headings, and what they show. Assumes nothing.
use Rattle.std.specs.Prelude.{◌≡◌, ℕ, true, ◌&&◌, List, [], ◌∷◌, Decides, refl}
use Rattle.std.proofs.Common.{ap, ap₂}
use Rattle.std.proofs.lemmas.Slice.Eq.{bytes_eq-Decides}
use Rattle.std.proofs.lemmas.Bool.{and_from, and_parts}
use Rattle.std.specs.Str.{bytes_eq}
use Rattle.values.specs.declared.kinds.ColumnType.{ColumnType}
use Rattle.values.specs.declared.kinds.ColumnType.TheVariants.{Integer, Real, Text}
use Rattle.batches.specs.Tables.{Heading}
use Rattle.stores.specs.Paired.{same_headings, same_type}

pub same_type_decides : (a b : ColumnType) → Decides (same_type a b) (a ≡ b)
same_type_decides Integer Integer = (λ e. refl, λ e. refl)
same_type_decides Integer Real = (λ e. cc, λ e. cc)
same_type_decides Integer Text = (λ e. cc, λ e. cc)
same_type_decides Real Integer = (λ e. cc, λ e. cc)
same_type_decides Real Real = (λ e. refl, λ e. refl)
same_type_decides Real Text = (λ e. cc, λ e. cc)
same_type_decides Text Integer = (λ e. cc, λ e. cc)
same_type_decides Text Real = (λ e. cc, λ e. cc)
same_type_decides Text Text = (λ e. refl, λ e. refl)

heading : List ℕ → ColumnType → Heading
heading n t = record { name = n; holds = t }

pub same_heading : (h g : Heading) → h.name ≡ g.name → h.holds ≡ g.holds → h ≡ g
unfolding heading
same_heading h g n t = ap₂ heading n t

-- the test of headings decides whether they are the same
pub same_headings_decides : (hs gs : List Heading) → Decides (same_headings hs gs) (hs ≡ gs)
unfolding same_headings
same_headings_decides [] [] = (λ e. refl, λ e. refl)
same_headings_decides [] (g ∷ gs) = (λ e. cc, λ e. cc)
same_headings_decides (h ∷ hs) [] = (λ e. cc, λ e. cc)
same_headings_decides (h ∷ hs) (g ∷ gs) = (from (same_headings_decides hs gs).0, to (same_headings_decides hs gs).1)
  where
    from : (same_headings hs gs ≡ true → hs ≡ gs) → ((bytes_eq h.name g.name && same_type h.holds g.holds) && same_headings hs gs) ≡ true → ◌≡◌ {A = List Heading} (h ∷ hs) (g ∷ gs)
    from ih e =
        let p = and_parts (bytes_eq h.name g.name && same_type h.holds g.holds) (same_headings hs gs) e in
        let q = and_parts (bytes_eq h.name g.name) (same_type h.holds g.holds) p.0 in
        ap₂ ◌∷◌ (same_heading h g ((bytes_eq-Decides h.name g.name).0 q.0) ((same_type_decides h.holds g.holds).0 q.1)) (ih p.1)

    to : (hs ≡ gs → same_headings hs gs ≡ true) → ◌≡◌ {A = List Heading} (h ∷ hs) (g ∷ gs) → ((bytes_eq h.name g.name && same_type h.holds g.holds) && same_headings hs gs) ≡ true
    to ih e =
        let p : h ≡ g = cc in
        let q : hs ≡ gs = cc in
        and_from _ _ (and_from _ _ ((bytes_eq-Decides h.name g.name).1 (ap (λ (x : Heading). x.name) p)) ((same_type_decides h.holds g.holds).1 (ap (λ (x : Heading). x.holds) p))) (ih q)
