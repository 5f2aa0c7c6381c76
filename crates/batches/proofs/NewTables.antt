-- The checker takes a table's command just as the reading does. Assumes nothing.
use Rattle.std.proofs.Common.{◌≡◌, ℕ, suc, ◌+◌, ◌-◌, ◌<◌, ◌≤◌, Bool, true, false, cond, not, ◌&&◌, ◌||◌, ltb, ◌⊎◌, List, [], ◌∷◌, length, get_or, take, drop, is_some, Some, None, Option, sym, refl, ap, ◌∙◌, inl, inr, arith}
use Rattle.std.proofs.lemmas.List.{length-drop, length-map}
use Rattle.std.proofs.lemmas.Bool.{and_from, and_left, and_right, cond-false, cond-true, le-ltb, lt-ltb}
use Rattle.std.specs.Option.{option_map}
use Rattle.std.specs.Str.{bytes_eq}
use Rattle.values.specs.Names.{lawful_name}
use Rattle.batches.specs.Checking.{Placed, state_of, step_at}
use Rattle.batches.specs.Layouts.{headings_at, place_of, slice_at, table_at, told_by}
use Rattle.batches.specs.Reading.{goes, stops, step, may_stand, taken}
use Rattle.batches.specs.Tables.{Told}
use Rattle.batches.specs.declared.checker.Progress.{Progress}
use Rattle.batches.specs.declared.checker.Stage.TheVariants.{Between, Columns}
use Rattle.batches.proofs.Lookup.{listed}
use Rattle.batches.proofs.Stages.{state_at, step_is, bytes_left}
use Rattle.batches.proofs.StepBy.{byte_refused, cut_short, operand_refused, taken_on}

-- a name is taken where a table with it is found
some_mapped : (o : Option ℕ) → is_some (option_map suc o) ≡ is_some o
some_mapped None = refl
some_mapped (Some n) = refl

pub taken_found : (n : List ℕ) (ts : Told) → taken n ts ≡ is_some (place_of n ts)
unfolding place_of
taken_found n [] = refl
taken_found n (t ∷ ts) = go (bytes_eq n t.name) (taken_found n ts)
  where
    go : (b : Bool) → taken n ts ≡ is_some (place_of n ts) → (b || taken n ts) ≡ is_some (cond b (Some 0) (option_map suc (place_of n ts)))
    go true e = refl
    go false e = e ∙ sym (some_mapped (place_of n ts))

-- the progress after a table's command
abbrev pub with_table : Progress → Progress
with_table c =
    record {
      stage = Columns (record { at = c.pos; columns = 0; rows = 0; cells = 0 });
      pos = c.pos + 17;
      catalog = c.catalog;
    }

module _ (bs : List ℕ) (c : Progress) (q : c.stage ≡ Between) (b : get_or bs c.pos 0 ≡ 0x01) (l : c.pos < length bs) (g : length c.catalog.tables ≡ 8) where
  may_table : (t : Bool) → ltb c.catalog.count 8 ≡ t → may_stand (state_at bs c Between) 0x01 ≡ t
  may_table t h =
      ap (λ (n : ℕ). ltb n 8) (length-map (take c.catalog.count c.catalog.tables) (table_at bs) ∙ listed c.catalog g) ∙ h

  at_stage : step_at bs c ≡ step (state_at bs c Between) c.pos 0x01 (drop (c.pos + 1) bs)
  at_stage = step_is bs c Between 0x01 q b

  pub ninth_table : 8 ≤ c.catalog.count → step_at bs c ≡ stops c.pos
  ninth_table h =
      at_stage ∙ byte_refused (state_at bs c Between) c.pos 0x01 (drop (c.pos + 1) bs) (may_table false (le-ltb c.catalog.count 8 h))

  module _ (h : c.catalog.count < 8) where
    pub table_cut : length bs - c.pos < 17 → step_at bs c ≡ stops (length bs)
    table_cut s =
        at_stage ∙
        (cut_short (state_at bs c Between) c.pos 0x01 (drop (c.pos + 1) bs) (may_table true (lt-ltb c.catalog.count 8 h)) (simp length-drop (omega arith)) ∙
        ap stops (bytes_left bs c.pos l))

    module _ (s : 17 ≤ length bs - c.pos) where
      whole : 16 ≤ length (drop (c.pos + 1) bs)
      whole = simp length-drop (omega arith)

      pub table_unlawful : (lawful_name (slice_at bs (c.pos + 1) 16) ≡ false) ⊎ (is_some (place_of (slice_at bs (c.pos + 1) 16) (told_by bs c.catalog)) ≡ true) → step_at bs c ≡ stops c.pos
      table_unlawful w =
          at_stage ∙
          operand_refused (state_at bs c Between) c.pos 0x01 (drop (c.pos + 1) bs) (may_table true (lt-ltb c.catalog.count 8 h)) whole (cond-false _ _ _ (unlawful w))
        where
          unlawful : (lawful_name (slice_at bs (c.pos + 1) 16) ≡ false) ⊎ (is_some (place_of (slice_at bs (c.pos + 1) 16) (told_by bs c.catalog)) ≡ true) → (lawful_name (slice_at bs (c.pos + 1) 16) && not (taken (slice_at bs (c.pos + 1) 16) (told_by bs c.catalog))) ≡ false
          unlawful (inl f) = and_left _ _ f
          unlawful (inr t) = and_right _ _ (ap not (taken_found (slice_at bs (c.pos + 1) 16) (told_by bs c.catalog) ∙ t))

      pub table_taken : lawful_name (slice_at bs (c.pos + 1) 16) ≡ true → is_some (place_of (slice_at bs (c.pos + 1) 16) (told_by bs c.catalog)) ≡ false → step_at bs c ≡ goes (state_of bs (with_table c)) 16
      unfolding state_of headings_at
      table_taken f n =
          at_stage ∙
          taken_on (state_at bs c Between) c.pos 0x01 (drop (c.pos + 1) bs) (state_of bs (with_table c)) (may_table true (lt-ltb c.catalog.count 8 h)) whole
          (cond-true _ _ _ (and_from _ _ f (ap not (taken_found (slice_at bs (c.pos + 1) 16) (told_by bs c.catalog) ∙ n))))

      pub table_placed : Placed bs c → Placed bs (with_table c)
      table_placed p =
          record { within = omega arith; inside = p.inside; stands = (omega arith, omega arith, refl, refl, h) }
