use Rattle.std.proofs.Common.{◌≡◌, ℕ, List, [], ◌∷◌, length, ℤ, refl, ap, ◌∙◌, ap₂, w32, to_z, of_z, rules}
use Rattle.std.proofs.lemmas.Int.{to_z-of_z}
use Rattle.std.proofs.lemmas.Result.{err_from_is_err_and}
use Rattle.stores.specs.Refusals.{store_refusal}
use Rattle.stores.specs.Series.{series_table, series_told}
use Rattle.stores.proofs.Exits.{fault_missing, name_made, name_missing}
use Rattle.stores.proofs.series_store.SeriesStore.set.Goals as goal

pub returns-in_err-name : goal.returns-in_err-name
returns-in_err-name c =
    let l : length c.args.name ≡ 16 = search rules in
    let e = c.in_err-name.ensures in
    let p = err_from_is_err_and c.from_residual.result c.from_residual.ensures.1 in
    let f = fault_missing c.new.result _ _ e.value e.ok_part in
    rw p.1 (
      name_missing c.new.result c.args.name l c.new.ensures.answer e.ok_part,
      ap store_refusal (p.2 ∙ f),
      refl,
    )

pub returns : goal.returns
unfolding series_told
returns c =
    let l : length c.args.name ≡ 16 = search rules in
    let n = name_made c.new.result c.in_ok-name.name c.args.name l c.new.ensures.answer c.in_ok-name.ensures.ok_part in (
      n.0,
      ap (λ (bs : List ℕ). record { name = bs; table = series_table (to_z w32 (of_z w32 c.args.first)) (to_z w32 (of_z w32 c.args.last)) } ∷ []) n.1 ∙
          ap₂ (λ (a b : ℤ). record { name = c.args.name; table = series_table a b } ∷ []) (to_z-of_z w32 c.args.first c.ranges.first) (to_z-of_z w32 c.args.last c.ranges.last),
    )
