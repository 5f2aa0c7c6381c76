use Rattle.std.proofs.Common.{◌≡◌, true, false, is_some, sym, refl, ap, ◌∙◌}
use Rattle.stores.specs.Held.{held_as}
use Rattle.stores.specs.Kept.{kept_as}
use Rattle.stores.specs.Places.{is_free, place_holding}
use Rattle.stores.specs.Refusals.{shelf_refusal}
use Rattle.stores.specs.Shelved.{Outcome, Placing, after_keep, holds_in, refusal_of, shelf_number}
use Rattle.values.specs.Named.{name_bytes}
use Rattle.stores.proofs.Exits.{answered_err, answered_missing}
use Rattle.stores.proofs.ShelfCalls.{found_none, keep_done, keep_full, keep_refused, keep_told, kept_apart, place_within, shelf_found}
use Rattle.stores.proofs.Shelving.{keep_tells, keep_visible}
use Rattle.stores.proofs.shelf.Shelf.keep.Goals as goal

pub returns-in_err-table : goal.returns-in_err-table
unfolding after_keep
returns-in_err-table g c =
    let s = c.args.self.now in
    let f = c.in_err-table.field-0.0 in
    let not = keep_refused (g.S.Store.told s.below) (holds_in s.kept) c.args.name c.args.batch.now (shelf_refusal f) c.in_err-table.ensures in
    record {
      answer = answered_err shelf_refusal c.from_residual.result f c.from_residual.ensures.1 ∙ sym (ap refusal_of not);
      places = sym (ap (λ (o : Outcome Placing). after_keep o (holds_in s.kept)) not);
      below = refl;
      apart = kept_apart s.kept;
      tells = keep_tells;
      visible = keep_visible;
    }

pub returns-then-is_some : goal.returns-then-is_some
unfolding after_keep held_as
returns-then-is_some g c =
    let s = c.args.self.now in
    let ts = g.S.Store.told s.below in
    let ps = holds_in s.kept in
    let n = name_bytes c.in_ok-table.table.name in
    let found : true ≡ is_some (shelf_number (g.S.Store.number s.below n) (place_holding ps n)) = c.if-is_some.ensures ∙ ap is_some c.find.ensures in
    let told = shelf_found (g.S.Store.stands s.below) ps ts n (g.S.Store.number s.below n) true (g.met.S.Store.named s.below n) (g.met.S.Store.known s.below n) found in
    let not = keep_told ts ps c.args.name c.args.batch.now (kept_as c.in_ok-table.table) c.in_ok-table.ensures told in
    record {
      answer = sym (ap refusal_of not);
      places = sym (ap (λ (o : Outcome Placing). after_keep o ps) not);
      below = refl;
      apart = kept_apart s.kept;
      tells = keep_tells;
      visible = keep_visible;
    }

pub returns-in_err-place : goal.returns-in_err-place
unfolding after_keep held_as
returns-in_err-place g c =
    let s = c.args.self.now in
    let ts = g.S.Store.told s.below in
    let ps = holds_in s.kept in
    let n = name_bytes c.in_ok-table.table.name in
    let found : false ≡ is_some (shelf_number (g.S.Store.number s.below n) (place_holding ps n)) = c.if-is_some.ensures ∙ ap is_some c.find.ensures in
    let e = c.in_err-place.ensures in
    let told = shelf_found (g.S.Store.stands s.below) ps ts n (g.S.Store.number s.below n) false (g.met.S.Store.named s.below n) (g.met.S.Store.known s.below n) found in
    let not = keep_full ts ps c.args.name c.args.batch.now (kept_as c.in_ok-table.table) c.in_ok-table.ensures told (sym c.free_place.ensures ∙ e.ok_part) in
    record {
      answer = answered_missing shelf_refusal c.from_residual-in_err-place.result c.free_place.result _ _ c.from_residual-in_err-place.ensures.1 e.value e.ok_part ∙ sym (ap refusal_of not);
      places = sym (ap (λ (o : Outcome Placing). after_keep o ps) not);
      below = refl;
      apart = kept_apart s.kept;
      tells = keep_tells;
      visible = keep_visible;
    }

pub put-requires : goal.put-requires
unfolding held_as
put-requires g c =
    let s = c.args.self.now in
    let n = name_bytes c.in_ok-table.table.name in
    let found : false ≡ is_some (shelf_number (g.S.Store.number s.below n) (place_holding (holds_in s.kept) n)) = c.if-is_some.ensures ∙ ap is_some c.find.ensures in
    (place_within s.kept is_free c.in_ok-place.place (sym c.free_place.ensures ∙ c.in_ok-place.ensures.ok_part), found_none (g.S.Store.number s.below n) (place_holding (holds_in s.kept) n) found)

pub returns : goal.returns
unfolding after_keep held_as
returns g c =
    let s = c.args.self.now in
    let ts = g.S.Store.told s.below in
    let ps = holds_in s.kept in
    let n = name_bytes c.in_ok-table.table.name in
    let found : false ≡ is_some (shelf_number (g.S.Store.number s.below n) (place_holding ps n)) = c.if-is_some.ensures ∙ ap is_some c.find.ensures in
    let told = shelf_found (g.S.Store.stands s.below) ps ts n (g.S.Store.number s.below n) false (g.met.S.Store.named s.below n) (g.met.S.Store.known s.below n) found in
    let kept = keep_done ts ps c.args.name c.args.batch.now (kept_as c.in_ok-table.table) c.in_ok-table.ensures c.in_ok-place.place told (sym c.free_place.ensures ∙ c.in_ok-place.ensures.ok_part) in
    record {
      answer = sym (ap refusal_of kept);
      places = c.put.ensures ∙ sym (ap (λ (o : Outcome Placing). after_keep o ps) kept);
      below = refl;
      apart = kept_apart c.put.new.self;
      tells = keep_tells;
      visible = keep_visible;
    }
