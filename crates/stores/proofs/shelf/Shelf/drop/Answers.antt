use Rattle.std.proofs.Common.{◌≡◌, ℕ, length, sym, refl, ap, ◌∙◌, rules}
use Rattle.values.specs.Named.{name_bytes}
use Rattle.stores.specs.Places.{is_named, place_holding}
use Rattle.stores.specs.Refusals.{shelf_refusal}
use Rattle.stores.specs.Shelved.{Outcome, after_drop, holds_in, refusal_of}
use Rattle.stores.proofs.Exits.{answered_missing, name_made, name_missing}
use Rattle.stores.proofs.ShelfCalls.{drop_done, drop_not, kept_apart, place_within, unlawful_unkept}
use Rattle.stores.proofs.Shelving.{drop_frees, drop_visible}
use Rattle.stores.proofs.shelf.Shelf.drop.Goals as goal

pub returns-in_err-name : goal.returns-in_err-name
unfolding after_drop
returns-in_err-name g c =
    let ks = c.args.self.now.kept in
    let l : length c.args.name ≡ 16 = search rules in
    let e = c.in_err-name.ensures in
    let not = drop_not (holds_in ks) c.args.name (unlawful_unkept ks c.args.name (name_missing c.new.result c.args.name l c.new.ensures.answer e.ok_part)) in
    record {
      answer = answered_missing shelf_refusal c.from_residual.result c.new.result _ _ c.from_residual.ensures.1 e.value e.ok_part ∙ sym (ap refusal_of not);
      places = sym (ap (λ (o : Outcome ℕ). after_drop o (holds_in ks)) not);
      below = refl;
      apart = kept_apart ks;
      frees = drop_frees;
      visible = drop_visible;
    }

pub returns-in_err-place : goal.returns-in_err-place
unfolding after_drop
returns-in_err-place g c =
    let ks = c.args.self.now.kept in
    let l : length c.args.name ≡ 16 = search rules in
    let n = name_made c.new.result c.in_ok-name.name c.args.name l c.new.ensures.answer c.in_ok-name.ensures.ok_part in
    let e = c.in_err-place.ensures in
    let not = drop_not (holds_in ks) c.args.name (ap (place_holding (holds_in ks)) (sym n.1) ∙ (sym c.find.ensures ∙ e.ok_part)) in
    record {
      answer = answered_missing shelf_refusal c.from_residual-in_err-place.result c.find.result _ _ c.from_residual-in_err-place.ensures.1 e.value e.ok_part ∙ sym (ap refusal_of not);
      places = sym (ap (λ (o : Outcome ℕ). after_drop o (holds_in ks)) not);
      below = refl;
      apart = kept_apart ks;
      frees = drop_frees;
      visible = drop_visible;
    }

pub free-requires : goal.free-requires
free-requires g c =
    place_within c.args.self.now.kept (is_named (name_bytes c.in_ok-name.name)) c.in_ok-place.place (sym c.find.ensures ∙ c.in_ok-place.ensures.ok_part)

pub returns : goal.returns
unfolding after_drop
returns g c =
    let ks = c.args.self.now.kept in
    let l : length c.args.name ≡ 16 = search rules in
    let n = name_made c.new.result c.in_ok-name.name c.args.name l c.new.ensures.answer c.in_ok-name.ensures.ok_part in
    let freed = drop_done (holds_in ks) c.args.name c.in_ok-place.place (ap (place_holding (holds_in ks)) (sym n.1) ∙ (sym c.find.ensures ∙ c.in_ok-place.ensures.ok_part)) in
    record {
      answer = sym (ap refusal_of freed);
      places = c.free.ensures ∙ sym (ap (λ (o : Outcome ℕ). after_drop o (holds_in ks)) freed);
      below = refl;
      apart = kept_apart c.free.new.self;
      frees = drop_frees;
      visible = drop_visible;
    }
