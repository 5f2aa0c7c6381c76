use Rattle.std.proofs.Common.{rules, tests, sym, ap, ◌∙◌, not, is_some}
use Rattle.std.proofs.lemmas.Iterator.Consumers.{YieldsList-from_chain, YieldsList-from_filter, YieldsList-from_first, YieldsList-at, nth_from_yields_List}
use Rattle.values.specs.Named.{name_bytes}
use Rattle.stores.specs.Meaning.{lookup}
use Rattle.stores.specs.Names.{names_in, names_left}
use Rattle.stores.proofs.NamesInOrder.{name_within, pair_first, pair_names, untold_found}
use Rattle.stores.proofs.paired.PairListed.name.Goals as goal

pub returns-in-Some : goal.returns-in-Some
returns-in-Some g c =
    let ts = g.A.Store.told c.args.self.now.first in
    let us = g.B.Store.told c.args.self.now.second in
    c.in-Some.ensures ∙ sym (pair_first ts us c.args.place (name_within ts c.args.place (sym (ap is_some c.in-Some.ensures))))

pub returns : goal.returns
returns g c =
    let s = c.args.self.now in
    let ts = g.A.Store.told s.first in
    let us = g.B.Store.told s.second in
    nth_from_yields_List c.nth.result c.nth.new.self c.args.place c.nth.ensures.ran (
    YieldsList-from_chain (YieldsList-at c.chain.ensures.first (YieldsList-from_first name_bytes (names_left g.A.Store.told) (names_in ts) c.new-own.ensures)) (
    YieldsList-at c.chain.ensures.second (YieldsList-from_filter _ (λ n. not (is_some (lookup ts n))) (YieldsList-at c.filter-others.ensures.source (YieldsList-from_first name_bytes (names_left g.B.Store.told) (names_in us) c.new.ensures)) c.filter-others.ensures.closure (λ x b q k. search (rules, tests, untold_found ts (g.A.Store.number s.first) (g.A.Store.stands s.first) (g.met.A.Store.named s.first) (g.met.A.Store.known s.first))))
    ) c.chain.ensures.first_done c.chain.ensures.second_done
    ) ∙
    pair_names ts us c.args.place (g.met.B.Store.lawful s.second).distinct c.ranges.place.fits
