use Rattle.std.proofs.Common.{refl}
use Rattle.stores.proofs.Agreeing.{counterpart, counterpart_firsts, equal_reflexive, equal_symmetric, equal_transitive, like_gives_equal, like_reflexive, like_symmetric, like_transitive}
use Rattle.stores.proofs.PairLaws.{pair_alike, pair_of_equals, pair_single, pair_unlike}
use Rattle.stores.proofs.pair.Pair.new.Goals as goal

pub returns : goal.returns
returns g c =
    record {
      one = refl;
      other = refl;
      equal_reflexive = equal_reflexive;
      equal_symmetric = equal_symmetric;
      equal_transitive = equal_transitive;
      like_reflexive = like_reflexive;
      like_symmetric = like_symmetric;
      like_transitive = like_transitive;
      like_gives_equal = like_gives_equal;
      equal_by_name = counterpart;
      like_by_name = counterpart_firsts;
      single = pair_single;
      unlike = pair_unlike;
      alike = pair_alike;
      of_equals = pair_of_equals;
    }
