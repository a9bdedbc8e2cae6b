use Rattle.std.proofs.Common.{Ok, refl}
use Rattle.scip_index.specs.Written.{written}
use Rattle.scip_index.proofs.OutcomeLaws.{outcome_is_unique}
use Rattle.scip_index.proofs.RoundTrips.{means_it}
use Rattle.scip_index.proofs.laws.what_is_written_is_read.Goals as goal

pub returns : goal.returns
returns c = record {
  means = λ i fits short. means_it i (written i) fits refl short;
  only = λ i o fits short is. outcome_is_unique (written i) o (Ok i) is (means_it i (written i) fits refl short);
}
