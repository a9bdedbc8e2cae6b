use Rattle.std.proofs.Common.{◌≡◌}
use Rattle.scip_index.specs.Plain.{index_model}
use Rattle.scip_index.specs.Meaning.{IsIndexOutcome}
use Rattle.scip_index.proofs.OutcomeLaws.{index_told, outcome_is_unique, tells-then}
use Rattle.scip_index.proofs.message_decoding.from_bytes.Goals as goal

pub returns : goal.returns
returns c =
    let bytes = c.args.bytes.now in
    let told = index_told bytes c.decode_index.result c.decode_index.ensures.clean c.decode_index.ensures.means c.decode_index.ensures.err in
    record {
      exact = told;
      only = λ o is. tells-then index_model c.decode_index.result (IsIndexOutcome bytes) (λ p. p ≡ o) told (λ p other. outcome_is_unique bytes p o other is);
    }
