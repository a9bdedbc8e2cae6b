use Rattle.std.proofs.Common.{arith}
use Rattle.scip_index.specs.Plain.{index_model}
use Rattle.scip_index.proofs.OutcomeLaws.{one_meaning}
use Rattle.scip_index.proofs.RoundTrips.{means_it}
use Rattle.scip_index.proofs.message_encoding.to_bytes.Goals as goal

pub returns-clause-means : goal.returns-clause-means
returns-clause-means c =
    let out = c.in_ok-encode_index.field-0 in
    means_it (index_model c.args.index.now) out.items c.in_ok-encode_index.ensures.fits c.in_ok-encode_index.ensures.bytes (omega (arith, out.ok.0, out.small))

pub returns-clause-only : goal.returns-clause-only
returns-clause-only c =
    let out = c.in_ok-encode_index.field-0 in
    let means = means_it (index_model c.args.index.now) out.items c.in_ok-encode_index.ensures.fits c.in_ok-encode_index.ensures.bytes (omega (arith, out.ok.0, out.small)) in
    λ other is. one_meaning out.items other (index_model c.args.index.now) is means
