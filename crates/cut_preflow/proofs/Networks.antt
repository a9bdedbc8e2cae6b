-- A network between two of its modules, as the core sees it.
use Rattle.std.proofs.Common.{ℕ, arith}
use Rattle.std.proofs.lemmas.List.Elements.{Contains-get_or}
use Rattle.cut_net.specs.Network.{Network, missing_item}
use Rattle.cut_net.specs.WellFormed.{IsNetwork}
use Rattle.cut_part.proofs.Apart.{ascending_apart}
use Rattle.cut_preflow.specs.Kept.{IsFlowNetwork}
use Rattle.cut_preflow.specs.Trace.{IsWithinLimits}
use Rattle.cut_preflow.specs.Flows.{AreEnds, network_between}
use Rattle.cut_preflow.proofs.FlowGraphModel.{total-sum}

pub between_is : (net : Network) (a b : ℕ) → IsNetwork net → AreEnds net a b → IsFlowNetwork (network_between net a b)
between_is net a b is ends = record {
  from_low = λ i h. (is.between _ (Contains-get_or net.imports i missing_item h)).0;
  to_low = λ i h. (is.between _ (Contains-get_or net.imports i missing_item h)).1;
  source_low = ends.from_in;
  sink_low = ends.to_in;
  apart = ends.apart;
  apart_ends = ascending_apart net.imports is.imports_ascend;
}

pub between_limits : (net : Network) (a b : ℕ) → IsNetwork net → IsWithinLimits (network_between net a b)
between_limits net a b is = record {
  few_nodes = is.few_names;
  few_imports = is.few_imports;
  weights = omega (arith, total-sum (λ i. i.amount) net.imports, is.fits);
}
