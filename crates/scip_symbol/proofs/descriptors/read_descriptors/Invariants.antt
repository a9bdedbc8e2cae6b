use Rattle.std.proofs.Common.{length}
use denote.Text.{Utf8}
use denote.Shadow.{shadow}
use Rattle.scip_symbol.specs.Views.{descriptor_models}
use Rattle.scip_symbol.proofs.DescriptorRows.{IsReadTo}
use Rattle.scip_symbol.proofs.descriptors.read_descriptors.Given as goal

abbrev pub invariant-loop-rest : goal.invariant-loop-rest
invariant-loop-rest l = record {
  text : shadow (Utf8 l.rest);
  read : IsReadTo l.text (descriptor_models l.descriptors.items) l.rest;
}

abbrev pub decreases-loop-rest : goal.decreases-loop-rest
decreases-loop-rest l = length l.rest
