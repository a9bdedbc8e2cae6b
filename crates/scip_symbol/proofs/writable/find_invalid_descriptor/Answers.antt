use Rattle.std.proofs.Common.{◌∙◌}
use Rattle.std.proofs.lemmas.Iterator.Adapters.{position_from-zero}
use Rattle.scip_symbol.specs.declared.descriptor.Descriptor.{Descriptor}
use Rattle.scip_symbol.specs.Views.{descriptor_model}
use Rattle.scip_symbol.specs.Outcomes.{is_wrong_descriptor}
use Rattle.scip_symbol.proofs.Rows.{position_plain}
use Rattle.scip_symbol.proofs.writable.find_invalid_descriptor.Goals as goal

pub returns : goal.returns
returns c =
    c.find_invalid_disambiguator.ensures ∙ position_from-zero (λ (d : Descriptor). is_wrong_descriptor (descriptor_model d)) c.args.descriptors.now ∙ position_plain is_wrong_descriptor 0 c.args.descriptors.now
