use Rattle.std.proofs.Common.{refl}
use Rattle.scip_index.specs.Fits.{SymbolFits}
use Rattle.scip_index.specs.Plain.{symbol_model}
use Rattle.scip_index.specs.Written.{written_symbol}
use Rattle.scip_index.proofs.WritingSteps.{all-map, map-after, ok-then}
use Rattle.scip_index.proofs.writer.encode_externals.Goals as goal

pub returns : goal.returns
returns c = record {
  bytes = ok-then c.append_messages.result c.append_messages.ensures.bytes
      (λ e. rw (e, c.clear.ensures.items, map-after symbol_model written_symbol c.args.externals.now) refl);
  fits = ok-then c.append_messages.result c.append_messages.ensures.fits (all-map SymbolFits symbol_model c.args.externals.now);
}
