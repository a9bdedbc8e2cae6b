use Rattle.ob_board.proofs.SomeTargets.{seen_symbol, resolved_identifiers_have_symbols}
use Rattle.ob_board.proofs.reference_laws.resolved_identifiers_have_symbols.Goals as goal

pub returns : goal.returns
returns c = record {
  here = λ w m refs p r is order scopes are h e. resolved_identifiers_have_symbols w m is order scopes p refs r are h e;
  there = λ w v m n refs p r i d is order scopes tree ascending are h e at. seen_symbol w m is order scopes p v n refs r i d tree ascending are h e at;
}
