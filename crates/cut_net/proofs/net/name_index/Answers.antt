use Rattle.std.proofs.Common.{◌∙◌, rules}
use Rattle.std.specs.String.{string_bytes}
use Rattle.std.specs.Ordering.{nat_cmp}
use Rattle.std.specs.Cmp.Lexicographic.{slice_cmp}
use Rattle.std.proofs.lemmas.Fn.{always_returns_same}
use Rattle.cut_net.proofs.Search.{search_is}
use Rattle.cut_net.proofs.net.name_index.Goals as goal

pub returns : goal.returns
returns c = c.ok.ensures.value ∙ search_is c.args.names.now c.args.name.now c.binary_search_by.result c.requires c.binary_search_by.ensures.bound
    (c.binary_search_by.ensures.position (λ s. slice_cmp nat_cmp (string_bytes s) c.args.name.now) (always_returns_same _ _ _ (λ a r q k. search rules)))
