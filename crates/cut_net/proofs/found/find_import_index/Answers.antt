use Rattle.std.proofs.Common.{rules}
use Rattle.std.proofs.lemmas.Fn.{always_returns_same}
use Rattle.cut_net.specs.Lines.{compare_ends}
use Rattle.cut_net.specs.Network.{missing_item}
use Rattle.cut_net.proofs.LineSearch.{found_at, found_nowhere}
use Rattle.cut_net.proofs.found.find_import_index.Goals as goal

pub returns-in-Ok-clause-found : goal.returns-in-Ok-clause-found
returns-in-Ok-clause-found c =
    found_at c.args.lines.now c.args.import c.in-Ok.place c.requires c.in-Ok.ensures.bound
    (c.in-Ok.ensures.position (λ line. compare_ends line c.args.import) (always_returns_same _ _ _ (λ a r q k. search rules))) missing_item

pub returns-in-Err-clause-none : goal.returns-in-Err-clause-none
returns-in-Err-clause-none c =
    found_nowhere c.args.lines.now c.args.import _ c.requires
    (c.in-Err.ensures.position (λ line. compare_ends line c.args.import) (always_returns_same _ _ _ (λ a r q k. search rules)))
