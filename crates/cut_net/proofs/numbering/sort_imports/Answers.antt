use Rattle.std.proofs.Common.{rules}
use Rattle.std.proofs.lemmas.Fn.{always_returns_same}
use Rattle.std.proofs.lemmas.Map.Keys.{IsDistinct-IsPermutation}
use Rattle.cut_net.specs.Cuts.{have_equal_ends}
use Rattle.cut_net.proofs.Networks.{ends_of, imports_ascend, ends_flip}
use Rattle.cut_net.proofs.numbering.sort_imports.Goals as goal

pub returns-clause-ascending : goal.returns-clause-ascending
returns-clause-ascending c once =
    imports_ascend c.sort_unstable_by_key.new.self.items (IsDistinct-IsPermutation have_equal_ends ends_flip _ _ c.sort_unstable_by_key.ensures.permutation once)
    (c.sort_unstable_by_key.ensures.sorted ends_of (always_returns_same _ _ _ (λ a r q k. search rules)))
