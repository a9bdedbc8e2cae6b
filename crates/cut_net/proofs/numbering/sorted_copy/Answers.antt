use Rattle.std.specs.String.{string_bytes}
use Rattle.std.proofs.lemmas.List.Sorted.{IsPermutation-map}
use Rattle.cut_net.proofs.Networks.{names_ascend, once_moved}
use Rattle.cut_net.proofs.numbering.sorted_copy.Goals as goal

pub returns-clause-ascending : goal.returns-clause-ascending
returns-clause-ascending c =
    let moved = IsPermutation-map string_bytes _ _ c.sort_unstable.ensures.permutation in
    names_ascend c.sort_unstable.new.self.items c.sort_unstable.ensures.sorted (once_moved _ _ moved (rw c.in_ok-sorted.ensures c.requires.once))

pub returns-clause-same : goal.returns-clause-same
returns-clause-same c = rw (← c.in_ok-sorted.ensures) (IsPermutation-map string_bytes _ _ c.sort_unstable.ensures.permutation)
