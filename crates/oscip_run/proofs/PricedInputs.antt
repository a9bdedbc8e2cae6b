-- The network of an input, and the network with its prices.
use Rattle.std.proofs.Common.{ℕ, List, Option, Some, None, Err, inl, inr, sym, subst}
use Rattle.cut_net.specs.Network.{Network}
use Rattle.cut_net.specs.NetText as nets
use Rattle.cut_net.specs.declared.fault.NetFault.{NetFault}
use Rattle.oscip_run.specs.Faults.{of_net, of_tree}
use Rattle.oscip_run.specs.PricedInputs.{IsPricedInput, IsRejectedOr, IsRejectedPriced, IsRejectedPricedText, IsRejectedPricedTree}
use Rattle.oscip_run.specs.Runs.{IsNetOfText, IsNeverRejected, IsRejectedText, IsRejectedTree, IsThis}
use Rattle.oscip_run.specs.declared.fault.RunFault.{RunFault}
use Rattle.oscip_run.specs.declared.fault.RunFault.TheVariants as run
use Rattle.source_tree.specs.Trees.{IsNetOfTree, IsTreeFault}
use Rattle.source_tree.specs.declared.source.Source.{Source}
use Rattle.source_tree.specs.declared.tree_fault.TreeFault.{TreeFault}
use Rattle.oscip_run.proofs.CheckRuns.{refused_net, refused_tree}

-- with its prices a network is that of the input that has it
pub priced_of : (IsOf : Network → Type 0) (n : Network) → IsOf n → (text : Option (List ℕ)) (r : Network) → IsPricedInput (IsThis n) text r → IsPricedInput IsOf text r
priced_of IsOf n is None r h = subst IsOf (sym h) is
priced_of IsOf n is (Some text) r h = (h.0, subst IsOf (sym h.1) is, h.2)

-- and so are they refused
pub refused_of : (IsOf : Network → Type 0) (IsRefused : RunFault → Type 0) (n : Network) → IsOf n → (text : Option (List ℕ)) (fault : RunFault) →
    IsRejectedOr (IsRejectedPriced (IsThis n) IsNeverRejected text) fault → IsRejectedOr (IsRejectedPriced IsOf IsRefused text) fault
refused_of IsOf IsRefused n is text (run.CannotRead path) h = h
refused_of IsOf IsRefused n is text (run.CannotWrite path) h = h
refused_of IsOf IsRefused n is None (run.Tree fault) h = absurd h
refused_of IsOf IsRefused n is None (run.Net fault) h = absurd h
refused_of IsOf IsRefused n is None (run.Price fault) h = absurd h
refused_of IsOf IsRefused n is (Some text) (run.Tree fault) (inl h) = absurd h
refused_of IsOf IsRefused n is (Some text) (run.Tree fault) (inr h) = absurd h
refused_of IsOf IsRefused n is (Some text) (run.Net fault) (inl h) = absurd h
refused_of IsOf IsRefused n is (Some text) (run.Net fault) (inr h) = absurd h
refused_of IsOf IsRefused n is (Some text) (run.Price fault) (inl h) = absurd h
refused_of IsOf IsRefused n is (Some text) (run.Price fault) (inr h) = inr (h.0, subst IsOf (sym h.1) is, h.2)
refused_of IsOf IsRefused n is text (run.Report fault) h = h
refused_of IsOf IsRefused n is text (run.Solve fault) h = h
refused_of IsOf IsRefused n is text (run.Rules fault) h = h
refused_of IsOf IsRefused n is text (run.Query fault) h = h
refused_of IsOf IsRefused n is text run.Device h = h
refused_of IsOf IsRefused n is text run.Memory h = h

-- where the input is refused, so it is with its prices
refused_before : (IsOf : Network → Type 0) (IsRefused : RunFault → Type 0) (text : Option (List ℕ)) (fault : RunFault) → IsRefused fault → IsRejectedPriced IsOf IsRefused text fault
refused_before IsOf IsRefused None fault h = h
refused_before IsOf IsRefused (Some text) fault h = inl h

pub refused_text : (bytes : List ℕ) (text : Option (List ℕ)) (fault : NetFault) → nets.UnlessMemory fault (λ refusal. nets.IsNetOutcome bytes (Err refusal)) → IsRejectedOr (IsRejectedPricedText bytes text) (of_net fault)
refused_text bytes text fault h =
    refused_net (IsRejectedOr (IsRejectedPricedText bytes text)) bytes (λ fault h. refused_before (IsNetOfText bytes) (IsRejectedText bytes) text (run.Net fault) h) tt fault h

pub refused_files : (sources : List Source) (text : Option (List ℕ)) (fault : TreeFault) → IsTreeFault sources fault → IsRejectedOr (IsRejectedPricedTree sources text) (of_tree fault)
refused_files sources text fault h =
    refused_tree (IsRejectedOr (IsRejectedPricedTree sources text)) sources (λ fault h. refused_before (IsNetOfTree sources) (IsRejectedTree sources) text (run.Tree fault) h) tt fault h
