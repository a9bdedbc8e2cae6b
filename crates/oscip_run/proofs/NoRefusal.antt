-- A tree with a network is never rejected.
use Rattle.std.proofs.Common.{List, sym, ◌∙◌}
use Rattle.std.proofs.lemmas.Bool.{false≢true}
use Rattle.cut_net.specs.Network.{Network}
use Rattle.source_tree.specs.Trees.{IsNetOfTree}
use Rattle.source_tree.specs.declared.source.Source.{Source}
use Rattle.source_tree.proofs.NoTreeFault.{no_tree_fault}
use Rattle.oscip_run.specs.Runs.{IsRejectedTree}
use Rattle.oscip_run.specs.declared.fault.RunFault.{RunFault}
use Rattle.oscip_run.specs.declared.fault.RunFault.TheVariants as runs

-- a tree with a network is never refused
pub no_refusal : (sources : List Source) (net : Network) (fault : RunFault) → IsNetOfTree sources net → IsRejectedTree sources fault → ⊥
no_refusal sources net (runs.CannotRead path) of h = h
no_refusal sources net (runs.CannotWrite path) of h = h
no_refusal sources net (runs.Tree fault) of h = false≢true (sym h.0 ∙ no_tree_fault sources of.files fault of.is_tree h.1)
no_refusal sources net (runs.Net fault) of h = h
no_refusal sources net (runs.Price fault) of h = h
no_refusal sources net (runs.Report fault) of h = h
no_refusal sources net (runs.Solve fault) of h = h
no_refusal sources net (runs.Rules fault) of h = h
no_refusal sources net (runs.Query fault) of h = h
no_refusal sources net runs.Device of h = h
no_refusal sources net runs.Memory of h = h
