-- The network of a run: that of its input, a text or a tree, with the given prices. IsOf net states that net is the network of the input.
use Rattle.std.specs.Prelude.{◌⊎◌, ℕ, List, Option, Some, None, Ok, Err}
use Rattle.cut_net.specs.Network.{Network}
use Rattle.cut_net.specs.Prices.{IsPriceOutcome}
use Rattle.cut_net.specs.declared.price_fault.PriceFault.{PriceFault}
use Rattle.oscip_run.specs.Runs.{IsNetOfText, IsRejectedText, IsRejectedTree}
use Rattle.oscip_run.specs.declared.fault.RunFault.{RunFault}
use Rattle.oscip_run.specs.declared.fault.RunFault.TheVariants.{CannotRead, CannotWrite, Tree, Net, Price, Rules, Report, Solve, Query, Device, Memory}
use Rattle.source_tree.specs.Trees.{IsNetOfTree}
use Rattle.source_tree.specs.declared.source.Source.{Source}

-- the network is that of the input with the prices in this text applied
abbrev pub IsPricedBy : (Network → Type 0) → List ℕ → Network → Type 0
IsPricedBy IsOf text net = (before : Network) × IsOf before × IsPriceOutcome before text (Ok net)

-- the network is that of the input, with its prices if they are given
abbrev pub IsPricedInput : (Network → Type 0) → Option (List ℕ) → Network → Type 0
IsPricedInput IsOf None = IsOf
IsPricedInput IsOf (Some text) = IsPricedBy IsOf text

-- this text of prices is rejected for the input's network, with this fault of prices
abbrev pub IsPriceRefusal : (Network → Type 0) → List ℕ → PriceFault → Type 0
IsPriceRefusal IsOf text fault = (before : Network) × IsOf before × IsPriceOutcome before text (Err fault)

-- this text of prices is rejected for the input's network, with this fault of a run
abbrev pub IsRejectedBy : (Network → Type 0) → List ℕ → RunFault → Type 0
IsRejectedBy IsOf text (CannotRead path) = ⊥
IsRejectedBy IsOf text (CannotWrite path) = ⊥
IsRejectedBy IsOf text (Tree fault) = ⊥
IsRejectedBy IsOf text (Net fault) = ⊥
IsRejectedBy IsOf text (Price fault) = IsPriceRefusal IsOf text fault
IsRejectedBy IsOf text (Report fault) = ⊥
IsRejectedBy IsOf text (Solve fault) = ⊥
IsRejectedBy IsOf text (Rules fault) = ⊥
IsRejectedBy IsOf text (Query fault) = ⊥
IsRejectedBy IsOf text Device = ⊥
IsRejectedBy IsOf text Memory = ⊥

-- the input is rejected with this fault, or its prices are, if they are given
abbrev pub IsRejectedPriced : (Network → Type 0) → (RunFault → Type 0) → Option (List ℕ) → RunFault → Type 0
IsRejectedPriced IsOf IsRefused None = IsRefused
IsRejectedPriced IsOf IsRefused (Some text) = λ fault. IsRefused fault ⊎ IsRejectedBy IsOf text fault

-- ---- of a text

-- the network is the one that the text states, with its prices
abbrev pub IsNetOfPricedText : List ℕ → Option (List ℕ) → Network → Type 0
IsNetOfPricedText text = IsPricedInput (IsNetOfText text)

-- the text or its prices are rejected with this fault
abbrev pub IsRejectedPricedText : List ℕ → Option (List ℕ) → RunFault → Type 0
IsRejectedPricedText text = IsRejectedPriced (IsNetOfText text) (IsRejectedText text)

-- ---- of a tree

-- the network is that of the tree, with its prices
abbrev pub IsNetOfPricedTree : List Source → Option (List ℕ) → Network → Type 0
IsNetOfPricedTree sources = IsPricedInput (IsNetOfTree sources)

-- the tree or its prices are rejected with this fault
abbrev pub IsRejectedPricedTree : List Source → Option (List ℕ) → RunFault → Type 0
IsRejectedPricedTree sources = IsRejectedPriced (IsNetOfTree sources) (IsRejectedTree sources)

-- ---- intermediate results

-- memory ran out, or IsRefused holds for the fault
abbrev pub IsRejectedOr : (RunFault → Type 0) → RunFault → Type 0
IsRejectedOr IsRefused (CannotRead path) = ⊥
IsRejectedOr IsRefused (CannotWrite path) = ⊥
IsRejectedOr IsRefused (Tree fault) = IsRefused (Tree fault)
IsRejectedOr IsRefused (Net fault) = IsRefused (Net fault)
IsRejectedOr IsRefused (Price fault) = IsRefused (Price fault)
IsRejectedOr IsRefused (Report fault) = ⊥
IsRejectedOr IsRefused (Solve fault) = ⊥
IsRejectedOr IsRefused (Rules fault) = ⊥
IsRejectedOr IsRefused (Query fault) = ⊥
IsRejectedOr IsRefused Device = ⊥
IsRejectedOr IsRefused Memory = Unit {0}
