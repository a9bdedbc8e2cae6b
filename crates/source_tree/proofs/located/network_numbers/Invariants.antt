use Rattle.std.proofs.Common.{◌≡◌, ◌<◌, ℕ, length, map, take}
use Rattle.std.specs.Prelude.{All}
use Rattle.cut_net.specs.Network.{name_of}
use Rattle.scopes.specs.Scoped.{ModuleScopes}
use Rattle.source_tree.proofs.located.network_numbers.Given as goal

abbrev pub invariant-loop-module : goal.invariant-loop-module
invariant-loop-module l =
    All (λ (m : ℕ). m < length l.net.names) l.modules.items
    × (map (name_of l.net) l.modules.items ≡ map (λ (s : ModuleScopes). s.name) (take l.module-index l.scopes))
