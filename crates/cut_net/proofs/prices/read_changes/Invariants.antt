use Rattle.std.proofs.Common.{◌≡◌, List, length, map}
use Rattle.cut_net.specs.Prices.{PriceLine, SpellPrices}
use Rattle.cut_net.specs.PriceReading.{AreChanges}
use Rattle.cut_net.proofs.prices.read_changes.Given as goal

abbrev pub invariant-loop-piece : goal.invariant-loop-piece
invariant-loop-piece l = (l.line ≡ length l.yielded) × (lines : List PriceLine) × SpellPrices (map (λ x. x.now) l.yielded) lines × AreChanges l.net lines l.changes.items
