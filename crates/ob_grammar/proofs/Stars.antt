-- Whether an asterisk follows a name.
use Rattle.std.proofs.Common.{◌≡◌, Bool, true, false, refl}
use Rattle.ob_scan.specs.declared.kind.Kind.TheVariants as kinds
use Rattle.ob_tree.specs.TreeEvents.{if_true, word}
use Rattle.ob_grammar.specs.Combinators.{is_something}

pub star_read : (b : Bool) → is_something (if_true b (word kinds.Star)) ≡ b
star_read true = refl
star_read false = refl
