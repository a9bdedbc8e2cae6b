-- Kinds of targets.
use Rattle.std.specs.Prelude.{Bool, true, false}
use Rattle.ob_view.specs.declared.target.Target.{Target}
use Rattle.ob_view.specs.declared.target.Target.TheVariants as targets

-- whether the target is Unresolved
abbrev pub is_unresolved : Target → Bool
is_unresolved (targets.Declared k) = false
is_unresolved (targets.Imported i d) = false
is_unresolved (targets.External at n) = false
is_unresolved targets.Own = false
is_unresolved (targets.«Module» at) = false
is_unresolved targets.Predeclared = false
is_unresolved targets.Unresolved = true
