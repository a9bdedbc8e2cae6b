-- The equations of the event sequences of names.
use Rattle.std.proofs.Common.{◌≡◌, ◌++◌, refl}
use Rattle.ob_scan.specs.declared.kind.Kind.TheVariants as kinds
use Rattle.ob_tree.specs.declared.name.Qualident.{Qualident}
use Rattle.ob_tree.specs.declared.name.Identdef.{Identdef}
use Rattle.ob_tree.specs.TreeEvents.{word, declared, used, completed, if_present, if_true}
use Rattle.ob_tree.specs.Names.{qualident_events, identdef_events}

pub qualident_out : (q : Qualident) → qualident_events q ≡ used q.head ++ if_present (λ m. word kinds.Dot ++ completed m) q.member
unfolding qualident_events
qualident_out q = refl

pub identdef_out : (i : Identdef) → identdef_events i ≡ declared i.is_exported i.name ++ if_true i.is_exported (word kinds.Star)
unfolding identdef_events
identdef_out i = refl

-- ---- the equations at constructed values

pub ruleset names_made = (qualident_out, identdef_out)
