-- The event sequences of names (Oberon-07 report, section 4).
use Rattle.std.specs.Prelude.{◌++◌}
use Rattle.ob_scan.specs.declared.kind.Kind.TheVariants as kinds
use Rattle.ob_tree.specs.declared.name.Qualident.{Qualident}
use Rattle.ob_tree.specs.declared.name.Identdef.{Identdef}
use Rattle.ob_tree.specs.TreeEvents.{Events, word, declared, used, completed, if_present, if_true}

-- qualident = ident ["." ident]
unfoldable pub qualident_events : Qualident → Events
qualident_events q = used q.head ++ if_present (λ m. word kinds.Dot ++ completed m) q.member

-- identdef = ident ["*"]
unfoldable pub identdef_events : Identdef → Events
identdef_events i = declared i.is_exported i.name ++ if_true i.is_exported (word kinds.Star)
