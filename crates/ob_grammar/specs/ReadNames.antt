-- The grammar of names (Oberon-07 report, section 4).
use Rattle.std.specs.Prelude.{ℕ}
use Rattle.ob_scan.specs.declared.kind.Kind.TheVariants as kinds
use Rattle.ob_tree.specs.TreeEvents.{declared, used, completed}
use Rattle.ob_grammar.specs.Combinators.{Reader, accept_at, name_at, after_name, is_something, led_by, nothing, seq, prefixed, optional}

-- qualident = ident ["." ident], after its first identifier
unfoldable pub qualident_after : ℕ → Reader
qualident_after n = prefixed (used n) (optional (accept_at kinds.Dot) (name_at completed))

-- qualident = ident ["." ident]
unfoldable pub qualident_at : Reader
qualident_at = seq (name_at used) (optional (accept_at kinds.Dot) (name_at completed))

-- identdef = ident ["*"], after its identifier; the event of the identifier has a flag whether an asterisk follows
unfoldable pub identdef_after : ℕ → Reader
identdef_after n = led_by (λ star. declared (is_something star) n) (optional (accept_at kinds.Star) nothing)

-- identdef = ident ["*"]
unfoldable pub identdef_at : Reader
identdef_at = after_name identdef_after
