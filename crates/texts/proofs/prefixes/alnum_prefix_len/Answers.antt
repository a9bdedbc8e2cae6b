use Rattle.std.proofs.Common.{◌∙◌, ◌<◌, subst, ℕ, arith}
use Rattle.std.specs.Char.{is_ascii_alphanumeric}
use Rattle.texts.proofs.LaneRuns.{short_run}
use Rattle.texts.proofs.prefixes.alnum_prefix_len.Goals as goal

pub returns-then-letters-lt-LANES-clause-value : goal.returns-then-letters-lt-LANES-clause-value
returns-then-letters-lt-LANES-clause-value c =
    c.count_alnum_lanes-letters.ensures ∙ short_run is_ascii_alphanumeric 16 c.args.text.now (omega (arith, c.if-text-ge-LANES.true))
    (subst (λ (n : ℕ). n < 16) c.count_alnum_lanes-letters.ensures (omega (arith, c.if-letters-lt-LANES.true)))
