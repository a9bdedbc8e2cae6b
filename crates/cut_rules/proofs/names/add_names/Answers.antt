use Rattle.std.proofs.Common.{inl, inr, arith}
use Rattle.cut_rules.proofs.names.add_names.Goals as goal

pub returns-then-rules-gt-MOST_LINES-clause-noted : goal.returns-then-rules-gt-MOST_LINES-clause-noted
returns-then-rules-gt-MOST_LINES-clause-noted c le = absurd (omega arith)

pub returns-clause-noted : goal.returns-clause-noted
returns-clause-noted c le = (elim c.in_ok-add_name.ensures.noted [ inl own ↦ inl own | inr has ↦ inr (c.in_ok-add_name-2.ensures.retained _ has) ], c.in_ok-add_name-2.ensures.noted)

pub returns-clause-apart : goal.returns-clause-apart
returns-clause-apart c x has = elim (c.in_ok-add_name-2.ensures.apart x has) [ inl before ↦ c.in_ok-add_name.ensures.apart x before | inr none ↦ inr none ]
