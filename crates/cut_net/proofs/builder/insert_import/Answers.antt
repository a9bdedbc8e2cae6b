use Rattle.std.proofs.Common.{sym, ◌∙◌}
use Rattle.indexmap.proofs.CallerLemmas.{insert_entry-new}
use Rattle.cut_net.proofs.Pairs.{same_pair, key_there, key_none, key_absent}
use Rattle.cut_net.proofs.builder.insert_import.Goals as goal

pub returns-clause-present : goal.returns-clause-present
returns-clause-present c e = key_there c.args.imports.now.entries c.args.ends c.in_ok-before.before c.in_ok-before.ensures.old (sym c.is_some.ensures ∙ e)

pub returns-clause-absent : goal.returns-clause-absent
returns-clause-absent c e = key_absent c.args.imports.now.entries c.args.ends c.in_ok-before.before c.in_ok-before.ensures.old (sym c.is_some.ensures ∙ e)

pub returns-clause-last : goal.returns-clause-last
returns-clause-last c e =
    c.in_ok-before.ensures.entries ∙ insert_entry-new same_pair c.args.imports.now c.args.ends c.args.weight
    (key_none c.args.imports.now.entries c.args.ends c.in_ok-before.before c.in_ok-before.ensures.old (sym c.is_some.ensures ∙ e))
