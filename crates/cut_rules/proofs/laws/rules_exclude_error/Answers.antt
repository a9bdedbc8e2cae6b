use Rattle.cut_rules.proofs.laws.rules_exclude_error.Goals as goal

pub returns : goal.returns
returns c = λ net files pieces rules fault elements (line, kind, first, is). elements.sound line kind first.has
