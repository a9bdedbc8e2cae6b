use Rattle.std.proofs.Common.{refl}
use Rattle.ob_tree.proofs.KindLeaves.{values, words, every}
use Rattle.ob_tree.proofs.laws.kinds_determine_leaves.Goals as goal

pub returns-clause-names : goal.returns-clause-names
returns-clause-names c = λ n. refl

pub returns-clause-values : goal.returns-clause-values
returns-clause-values c = values

pub returns-clause-words : goal.returns-clause-words
returns-clause-words c = words

pub returns-clause-every : goal.returns-clause-every
returns-clause-every c = every
