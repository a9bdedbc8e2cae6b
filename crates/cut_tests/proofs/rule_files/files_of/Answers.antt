use Rattle.std.proofs.Common.{◌≡◌, ap, rules}
use Rattle.std.specs.Cmp.Lexicographic.{nat_list_cmp_total}
use Rattle.std.specs.Ordering.{is_lt}
use Rattle.std.proofs.lemmas.Fn.{always_returns_same}
use Rattle.std.proofs.lemmas.List.Sorted.{ranks_by}
use Rattle.cut_rules.specs.Folders.{path_cmp}
use Rattle.cut_rules.specs.declared.file.File.{File}
use Rattle.cut_tests.proofs.rule_files.files_of.Goals as goal

pub returns : goal.returns
returns c =
    c.sort_unstable_by.ensures.sorted (λ (a b : File). is_lt (path_cmp a b)) (ranks_by nat_list_cmp_total (λ (f : File). f.path.now))
    (always_returns_same _ _ _ (λ a r q h. let e : r ≡ path_cmp a.0.now a.1.0.now = search rules in (ap is_lt e, search rules)))
