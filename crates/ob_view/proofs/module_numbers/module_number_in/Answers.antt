use Rattle.std.proofs.Common.{sym, ap, ◌∙◌, rules}
use Rattle.std.specs.Arc.{arc_value}
use Rattle.std.specs.Cmp.Lexicographic.{slice_cmp}
use Rattle.std.specs.Ordering.{nat_cmp}
use Rattle.std.specs.Result.{result_ok}
use Rattle.std.proofs.lemmas.Fn.{always_returns_same}
use Rattle.ob_view.proofs.Ascending.{among_modules}
use Rattle.ob_view.proofs.module_numbers.module_number_in.Goals as goal

pub returns-in-Ok : goal.returns-in-Ok
returns-in-Ok c =
    sym (ap result_ok c.in-Ok.is)
    ∙ among_modules c.args.modules.now c.args.name.now c.binary_search_by.result c.requires.by_name c.binary_search_by.ensures.bound
    (c.binary_search_by.ensures.position (λ a. slice_cmp nat_cmp (arc_value a).name c.args.name.now) (always_returns_same _ _ _ (λ a r q k. search rules)))

pub returns-in-Err : goal.returns-in-Err
returns-in-Err c =
    sym (ap result_ok c.in-Err.is)
    ∙ among_modules c.args.modules.now c.args.name.now c.binary_search_by.result c.requires.by_name c.binary_search_by.ensures.bound
    (c.binary_search_by.ensures.position (λ a. slice_cmp nat_cmp (arc_value a).name c.args.name.now) (always_returns_same _ _ _ (λ a r q k. search rules)))
