use Rattle.std.proofs.Common.{◌∙◌, subst}
use Rattle.cut_net.specs.Lines.{IsAscending}
use Rattle.cut_net.proofs.Listed.{listed_good}
use Rattle.cut_net.proofs.line_list.has_distinct_imports_by_sorting.Goals as goal

pub returns : goal.returns
returns c apart lines h =
    let copied = c.in_ok-imports.ensures.items_if_clones_equal (λ x y same. same) ∙ c.deref.ensures.value in
    let up = subst IsAscending c.deref-2.ensures.value (c.is_ascending.ensures apart) in
    listed_good lines _ _ c.sort_imports.new.imports.items h (rw copied at c.sort_imports.ensures.same) up
