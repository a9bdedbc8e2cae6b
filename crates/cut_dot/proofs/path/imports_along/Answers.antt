use Rattle.std.proofs.Common.{◌≡◌, ◌∙◌, map}
use Rattle.cut_net.specs.Lines.{removed_by}
use Rattle.cut_dot.specs.Pictures.{is_step}
use Rattle.cut_dot.specs.Steps.{line_of_step}
use Rattle.cut_dot.proofs.Alone.{same_members}
use Rattle.cut_dot.proofs.PathSteps.{lines_are_steps, lines_ascend}
use Rattle.cut_dot.proofs.path.imports_along.Goals as goal

pub imports_with_line-requires : goal.imports_with_line-requires
imports_with_line-requires c = rw (c.as_slice-2.ensures.value, c.in_ok-lines.ensures, c.as_slice.ensures.value) (lines_ascend c.in_ok-steps.steps.items c.in_ok-steps.ensures.ascending)

pub returns : goal.returns
returns c =
    let path = c.args.path.now in
    let found = c.in_ok-steps.steps.items in
    let lines : c.as_slice-2.result.now ≡ map line_of_step found = rw c.as_slice.ensures.value at (c.as_slice-2.ensures.value ∙ c.in_ok-lines.ensures) in
    rw lines at c.in_ok-found.ensures
    ∙ same_members (removed_by (map line_of_step found)) (is_step path) (lines_are_steps path found c.in_ok-steps.ensures.same) c.args.imports.now
