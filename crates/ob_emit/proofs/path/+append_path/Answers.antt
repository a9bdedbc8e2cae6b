-- A step's descriptor after those above it.
use Rattle.std.proofs.Common.{◌++◌, ℕ, List, Some, sym, ap, ◌∙◌}
use Rattle.std.specs.Option.{option_map, option_map_or}
use Rattle.std.specs.String.{string_bytes}
use Rattle.ob_emit.specs.StoredTexts.{step_model, IsAppended}
use Rattle.ob_emit.specs.Symbols.{descriptor, module_path, path}
use Rattle.scip_symbol.specs.SymbolTexts.{canonical_descriptor_text}
use Rattle.ob_emit.proofs.Paths.{path_none, pushed_module, pushed_no_step, pushed_step}
use Rattle.ob_emit.proofs.path.+append_path.Goals as goal
use Rattle.ob_emit.proofs.path.+append_path.Goals.{in-None+in_ok-append_simple_descriptor-in-None, in-Some-owner+in_ok-found-in-Some-owner}

pub returns-in_default : goal.returns-in_default
returns-in_default g t c =
    path_none c.args.module_name.now (g.S.NumberedDeclarations.steps_in c.args.source.now) c.requires.before c.args.number (sym c.step.ensures ∙ ap (option_map step_model) c.in_default.is)

pub name_str-requires-then-found : goal.name_str-requires-then-found
name_str-requires-then-found g t c =
    c.requires.named c.args.number (step_model c.in-Some.step) (sym c.step.ensures ∙ ap (option_map step_model) c.in-Some.is)

pub returns-in_ok-append_simple_descriptor : goal.returns-in_ok-append_simple_descriptor
returns-in_ok-append_simple_descriptor g t c =
    let m = c.args.module_name.now in
    let steps = g.S.NumberedDeclarations.steps_in c.args.source.now in
    let s = step_model c.in-Some.step in
    let above : IsAppended (string_bytes c.args.out.now) (string_bytes c.match-step-2.out) (option_map_or (path m steps) s.owner (Some (module_path m))) c.match-step-2.found =
    elim c.match-step-2.branch [
      | in-None+in_ok-append_simple_descriptor-in-None w ↦
          rw (w.found-is, w.out-is, w.in-None.is, w.in_ok-append_simple_descriptor-in-None.ensures, w.name_str.ensures) (pushed_module (string_bytes c.args.out.now) m)
      | in-Some-owner+in_ok-found-in-Some-owner w ↦ rw (w.found-is, w.out-is, w.in-Some-owner.is) w.in_ok-found-in-Some-owner.ensures
    ] in
    pushed_step m steps c.requires.before c.args.number s (string_bytes c.args.out.now) (string_bytes c.match-step-2.out) (string_bytes c.append_simple_descriptor-then-found.new.out) c.match-step-2.found
    (sym c.step.ensures ∙ ap (option_map step_model) c.in-Some.is) above c.if-found.true
    (c.in_ok-append_simple_descriptor.ensures ∙ ap (λ (x : List ℕ). string_bytes c.match-step-2.out ++ canonical_descriptor_text (descriptor c.in-Some.step.kind x)) c.name_str-then-found.ensures)

pub returns-else-found : goal.returns-else-found
returns-else-found g t c =
    let m = c.args.module_name.now in
    let steps = g.S.NumberedDeclarations.steps_in c.args.source.now in
    let s = step_model c.in-Some.step in
    let above : IsAppended (string_bytes c.args.out.now) (string_bytes c.match-step-2.out) (option_map_or (path m steps) s.owner (Some (module_path m))) c.match-step-2.found =
    elim c.match-step-2.branch [
      | in-None+in_ok-append_simple_descriptor-in-None w ↦
          rw (w.found-is, w.out-is, w.in-None.is, w.in_ok-append_simple_descriptor-in-None.ensures, w.name_str.ensures) (pushed_module (string_bytes c.args.out.now) m)
      | in-Some-owner+in_ok-found-in-Some-owner w ↦ rw (w.found-is, w.out-is, w.in-Some-owner.is) w.in_ok-found-in-Some-owner.ensures
    ] in
    pushed_no_step m steps c.requires.before c.args.number s (string_bytes c.args.out.now) (string_bytes c.match-step-2.out) c.match-step-2.found
    (sym c.step.ensures ∙ ap (option_map step_model) c.in-Some.is) above c.if-found.false
