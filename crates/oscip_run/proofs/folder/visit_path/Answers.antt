use Rattle.std.proofs.Common.{◌≡◌, ◌∙◌, ◌∷◌, ◌++◌, ℕ, [], List, subst, sym}
use Rattle.std.specs.Prelude.{String}
use Rattle.std.specs.String.{string_bytes}
use Rattle.std.specs.declared.alloc.Global.{Global}
use Rattle.std.proofs.lemmas.Bool.{false≢true}
use Rattle.cut_net.specs.Network.{texts}
use Rattle.glob.specs.Exclusions.{names_of, IsExcludedBy}
use Rattle.oscip_run.specs.Exclusions.{AreIncludedPaths}
use Rattle.oscip_run.specs.declared.folder.Walk.{Walk}
use Rattle.oscip_run.proofs.IncludedPaths.{included_more}
use Rattle.oscip_run.proofs.folder.visit_path.Goals.{then-is_module_path+in_ok-push, else-is_module_path}
use Rattle.oscip_run.proofs.folder.visit_path.Goals as goal

pub returns-then-branch-2 : goal.returns-then-branch-2
returns-then-branch-2 g c = λ patterns read old. subst (λ (files : List (String Global)). AreIncludedPaths patterns (texts files)) (sym c.enter_folder.ensures) old

pub returns-in_err-push : goal.returns-in_err-push
returns-in_err-push g c = λ patterns read old. subst (λ (files : List (String Global)). AreIncludedPaths patterns (texts files)) (sym c.in_err-push.ensures.items) old

pub returns : goal.returns
returns g c = λ patterns read old.
    let free : IsExcludedBy c.args.exclusion.now.globs.items (names_of (string_bytes c.args.location.path)) → ⊥ = λ by. false≢true
    (sym c.if-branch.false ∙ c.in_ok-excludes.ensures.1 (subst (λ (path : List ℕ). IsExcludedBy c.args.exclusion.now.globs.items (names_of path)) (sym c.as_str.ensures.value) by)) in
    elim c.if-is_module_path.branch [
      | then-is_module_path+in_ok-push w ↦ subst (λ (walk : Walk). AreIncludedPaths patterns (texts walk.files.items)) (sym w.walk-is)
          (subst (λ (files : List (String Global)). AreIncludedPaths patterns (texts files)) (sym w.in_ok-push.ensures.items)
          (included_more patterns c.args.exclusion.now.globs.items c.args.walk.now.files.items c.args.location.path read free old))
      | else-is_module_path w ↦ subst (λ (walk : Walk). AreIncludedPaths patterns (texts walk.files.items)) (sym w.walk-is) old
    ]
