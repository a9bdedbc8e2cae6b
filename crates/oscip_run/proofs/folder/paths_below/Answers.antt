use Rattle.std.proofs.Common.{◌≡◌, ◌∙◌, ℕ, [], List, subst, sym}
use Rattle.std.specs.Prelude.{String}
use Rattle.std.specs.declared.alloc.Global.{Global}
use Rattle.std.proofs.lemmas.List.Elements.{All-nil}
use Rattle.cut_net.specs.Network.{texts}
use Rattle.glob.specs.Exclusions.{IsExcluded}
use Rattle.oscip_run.specs.Exclusions.{AreIncludedPaths}
use Rattle.oscip_run.proofs.folder.paths_below.Goals as goal

pub returns : goal.returns
returns g c = λ patterns read. c.visit_pending.ensures patterns read
    (subst (λ (files : List (String Global)). AreIncludedPaths patterns (texts files)) (sym (c.enter_folder.ensures ∙ c.new-2.ensures.items)) (All-nil (λ (path : List ℕ). IsExcluded patterns path → ⊥)))
