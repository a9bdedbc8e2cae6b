-- Paths that no pattern excludes.
use Rattle.std.proofs.Common.{◌≡◌, ◌∷◌, ◌++◌, ℕ, [], List, map, subst, sym}
use Rattle.std.specs.Prelude.{All, String}
use Rattle.std.specs.String.{string_bytes}
use Rattle.std.proofs.lemmas.List.{map-append}
use Rattle.std.proofs.lemmas.List.Elements.{All-push}
use Rattle.cut_net.specs.Network.{texts}
use Rattle.glob.specs.Exclusions.{names_of, AreRead, IsExcluded, IsExcludedBy}
use Rattle.glob.specs.declared.exclusion.PathGlob.{PathGlob}
use Rattle.oscip_run.specs.Exclusions.{AreIncludedPaths}

-- one more path, which no pattern excludes
pub included_more : {Z : Type 0} (patterns : List (List ℕ)) (globs : List PathGlob) (paths : List (String Z)) (path : String Z) → AreRead patterns globs →
    (IsExcludedBy globs (names_of (string_bytes path)) → ⊥) → AreIncludedPaths patterns (texts paths) → AreIncludedPaths patterns (texts (paths ++ path ∷ []))
included_more patterns globs paths path read free included =
    subst (λ (z : List (List ℕ)). AreIncludedPaths patterns z) (sym (map-append string_bytes paths (path ∷ [])))
    (All-push (λ (p : List ℕ). IsExcluded patterns p → ⊥) (texts paths) (string_bytes path) included (λ excluded. free ((read (string_bytes path)).0 excluded)))
