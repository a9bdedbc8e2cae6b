-- Reachability by paths of imports, as a worklist search.
use Rattle.std.specs.Prelude.{◌≡◌, ℕ, Bool, true, List, length}
use Rattle.digraph.specs.Spreading.{IsSpread, IsSpreadBut}
use Rattle.digraph.specs.LinkedLists.{AreLinkedLists, IsInList}
use Rattle.cut_net.specs.declared.priced.Priced.{Priced}
use Rattle.cut_net.specs.Cuts.{Any, Chain}
use Rattle.residual_graph.specs.Graphs.{is_flagged}
use Rattle.cut_part.specs.CapacityReduction.{import_in}

-- import k is by module m
abbrev pub IsImporter : List Priced → ℕ → ℕ → Type 0
IsImporter imports m k = IsInList (λ j. (import_in imports j).from) m k

-- the module that the import of this number imports
abbrev pub imported : List Priced → ℕ → ℕ
imported imports k = (import_in imports k).to

-- `last` and `before` link the first `count` imports by importer: `last` has each module's last import, and `before` for each import the
-- previous one by its importer
abbrev pub AreImportLists : List Priced → ℕ → List ℕ → List ℕ → ℕ → Type 0
AreImportLists imports modules last before count = AreLinkedLists (IsImporter imports) modules last before count

-- paths lead from the start to all flagged modules; and all modules that a flagged module imports are flagged, unless it is in the
-- worklist `waiting`
pub record IsSpreading (imports : List Priced) (start : ℕ) (marks : List Bool) (waiting : List ℕ) : Type 0 where
  pub started : is_flagged marks start ≡ true
  pub mark_reachable : (m : ℕ) → is_flagged marks m ≡ true → Chain imports Any start m
  pub spread : IsSpread (IsImporter imports) (imported imports) (length imports) marks waiting

-- as `IsSpreading`, but the imports by module `one` whose number is below `next` may lead to unflagged modules: they are followed in
-- descending order of their numbers
pub record IsFollowing (imports : List Priced) (start : ℕ) (marks : List Bool) (waiting : List ℕ) (one next : ℕ) : Type 0 where
  pub started : is_flagged marks start ≡ true
  pub mark_reachable : (m : ℕ) → is_flagged marks m ≡ true → Chain imports Any start m
  pub spread : IsSpreadBut (IsImporter imports) (imported imports) (length imports) marks waiting one next
