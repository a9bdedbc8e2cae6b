-- The content of an answer for two modules.
use Rattle.std.specs.Prelude.{ℕ, List}
use Rattle.cut_net.specs.declared.priced.Priced.{Priced}

-- a cut of this weight, with its imports and a flow; or that no cut exists, since these modules are a path of pinned imports
pub data AnswerClaim : Type 0 where
  CutOf : ℕ → List Priced → List Priced → AnswerClaim
  BlockedBy : List ℕ → AnswerClaim
