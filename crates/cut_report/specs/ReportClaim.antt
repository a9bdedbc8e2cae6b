-- A report of two modules.
use Rattle.std.specs.Prelude.{ℕ}
use Rattle.cut_net.specs.AnswerClaim.{AnswerClaim}

-- a report: the numbers of the two modules, and the answer for them
pub record ReportClaim : Type 0 where
  pub from : ℕ
  pub to : ℕ
  pub claim : AnswerClaim
