-- A line that adds modules to a set.
use Rattle.std.proofs.Common.{◌≡◌, ℕ, ◌+◌, ◌<◌, ◌≤◌, Bool, true, List, Option, subst, arith}
use Rattle.cut_net.specs.Network.{Network}
use Rattle.cut_rules.specs.declared.file.File.{File}
use Rattle.cut_rules.specs.declared.table.SetTable.{SetTable}
use Rattle.cut_rules.specs.RuleLines.{Selector, Module, Folder, Named, Tree, Adds}
use Rattle.cut_rules.specs.Rules.{LineFault, TooMany, empty_selection_fault, rank, IsOverLimit, HasPattern, IsModule, ContentHasFault}
use Rattle.cut_rules.specs.Builders.{pattern_count, IsAddition, IsTable, SelectsAny}
use Rattle.cut_rules.proofs.FaultLaws.{adds_right, empty_wrong, many_first}
use Rattle.cut_rules.proofs.LineLists.{few_before, many_before}
use Rattle.cut_rules.proofs.Numbers.{has_number, is_name_of}

module _ (net : Network) (files : List File) (sets pieces : List (List ℕ)) (count line : ℕ) (number : line ≡ count + 1) (old new : SetTable) (table : IsTable net files sets pieces count old)
    (s : List ℕ) (apart : IsModule net files pieces s → ⊥) where
  -- a line that adds at least one module, and no pattern too many
  pub right : (place : Option ℕ) (selector : Selector) (any : Bool) → IsAddition net files old place selector any new → any ≡ true → new.patterns ≤ 4096 → (fault : LineFault) → ContentHasFault net files pieces line fault (Adds s selector) → ⊥
  right place selector any is some few = adds_right net files pieces line s selector (λ x m own. is_name_of net x m own.0 own.1) (is.any_is.0 some) (λ pattern e. not_many pattern (subst (λ (t : Selector). new.patterns ≡ old.patterns + pattern_count t) e is.patterns)) apart
    where
      not_many : (pattern : List ℕ) → new.patterns ≡ old.patterns + 1 → IsOverLimit (HasPattern pieces) line → ⊥
      not_many pattern sum = let (lines, of, long) = table.patterns in few_before (HasPattern pieces) count lines of line number (omega arith)

  -- one that adds none
  pub empty : (selector : Selector) → (SelectsAny net files selector → ⊥) → ContentHasFault net files pieces line (empty_selection_fault s selector) (Adds s selector)
  empty selector none = empty_wrong net files pieces line s selector (λ x is. let (m, low, e) = has_number net x is in (m, (low, e))) none

  -- a pattern too many
  pub many : (place : Option ℕ) (selector : Selector) (any : Bool) → IsAddition net files old place selector any new → any ≡ true → 4096 < new.patterns
      → ContentHasFault net files pieces line TooMany (Adds s selector) × ((other : LineFault) → ContentHasFault net files pieces line other (Adds s selector) → rank TooMany ≤ rank other)
  many place (Module m) any is some over = absurd (let sum = is.patterns in let few = table.few in omega arith)
  many place (Folder path) any is some over = absurd (let sum = is.patterns in let few = table.few in omega arith)
  many place (Named pattern) any is some over =
      let sum = is.patterns in
      let few = table.few in
      let (lines, of, long) = table.patterns in
      (many_before (HasPattern pieces) count lines of line number (omega arith) (omega arith), many_first net files pieces line s pattern apart (is.any_is.0 some))
  many place Tree any is some over = absurd (let sum = is.patterns in let few = table.few in omega arith)
