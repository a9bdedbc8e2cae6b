-- The rules of a text.
use Rattle.std.specs.Prelude.{◌≡◌, ℕ, List, length}
use Rattle.cut_net.specs.Network.{Network}
use Rattle.cut_rules.specs.declared.file.File.{File}
use Rattle.cut_rules.specs.declared.reading.Rules.{Rules}
use Rattle.cut_rules.specs.Builders.{AreAllowed, AreRules, AreStale, IsTable}
use Rattle.cut_rules.specs.Names.{names_in}
use Rattle.cut_rules.specs.Rules.{HasFault, LineFault}

-- the text has no fault, and these are its rules for a tree with these files
pub record AreRulesOf (net : Network) (files : List File) (pieces : List (List ℕ)) (r : Rules) : Type 0 where
  pub sound : (line : ℕ) (fault : LineFault) → HasFault net files pieces line fault → ⊥
  pub files_are : r.files.now ≡ files
  pub table : IsTable net files (names_in r.names.sets.keys) pieces (length pieces) r.table
  pub rules : AreRules net (names_in r.names.sets.keys) pieces (length pieces) r.rules.items
  pub allowed : AreAllowed net pieces (length pieces) r.allowed.items
  pub stale : AreStale net pieces (length pieces) r.stale.items
