-- The modules of a name.
use Rattle.std.proofs.Common.{◌≡◌, ℕ, ◌<◌, ◌≤◌, ◌⊎◌, inl, inr, List, length, Some, sym, subst}
use Rattle.std.specs.Prelude.{◌↔◌}
use Rattle.cut_net.specs.Network.{Network, name_of}
use Rattle.cut_net.specs.WellFormed.{IsNetwork}
use Rattle.cut_rules.specs.declared.file.File.{File}
use Rattle.cut_rules.specs.declared.reading.Rules.{Rules}
use Rattle.cut_rules.specs.RuleLines.{Selector, Adds, States}
use Rattle.cut_rules.specs.Rules.{Added, IsIn, Itself, Selects}
use Rattle.cut_rules.specs.Builders.{number_of, IsMember}
use Rattle.cut_rules.specs.Names.{names_in}
use Rattle.cut_rules.specs.Outcomes.{AreRulesOf}
use Rattle.cut_rules.proofs.Numbers.{own_number}
use Rattle.cut_rules.proofs.Pieces.{says_low}

pub members_are : (net : Network) → IsNetwork net → (files : List File) (pieces : List (List ℕ)) (r : Rules) → AreRulesOf net files pieces r → (x : List ℕ) (number m : ℕ) → number_of net (names_in r.names.sets.keys) x ≡ Some number → m < length net.names
    → ((number ≡ m) ⊎ IsMember r.files.now r.table number m) ↔ IsIn net files pieces x m
members_are net network files pieces r elements x number m named low =
    let own = own_number net network (names_in r.names.sets.keys) x number m low named in
    let added = elements.table.elements x number m low named in (
      λ either. elim either [
        | inl same ↦ Itself (own.0 same)
        | inr member ↦ let (line, le, selector, says, is) = added.0 (subst (λ (fs : List File). IsMember fs r.table number m) elements.files_are member) in Added line selector says is
      ],
      λ is. by own added is,
    )
  where
    by : (number ≡ m) ↔ (name_of net m ≡ x) → IsMember files r.table number m ↔ ((line : ℕ) × (line ≤ length pieces) × (selector : Selector) × States pieces line (Adds x selector) × Selects net files selector m) → IsIn net files pieces x m
        → (number ≡ m) ⊎ IsMember r.files.now r.table number m
    by own added (Itself e) = inl (own.1 e)
    by own added (Added line selector says is) = inr (subst (λ (fs : List File). IsMember fs r.table number m) (sym elements.files_are) (added.1 (line, (says_low pieces line (Adds x selector) says).1, selector, says, is)))
