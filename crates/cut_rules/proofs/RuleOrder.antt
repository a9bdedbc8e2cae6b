-- One rule after the other, in the order of their lines.
use Rattle.std.proofs.Common.{◌≡◌, ◌∙◌, ◌+◌, ◌<◌, ◌≤◌, ℕ, inl, inr, List, [], Some, length, sym, ap, arith}
use Rattle.std.specs.Prelude.{AllPairs, slice_get}
use Rattle.std.proofs.lemmas.Bool.{cases_eq, cases_lt}
use Rattle.std.proofs.lemmas.Option.{get_or_from_slice_get, same_Some, slice_get-get_or, slice_get_within}
use Rattle.digraph.proofs.Members.{no_member}
use Rattle.cut_net.specs.Network.{Network}
use Rattle.cut_rules.specs.declared.file.File.{File}
use Rattle.cut_rules.specs.declared.reading.Rules.{Rules}
use Rattle.cut_rules.specs.declared.rule.Rule.{Rule}
use Rattle.cut_rules.specs.declared.rule.RuleKind.{RuleKind}
use Rattle.cut_rules.specs.declared.rule.RuleKind.TheVariants as kinds
use Rattle.cut_rules.specs.RuleLines.{Restricts, States}
use Rattle.cut_rules.specs.Judged.{AreRuleViolations, IsRuleCountBefore}
use Rattle.cut_rules.specs.Outcomes.{AreRulesOf}
use Rattle.cut_rules.specs.Verdicts.{Breaks, ByForbid, ByForbidImport, ByMay, IsForbidden}
use Rattle.cut_rules.proofs.Pieces.{says_low}
use Rattle.cut_rules.proofs.Violations.{IsGap}

-- what is read past the end of rules
abbrev pub no_rule : Rule
no_rule = record { line = 0; kind = kinds.Forbid; first = 0; second = 0 }

-- what forbids a path is a rule
says_of : (net : Network) (files : List File) (pieces : List (List ℕ)) (line m n : ℕ) (path : List ℕ) → IsForbidden net files pieces line m n path → (kind : RuleKind) × (x y : List ℕ) × States pieces line (Restricts kind x y)
says_of net files pieces line m n path (ByForbid x y says target free) = (kinds.Forbid, x, y, says)
says_of net files pieces line m n path (ByForbidImport x y says source target only) = (kinds.ForbidImport, x, y, says)
says_of net files pieces line m n path (ByMay x may source outside others only) = (kinds.May, x, may.target, may.says)

pub bound_start : (rules : List Rule) → IsRuleCountBefore rules 0 0
bound_start rules = record { before = λ k r less at. absurd (omega arith); after = λ k r least at. omega arith }

module _ (rules : List Rule) (up : AllPairs (λ (r s : Rule). r.line < s.line) rules) where
  -- of two rules the earlier one has the earlier line
  in_order : (i j : ℕ) (r s : Rule) → i < j → slice_get rules i ≡ Some r → slice_get rules j ≡ Some s → r.line < s.line
  in_order i j r s less at_r at_s =
      let within = slice_get_within rules j s at_s in
      let first = ap (λ (x : Rule). x.line) (get_or_from_slice_get rules i r r at_r) in
      let second = ap (λ (x : Rule). x.line) (get_or_from_slice_get rules j s r at_s) in
      let pair = up i j r less within in
      omega arith

  pub bound_next : (k bound : ℕ) (r : Rule) → slice_get rules k ≡ Some r → IsRuleCountBefore rules k bound → IsRuleCountBefore rules (k + 1) (r.line + 1)
  bound_next k bound r at is = record {
    before = λ j s less at_s. elim (cases_eq j k) [
      | inl e ↦ let same = ap (λ (x : Rule). x.line) (same_Some r s (sym at ∙ ap (slice_get rules) (sym e) ∙ at_s)) in omega arith
      | inr ne ↦ let low = in_order j k s r (omega (arith, ne)) at_s at in omega arith
    ];
    after = λ j s least at_s. let high = in_order k j r s (omega arith) at at_s in omega arith;
  }

module _ (net : Network) (files : List File) (pieces : List (List ℕ)) (rules : Rules) (elements : AreRulesOf net files pieces rules) where
  abbrev list : List Rule
  list = rules.rules.items

  -- the rule of a line that something breaks
  rule_at : (line k : ℕ) (path : List ℕ) → Breaks net files pieces line k path → (j : ℕ) × (r : Rule) × (slice_get list j ≡ Some r) × (r.line ≡ line)
  rule_at line k path breaks =
      let (kind, x, y, says) = says_of net files pieces line _ _ path breaks.forbidden in
      let (r, (j, lt, is), same) = elements.rules.all line kind x y (says_low pieces line _ says).1 says in
      (j, r, slice_get-get_or list j r lt ∙ ap (λ (s : Rule). Some s) is, same)

  pub gap : (k bound : ℕ) (r : Rule) → slice_get list k ≡ Some r → IsRuleCountBefore list k bound → IsGap net files pieces bound r.line
  gap k bound r at is l i path least less breaks =
      let (j, s, at_s, same) = rule_at l i path breaks in
      elim (cases_lt j k) [
        | inl early ↦ let low = is.before j s early at_s in omega arith
        | inr late ↦ elim (cases_eq j k) [
          | inl e ↦ let equal = ap (λ (x : Rule). x.line) (same_Some r s (sym at ∙ ap (slice_get list) (sym e) ∙ at_s)) in omega arith
          | inr ne ↦ let high = in_order list elements.rules.ascending k j r s (omega (arith, late, ne)) at at_s in omega arith
        ]
      ]

  pub past_all : (k bound : ℕ) → length list ≤ k → IsRuleCountBefore list k bound → (l i : ℕ) (path : List ℕ) → Breaks net files pieces l i path → l < bound
  past_all k bound end is l i path breaks =
      let (j, s, at_s, same) = rule_at l i path breaks in
      let within = slice_get_within list j s at_s in
      let low = is.before j s (omega arith) at_s in
      omega arith

-- a rule that nothing breaks
pub none_of_rule : (net : Network) (files : List File) (pieces : List (List ℕ)) (line high : ℕ) → ((k : ℕ) (path : List ℕ) → Breaks net files pieces line k path → ⊥) → AreRuleViolations net files pieces line 0 high []
none_of_rule net files pieces line high none = record {
  each = λ v has. no_member v has;
  all = λ k path above below breaks. absurd (none k path breaks);
  least = λ v has. no_member v has;
  ascending = λ i j d lt l. absurd (omega arith);
}
