use Rattle.std.proofs.Common.{◌≡◌, ◌∙◌, ◌++◌, [], List, ℕ, IfOk, append-nil, append_assoc, codes, ap, subst, sym}
use Rattle.std.specs.Fmt.{decimal}
use Rattle.std.specs.String.{string_bytes}
use Rattle.std.proofs.lemmas.Result.{IfOk-weaker}
use Rattle.cut_rules.specs.declared.fault.RulesFault.{RulesFault}
use Rattle.oscip_run.specs.Faults.{last_rules_name, rules_fault_text}
use Rattle.oscip_run.proofs.fault.rules_fault_text_start.Goals as goal

pub returns-in-BadLine : goal.returns-in-BadLine
returns-in-BadLine c =
    subst (λ (f : RulesFault). IfOk c.format.result (λ t. string_bytes t ++ last_rules_name f ≡ rules_fault_text f)) (sym c.in-BadLine.is)
    (IfOk-weaker c.format.result _ _ (λ t e. append-nil (string_bytes t) ∙ e) c.format.ensures.ok)

pub returns-in-SetIsModule : goal.returns-in-SetIsModule
returns-in-SetIsModule c =
    let name = string_bytes c.in-SetIsModule.name in
    subst (λ (f : RulesFault). IfOk c.format-in-SetIsModule.result (λ t. string_bytes t ++ last_rules_name f ≡ rules_fault_text f)) (sym c.in-SetIsModule.is)
    (IfOk-weaker c.format-in-SetIsModule.result _ _ (λ t e. ap (λ (x : List ℕ). x ++ name) e ∙ append_assoc (decimal c.in-SetIsModule.line) (codes ": SetIsModule ") name) c.format-in-SetIsModule.ensures.ok)

pub returns-in-NoSuchModule : goal.returns-in-NoSuchModule
returns-in-NoSuchModule c =
    let name = string_bytes c.in-NoSuchModule.name in
    subst (λ (f : RulesFault). IfOk c.format-in-NoSuchModule.result (λ t. string_bytes t ++ last_rules_name f ≡ rules_fault_text f)) (sym c.in-NoSuchModule.is)
    (IfOk-weaker c.format-in-NoSuchModule.result _ _ (λ t e. ap (λ (x : List ℕ). x ++ name) e ∙ append_assoc (decimal c.in-NoSuchModule.line) (codes ": NoSuchModule ") name) c.format-in-NoSuchModule.ensures.ok)

pub returns-in-TwiceAllowed : goal.returns-in-TwiceAllowed
returns-in-TwiceAllowed c =
    let name = string_bytes c.in-TwiceAllowed.imported in
    subst (λ (f : RulesFault). IfOk c.format-in-TwiceAllowed.result (λ t. string_bytes t ++ last_rules_name f ≡ rules_fault_text f)) (sym c.in-TwiceAllowed.is)
    (IfOk-weaker c.format-in-TwiceAllowed.result _ _ (λ t e. ap (λ (x : List ℕ). x ++ name) e ∙ simp append_assoc) c.format-in-TwiceAllowed.ensures.ok)

pub returns-in-EmptySet : goal.returns-in-EmptySet
returns-in-EmptySet c =
    let name = string_bytes c.in-EmptySet.text in
    subst (λ (f : RulesFault). IfOk c.format-in-EmptySet.result (λ t. string_bytes t ++ last_rules_name f ≡ rules_fault_text f)) (sym c.in-EmptySet.is)
    (IfOk-weaker c.format-in-EmptySet.result _ _ (λ t e. ap (λ (x : List ℕ). x ++ name) e ∙ append_assoc (decimal c.in-EmptySet.line) (codes ": EmptySet ") name) c.format-in-EmptySet.ensures.ok)

pub returns-in-TooMany : goal.returns-in-TooMany
returns-in-TooMany c =
    subst (λ (f : RulesFault). IfOk c.format-in-TooMany.result (λ t. string_bytes t ++ last_rules_name f ≡ rules_fault_text f)) (sym c.in-TooMany.is)
    (IfOk-weaker c.format-in-TooMany.result _ _ (λ t e. append-nil (string_bytes t) ∙ e) c.format-in-TooMany.ensures.ok)
