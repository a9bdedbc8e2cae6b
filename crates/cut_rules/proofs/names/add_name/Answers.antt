use Rattle.std.proofs.Common.{◌∙◌, List, ℕ, inl, inr, not, sym, ap, subst}
use Rattle.std.specs.Prelude.{Contains}
use Rattle.cut_rules.specs.Names.{names_in}
use Rattle.cut_rules.proofs.NameLaws.{insert_adds, insert_keeps, insert_only}
use Rattle.cut_rules.proofs.Numbers.{is_module, no_module, none_there_by, some_there}
use Rattle.cut_rules.proofs.names.add_name.Goals as goal

pub returns-in_ok-insert-clause-retained : goal.returns-in_ok-insert-clause-retained
returns-in_ok-insert-clause-retained c = insert_keeps c.args.names.now.keys c.insert.new.self.keys (record { bytes = c.as_bytes.result }) c.in_ok-insert.ensures.keys

pub returns-in_ok-insert-clause-noted : goal.returns-in_ok-insert-clause-noted
returns-in_ok-insert-clause-noted c =
    inr (subst (Contains (names_in c.insert.new.self.keys)) c.as_bytes.ensures.value (insert_adds c.args.names.now.keys c.insert.new.self.keys (record { bytes = c.as_bytes.result }) c.in_ok-insert.ensures.keys))

pub returns-in_ok-insert-clause-apart : goal.returns-in_ok-insert-clause-apart
returns-in_ok-insert-clause-apart c x has = elim (insert_only c.args.names.now.keys c.insert.new.self.keys (record { bytes = c.as_bytes.result }) c.in_ok-insert.ensures.keys x has) [
  | inl was ↦ inl was
  | inr e ↦
      let none = none_there_by c.index_of.result (c.is_none.ensures ∙ ap not c.if-is_none.true) in
      inr (subst (λ (y : List ℕ). Contains c.args.net.now.names y → ⊥) (sym c.as_bytes.ensures.value ∙ e) (no_module c.args.net.now c.args.name.now (sym c.index_of.ensures ∙ none)))
]

pub returns-else-is_none-clause-noted : goal.returns-else-is_none-clause-noted
returns-else-is_none-clause-noted c =
    let present = some_there c.index_of.result (c.is_none.ensures ∙ ap not c.if-is_none.false) in
    inl (is_module c.args.net.now c.args.name.now present.0 (sym c.index_of.ensures ∙ present.1))
