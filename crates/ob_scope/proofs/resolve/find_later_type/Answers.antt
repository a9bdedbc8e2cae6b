-- The type of the name in the block, if it is declared after the use.
use Rattle.std.proofs.Common.{◌≡◌, ℕ, Some, ◌∙◌, sym, arith}
use Rattle.std.proofs.lemmas.Grind.{elements}
use Rattle.indexmap.specs.IndexMap.{get}
use Rattle.ob_scope.specs.BlockTypes.{type_key_eq}
use Rattle.ob_scope.specs.Visibility.{name_number}
use Rattle.ob_scan.specs.Texts.{text_at}
use Rattle.ob_scope.proofs.Forwards.{after_before, after_found, after_undeclared, type_found, type_within, IsTypeOfName}
use Rattle.ob_scope.proofs.resolve.find_later_type.Goals as goal
use Rattle.ob_scope.proofs.resolve.find_later_type.Goals.{In_ok-number}

pub returns-in_err-at-clause-none : goal.returns-in_err-at-clause-none
returns-in_err-at-clause-none c =
    let name = text_at c.args.text.now.bytes.now c.args.text.now.tokens.now in
    let members = c.args.members.now in
    let names = c.args.named.now.names.keys in
    let numbers = c.args.named.now.numbers.items in
    let types = c.args.types.now in
    let is : c.in_ok-number.number ≡ name_number names (name c.args.token) = rw c.in_ok-number.was at c.requires.named in
    let none = sym c.type_index.ensures ∙ c.in_err-at.was in
    rw c.from_residual-in_err-at.ensures (after_undeclared members numbers name names c.requires.numbered types c.requires.types c.args.block c.args.token c.in_ok-number.number is none)

found : (c : In_ok-number) (at : ℕ) → get type_key_eq c.args.types.now (c.args.block, c.in_ok-number.number) ≡ Some at
    → IsTypeOfName (text_at c.args.text.now.bytes.now c.args.text.now.tokens.now) c.args.members.now c.args.block c.args.token at
found c at e =
    let name = text_at c.args.text.now.bytes.now c.args.text.now.tokens.now in
    let names = c.args.named.now.names.keys in
    type_found c.args.members.now c.args.named.now.numbers.items name names c.requires.numbered c.args.types.now c.requires.types c.args.block c.args.token c.in_ok-number.number at
    (rw c.in_ok-number.was at c.requires.named) (rw c.in_ok-number.was at c.requires.within) e

pub bounds-members-at : goal.bounds-members-at
bounds-members-at c = type_within (found (goal.at.bounds-members-at c).In_ok-number c.in_ok-at.at (sym c.type_index.ensures ∙ c.in_ok-at.was))

pub offset_bounds-members-at : goal.offset_bounds-members-at
offset_bounds-members-at c =
    let within = type_within (found (goal.at.offset_bounds-members-at c).In_ok-number c.in_ok-at.at (sym c.type_index.ensures ∙ c.in_ok-at.was)) in
    grind (arith, elements)

pub returns-then-token-members-clause-found : goal.returns-then-token-members-clause-found
returns-then-token-members-clause-found c =
    after_found (found (goal.at.returns-then-token-members-clause-found c).In_ok-number c.in_ok-at.at (sym c.type_index.ensures ∙ c.in_ok-at.was)) _ c.if-token-members.true

pub returns-else-token-members-clause-none : goal.returns-else-token-members-clause-none
returns-else-token-members-clause-none c =
    after_before (found (goal.at.returns-else-token-members-clause-none c).In_ok-number c.in_ok-at.at (sym c.type_index.ensures ∙ c.in_ok-at.was)) c.requires.once _ c.if-token-members.false
