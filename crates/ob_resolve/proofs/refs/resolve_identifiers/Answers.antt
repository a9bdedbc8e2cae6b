use Rattle.std.proofs.Common.{sym, ap, ◌∙◌, ◌≤◌, subst, List, Vec, Global, length}
use Rattle.module_table.specs.Order.{IsIncreasingBy}
use Rattle.ob_scan.specs.declared.token.Token.{Token}
use Rattle.ob_view.specs.declared.target.Reference.{Reference}
use Rattle.ob_resolve.proofs.Referring.{all_gone, identifier_step, none_gone, other_step}
use Rattle.ob_resolve.proofs.Within.{tokens_ascend}
use Rattle.ob_resolve.proofs.refs.resolve_identifiers.Goals as goal
use Rattle.ob_resolve.proofs.refs.resolve_identifiers.Goals.{then-is_identifier+in_ok-push, else-is_identifier}

pub token_number-requires-clause-ascend : goal.token_number-requires-clause-ascend
token_number-requires-clause-ascend c =
    subst (λ (ts : List Token). IsIncreasingBy (λ (t : Token). t.start) ts) (sym c.tokens-tokens.ensures) (tokens_ascend c.args.view.now.bytes c.args.view.now.tokens c.invariants.ensures.in_text)

pub loop-position-preserved : goal.loop-position-preserved
loop-position-preserved c =
    let w = c.args.view.now in
    let ts = c.tokens-tokens.result.now in
    let i = c.loop-position.position in
    let rs = c.loop-position.rows.items in
    elim c.if-is_identifier.branch [
      | then-is_identifier+in_ok-push t ↦ identifier_step w ts i t.token_number.result _ c.is_identifier.result rs c.if-is_identifier.rows.items t.reference_of.result c.tokens-tokens.ensures
          c.loop-position-test.true t.token_number.ensures c.is_identifier.ensures t.if-is_identifier.true t.reference_of.ensures (ap (λ (v : Vec Reference Global). v.items) t.rows-is ∙ t.in_ok-push.ensures.items)
          c.loop-position.invariant
      | else-is_identifier t ↦ other_step w ts i _ c.is_identifier.result rs c.if-is_identifier.rows.items c.tokens-tokens.ensures c.loop-position-test.true c.is_identifier.ensures
          t.if-is_identifier.false (ap (λ (v : Vec Reference Global). v.items) t.rows-is) c.loop-position.invariant
    ]

pub loop-position-init : goal.loop-position-init
loop-position-init c = none_gone c.args.view.now c.new-rows.result.items c.new-rows.ensures.items

pub returns : goal.returns
returns c = record {
  exact = all_gone c.args.view.now c.loop-position.position c.loop-position.rows.items (subst (λ (ts : List Token). length ts ≤ c.loop-position.position) c.tokens-tokens.ensures c.loop-position-test.false)
      c.loop-position.invariant;
}
