-- The next reference is kept, or its symbol information is there already.
use Rattle.std.proofs.Common.{◌≡◌, false, not, sym, ap, ◌∙◌}
use Rattle.std.specs.Option.{option_and_then}
use Rattle.std.proofs.lemmas.Bool.{not-false}
use Rattle.indexmap.specs.IndexSet.{contains}
use Rattle.ob_emit.specs.StoredTexts.{external_symbol_info_of_key, is_same_external_key}
use Rattle.ob_emit.proofs.FirstUses.{all_firsts, first_more, none_yet, nothing_more, seen_more}
use Rattle.ob_emit.proofs.external_symbols.first_external_references.Goals as goal
use Rattle.ob_emit.proofs.external_symbols.first_external_references.Goals.{in-Some+in_ok-insert+then-branch+in_ok-push, in-Some+in_ok-insert+else-branch, in_default}

pub loop-reference-init : goal.loop-reference-init
loop-reference-init c = none_yet c.args.view.now c.args.refs.now _ _ c.with_hasher-seen.ensures.empty c.new-found.ensures.items

pub loop-reference-preserved : goal.loop-reference-preserved
loop-reference-preserved c =
    let w = c.args.view.now in
    let refs = c.args.refs.now in
    let i = c.loop-reference.reference-index in
    let old = c.loop-reference.seen in
    let stored_text = c.loop-reference.found.items in
    elim c.match-external_key.branch [
      | in-Some+in_ok-insert+then-branch+in_ok-push x ↦
          rw (x.seen-is, x.found-is, x.in_ok-push.ensures.items)
          (first_more w refs i _ c.loop-reference-test.true old stored_text c.loop-reference.invariant x.insert.new.self x.in-Some.key (sym (ap (option_and_then (external_symbol_info_of_key w)) x.in-Some.is) ∙ c.external_key.ensures) x.in_ok-insert.ensures.updates.0)
      | in-Some+in_ok-insert+else-branch x ↦
          let known : not (contains is_same_external_key old x.in-Some.key) ≡ false = sym x.in_ok-insert.ensures.added ∙ x.if-branch.false in
          rw (x.seen-is, x.found-is)
          (seen_more w refs i _ c.loop-reference-test.true old stored_text c.loop-reference.invariant x.insert.new.self x.in-Some.key (sym (ap (option_and_then (external_symbol_info_of_key w)) x.in-Some.is) ∙ c.external_key.ensures) x.in_ok-insert.ensures.updates.0
          (not-false (contains is_same_external_key old x.in-Some.key) known))
      | in_default x ↦
          rw (x.seen-is, x.found-is)
          (nothing_more w refs i _ c.loop-reference-test.true old stored_text c.loop-reference.invariant (sym (ap (option_and_then (external_symbol_info_of_key w)) x.in_default.is) ∙ c.external_key.ensures))
    ]

pub returns : goal.returns
returns c = all_firsts c.args.view.now c.args.refs.now c.loop-reference.reference-index c.loop-reference.seen c.loop-reference.found.items c.loop-reference-test.false c.loop-reference.invariant
