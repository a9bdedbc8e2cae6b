-- One more use.
use Rattle.std.proofs.Common.{◌<◌, length, sym, ◌∙◌, arith}
use Rattle.std.proofs.lemmas.Option.{slice_get_within, slice_get-get_or}
use Rattle.scopes.specs.Scope.{HasNoDuplicates}
use Rattle.ob_scan.specs.Texts.{text_at}
use Rattle.std.proofs.Common.{refl}
use Rattle.ob_scope.specs.WalkOrder.{use_row}
use Rattle.ob_scope.proofs.OnWalk.{way_begun}
use Rattle.module_table.proofs.Elements.{contains_slice, some_one}
use Rattle.scopes.proofs.Meanings.{means_as}
use Rattle.ob_scope.proofs.Finding.{meant_none, meant_other, meant_more, counted_none, counted_other, counted_more}
use Rattle.std.proofs.lemmas.Grind.{elements}
use Rattle.ob_scope.proofs.uses.resolve_each.Goals as goal
use Rattle.ob_scope.proofs.uses.resolve_each.Goals.{in-Some+in_ok-push, in_default}

pub loop-k-init : goal.loop-k-init
loop-k-init c =
    let name = text_at c.args.text.now.bytes.now c.args.text.now.tokens.now in
    record {
      meant = rw c.requires.empty (meant_none name c.args.blocks.now c.args.members.now c.args.uses.now);
      bindings = c.requires.bindings;
      before = λ i p u m le at below there. (let e = c.requires.none_yet in absurd (omega arith));
      walk = λ i u le at. way_begun c.args.blocks.now c.args.members.now c.args.uses.now c.args.bindings.now u.number c.requires.together c.requires.none_open;
      counted = counted_none name c.args.blocks.now c.args.members.now c.args.uses.now c.args.counts.now c.requires.as_many c.requires.zero;
    }

pub resolve_use-requires-clause-before : goal.resolve_use-requires-clause-before
resolve_use-requires-clause-before c = λ p m below there.
    c.loop-k.invariant.before c.loop-k.k p _ m (omega arith) (slice_get-get_or c.args.uses.now c.loop-k.k _ c.loop-k-test.true) below there

pub resolve_use-requires-clause-walk : goal.resolve_use-requires-clause-walk
resolve_use-requires-clause-walk c =
    let uses = c.args.uses.now in
    let at = slice_get-get_or uses c.loop-k.k _ c.loop-k-test.true in
    (uses, c.loop-k.invariant.walk c.loop-k.k _ (omega arith) at, use_row _ (contains_slice uses c.loop-k.k _ at) refl refl)

pub bounds-members-at : goal.bounds-members-at
bounds-members-at c =
    let h = rw c.in-Some.is at c.in_ok-at.ensures.found in
    slice_get_within c.args.members.now c.in-Some.at h.member h.there

pub count_qualified_use-requires-clause-place : goal.count_qualified_use-requires-clause-place
count_qualified_use-requires-clause-place c =
    let h = rw c.in-Some.is at c.in_ok-at.ensures.found in
    let within = slice_get_within c.args.members.now c.in-Some.at h.member h.there in
    let long = c.loop-k.invariant.counted.as_many in
    omega arith

pub count_qualified_use-requires-clause-small : goal.count_qualified_use-requires-clause-small
count_qualified_use-requires-clause-small c =
    let few = c.loop-k.invariant.counted.small c.in-Some.at in
    let less = c.loop-k-test.true in
    omega arith

pub loop-k-preserved : goal.loop-k-preserved
loop-k-preserved c =
    let name = text_at c.args.text.now.bytes.now c.args.text.now.tokens.now in
    let blocks = c.args.blocks.now in
    let members = c.args.members.now in
    let uses = c.args.uses.now in
    let k = c.loop-k.k in
    let at = slice_get-get_or uses k _ c.loop-k-test.true in
    let once : HasNoDuplicates name members = c.requires.once in
    elim c.match-at.branch [
      | in-Some+in_ok-push w ↦ (
          let h = rw w.in-Some.is at c.in_ok-at.ensures.found in
          let i = w.in-Some.at in
          let within : i < length members = slice_get_within members i h.member h.there in
          let there = slice_get-get_or members i _ within in
          let means = means_as name blocks members _ h.member _ (some_one h.member _ (sym h.there ∙ there)) h.means in
          rw (w.meanings-is, w.counts-is, w.in_ok-push.ensures.items, w.count_qualified_use.ensures)
          (record {
            meant = meant_more name blocks members uses k c.loop-k.meanings.items _ _ c.requires.uses once c.loop-k.invariant.meant at means;
            bindings = c.in_ok-at.ensures.bindings;
            before = λ j p u m le at_use below there. (let l = c.in_ok-at.ensures.prefix.before p m below there in let next = c.requires.uses k j _ u (omega arith) at at_use in omega arith);
            walk = λ j u le at_use. c.in_ok-at.ensures.walk uses u.number (let next = c.requires.uses k j _ u (omega arith) at at_use in omega arith) (use_row _ (contains_slice uses k _ at) refl refl) (c.loop-k.invariant.walk k _ (omega arith) at);
            counted = counted_more name blocks members uses k i c.loop-k.counts _ _ c.requires.members once c.loop-k.invariant.counted at there means;
          }))
      | in_default w ↦ (
          let nothing = rw w.in_default.is at c.in_ok-at.ensures.none in
          rw (w.meanings-is, w.counts-is)
          (record {
            meant = meant_other name blocks members uses k c.loop-k.meanings.items _ c.loop-k.invariant.meant at nothing;
            bindings = c.in_ok-at.ensures.bindings;
            before = λ j p u m le at_use below there. (let l = c.in_ok-at.ensures.prefix.before p m below there in let next = c.requires.uses k j _ u (omega arith) at at_use in omega arith);
            walk = λ j u le at_use. c.in_ok-at.ensures.walk uses u.number (let next = c.requires.uses k j _ u (omega arith) at at_use in omega arith) (use_row _ (contains_slice uses k _ at) refl refl) (c.loop-k.invariant.walk k _ (omega arith) at);
            counted = counted_other name blocks members uses k c.loop-k.counts _ c.loop-k.invariant.counted at nothing;
          }))
    ]

pub offset_bounds-members-at : goal.offset_bounds-members-at
offset_bounds-members-at c = grind (arith, elements)
