use Rattle.std.proofs.Common.{◌≡◌, ◌<◌, ◌∙◌, length, get_or, refl, sym, subst, arith, length-set, ◌+◌}
use Rattle.std.specs.Fn.{FnReturnsAt}
use Rattle.std.proofs.lemmas.List.{get_or_default}
use Rattle.digraph.specs.LinkedLists.{AreLinkedLists, IsInList}
use Rattle.digraph.proofs.TrailNumbers.{no_trails, trails_more}
use Rattle.digraph.proofs.linked_lists.link_by_key.Goals as goal

pub index-requires : goal.index-requires
index-requires g c =
    let x = c.index-things-number.result in
    let gives : FnReturnsAt g.F.Fn c.args.key_of x c.key_of-list.result = record { shown = _; shows = refl; says = record { met = c.key_of-list.ensures } } in
    let low : c.key_of-list.result < c.args.list_count = c.requires.known x c.key_of-list.result (c.loop-number.number, c.loop-number-test.true, sym c.index-things-number.is) gives in
    let size = c.loop-number.invariant.size in
    let ok = c.loop-number.last.ok.0 in
    omega arith

pub index_mut-requires : goal.index_mut-requires
index_mut-requires g c =
    let x = c.index-things-number.result in
    let gives : FnReturnsAt g.F.Fn c.args.key_of x c.key_of-list.result = record { shown = _; shows = refl; says = record { met = c.key_of-list.ensures } } in
    let low : c.key_of-list.result < c.args.list_count = c.requires.known x c.key_of-list.result (c.loop-number.number, c.loop-number-test.true, sym c.index-things-number.is) gives in
    let size = c.loop-number.invariant.size in
    let ok = c.loop-number.last.ok.0 in
    omega arith

pub loop-number-init : goal.loop-number-init
loop-number-init g c =
    let nothing = c.in_ok-last.ensures.items_if_clones_equal (λ y same. same) in
    record {
      size = (let ok = c.in_ok-last.last.ok.0 in let size = c.in_ok-last.ensures.len in omega arith);
      list_count = λ of given. no_trails (IsInList of) c.args.list_count c.in_ok-last.last.items c.in_ok-before.before.items nothing c.in_ok-before.ensures.items;
    }

pub loop-number-preserved : goal.loop-number-preserved
loop-number-preserved g c =
    let x = c.index-things-number.result in
    let number = c.loop-number.number in
    let list = c.key_of-list.result in
    let last = c.loop-number.last.items in
    let gives : FnReturnsAt g.F.Fn c.args.key_of x list = record { shown = _; shows = refl; says = record { met = c.key_of-list.ensures } } in
    let low : list < c.args.list_count = c.requires.known x list (number, c.loop-number-test.true, sym c.index-things-number.is) gives in
    let size = c.loop-number.invariant.size in
    let in_last : list < length last = omega arith in
    let was : c.index.result.now ≡ get_or last list 0 = c.index.ensures ∙ get_or_default last list c.index.result.now 0 in_last in
    record {
      size = length-set last list (number + 1) ∙ size;
      list_count = λ of given.
          let is : list ≡ of number = given number x list c.loop-number-test.true (sym c.index-things-number.is) gives in
          rw (c.in_ok-push.ensures.items, was)
          (trails_more (IsInList of) c.args.list_count number last c.loop-number.before.items (c.loop-number.invariant.list_count of given) list low (sym is) (λ other here. sym here ∙ sym is));
    }

pub returns : goal.returns
returns g c of given =
    let past = c.loop-number-test.false in
    let end = c.loop-number.auto.number-end in
    subst (AreLinkedLists (IsInList of) c.args.list_count c.loop-number.last.items c.loop-number.before.items) (omega arith) (c.loop-number.invariant.list_count of given)
