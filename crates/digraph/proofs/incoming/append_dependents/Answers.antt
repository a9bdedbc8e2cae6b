use Rattle.std.proofs.Common.{◌≡◌, ◌<◌, ◌+◌, ◌-◌, ◌∙◌, ◌++◌, ◌∷◌, [], ℕ, List, length, get_or, ap, subst, arith}
use Rattle.std.specs.Global.{Vec}
use Rattle.std.proofs.lemmas.List.{append_assoc, get_or_default}
use Rattle.std.proofs.lemmas.List.Elements.{Contains-get_or}
use Rattle.digraph.specs.Incoming.{AreDependentsFrom}
use Rattle.digraph.specs.Marks.{edge_at, missing_item, index_at}
use Rattle.digraph.proofs.Arriving.{waiting_more, waiting_same}
use Rattle.digraph.proofs.incoming.append_dependents.Goals as goal
use Rattle.digraph.proofs.incoming.append_dependents.Goals.{then-places-from+in_ok-push, else-places-from}

pub bounds-places-from : goal.bounds-places-from
bounds-places-from c =
    let edges = c.args.edges.now in
    let number = c.loop-next.next - 1 in
    let within = c.loop-next.invariant.within in
    let more = c.loop-next-test.true in
    (c.requires.between (edge_at edges number) (Contains-get_or edges number missing_item (omega arith))).0

pub loop-next-preserved : goal.loop-next-preserved
loop-next-preserved c =
    let edges = c.args.edges.now in
    let places = c.args.places.now in
    let at = c.loop-next in
    let before = c.args.incoming.now.before.items in
    let number = at.next - 1 in
    let within = at.invariant.within in
    let more = c.loop-next-test.true in
    let low : number < length edges = omega arith in
    let one : at.next ≡ number + 1 = omega arith in
    let own : (edge_at edges number).to ≡ c.args.node = at.invariant.own number one in
    let each = c.requires.incoming.each in
    let in_before : number < length before = omega arith in
    let is : c.index-next-in-loop-next.result.now ≡ get_or before number 0 = c.index-next-in-loop-next.ensures ∙ get_or_default before number c.index-next-in-loop-next.result.now 0 in_before in
    let last = c.requires.incoming.befores number c.args.node low own in
    let less = last.within in
    let (row, waiting, again) = at.invariant.waiting in
    let ready = subst (AreDependentsFrom edges places c.args.node row) one waiting in
    let from = (edge_at edges number).from in
    elim c.if-places-from.branch [
      | then-places-from+in_ok-push w ↦
          let here : index_at places from ≡ number = w.if-places-from.true in
          let items = ap (λ (v : Vec ℕ). v.items) w.again-is ∙ w.in_ok-push.ensures.items ∙ ap (λ (v : List ℕ). v ++ from ∷ []) again ∙ append_assoc c.args.again.now.items row (from ∷ []) in
          rw is record {
            within = omega arith;
            own = last.own;
            waiting = (row ++ from ∷ [], waiting_more edges places c.args.node row number (get_or before number 0) last ready here, items);
          }
      | else-places-from w ↦
          let other : index_at places from ≡ number → ⊥ = w.if-places-from.false in
          rw is record {
            within = omega arith;
            own = last.own;
            waiting = (row, waiting_same edges places c.args.node row number (get_or before number 0) last ready other, ap (λ (v : Vec ℕ). v.items) w.again-is ∙ again);
          }
    ]
