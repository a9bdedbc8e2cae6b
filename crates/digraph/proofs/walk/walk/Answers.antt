-- The walk, step by step.
use Rattle.std.proofs.Common.{◌≡◌, ℕ, ◌+◌, ◌<◌, ◌≤◌, ◌∙◌, Some, length, sym, subst, arith}
use Rattle.std.specs.Prelude.{vec_len}
use Rattle.std.proofs.lemmas.List.{length-set}
use Rattle.digraph.specs.Cycle.{IsSmallestSuccessor}
use Rattle.digraph.specs.Marks.{edge_at, marked, index_at}
use Rattle.digraph.specs.Edges.{Leads}
use Rattle.digraph.proofs.Settling.{marked_below, read_place}
use Rattle.digraph.proofs.Walks.{none_cloned, walking_start, step_more, step_back, new_members, walking_length}
use Rattle.std.proofs.lemmas.Grind.{common_steps}
use Rattle.digraph.proofs.walk.walk.Goals as goal

pub steps-init : goal.steps-init
steps-init c =
    let table = c.in_ok-place_of_node.place_of_node in
    let full = none_cloned table.items c.len.result _ c.in_ok-place_of_node.ensures.items_if_clones_equal (λ x h. h) in
    let len = c.in_ok-place_of_node.ensures.len in
    let ok = table.ok in
    let marks = c.args.core_nodes.now.marks.ok in
    let size = c.len.ensures in
    record {
      size = omega arith;
      walking = walking_start (Leads c.args.edges.now) (marked c.args.core_nodes.now.marks.items) c.new-walk.result.items table.items c.len.result c.args.first c.new-walk.ensures.items full c.requires.first;
    }

pub index_mut-requires : goal.index_mut-requires
index_mut-requires c =
    let w = c.steps.invariant.walking in
    let below : c.steps.at < length c.args.core_nodes.now.marks.items = marked_below c.args.core_nodes.now.marks.items c.steps.at w.member in
    let size = c.steps.invariant.size in
    let ok = c.steps.place_of_node.ok in
    omega arith

pub index-requires-in-steps : goal.index-requires-in-steps
index-requires-in-steps c =
    let edges = c.args.edges.now in
    let marks = c.args.core_nodes.now.marks.items in
    let places = c.args.core_nodes.now.places.items in
    let at = c.steps.at in
    let w = c.steps.invariant.walking in
    let in_marks : at < length marks = marked_below marks at w.member in
    let in_places : at < length places = (let a = c.args.core_nodes.now.marks.ok in let b = c.args.core_nodes.now.places.ok in let e = c.requires.sizes in omega arith) in
    let place : c.index.result.now ≡ index_at places at = read_place places at c.index.result.now c.index.ensures in_places in
    let next : IsSmallestSuccessor (Leads edges) (marked marks) at (edge_at edges c.index.result.now).to =
    subst (λ (p : ℕ). IsSmallestSuccessor (Leads edges) (marked marks) at (edge_at edges p).to) (sym place) (c.requires.next at w.member) in
    let below : (edge_at edges c.index.result.now).to < length marks = marked_below marks (edge_at edges c.index.result.now).to next.member in
    let size = c.steps.invariant.size in
    let ok = c.steps.place_of_node.ok in
    omega arith

pub returns-in-Some-clause-back : goal.returns-in-Some-clause-back
returns-in-Some-clause-back c =
    let edges = c.args.edges.now in
    let marks = c.args.core_nodes.now.marks.items in
    let places = c.args.core_nodes.now.places.items in
    let table = c.steps.place_of_node.items in
    let at = c.steps.at in
    let y = (edge_at edges c.index.result.now).to in
    let w = c.steps.invariant.walking in
    let in_marks : at < length marks = marked_below marks at w.member in
    let in_places : at < length places = (let a = c.args.core_nodes.now.marks.ok in let b = c.args.core_nodes.now.places.ok in let e = c.requires.sizes in omega arith) in
    let place : c.index.result.now ≡ index_at places at = read_place places at c.index.result.now c.index.ensures in_places in
    let next : IsSmallestSuccessor (Leads edges) (marked marks) at y = subst (λ (p : ℕ). IsSmallestSuccessor (Leads edges) (marked marks) at (edge_at edges p).to) (sym place) (c.requires.next at w.member) in
    let below : y < length marks = marked_below marks y next.member in
    let size : length table ≡ length marks = c.steps.invariant.size in
    let counted : c.len-in-steps.result ≡ length c.steps.walk.items = (let ok = c.steps.walk.ok in let e = c.len-in-steps.ensures in omega arith) in
    step_back (Leads edges) (marked marks) c.steps.walk.items table at w c.push.new.self.items c.len-in-steps.result y c.in-Some.place c.index-in-steps.result.now
    c.in_ok-push.ensures.items counted (omega arith) (omega arith) next c.index-in-steps.ensures c.in-Some.is

pub returns-in-Some-clause-members : goal.returns-in-Some-clause-members
returns-in-Some-clause-members c =
    new_members (Leads c.args.edges.now) (marked c.args.core_nodes.now.marks.items) c.steps.walk.items c.steps.place_of_node.items c.steps.at c.steps.invariant.walking c.push.new.self.items c.in_ok-push.ensures.items

pub steps-preserved : goal.steps-preserved
steps-preserved c =
    let edges = c.args.edges.now in
    let marks = c.args.core_nodes.now.marks.items in
    let places = c.args.core_nodes.now.places.items in
    let table = c.steps.place_of_node.items in
    let at = c.steps.at in
    let y = (edge_at edges c.index.result.now).to in
    let w = c.steps.invariant.walking in
    let in_marks : at < length marks = marked_below marks at w.member in
    let in_places : at < length places = (let a = c.args.core_nodes.now.marks.ok in let b = c.args.core_nodes.now.places.ok in let e = c.requires.sizes in omega arith) in
    let place : c.index.result.now ≡ index_at places at = read_place places at c.index.result.now c.index.ensures in_places in
    let next : IsSmallestSuccessor (Leads edges) (marked marks) at y = subst (λ (p : ℕ). IsSmallestSuccessor (Leads edges) (marked marks) at (edge_at edges p).to) (sym place) (c.requires.next at w.member) in
    let below : y < length marks = marked_below marks y next.member in
    let size : length table ≡ length marks = c.steps.invariant.size in
    let counted : c.len-in-steps.result ≡ length c.steps.walk.items = (let ok = c.steps.walk.ok in let e = c.len-in-steps.ensures in omega arith) in
    record {
      size = length-set table at (Some c.len-in-steps.result) ∙ size;
      walking = step_more (Leads edges) (marked marks) c.steps.walk.items table at w c.push.new.self.items c.len-in-steps.result y c.index-in-steps.result.now
          c.in_ok-push.ensures.items counted (omega arith) (omega arith) next c.index-in-steps.ensures c.in_default.is;
    }

pub steps-smaller : goal.steps-smaller
steps-smaller c =
    let w = (steps-preserved c).walking in
    let more : length c.push.new.self.items ≤ length c.args.core_nodes.now.marks.items = walking_length c.args.core_nodes.now.marks.items c.push.new.self.items w.walked.once w.members in
    let long : vec_len c.push.new.self ≡ vec_len c.steps.walk + 1 = c.in_ok-push.ensures.len in
    let ok = c.push.new.self.ok in
    omega arith

pub index-requires : goal.index-requires
index-requires c = grind (arith, common_steps)

pub offset_bounds-edges-index : goal.offset_bounds-edges-index
offset_bounds-edges-index c = grind (arith, common_steps)

pub bounds-edges-index : goal.bounds-edges-index
bounds-edges-index c = grind (arith, common_steps)
