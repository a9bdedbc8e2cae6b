use Rattle.std.proofs.Common.{◌≡◌, ◌<◌, ◌+◌, ◌-◌, ◌*◌, ◌∙◌, ◌++◌, ◌∷◌, [], ℕ, true, false, length, get_or, refl, sym, ap, subst, arith}
use Rattle.std.proofs.lemmas.List.{get_or_default}
use Rattle.digraph.proofs.SpreadMarks.{left_same}
use Rattle.residual_graph.specs.Graphs.{head, is_flagged}
use Rattle.residual_graph.specs.Spreading.{residual_arc_at, IsFollowing, IsSpreading, LeavesFrom}
use Rattle.residual_graph.proofs.Following.{following_ends, following_starts, follows_marked, follows_unmarked, head_low, step_in}
use Rattle.residual_graph.proofs.spread.flag_heads.Goals as goal
use Rattle.residual_graph.proofs.spread.flag_heads.Goals.{then-not-index+in_ok-push, else-not-index}

pub loop-next-init : goal.loop-next-init
loop-next-init c =
    let arcs = c.args.arcs.now in
    let last = c.args.linked.now.last.items in
    let node = c.args.node in
    let size = c.requires.linked.size in
    let known = c.requires.node in
    let in_last : node < length last = omega arith in
    let is : c.index-next.result.now ≡ get_or last node 0 = c.index-next.ensures ∙ get_or_default last node c.index-next.result.now 0 in_last in
    let first = c.requires.linked.lasts node known in
    rw is record {
      size = refl;
      within = first.within;
      own = first.own;
      following = λ start s. following_starts arcs start c.args.reached_flags.now.items c.args.waiting.now.items node (get_or last node 0) first s;
      same = refl;
    }

pub loop-next-preserved : goal.loop-next-preserved
loop-next-preserved c =
    let arcs = c.args.arcs.now in
    let at = c.loop-next in
    let node = c.args.node in
    let before = c.args.linked.now.before.items in
    let number = at.next - 1 in
    let within = at.invariant.within in
    let more = c.loop-next-test.true in
    let low : number < length arcs * 2 = omega arith in
    let one : at.next ≡ number + 1 = omega arith in
    let own : LeavesFrom arcs node number = at.invariant.own number one in
    let each = c.requires.linked.each in
    let in_before : number < length before = omega arith in
    let is : c.index-next-in-loop-next.result.now ≡ get_or before number 0 = c.index-next-in-loop-next.ensures ∙ get_or_default before number c.index-next-in-loop-next.result.now 0 in_before in
    let last = c.requires.linked.befores number node low own in
    let less = last.within in
    let ok = at.reached_flags.ok.0 in
    let size = at.invariant.size in
    let to : c.head_of-to.result ≡ head arcs (residual_arc_at number) = c.head_of-to.ensures ∙ ap (head arcs) c.residual_arc_at.ensures in
    let in_seen : head arcs (residual_arc_at number) < length at.reached_flags.items = (let low_head = head_low arcs c.args.reached_flags.now.len c.requires.between (residual_arc_at number) (step_in number (length arcs) low) in omega arith) in
    let mark : c.index.result.now ≡ is_flagged at.reached_flags.items (head arcs (residual_arc_at number)) = c.index.ensures ∙ ap (λ (v : ℕ). get_or at.reached_flags.items v c.index.result.now) to ∙ get_or_default at.reached_flags.items (head arcs (residual_arc_at number)) c.index.result.now false in_seen in
    let ready : (start : ℕ) → IsSpreading arcs start c.args.reached_flags.now.items (c.args.waiting.now.items ++ node ∷ []) → IsFollowing arcs start at.reached_flags.items at.waiting.items node (number + 1) =
    λ start s. subst (IsFollowing arcs start at.reached_flags.items at.waiting.items node) one (at.invariant.following start s) in
    elim c.if-not-index.branch [
      | then-not-index+in_ok-push w ↦
          let off : is_flagged at.reached_flags.items (head arcs (residual_arc_at number)) ≡ false = sym mark ∙ w.if-not-index.true in
          rw (w.reached_flags-is, w.waiting-is, w.in_ok-push.ensures.items, is, to) record {
            size = size;
            within = omega arith;
            own = last.own;
            following = λ start s. follows_unmarked arcs start at.reached_flags.items at.waiting.items node number (get_or before number 0) low own last (ready start s) in_seen off;
            same = left_same at.reached_flags.items at.waiting.items (head arcs (residual_arc_at number)) in_seen off ∙ at.invariant.same;
          }
      | else-not-index w ↦
          let on : is_flagged at.reached_flags.items (head arcs (residual_arc_at number)) ≡ true = sym mark ∙ w.if-not-index.false in
          rw (w.reached_flags-is, w.waiting-is, is) record {
            size = size;
            within = omega arith;
            own = last.own;
            following = λ start s. follows_marked arcs start at.reached_flags.items at.waiting.items node number (get_or before number 0) low own last (ready start s) on;
            same = at.invariant.same;
          }
    ]

pub returns-clause-spreading : goal.returns-clause-spreading
returns-clause-spreading c start s =
    let past = c.loop-next-test.false in
    let none : c.loop-next.next ≡ 0 = omega arith in
    following_ends c.args.arcs.now start c.loop-next.reached_flags.items c.loop-next.waiting.items c.args.node
    (subst (IsFollowing c.args.arcs.now start c.loop-next.reached_flags.items c.loop-next.waiting.items c.args.node) none (c.loop-next.invariant.following start s))
