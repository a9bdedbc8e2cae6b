use Rattle.std.proofs.Common.{◌≡◌, ◌<◌, ℕ, true, length, sym, ap, ◌∙◌, subst, arith}
use Rattle.std.specs.Prelude.{All}
use Rattle.std.specs.List.{flat_map}
use Rattle.std.proofs.lemmas.List.{length-map}
use Rattle.work_board.specs.Graphs.{lists, list_at, IsGraph, IsNameOrder, Modules}
use Rattle.work_board.specs.Cores.{share_at}
use Rattle.work_board.specs.Keeping.{state_at, taken}
use Rattle.work_board.proofs.Ordering.{order_within}
use Rattle.work_board.proofs.Reaching.{shares_told, taken_zero}
use Rattle.std.proofs.lemmas.Grind.{common_steps}
use Rattle.work_board.proofs.board.Board.interfaces.Goals as goal

pub flags_at-flags-requires : goal.flags_at-flags-requires
flags_at-flags-requires g c =
    let b = c.self.inside in
    let is_claimed_or_delivered : taken (state_at b.states.items c.args.number) ≡ true = ap (λ ss. taken (state_at ss c.args.number)) (sym c.as_slice.ensures.value) ∙ sym c.is_claimed_or_delivered.ensures ∙ c.if-not-is_claimed_or_delivered.false in
    let below = (taken_zero g.E.WorkEntry.is_of g.T.NamedTree.graph b.waiting.items b.states.items (lists b.reached.items) b.spare.items b.entries.items c.self.invariant.1 c.args.number is_claimed_or_delivered).0 in
    let size : length c.as_slice-2.result.now ≡ length g.T.NamedTree.graph.names = ap length c.as_slice-2.ensures.value ∙ sym (length-map b.reached.items (λ r. r.items)) ∙ c.self.invariant.1.reached_size in
    omega arith

pub shared_parts-requires-clause-size : goal.shared_parts-requires-clause-size
shared_parts-requires-clause-size g c =
    let b = c.self.inside in
    let is_claimed_or_delivered : taken (state_at b.states.items c.args.number) ≡ true = ap (λ ss. taken (state_at ss c.args.number)) (sym c.as_slice.ensures.value) ∙ sym c.is_claimed_or_delivered.ensures ∙ c.if-not-is_claimed_or_delivered.false in
    let below = (taken_zero g.E.WorkEntry.is_of g.T.NamedTree.graph b.waiting.items b.states.items (lists b.reached.items) b.spare.items b.entries.items c.self.invariant.1 c.args.number is_claimed_or_delivered).0 in
    ap length c.flags_at-flags.ensures ∙ ap (λ rs. length (list_at (lists rs) c.args.number)) c.as_slice-2.ensures.value ∙ c.self.invariant.1.width c.args.number below
    ∙ sym c.self.invariant.1.entries_size ∙ sym (ap length c.as_slice-3.ensures.value)

pub shared_parts-requires-clause-within : goal.shared_parts-requires-clause-within
shared_parts-requires-clause-within g c =
    let b = c.self.inside in
    let size : length g.T.NamedTree.graph.names ≡ length c.as_slice-3.result.now = sym c.self.invariant.1.entries_size ∙ sym (ap length c.as_slice-3.ensures.value) in
    subst (λ (n : ℕ). All (λ v. v < n) c.by_name.result.now) size
    (order_within g.T.NamedTree.graph.names c.by_name.result.now (subst (λ (u : Modules). IsNameOrder u.names c.by_name.result.now) c.self.invariant.0 c.by_name.ensures))

pub returns-clause-shared_parts : goal.returns-clause-shared_parts
returns-clause-shared_parts g c =
    let b = c.self.inside in
    let f = g.E.WorkEntry.shared_of in
    let is_claimed_or_delivered : taken (state_at b.states.items c.args.number) ≡ true = ap (λ ss. taken (state_at ss c.args.number)) (sym c.as_slice.ensures.value) ∙ sym c.is_claimed_or_delivered.ensures ∙ c.if-not-is_claimed_or_delivered.false in
    let row : c.flags_at-flags.result.now ≡ list_at (lists b.reached.items) c.args.number = c.flags_at-flags.ensures ∙ ap (λ rs. list_at (lists rs) c.args.number) c.as_slice-2.ensures.value in
    let order = c.by_name.result.now in
    rw (← c.self.view_is)
    (shares_told g.E.WorkEntry.is_of g.T.NamedTree.graph b.waiting.items b.states.items (lists b.reached.items) b.spare.items b.entries.items c.self.invariant.1 f
    (subst IsGraph c.self.invariant.0 c.invariants.ensures) b.abandoned c.args.number is_claimed_or_delivered order (subst (λ (u : Modules). IsNameOrder u.names order) c.self.invariant.0 c.by_name.ensures) _
    (c.in_ok-shared_parts.ensures ∙ ap (λ ms. flat_map (share_at f ms c.as_slice-3.result.now) order) row ∙ ap (λ es. flat_map (share_at f (list_at (lists b.reached.items) c.args.number) es) order) c.as_slice-3.ensures.value))

pub returns-then-not-is_claimed_or_delivered-clause-refused : goal.returns-then-not-is_claimed_or_delivered-clause-refused
returns-then-not-is_claimed_or_delivered-clause-refused g c = grind (arith, common_steps)

pub returns-clause-claimed : goal.returns-clause-claimed
returns-clause-claimed g c = grind (arith, common_steps)
