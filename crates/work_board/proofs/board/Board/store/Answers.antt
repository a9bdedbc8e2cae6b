use Rattle.std.proofs.Common.{◌≡◌, ◌<◌, ◌≤◌, ◌+◌, ℕ, Bool, true, false, List, ◌++◌, length, take, drop, map, set, sym, ap, ◌∙◌, subst, arith}
use Rattle.std.specs.Prelude.{slice_index, Some}
use Rattle.std.proofs.lemmas.List.{length-set}
use Rattle.work_board.specs.declared.state.State.TheVariants.{Claimed, Delivered}
use Rattle.work_board.specs.Graphs.{lists, list_at, occurrences_in, Modules}
use Rattle.work_board.specs.Cores.{has_entry, is_claimed}
use Rattle.work_board.specs.Keeping.{state_after_delivery, state_at, taken, IsFit, IsValidBoard}
use Rattle.work_board.proofs.Claiming.{claimed_state}
use Rattle.work_board.proofs.Delivering.{claimed_same, counted, delivered_kept, fits}
use Rattle.work_board.proofs.Marking.{restored}
use Rattle.work_board.proofs.board.Board.store.Goals as goal

at_n : (g : _) (c : goal.After-importers_of g) → (c.args.number < length c.self.inside.states.items) × (state_at c.self.inside.states.items c.args.number ≡ Claimed)
at_n g c =
    let b = c.self.inside in
    let claimed = subst (λ core. is_claimed core c.args.number ≡ true) (sym c.self.view_is) c.requires.claimed in
    let none = subst (λ core. has_entry core.entries c.args.number ≡ false) (sym c.self.view_is) c.requires.none in
    claimed_state g.E.WorkEntry.is_of g.T.NamedTree.graph b.waiting.items b.states.items (lists b.reached.items) b.spare.items b.entries.items c.self.invariant.1 b.abandoned c.args.number claimed none

transposed : (g : _) (c : goal.After-importers_of g) (m : ℕ) → occurrences_in m c.importers_of.result.now ≡ occurrences_in c.args.number (list_at g.T.NamedTree.graph.imports m)
transposed g c m = c.importers_of.ensures.transposed m ∙ ap (λ (t : Modules). occurrences_in c.args.number (list_at t.imports m)) c.self.invariant.0

pub decrement_waiting-requires-clause-counted : goal.decrement_waiting-requires-clause-counted
decrement_waiting-requires-clause-counted g c = λ m lt.
    let b = c.self.inside in
    let at = at_n g c in
    let l = ap length c.as_mut_slice.ensures.value in
    let h = counted g.E.WorkEntry.is_of g.T.NamedTree.graph b.waiting.items b.states.items (lists b.reached.items) b.spare.items b.entries.items c.self.invariant.1 c.args.number c.args.entry at.0 at.1 c.importers_of.result.now (transposed g c) m (omega arith) in
    subst (λ ws. occurrences_in m c.importers_of.result.now ≤ slice_index ws m) (sym c.as_mut_slice.ensures.value) h

pub decrement_waiting-requires-clause-fits_state : goal.decrement_waiting-requires-clause-fits_state
decrement_waiting-requires-clause-fits_state g c = λ m lt.
    let b = c.self.inside in
    let at = at_n g c in
    let l = ap length c.as_mut_slice.ensures.value in
    let h = fits g.E.WorkEntry.is_of g.T.NamedTree.graph b.waiting.items b.states.items (lists b.reached.items) b.spare.items b.entries.items c.self.invariant.1 c.args.number c.args.entry at.0 at.1 m (omega arith) in
    subst (λ ss. IsFit (state_at ss m) (slice_index c.as_mut_slice.result.now m)) (sym c.as_mut_slice-2.ensures.value)
    (subst (λ ws. IsFit (state_at (set b.states.items c.args.number Delivered) m) (slice_index ws m)) (sym c.as_mut_slice.ensures.value) h)

w_size : (g : _) (c : goal.After-self-4-1 g) → length c.decrement_waiting.new.waiting ≡ length c.self.inside.waiting.items
w_size g c = c.decrement_waiting.auto.waiting ∙ ap length c.as_mut_slice.ensures.value

s_size : (g : _) (c : goal.After-self-4-1 g) → length c.decrement_waiting.new.states ≡ length c.self.inside.states.items
s_size g c = c.decrement_waiting.auto.states ∙ ap length c.as_mut_slice-2.ensures.value ∙ length-set c.self.inside.states.items c.args.number Delivered

counts : (g : _) (c : goal.After-self-4-1 g) (m : ℕ) → m < length c.self.inside.waiting.items → slice_index c.decrement_waiting.new.waiting m + occurrences_in m c.importers_of.result.now ≡ slice_index c.self.inside.waiting.items m
counts g c m lt =
    let l = ap length c.as_mut_slice.ensures.value in
    c.decrement_waiting.ensures.waiting m (omega arith) ∙ ap (λ ws. slice_index ws m) c.as_mut_slice.ensures.value

tells : (g : _) (c : goal.After-self-4-1 g) (m : ℕ) → m < length c.self.inside.waiting.items
    → state_at c.decrement_waiting.new.states m ≡ state_after_delivery (state_at (set c.self.inside.states.items c.args.number Delivered) m) (slice_index c.decrement_waiting.new.waiting m)
tells g c m lt =
    let l = ap length c.as_mut_slice.ensures.value in
    c.decrement_waiting.ensures.states m (omega arith) ∙ ap (λ ss. state_after_delivery (state_at ss m) (slice_index c.decrement_waiting.new.waiting m)) c.as_mut_slice-2.ensures.value

at_end : (g : _) (c : goal.After-self-4-1 g) → (c.args.number < length c.self.inside.states.items) × (state_at c.self.inside.states.items c.args.number ≡ Claimed)
at_end g c =
    let b = c.self.inside in
    let claimed = subst (λ core. is_claimed core c.args.number ≡ true) (sym c.self.view_is) c.requires.claimed in
    let none = subst (λ core. has_entry core.entries c.args.number ≡ false) (sym c.self.view_is) c.requires.none in
    claimed_state g.E.WorkEntry.is_of g.T.NamedTree.graph b.waiting.items b.states.items (lists b.reached.items) b.spare.items b.entries.items c.self.invariant.1 b.abandoned c.args.number claimed none

turned_end : (g : _) (c : goal.After-self-4-1 g) (m : ℕ) → occurrences_in m c.importers_of.result.now ≡ occurrences_in c.args.number (list_at g.T.NamedTree.graph.imports m)
turned_end g c m = c.importers_of.ensures.transposed m ∙ ap (λ (t : Modules). occurrences_in c.args.number (list_at t.imports m)) c.self.invariant.0

new_waiting : (g : _) (c : goal.After-self-4-1 g) → take c.self.inside.waiting.len (c.decrement_waiting.new.waiting ++ drop (length c.decrement_waiting.new.waiting) c.self.inside.waiting.items) ≡ c.decrement_waiting.new.waiting
new_waiting g c = restored c.self.inside.waiting.len c.decrement_waiting.new.waiting c.self.inside.waiting.items (w_size g c) c.self.inside.waiting.ok.0

new_states : (g : _) (c : goal.After-self-4-1 g)
    → take c.self.inside.states.len (c.decrement_waiting.new.states ++ drop (length c.decrement_waiting.new.states) (set c.self.inside.states.items c.args.number Delivered)) ≡ c.decrement_waiting.new.states
new_states g c =
    let old = c.self.inside.states in
    restored old.len c.decrement_waiting.new.states (set old.items c.args.number Delivered) (s_size g c ∙ sym (length-set old.items c.args.number Delivered))
    (old.ok.0 ∙ sym (length-set old.items c.args.number Delivered))

kept : (g : _) (c : goal.After-self-4-1 g)
    → IsValidBoard g.E.WorkEntry.is_of g.T.NamedTree.graph c.decrement_waiting.new.waiting c.decrement_waiting.new.states (lists c.self.inside.reached.items) c.self.inside.spare.items (set c.self.inside.entries.items c.args.number (Some c.args.entry))
kept g c =
    let b = c.self.inside in
    let at = at_end g c in
    delivered_kept g.E.WorkEntry.is_of g.T.NamedTree.graph b.waiting.items b.states.items (lists b.reached.items) b.spare.items b.entries.items c.self.invariant.1 c.args.number c.args.entry at.0 at.1
    c.decrement_waiting.new.waiting c.decrement_waiting.new.states c.importers_of.result.now
    (w_size g c) (s_size g c) (turned_end g c) (counts g c) (tells g c) c.requires.own

pub invariant_of-self : goal.invariant_of-self
invariant_of-self g c = (c.self.invariant.0, rw (new_waiting g c, new_states g c) (kept g c))

same_claimed : (g : _) (c : goal.After-self-4-1 g) → map taken c.decrement_waiting.new.states ≡ map taken c.self.inside.states.items
same_claimed g c =
    let b = c.self.inside in
    let at = at_end g c in
    claimed_same g.E.WorkEntry.is_of g.T.NamedTree.graph b.waiting.items b.states.items (lists b.reached.items) b.spare.items b.entries.items c.self.invariant.1 c.args.number c.args.entry at.0 at.1
    c.decrement_waiting.new.waiting c.decrement_waiting.new.states (s_size g c) (tells g c)

pub returns : goal.returns
returns g c =
    let e = ap (map taken) (new_states g c) ∙ same_claimed g c in
    rw (← c.self.view_is) (ap (λ (cs : List Bool). record { entries = set c.self.inside.entries.items c.args.number (Some c.args.entry); claimed = cs; abandoned = c.self.inside.abandoned }) e)
