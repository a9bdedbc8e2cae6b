-- The three cases of an inspection of a node.
use Rattle.std.proofs.Common.{◌≡◌, ℕ, ◌<◌, ◌≤◌, List, Bool, true, false, length, sym, ap, ◌∙◌, subst, arith}
use Rattle.std.specs.Prelude.{slice_set}
use Rattle.digraph.specs.Marks.{ArePassed, LeadsToMarked, IsPruning, StartsFrom, marked, index_at, work_left}
use Rattle.digraph.specs.Incoming.{AreDependents}
use Rattle.digraph.proofs.Settling.{marked_below, read_place, settling_unmarked, settling_placed, settling_without, work_less}
use Rattle.digraph.proofs.core_nodes.CycleCore.recheck_node.Goals as goal

pub returns-then-not-is_marked-clause-settling : goal.returns-then-not-is_marked-clause-settling
returns-then-not-is_marked-clause-settling c =
    let marks = c.args.self.now.marks.items in
    let off : marked marks c.args.node ≡ false = ap (λ (m : List Bool). marked m c.args.node) (sym c.as_slice.ensures.value) ∙ sym c.is_marked.ensures ∙ c.if-not-is_marked.true in
    settling_unmarked c.args.edges.now c.args.self.now.marks.len marks c.args.self.now.places.items c.args.again.now.items c.args.node c.requires.settling off

pub returns-in-Some-clause-settling : goal.returns-in-Some-clause-settling
returns-in-Some-clause-settling c =
    let edges = c.args.edges.now in
    let marks = c.args.self.now.marks.items in
    let places = c.args.self.now.places.items in
    let v = c.args.node in
    let p = c.in-Some.place in
    let s = c.requires.settling in
    let on : marked marks v ≡ true = ap (λ (m : List Bool). marked m v) (sym c.as_slice.ensures.value) ∙ sym c.is_marked.ensures ∙ c.if-not-is_marked.false in
    let in_marks : v < length marks = marked_below marks v on in
    let here : v < length places = (let e = s.size in let f = s.placed in omega arith) in
    let start : c.index-start.result.now ≡ index_at places v = read_place places v c.index-start.result.now c.index-start.ensures here in
    settling_placed edges c.args.self.now.marks.len marks places c.args.again.now.items v p s on
    (subst (λ (n : ℕ). n ≤ p) start c.in-Some.ensures.after)
    (subst (λ (m : List Bool). LeadsToMarked edges m v p) c.as_slice-2.ensures.value c.in-Some.ensures.leads)
    (subst (λ (n : ℕ). ArePassed edges marks v n p) start (subst (λ (m : List Bool). ArePassed edges m v c.index-start.result.now p) c.as_slice-2.ensures.value c.in-Some.ensures.passed))

pub returns-in_ok-append_dependents-in-None-clause-settling : goal.returns-in_ok-append_dependents-in-None-clause-settling
returns-in_ok-append_dependents-in-None-clause-settling c =
    let edges = c.args.edges.now in
    let marks = c.args.self.now.marks.items in
    let places = c.args.self.now.places.items in
    let v = c.args.node in
    let s = c.requires.settling in
    let on : marked marks v ≡ true = ap (λ (m : List Bool). marked m v) (sym c.as_slice.ensures.value) ∙ sym c.is_marked.ensures ∙ c.if-not-is_marked.false in
    let in_marks : v < length marks = marked_below marks v on in
    let here : v < length places = (let e = s.size in let f = s.placed in omega arith) in
    let start : c.index-start.result.now ≡ index_at places v = read_place places v c.index-start.result.now c.index-start.ensures here in
    let (row, waiting, new) = c.in_ok-append_dependents-in-None.ensures in
    let are = subst (λ (p : List ℕ). AreDependents edges p v row) c.deref.ensures.value waiting in
    let none : ArePassed edges marks v (index_at places v) (length edges) =
    subst (λ (n : ℕ). ArePassed edges marks v n (length edges)) start
    (subst (λ (m : List Bool). ArePassed edges m v c.index-start.result.now (length edges)) c.as_slice-2.ensures.value c.in-None.ensures.none) in
    subst (λ (a : List ℕ). IsPruning edges c.args.self.now.marks.len (slice_set marks v false) places a) (sym new)
    (settling_without edges c.args.self.now.marks.len marks places c.args.again.now.items row v s are on none)

pub returns-in_ok-append_dependents-in-None-clause-less : goal.returns-in_ok-append_dependents-in-None-clause-less
returns-in_ok-append_dependents-in-None-clause-less c =
    let edges = c.args.edges.now in
    let marks = c.args.self.now.marks.items in
    let v = c.args.node in
    let on : marked marks v ≡ true = ap (λ (m : List Bool). marked m v) (sym c.as_slice.ensures.value) ∙ sym c.is_marked.ensures ∙ c.if-not-is_marked.false in
    let (row, waiting, new) = c.in_ok-append_dependents-in-None.ensures in
    subst (λ (a : List ℕ). work_left edges (slice_set marks v false) a ≤ work_left edges marks c.args.again.now.items) (sym new)
    (work_less edges marks c.args.again.now.items row v on waiting.few)

pub index-start-requires : goal.index-start-requires
index-start-requires c =
    let marks = c.args.self.now.marks.items in
    let v = c.args.node in
    let s = c.requires.settling in
    let on : marked marks v ≡ true = ap (λ (m : List Bool). marked m v) (sym c.as_slice.ensures.value) ∙ sym c.is_marked.ensures ∙ c.if-not-is_marked.false in
    let in_marks : v < length marks = marked_below marks v on in
    omega (arith, in_marks, s.size, s.placed, c.args.self.now.places.ok.0)

pub find_edge_to_marked-requires-clause-start : goal.find_edge_to_marked-requires-clause-start
find_edge_to_marked-requires-clause-start c =
    let edges = c.args.edges.now in
    let places = c.args.self.now.places.items in
    let marks = c.args.self.now.marks.items in
    let v = c.args.node in
    let s = c.requires.settling in
    let on : marked marks v ≡ true = ap (λ (m : List Bool). marked m v) (sym c.as_slice.ensures.value) ∙ sym c.is_marked.ensures ∙ c.if-not-is_marked.false in
    let in_marks : v < length marks = marked_below marks v on in
    let here : v < length places = omega (arith, in_marks, s.size, s.placed) in
    let start : c.index-start.result.now ≡ index_at places v = read_place places v c.index-start.result.now c.index-start.ensures here in
    subst (StartsFrom edges v) (sym start) (s.starts v (omega (arith, in_marks, s.size)))

pub index_mut-requires : goal.index_mut-requires
index_mut-requires c =
    let marks = c.args.self.now.marks.items in
    let v = c.args.node in
    let s = c.requires.settling in
    let on : marked marks v ≡ true = ap (λ (m : List Bool). marked m v) (sym c.as_slice.ensures.value) ∙ sym c.is_marked.ensures ∙ c.if-not-is_marked.false in
    let in_marks : v < length marks = marked_below marks v on in
    omega (arith, in_marks, s.size, s.placed, c.args.self.now.places.ok.0)

pub index_mut-requires-in-None : goal.index_mut-requires-in-None
index_mut-requires-in-None c =
    let marks = c.args.self.now.marks.items in
    let v = c.args.node in
    let s = c.requires.settling in
    let on : marked marks v ≡ true = ap (λ (m : List Bool). marked m v) (sym c.as_slice.ensures.value) ∙ sym c.is_marked.ensures ∙ c.if-not-is_marked.false in
    let in_marks : v < length marks = marked_below marks v on in
    omega (arith, in_marks, c.args.self.now.marks.ok.0)
