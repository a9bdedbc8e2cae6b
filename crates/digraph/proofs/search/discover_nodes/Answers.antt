-- The nodes, one by one.
use Rattle.std.proofs.Common.{◌≡◌, ℕ, ◌<◌, ◌+◌, ◌⊎◌, ◌∙◌, ◌++◌, [], ◌∷◌, set, List, Option, Some, None, true, false, inl, inr, length, get_or, take, sym, ap, subst, arith, append_assoc}
use Rattle.std.specs.Prelude.{unwrap_or}
use Rattle.std.specs.Global.{Vec}
use Rattle.std.proofs.lemmas.List.{append-nil, take_all, take_more}
use Rattle.digraph.specs.Marks.{marked}
use Rattle.digraph.specs.Search.{parent_of, AreDiscovered}
use Rattle.digraph.proofs.Parents.{above_before, discovered_more, discovered_none, discovered_same, none_if, some_if}
use Rattle.digraph.proofs.search.discover_nodes.Goals.{then-is_none+then-not-is_marked+in_ok-push, else-is_none, else-is_none-via-then-is_none+else-not-is_marked, else-is_none-via-else-is_none}
use Rattle.digraph.proofs.search.discover_nodes.Goals as goal

pub loop-node-init : goal.loop-node-init
loop-node-init c = ([], sym (append-nil c.args.queue.now.items), discovered_none c.args.barrier.now (λ v. unwrap_or c.args.parent v) c.args.parents.now.items)

pub loop-node-preserved : goal.loop-node-preserved
loop-node-preserved c =
    let nodes = c.args.nodes.now in
    let barrier = c.args.barrier.now in
    let i = c.loop-node.node-index in
    let n = get_or nodes i 0 in
    let given : ℕ → ℕ = λ v. unwrap_or c.args.parent v in
    let old = c.args.parents.now.items in
    let now = c.loop-node.parents.items in
    let (found, queued, are) = c.loop-node.invariant in
    let more : take (i + 1) nodes ≡ take i nodes ++ n ∷ [] = take_more nodes i 0 c.loop-node-test.true in
    let here : c.parent_at.result ≡ parent_of now n = c.parent_at.ensures ∙ ap (λ (ps : List (Option ℕ)). parent_of ps n) c.as_slice.ensures.value in
    elim c.if-is_none.branch [
      | then-is_none+then-not-is_marked+in_ok-push w ↦
          let none : parent_of now n ≡ None = sym here ∙ none_if c.parent_at.result w.if-is_none.ensures in
          let unmarked : marked barrier n ≡ false = sym w.is_marked.ensures ∙ w.if-not-is_marked.true in
          let within : n < length now = (let ok = c.args.parents.now.ok in let size = are.size in let low = c.requires.within i 0 c.loop-node-test.true in omega arith) in
          let new : c.if-is_none.parents.items ≡ set now n (Some (given n)) =
          ap (λ (v : Vec (Option ℕ)). v.items) w.parents-is ∙ ap (λ (u : ℕ). set now n (Some u)) w.unwrap_or.ensures in
          let longer : c.if-is_none.queue.items ≡ c.args.queue.now.items ++ (found ++ n ∷ []) =
          ap (λ (v : Vec ℕ). v.items) w.queue-is ∙ w.in_ok-push.ensures.items ∙ ap (λ (q : List ℕ). q ++ n ∷ []) queued ∙ append_assoc c.args.queue.now.items found (n ∷ []) in (
            found ++ n ∷ [],
            longer,
            subst (λ (ns : List ℕ). AreDiscovered ns barrier given old c.if-is_none.parents.items (found ++ n ∷ [])) (sym more)
                (subst (λ (ps : List (Option ℕ)). AreDiscovered (take i nodes ++ n ∷ []) barrier given old ps (found ++ n ∷ [])) (sym new)
                (discovered_more (take i nodes) barrier given old now found are n none unmarked within (λ v has. above_before nodes i v c.requires.ascending c.loop-node-test.true has))),
          )
      | else-is_none w ↦
          let reason : (marked barrier n ≡ true) ⊎ ((u : ℕ) × (parent_of now n ≡ Some u)) = elim w.else-is_none.branch [
            | else-is_none-via-then-is_none+else-not-is_marked w' ↦ inl (sym w'.is_marked.ensures ∙ w'.if-not-is_marked.false)
            | else-is_none-via-else-is_none w' ↦ (let some = some_if c.parent_at.result w'.if-is_none.ensures in inr (some.0, sym here ∙ some.1))
          ] in
          let same : c.if-is_none.parents.items ≡ now = ap (λ (v : Vec (Option ℕ)). v.items) w.parents-is in (
            found,
            ap (λ (v : Vec ℕ). v.items) w.queue-is ∙ queued,
            subst (λ (ns : List ℕ). AreDiscovered ns barrier given old c.if-is_none.parents.items found) (sym more)
                (subst (λ (ps : List (Option ℕ)). AreDiscovered (take i nodes ++ n ∷ []) barrier given old ps found) (sym same)
                (discovered_same (take i nodes) barrier given old now found are n reason)),
          )
    ]

pub returns : goal.returns
returns c =
    let nodes = c.args.nodes.now in
    let (found, queued, are) = c.loop-node.invariant in (
      found,
      queued,
      subst (λ (ns : List ℕ). AreDiscovered ns c.args.barrier.now (λ v. unwrap_or c.args.parent v) c.args.parents.now.items c.loop-node.parents.items found)
          (take_all c.loop-node.node-index nodes c.loop-node-test.false) are,
    )
