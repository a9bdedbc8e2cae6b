-- Imports by the ranks of their modules in the order of names.
use Rattle.std.proofs.Common.{◌≡◌, ℕ, ◌<◌, List, [], length, get_or, map, Some, sym, ap, ◌∙◌, arith, subst}
use Rattle.std.specs.Prelude.{Contains, slice_get, ◌↔◌}
use Rattle.std.specs.List.{IsDistinct}
use Rattle.std.specs.Str.{bytes_eq}
use Rattle.std.proofs.lemmas.List.{get_or-map, length-map}
use Rattle.std.proofs.lemmas.List.Elements.{All-contains, Contains-get_or}
use Rattle.std.proofs.lemmas.List.Sorted.{Contains-permutation, length_permutation}
use Rattle.std.proofs.lemmas.Option.{get_or_from_slice_get, slice_get_within, slice_get-get_or}
use Rattle.digraph.specs.declared.edge.Edge.{Edge}
use Rattle.digraph.specs.Chains.{IsAcyclic}
use Rattle.digraph.specs.Cycle.{IsCanonicalCycle}
use Rattle.digraph.specs.Edges.{AreBetween, Leads}
use Rattle.digraph.specs.Ranks.{by_ranks, AreRanks}
use Rattle.digraph.proofs.Members.{from_map, in_map}
use Rattle.digraph.proofs.Names.{ascending_apart}
use Rattle.digraph.proofs.SameGraphs.{names_as}
use Rattle.ob_imports.specs.Files.{File, Imports}
use Rattle.ob_imports.specs.Names.{names_by, IsByName, LeadsBy}
use Rattle.ob_imports.specs.Numbering.{index_or_len, AreEdgesOf}
use Rattle.ob_imports.specs.Outcomes.{IsCycleOf}
use Rattle.ob_imports.proofs.ByName.{acyclic_over}
use Rattle.ob_imports.proofs.Places.{place_is}

-- distinct names have one index each
one_place : (names : List (List ℕ)) (v w : ℕ) → IsDistinct bytes_eq names → v < length names → w < length names → get_or names v [] ≡ get_or names w [] → v ≡ w
one_place names v w once lv lw e =
    sym (place_is names (get_or names v []) v once (slice_get-get_or names v [] lv)) ∙ ap (index_or_len names) e ∙ place_is names (get_or names w []) w once (slice_get-get_or names w [] lw)

module _ (names : List (List ℕ)) (order : List ℕ) (is : IsByName names order) (once : IsDistinct bytes_eq names) where
  pub order_long : length order ≡ length names
  order_long = let a = length_permutation names (names_by names order) is.same in let b = length-map order (λ v. get_or names v []) in omega arith

  -- the name at an index of the order
  name_there : (r : ℕ) → r < length order → get_or (names_by names order) r [] ≡ get_or names (get_or order r 0) []
  name_there r l = get_or-map (λ v. get_or names v []) order r 0 [] l

  pub has_node : (v : ℕ) → v < length names → Contains order v
  has_node v l =
      let there : Contains (names_by names order) (get_or names v []) = Contains-permutation names (names_by names order) (get_or names v []) is.same (Contains-get_or names v [] l) in
      let (w, has, e) = from_map (λ u. get_or names u []) order (get_or names v []) there in
      let lw : w < length names = All-contains (λ u. u < length names) order w is.within has in
      subst (Contains order) (one_place names w v once lw l e) has

  one_rank : (r s : ℕ) → r < length order → s < length order → get_or order r 0 ≡ get_or order s 0 → r ≡ s
  one_rank r s lr ls e =
      let long = length-map order (λ v. get_or names v []) in
      one_place (names_by names order) r s (ascending_apart (names_by names order) is.ascend) (omega arith) (omega arith)
      (name_there r lr ∙ ap (λ (v : ℕ). get_or names v []) e ∙ sym (name_there s ls))

  module _ (ranks : List ℕ) (are : AreRanks order ranks) (pairs others : List Edge) (between : AreBetween pairs (length names))
      (same : (p : Edge) → Contains others p ↔ Contains (map (by_ranks ranks) pairs) p) where
    to_others : (v w : ℕ) → Leads pairs v w → Leads others (get_or ranks v 0) (get_or ranks w 0)
    to_others v w h = (same (record { from = get_or ranks v 0; to = get_or ranks w 0 })).1 (in_map (by_ranks ranks) pairs (record { from = v; to = w }) h)

    from_others : (q : Edge) → Contains others q → (q.from < length order) × (q.to < length order) × Leads pairs (get_or order q.from 0) (get_or order q.to 0)
    from_others q h =
        let (p, has, e) = from_map (by_ranks ranks) pairs q ((same q).0 h) in
        let b = between p has in
        let from = are.places p.from (has_node p.from b.0) in
        let to = are.places p.to (has_node p.to b.1) in
        let e_from : get_or ranks p.from 0 ≡ q.from = ap (λ (x : Edge). x.from) e in
        let e_to : get_or ranks p.to 0 ≡ q.to = ap (λ (x : Edge). x.to) e in
        let at_from : p.from ≡ get_or order q.from 0 = sym from.1 ∙ ap (λ (r : ℕ). get_or order r 0) e_from in
        let at_to : p.to ≡ get_or order q.to 0 = sym to.1 ∙ ap (λ (r : ℕ). get_or order r 0) e_to in
        let pair : p ≡ record { from = get_or order q.from 0; to = get_or order q.to 0 } = λ k. record { from = at_from k; to = at_to k } in
        (subst (λ (r : ℕ). r < length order) e_from from.0, subst (λ (r : ℕ). r < length order) e_to to.0, subst (Contains pairs) pair has)

    pub others_between : AreBetween others (length order)
    others_between q h = let f = from_others q h in (f.0, f.1)

    pub others_acyclic : IsAcyclic (Leads others) → IsAcyclic (Leads pairs)
    others_acyclic = acyclic_over (Leads pairs) (Leads others) (λ v. get_or ranks v 0) to_others

    module _ (files : List File) (led : AreEdgesOf files names pairs) where
      resolve_imported_name : (r : ℕ) (m : List ℕ) → r < length order → slice_get names (get_or order r 0) ≡ Some m → slice_get (names_by names order) r ≡ Some m
      resolve_imported_name r m l at =
          let long = length-map order (λ v. get_or names v []) in
          let here : get_or (names_by names order) r [] ≡ m = name_there r l ∙ get_or_from_slice_get names (get_or order r 0) m [] at in
          slice_get-get_or (names_by names order) r [] (omega arith) ∙ ap (λ (n : List ℕ). Some n) here

      resolve_type_name : (r : ℕ) (m : List ℕ) → slice_get (names_by names order) r ≡ Some m → (r < length order) × (slice_get names (get_or order r 0) ≡ Some m)
      resolve_type_name r m at =
          let long = length-map order (λ v. get_or names v []) in
          let inside : r < length (names_by names order) = slice_get_within (names_by names order) r m at in
          let l : r < length order = omega arith in
          let here : get_or names (get_or order r 0) [] ≡ m = sym (name_there r l) ∙ get_or_from_slice_get (names_by names order) r m [] at in
          (l, slice_get-get_or names (get_or order r 0) [] (is.within r 0 l) ∙ ap (λ (n : List ℕ). Some n) here)

      rank_again : (r : ℕ) → r < length order → get_or ranks (get_or order r 0) 0 ≡ r
      rank_again r l = let p = are.places (get_or order r 0) (Contains-get_or order r 0 l) in one_rank (get_or ranks (get_or order r 0) 0) r p.0 l p.1

      others_led : (r s : ℕ) → Leads others r s ↔ LeadsBy (Imports files) (names_by names order) r s
      others_led r s = (
        λ h. (
            let (lr, ls, leads) = from_others (record { from = r; to = s }) h in
            let (m, n, at_v, at_w, imports) = (led (get_or order r 0) (get_or order s 0)).0 leads in
            (m, n, resolve_imported_name r m lr at_v, resolve_imported_name s n ls at_w, imports)),
        λ (m, n, at_r, at_s, imports). (
            let (lr, at_v) = resolve_type_name r m at_r in
            let (ls, at_w) = resolve_type_name s n at_s in
            let leads = to_others (get_or order r 0) (get_or order s 0) ((led (get_or order r 0) (get_or order s 0)).1 (m, n, at_v, at_w, imports)) in
            subst (λ (x : ℕ). Leads others x s) (rank_again r lr) (subst (λ (y : ℕ). Leads others (get_or ranks (get_or order r 0) 0) y) (rank_again s ls) leads)),
      )

      pub others_cycle : (cycle : List ℕ) (named : List (List ℕ)) → IsCanonicalCycle (Leads others) cycle → named ≡ map (λ r. get_or (names_by names order) r []) cycle → IsCycleOf files names named
      others_cycle cycle named c are_names = record {
        order = names_by names order;
        same = is.same;
        ascend = is.ascend;
        cycle = cycle;
        is_cycle = names_as (Leads others) (LeadsBy (Imports files) (names_by names order)) others_led cycle c;
        are_names = are_names;
      }
