-- The pins of the subnetwork satisfy the invariant of pins.
use Rattle.std.proofs.Common.{◌≡◌, ℕ, ◌≤◌, Bool, true, false, cond, not, List, [], ◌∷◌, length, map, filter, get_or, refl, sym, ap, ◌∙◌, subst, arith, inl, inr}
use Rattle.std.specs.Prelude.{All, Contains, find, is_some}
use Rattle.std.proofs.lemmas.Bool.{and_from, and_parts, both_ways, cases_Bool}
use Rattle.std.proofs.lemmas.List.{length-map}
use Rattle.std.proofs.lemmas.List.Elements.{All-contains, Contains-get_or}
use Rattle.std.proofs.lemmas.List.Filters.{length-filter_both}
use Rattle.digraph.proofs.Members.{from_map, in_filter, in_map, of_filter}
use Rattle.cut_net.specs.declared.priced.Priced.{Priced}
use Rattle.cut_net.specs.Network.{Network}
use Rattle.cut_net.specs.Cuts.{IsSetOf, have_equal_ends}
use Rattle.cut_net.specs.Lines.{IsImport}
use Rattle.cut_net.specs.Pins.{is_pinned, unpinned_weight, ArePins}
use Rattle.cut_net.proofs.Ends.{same_from, same_true}
use Rattle.cut_net.proofs.ListSums.{sum_by-mono, sum_by-same}
use Rattle.residual_graph.specs.Graphs.{is_flagged}
use Rattle.cut_part.specs.Subnetworks.{are_ends_in, IsBetween}
use Rattle.cut_part.specs.Marks.{with_ends, IsNumbering}
use Rattle.cut_part.specs.Renumbering.{renumbered}
use Rattle.cut_part.proofs.Subnetworks.{cond_le, sum_by-filter}
use Rattle.cut_part.proofs.Parts.{both_marked, lines_ascend, small}
use Rattle.cut_part.proofs.Sums.{sum_by-map}

-- a property of each member holds of all
all_members : (P : Priced → Type 0) (lines : List Priced) → ((i : Priced) → Contains lines i → P i) → All P lines
all_members P lines each k d h = each (get_or lines k d) (Contains-get_or lines k d h)

module _ (net : Network) (a b : ℕ) (marks : List Bool) (numbers new_numbers : List ℕ) (size : length marks ≡ length net.names)
    (between : IsSetOf (is_flagged marks) (IsBetween net a b)) (is : IsNumbering (with_ends marks a b) numbers new_numbers) where
  abbrev part : Network
  part = small net a b marks numbers new_numbers size between is

  abbrev place : Priced → Priced
  place = renumbered (λ m. get_or new_numbers m 0)

  same_module : (m n : ℕ) → is_flagged (with_ends marks a b) m ≡ true → is_flagged (with_ends marks a b) n ≡ true → get_or new_numbers m 0 ≡ get_or new_numbers n 0 → m ≡ n
  same_module m n m_in n_in e = sym (is.number_is m m_in) ∙ ap (λ k. get_or numbers k 0) e ∙ is.number_is n n_in

  -- two imports between flagged modules have the same ends where they have the same indices
  same_placed : (i p : Priced) → are_ends_in (is_flagged marks) i ≡ true → are_ends_in (is_flagged marks) p ≡ true → have_equal_ends (place i) (place p) ≡ true → have_equal_ends i p ≡ true
  same_placed i p i_in p_in e =
      let ends = same_from (place i) (place p) e in
      let i_marked = both_marked net a b marks numbers new_numbers size between is i i_in in
      let p_marked = both_marked net a b marks numbers new_numbers size between is p p_in in
      same_true i p (record { from = same_module i.from p.from i_marked.0 p_marked.0 ends.from; to = same_module i.to p.to i_marked.1 p_marked.1 ends.to })

  placed_same : (i p : Priced) → have_equal_ends i p ≡ true → have_equal_ends (place i) (place p) ≡ true
  placed_same i p e =
      let ends = same_from i p e in
      same_true (place i) (place p) (record { from = ap (λ m. get_or new_numbers m 0) ends.from; to = ap (λ m. get_or new_numbers m 0) ends.to })

  inside_same : (i p : Priced) → are_ends_in (is_flagged marks) i ≡ true → have_equal_ends i p ≡ true → are_ends_in (is_flagged marks) p ≡ true
  inside_same i p i_in e =
      let ends = same_from i p e in
      let reached_flags = and_parts (is_flagged marks i.from) (is_flagged marks i.to) i_in in
      and_from _ _ (sym (ap (is_flagged marks) ends.from) ∙ reached_flags.0) (sym (ap (is_flagged marks) ends.to) ∙ reached_flags.1)

  pin_placed : (pins : List Priced) (i : Priced) → are_ends_in (is_flagged marks) i ≡ true →
      is_some (find (have_equal_ends (place i)) (map place (filter (are_ends_in (is_flagged marks)) pins))) ≡ is_some (find (have_equal_ends i) pins)
  pin_placed [] i i_in = refl
  pin_placed (p ∷ pins) i i_in =
      elim (cases_Bool (are_ends_in (is_flagged marks) p)) [
        | inl p_in ↦ elim (cases_Bool (have_equal_ends i p)) [
          | inl t ↦ let u = placed_same i p t in rw (p_in, u, t) refl
          | inr f ↦
              let u : have_equal_ends (place i) (place p) ≡ false = not_so (have_equal_ends (place i) (place p)) (λ t. both_ways (have_equal_ends i p) f (same_placed i p i_in p_in t)) in
              rw (p_in, u, f) (pin_placed pins i i_in)
        ]
        | inr p_out ↦
            let f : have_equal_ends i p ≡ false = not_so (have_equal_ends i p) (λ t. both_ways (are_ends_in (is_flagged marks) p) p_out (inside_same i p i_in t)) in
            rw (p_out, f) (pin_placed pins i i_in)
      ]
    where
      not_so : (t : Bool) → (t ≡ true → ⊥) → t ≡ false
      not_so true none = absurd (none refl)
      not_so false none = refl

  -- a pin of the subnetwork is one of the whole network
  pinned_placed : (i : Priced) → Contains (filter (are_ends_in (is_flagged marks)) net.imports) i → is_pinned part (place i) ≡ is_pinned net i
  pinned_placed i c = pin_placed net.pins i (of_filter (are_ends_in (is_flagged marks)) net.imports i c).1

  placed_known : ((p : Priced) → Contains net.pins p → IsImport net p) → (p : Priced) → Contains part.pins p → IsImport part p
  placed_known known p c =
      let was = from_map place (filter (are_ends_in (is_flagged marks)) net.pins) p c in
      let pin = of_filter (are_ends_in (is_flagged marks)) net.pins was.0 was.1 in
      let import = known was.0 pin.0 in
      let reached_flags = and_parts (is_flagged marks was.0.from) (is_flagged marks was.0.to) pin.1 in
      let import_in : are_ends_in (is_flagged marks) import.0 ≡ true = and_from _ _ (ap (is_flagged marks) import.2 ∙ reached_flags.0) (ap (is_flagged marks) import.3 ∙ reached_flags.1) in
      let kept = in_map place (filter (are_ends_in (is_flagged marks)) net.imports) import.0 (in_filter (are_ends_in (is_flagged marks)) net.imports import.0 import_in import.1) in (
        place import.0,
        kept,
        ap (λ m. get_or new_numbers m 0) import.2 ∙ ap (λ (j : Priced). j.from) was.2,
        ap (λ m. get_or new_numbers m 0) import.3 ∙ ap (λ (j : Priced). j.to) was.2,
        tt,
      )

  light_part : unpinned_weight part ≤ unpinned_weight net
  light_part =
      let over = sum_by-map (λ (i : Priced). cond (is_pinned part i) 0 i.amount) place (filter (are_ends_in (is_flagged marks)) net.imports) in
      let same = sum_by-same (λ (i : Priced). cond (is_pinned part (place i)) 0 i.amount) (λ i. cond (is_pinned net i) 0 i.amount) (filter (are_ends_in (is_flagged marks)) net.imports)
      (λ i c. ap (λ t. cond t 0 i.amount) (pinned_placed i c)) in
      let kept = sum_by-filter (λ (i : Priced). cond (is_pinned net i) 0 i.amount) (are_ends_in (is_flagged marks)) net.imports in
      let le = sum_by-mono (λ (i : Priced). cond (are_ends_in (is_flagged marks) i) (cond (is_pinned net i) 0 i.amount) 0) (λ (i : Priced). cond (is_pinned net i) 0 i.amount) net.imports
      (λ i c. cond_le (are_ends_in (is_flagged marks) i) (cond (is_pinned net i) 0 i.amount) (cond (is_pinned net i) 0 i.amount) (λ _. omega arith)) in
      omega arith

  few_pins : length part.pins ≤ length net.pins
  few_pins =
      let long = length-map (filter (are_ends_in (is_flagged marks)) net.pins) place in
      let fewer = length-filter_both (are_ends_in (is_flagged marks)) (λ i. not (are_ends_in (is_flagged marks) i)) (λ i. refl) net.pins in
      omega arith

  pub are_pins : ArePins net → ArePins part
  are_pins pins = record {
    in_order = record {
      known = all_members (IsImport part) part.pins (placed_known (λ p c. All-contains (IsImport net) net.pins p pins.in_order.known c));
      ascending = lines_ascend net a b marks numbers new_numbers size between is net.pins pins.in_order.ascending;
    };
    heavy = λ i c t.
        let was = from_map place (filter (are_ends_in (is_flagged marks)) net.imports) i c in
        let of = of_filter (are_ends_in (is_flagged marks)) net.imports was.0 was.1 in
        let present : is_pinned part (place was.0) ≡ true = subst (λ (j : Priced). is_pinned part j ≡ true) (sym was.2) t in
        sym (ap (λ (j : Priced). j.amount) was.2) ∙ pins.heavy was.0 of.0 (sym (pinned_placed was.0 was.1) ∙ present);
    light = λ some.
        let few = few_pins in
        let le = light_part in
        let most = pins.light (omega arith) in
        omega arith;
  }
