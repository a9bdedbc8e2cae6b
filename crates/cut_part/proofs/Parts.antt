-- The subnetwork as a network, and its properties as properties of the whole network.
use Rattle.std.proofs.Common.{◌≡◌, ℕ, suc, ◌≤◌, ◌<◌, ◌==◌, Bool, true, false, cond, not, List, [], ◌∷◌, length, map, filter, get_or, set, refl, sym, ap, ◌∙◌, subst, arith, sum_by, inl, inr, get_or-set_same, get_or-set_other}
use Rattle.std.specs.Prelude.{All, Contains}
use Rattle.std.specs.Cmp.Lexicographic.{slice_cmp}
use Rattle.std.specs.List.Sorted.{IsStrictlySortedBy}
use Rattle.std.specs.Ordering.{nat_cmp}
use Rattle.std.specs.declared.cmp.Ordering.TheVariants.{Less}
use Rattle.std.proofs.lemmas.Bool.{and_parts, cases_eq, cases_lt}
use Rattle.std.proofs.lemmas.List.{get_or-map, get_or_default, length-map, length-set}
use Rattle.std.proofs.lemmas.List.Elements.{Contains-get_or, recursion_from_All}
use Rattle.std.proofs.lemmas.List.Kept.{AllPairs-filter}
use Rattle.std.proofs.lemmas.List.Filters.{length-filter_both}
use Rattle.std.proofs.lemmas.List.Sums.{sum_by-cons}
use Rattle.std.proofs.lemmas.Map.Keys.{Less-from_sorted}
use Rattle.digraph.proofs.Members.{from_map, of_filter}
use Rattle.digraph.proofs.SpreadMarks.{mark_within}
use Rattle.cut_net.specs.declared.priced.Priced.{Priced}
use Rattle.cut_net.specs.Network.{Network, name_of, missing_item}
use Rattle.cut_net.specs.WellFormed.{AreBetween, AreNamesInOrder, IsAcyclic, IsNetwork}
use Rattle.cut_net.specs.Cuts.{Any, IsSetOf, AreReported, Chain, IsChain, IsFlow, Imports}
use Rattle.cut_net.specs.Lines.{IsAscending, comes_before}
use Rattle.cut_net.proofs.Ends.{before_from, before_true}
use Rattle.cut_net.proofs.ListSums.{here, present, sum_by-mono, sum_by-same}
use Rattle.residual_graph.specs.Graphs.{is_flagged}
use Rattle.cut_part.specs.Subnetworks.{are_ends_in, part_of, IsBetween}
use Rattle.cut_part.specs.Marks.{flow_in_net, reported_in_net, with_ends, IsNumbering, IsSubnetwork}
use Rattle.cut_part.specs.CapacityReduction.{IsMaxFlow}
use Rattle.cut_part.specs.Renumbering.{flow_renumbered, renumbered, IsRenumbered}
use Rattle.cut_part.proofs.Subnetworks.{cond_le, flow_of_part, greatest_of_part, has_chain, chain_there, has_chain-true, has_chain-false, onward, sum_by-filter}
use Rattle.cut_part.proofs.PrintedBetween.{same_printed}
use Rattle.cut_part.proofs.Renumbering.{flow_up_is, greatest_up_is, printed_up_is}
use Rattle.cut_part.proofs.Sums.{sum_by-map}

-- a module that was flagged is flagged still, and both ends are
set_still : (marks : List Bool) (k m : ℕ) → is_flagged marks m ≡ true → is_flagged (set marks k true) m ≡ true
set_still marks k m t =
    let in_marks = mark_within marks m t in
    elim (cases_eq m k) [
      | inl e ↦ rw e (get_or-set_same marks k true false (omega arith))
      | inr ne ↦ get_or-set_other marks k m true false ne ∙ t
    ]

pub still_marked : (marks : List Bool) (a b m : ℕ) → is_flagged marks m ≡ true → is_flagged (with_ends marks a b) m ≡ true
still_marked marks a b m t = set_still (set marks a true) b m (set_still marks a m t)

pub start_marked : (marks : List Bool) (a b : ℕ) → a < length marks → is_flagged (with_ends marks a b) a ≡ true
start_marked marks a b a_in = set_still (set marks a true) b a (get_or-set_same marks a true false a_in)

pub end_marked : (marks : List Bool) (a b : ℕ) → b < length marks → is_flagged (with_ends marks a b) b ≡ true
end_marked marks a b b_in = get_or-set_same (set marks a true) b true false (let long = length-set marks a true in omega arith)

map_same : (f g : Priced → Priced) (xs : List Priced) → ((i : Priced) → Contains xs i → f (g i) ≡ i) → map f (map g xs) ≡ xs
map_same f g [] same = refl
map_same f g (x ∷ xs) same = ap (λ y. y ∷ map f (map g xs)) (same x (here x xs)) ∙ ap (λ (ys : List Priced). x ∷ ys) (map_same f g xs (λ i c. same i (present x xs i c)))

-- names by ascending numbers ascend
names_of_ascending : (net : Network) → AreNamesInOrder net.names → (numbers : List ℕ) → ((x : ℕ) → x < length numbers → get_or numbers x 0 < length net.names) →
    ((x y : ℕ) → x < y → y < length numbers → get_or numbers x 0 < get_or numbers y 0) → AreNamesInOrder (map (name_of net) numbers)
unfolding IsStrictlySortedBy
names_of_ascending net up [] low ascend = tt
names_of_ascending net up (m ∷ more) low ascend = (
  recursion_from_All (λ y. slice_cmp nat_cmp (name_of net m) y ≡ Less) (map (name_of net) more) (λ k d h.
      let long = length-map more (name_of net) in
      rw (get_or-map (name_of net) more k 0 d (omega arith))
      (Less-from_sorted (slice_cmp nat_cmp) net.names m (get_or more k 0) [] up (ascend 0 (suc k) (omega arith) (omega arith)) (low (suc k) (omega arith)))),
  names_of_ascending net up more (λ x h. low (suc x) (omega arith)) (λ x y less h. ascend (suc x) (suc y) (omega arith) (omega arith)),
)

module _ (net : Network) (a b : ℕ) (marks : List Bool) (numbers new_numbers : List ℕ) (size : length marks ≡ length net.names)
    (between : IsSetOf (is_flagged marks) (IsBetween net a b)) (is : IsNumbering (with_ends marks a b) numbers new_numbers) where
  -- the lines between flagged modules, by the indices of these
  abbrev pub small_lines : List Priced → List Priced
  small_lines lines = map (renumbered (λ m. get_or new_numbers m 0)) (filter (are_ends_in (is_flagged marks)) lines)

  abbrev pub small_names : List (List ℕ)
  small_names = map (name_of net) numbers

  -- the small network
  abbrev pub small : Network
  small = record { names = small_names; imports = small_lines net.imports; pins = small_lines net.pins }

  count_marks : length (with_ends marks a b) ≡ length net.names
  count_marks = let one = length-set marks a true in let two = length-set (set marks a true) b true in omega arith

  count_names : length small_names ≡ length numbers
  count_names = length-map numbers (name_of net)

  pub both_marked : (i : Priced) → are_ends_in (is_flagged marks) i ≡ true → (is_flagged (with_ends marks a b) i.from ≡ true) × (is_flagged (with_ends marks a b) i.to ≡ true)
  both_marked i t =
      let parts = and_parts (is_flagged marks i.from) (is_flagged marks i.to) t in
      (still_marked marks a b i.from parts.0, still_marked marks a b i.to parts.1)

  marked_ends : (lines : List Priced) (i : Priced) → Contains (filter (are_ends_in (is_flagged marks)) lines) i →
      (is_flagged (with_ends marks a b) i.from ≡ true) × (is_flagged (with_ends marks a b) i.to ≡ true)
  marked_ends lines i c = both_marked i (of_filter (are_ends_in (is_flagged marks)) lines i c).1

  pub lines_between : (lines : List Priced) → AreBetween (small_lines lines) (length small_names)
  lines_between lines i c =
      let was = from_map (renumbered (λ m. get_or new_numbers m 0)) (filter (are_ends_in (is_flagged marks)) lines) i c in
      let ends = marked_ends lines was.0 was.1 in
      let count = count_names in
      let low = is.place_low was.0.from ends.0 in
      let high = is.place_low was.0.to ends.1 in
      subst (λ (j : Priced). (j.from < length small_names) × (j.to < length small_names)) was.2 (omega arith, omega arith)

  -- by the numbers of the whole network they are what they were
  lines_back : (lines : List Priced) → map (renumbered (λ m. get_or numbers m 0)) (small_lines lines) ≡ filter (are_ends_in (is_flagged marks)) lines
  lines_back lines = map_same (renumbered (λ m. get_or numbers m 0)) (renumbered (λ m. get_or new_numbers m 0)) (filter (are_ends_in (is_flagged marks)) lines) (λ i c.
      let ends = marked_ends lines i c in
      rw (is.number_is i.from ends.0, is.number_is i.to ends.1) refl)

  is_renumbered : IsRenumbered (part_of net (is_flagged marks)) small (λ m. get_or numbers m 0) (λ m. get_or new_numbers m 0)
  is_renumbered = record {
    named = λ m h. let count = count_names in get_or-map (name_of net) numbers m 0 [] (omega arith);
    back_is = λ m h. let count = count_names in is.place_is m (omega arith);
    imports = sym (lines_back net.imports);
    pins = sym (lines_back net.pins);
    between = lines_between net.imports;
  }

  pub is_part : IsSubnetwork net a b marks numbers new_numbers small
  is_part = record { between = between; size = size; renumbering = is; count = count_names; renumbered = is_renumbered }

  pub numbers_low : All (λ m. m < length net.names) numbers
  numbers_low k d h =
      let all = count_marks in
      let low = is.low k h in
      rw (get_or_default numbers k d 0 h) (omega arith)

  -- the indices of flagged modules ascend
  places_ascend : (m n : ℕ) → is_flagged (with_ends marks a b) m ≡ true → is_flagged (with_ends marks a b) n ≡ true → m < n → get_or new_numbers m 0 < get_or new_numbers n 0
  places_ascend m n m_in n_in less =
      let at_m = is.number_is m m_in in
      let at_n = is.number_is n n_in in
      elim (cases_lt (get_or new_numbers m 0) (get_or new_numbers n 0)) [
        | inl below ↦ below
        | inr above ↦ elim (cases_eq (get_or new_numbers m 0) (get_or new_numbers n 0)) [
          | inl e ↦
              let same : m ≡ n = sym at_m ∙ ap (λ k. get_or numbers k 0) e ∙ at_n in
              absurd (omega arith)
          | inr ne ↦
              let m_low = is.place_low m m_in in
              let back = is.ascend (get_or new_numbers n 0) (get_or new_numbers m 0) (omega (arith, ne)) m_low in
              absurd (omega arith)
        ]
      ]

  renumbered_before : (lines : List Priced) (i j : Priced) → Contains (filter (are_ends_in (is_flagged marks)) lines) i → Contains (filter (are_ends_in (is_flagged marks)) lines) j → comes_before i j ≡ true →
      comes_before (renumbered (λ m. get_or new_numbers m 0) i) (renumbered (λ m. get_or new_numbers m 0) j) ≡ true
  renumbered_before lines i j c d before =
      let i_ends = marked_ends lines i c in
      let j_ends = marked_ends lines j d in
      before_true (renumbered (λ m. get_or new_numbers m 0) i) (renumbered (λ m. get_or new_numbers m 0) j) (elim (before_from i j before).by [
        | inl less ↦ record { by = inl (places_ascend i.from j.from i_ends.0 j_ends.0 less) }
        | inr (e, less) ↦ record { by = inr (ap (λ m. get_or new_numbers m 0) e, places_ascend i.to j.to i_ends.1 j_ends.1 less) }
      ])

  pub lines_ascend : (lines : List Priced) → IsAscending lines → IsAscending (small_lines lines)
  lines_ascend lines up j k d less in_k =
      let long = length-map (filter (are_ends_in (is_flagged marks)) lines) (renumbered (λ m. get_or new_numbers m 0)) in
      let j_in : j < length (filter (are_ends_in (is_flagged marks)) lines) = omega arith in
      let k_in : k < length (filter (are_ends_in (is_flagged marks)) lines) = omega arith in
      rw (
        get_or-map (renumbered (λ m. get_or new_numbers m 0)) (filter (are_ends_in (is_flagged marks)) lines) j missing_item d j_in,
        get_or-map (renumbered (λ m. get_or new_numbers m 0)) (filter (are_ends_in (is_flagged marks)) lines) k missing_item d k_in,
      )
      (renumbered_before lines (get_or (filter (are_ends_in (is_flagged marks)) lines) j missing_item) (get_or (filter (are_ends_in (is_flagged marks)) lines) k missing_item)
      (Contains-get_or (filter (are_ends_in (is_flagged marks)) lines) j missing_item j_in) (Contains-get_or (filter (are_ends_in (is_flagged marks)) lines) k missing_item k_in)
      (AllPairs-filter (λ i j. comes_before i j ≡ true) (are_ends_in (is_flagged marks)) lines up j k missing_item less k_in))

  up_leads : (m n : ℕ) → Imports (small_lines net.imports) Any m n → Imports net.imports Any (get_or numbers m 0) (get_or numbers n 0)
  up_leads m n (i, c, from, to, any) =
      let was = from_map (renumbered (λ m. get_or new_numbers m 0)) (filter (are_ends_in (is_flagged marks)) net.imports) i c in
      let ends = marked_ends net.imports was.0 was.1 in
      let from_is : was.0.from ≡ get_or numbers m 0 = sym (is.number_is was.0.from ends.0) ∙ ap (λ k. get_or numbers k 0) (ap (λ (j : Priced). j.from) was.2 ∙ from) in
      let to_is : was.0.to ≡ get_or numbers n 0 = sym (is.number_is was.0.to ends.1) ∙ ap (λ k. get_or numbers k 0) (ap (λ (j : Priced). j.to) was.2 ∙ to) in
      (was.0, (of_filter (are_ends_in (is_flagged marks)) net.imports was.0 was.1).0, from_is, to_is, tt)

  up_chain : (m : ℕ) (more : List ℕ) (n : ℕ) → IsChain (small_lines net.imports) Any m more n → IsChain net.imports Any (get_or numbers m 0) (map (λ k. get_or numbers k 0) more) (get_or numbers n 0)
  up_chain m [] n e = ap (λ k. get_or numbers k 0) e
  up_chain m (k ∷ more) n (leads, rest) = (up_leads m k leads, up_chain k more n rest)

  small_acyclic : IsAcyclic net.imports → IsAcyclic (small_lines net.imports)
  small_acyclic acyclic m n leads (more, chain) =
      acyclic (get_or numbers m 0) (get_or numbers n 0) (up_leads m n leads) (map (λ k. get_or numbers k 0) more, up_chain n more m chain)

  few_imports : length (small_lines net.imports) ≤ length net.imports
  few_imports =
      let long = length-map (filter (are_ends_in (is_flagged marks)) net.imports) (renumbered (λ m. get_or new_numbers m 0)) in
      let fewer = length-filter_both (are_ends_in (is_flagged marks)) (λ i. not (are_ends_in (is_flagged marks) i)) (λ i. refl) net.imports in
      omega arith

  small_weight : sum_by (λ (i : Priced). i.amount) (small_lines net.imports) ≤ sum_by (λ (i : Priced). i.amount) net.imports
  small_weight =
      let same = sum_by-map (λ (i : Priced). i.amount) (renumbered (λ m. get_or new_numbers m 0)) (filter (are_ends_in (is_flagged marks)) net.imports) in
      let kept = sum_by-filter (λ (i : Priced). i.amount) (are_ends_in (is_flagged marks)) net.imports in
      let le = sum_by-mono (λ (i : Priced). cond (are_ends_in (is_flagged marks) i) i.amount 0) (λ (i : Priced). i.amount) net.imports (λ i c. cond_le (are_ends_in (is_flagged marks) i) i.amount i.amount (λ _. omega arith)) in
      omega arith

  pub is_network : IsNetwork net → IsNetwork small
  is_network invariants =
      let count = count_names in
      let all = count_marks in
      let few = is.few in
      let few_names = invariants.few_names in
      let few_here = few_imports in
      let few_there = invariants.few_imports in
      let light = small_weight in
      let fits = invariants.fits in
      record {
        named = λ k d h.
            let in_k : k < length numbers = omega arith in
            let low = is.low k in_k in
            rw (get_or-map (name_of net) numbers k 0 d in_k) (invariants.named (get_or numbers k 0) [] (omega arith));
        names_ascend = names_of_ascending net invariants.names_ascend numbers (λ x h. let low = is.low x h in omega arith) is.ascend;
        few_names = omega arith;
        between = lines_between net.imports;
        imports_ascend = lines_ascend net.imports invariants.imports_ascend;
        few_imports = omega arith;
        fits = omega arith;
        acyclic = small_acyclic invariants.acyclic;
      }

-- a flow that is the same on the imports
pub flow_same : (net : Network) (a b : ℕ) (flow other : Priced → ℕ) (value : ℕ) → ((i : Priced) → Contains net.imports i → flow i ≡ other i) → IsFlow net a b flow value → IsFlow net a b other value
flow_same net a b flow other value same is_flow =
    let into = λ (m : ℕ). sum_by-same (λ (i : Priced). cond (i.to == m) (flow i) 0) (λ i. cond (i.to == m) (other i) 0) net.imports (λ i c. ap (λ n. cond (i.to == m) n 0) (same i c)) in
    let out = λ (m : ℕ). sum_by-same (λ (i : Priced). cond (i.from == m) (flow i) 0) (λ i. cond (i.from == m) (other i) 0) net.imports (λ i c. ap (λ n. cond (i.from == m) n 0) (same i c)) in
    record {
      within = λ i c. rw (← same i c) (is_flow.within i c);
      kept = λ m not_a not_b. sym (into m) ∙ is_flow.kept m not_a not_b ∙ out m;
      at_start = let i = into a in let o = out a in let s = is_flow.at_start in omega arith;
    }

greatest_same : (net : Network) (a b : ℕ) (flow other : Priced → ℕ) (value : ℕ) → ((i : Priced) → Contains net.imports i → flow i ≡ other i) → IsMaxFlow net a b flow value → IsMaxFlow net a b other value
greatest_same net a b flow other value same greatest = record {
  is_flow = flow_same net a b flow other value same greatest.is_flow;
  barred = (
    greatest.barred.0,
    record {
      start = greatest.barred.1.start;
      end = greatest.barred.1.end;
      closed = record {
        forward = λ i c room t. greatest.barred.1.closed.forward i c (rw (same i c) room) t;
        backward = λ i c some t. greatest.barred.1.closed.backward i c (rw (same i c) some) t;
      };
    },
  );
}

-- a flagged module has its name
pub name_of_small : (net : Network) (a b : ℕ) (marks : List Bool) (numbers new_numbers : List ℕ) (small : Network) → IsSubnetwork net a b marks numbers new_numbers small →
    (m : ℕ) → is_flagged marks m ≡ true → name_of small (get_or new_numbers m 0) ≡ name_of net m
name_of_small net a b marks numbers new_numbers small part m t =
    let t_too = still_marked marks a b m t in
    let count = part.count in
    let low = part.renumbering.place_low m t_too in
    part.renumbered.named (get_or new_numbers m 0) (omega arith) ∙ ap (name_of net) (part.renumbering.number_is m t_too)

-- a property of the small network is one of the whole network
module _ (net : Network) (a b : ℕ) (a_in : a < length net.names) (b_in : b < length net.names) (marks : List Bool) (numbers new_numbers : List ℕ) (small : Network)
    (part : IsSubnetwork net a b marks numbers new_numbers small) where
  start_in : is_flagged (with_ends marks a b) a ≡ true
  start_in = let size = part.size in start_marked marks a b (omega arith)

  end_in : is_flagged (with_ends marks a b) b ≡ true
  end_in = let size = part.size in end_marked marks a b (omega arith)

  pub start_low : get_or new_numbers a 0 < length small.names
  start_low = let count = part.count in let low = part.renumbering.place_low a start_in in omega arith

  pub end_low : get_or new_numbers b 0 < length small.names
  end_low = let count = part.count in let low = part.renumbering.place_low b end_in in omega arith

  pub ends_apart : (a ≡ b → ⊥) → get_or new_numbers a 0 ≡ get_or new_numbers b 0 → ⊥
  ends_apart apart e = apart (sym (part.renumbering.number_is a start_in) ∙ ap (λ k. get_or numbers k 0) e ∙ part.renumbering.number_is b end_in)

  same_flow : (flow : Priced → ℕ) (i : Priced) → Contains small.imports i → flow i ≡ flow_renumbered (λ m. get_or numbers m 0) (flow_renumbered (λ m. get_or new_numbers m 0) flow) i
  same_flow flow i c =
      let low = part.renumbered.between i c in
      rw (part.renumbered.back_is i.from low.0, part.renumbered.back_is i.to low.1) refl

  at_ends : (P : ℕ → ℕ → Type 0) → P (get_or numbers (get_or new_numbers a 0) 0) (get_or numbers (get_or new_numbers b 0) 0) → P a b
  at_ends P p =
      subst (λ n. P a n) (part.renumbering.number_is b end_in)
      (subst (λ m. P m (get_or numbers (get_or new_numbers b 0) 0)) (part.renumbering.number_is a start_in) p)

  pub flow_of_small : (flow : Priced → ℕ) (value : ℕ) → IsFlow small (get_or new_numbers a 0) (get_or new_numbers b 0) flow value → IsFlow net a b (flow_in_net marks new_numbers flow) value
  flow_of_small flow value is_flow =
      let here = flow_same small (get_or new_numbers a 0) (get_or new_numbers b 0) flow (flow_renumbered (λ m. get_or numbers m 0) (flow_renumbered (λ m. get_or new_numbers m 0) flow)) value (same_flow flow) is_flow in
      let up = flow_up_is (part_of net (is_flagged marks)) small (λ m. get_or numbers m 0) (λ m. get_or new_numbers m 0) part.renumbered (get_or new_numbers a 0) (get_or new_numbers b 0) start_low end_low (flow_renumbered (λ m. get_or new_numbers m 0) flow) value here in
      flow_of_part net (is_flagged marks) a b (flow_renumbered (λ m. get_or new_numbers m 0) flow) value
      (at_ends (λ m n. IsFlow (part_of net (is_flagged marks)) m n (flow_renumbered (λ m. get_or new_numbers m 0) flow) value) up)

  pub greatest_of_small : (flow : Priced → ℕ) (value : ℕ) → IsMaxFlow small (get_or new_numbers a 0) (get_or new_numbers b 0) flow value → IsMaxFlow net a b (flow_in_net marks new_numbers flow) value
  greatest_of_small flow value greatest =
      let here = greatest_same small (get_or new_numbers a 0) (get_or new_numbers b 0) flow (flow_renumbered (λ m. get_or numbers m 0) (flow_renumbered (λ m. get_or new_numbers m 0) flow)) value (same_flow flow) greatest in
      let up = greatest_up_is (part_of net (is_flagged marks)) small (λ m. get_or numbers m 0) (λ m. get_or new_numbers m 0) part.renumbered (get_or new_numbers a 0) (get_or new_numbers b 0) start_low end_low (flow_renumbered (λ m. get_or new_numbers m 0) flow) value here in
      greatest_of_part net (is_flagged marks) a b part.between (flow_renumbered (λ m. get_or new_numbers m 0) flow) value
      (at_ends (λ m n. IsMaxFlow (part_of net (is_flagged marks)) m n (flow_renumbered (λ m. get_or new_numbers m 0) flow) value) up)

  pub printed_of_small : (x : Priced → Bool) → AreReported small (get_or new_numbers a 0) (get_or new_numbers b 0) x → AreReported net a b (reported_in_net marks new_numbers x)
  printed_of_small x printed =
      let up = printed_up_is (part_of net (is_flagged marks)) small (λ m. get_or numbers m 0) (λ m. get_or new_numbers m 0) part.renumbered (get_or new_numbers a 0) (get_or new_numbers b 0) start_low end_low x printed in
      same_printed net (is_flagged marks) a b part.between (λ i. x (renumbered (λ m. get_or new_numbers m 0) i))
      (at_ends (λ m n. AreReported (part_of net (is_flagged marks)) m n (λ i. x (renumbered (λ m. get_or new_numbers m 0) i))) up)

none_sums : (imports : List Priced) (t : Priced → Bool) → sum_by (λ i. cond (t i) 0 0) imports ≡ 0
none_sums [] t = refl
none_sums (i ∷ more) t =
    let rest = none_sums more t in
    let first : cond {A = ℕ} (t i) 0 0 ≡ 0 = elim (t i) as (λ u. cond {A = ℕ} u 0 0 ≡ 0) [ true ↦ refl | false ↦ refl ] in
    omega (arith, sum_by-cons (λ j. cond (t j) 0 0) i more)

-- without a path from a to b no flow has a value above 0
pub none_is_greatest : (net : Network) (a b : ℕ) → (Chain net.imports Any a b → ⊥) → IsMaxFlow net a b (λ i. 0) 0
none_is_greatest net a b none = record {
  is_flow = record {
    within = λ i c. omega arith;
    kept = λ m not_a not_b. none_sums net.imports (λ i. i.to == m) ∙ sym (none_sums net.imports (λ i. i.from == m));
    at_start = let into = none_sums net.imports (λ i. i.to == a) in let out = none_sums net.imports (λ i. i.from == a) in omega arith;
  };
  barred = (
    has_chain net.imports a,
    record {
      start = has_chain-true net.imports a a ([], refl);
      end = has_chain-false net.imports a b none;
      closed = record {
        forward = λ i c room t. has_chain-true net.imports a i.to (onward net.imports a i c (chain_there net.imports a i.from t));
        backward = λ i c some t. absurd (omega arith);
      };
    },
  );
}
