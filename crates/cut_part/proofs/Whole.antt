-- An answer for the subnetwork between two modules is, after renumbering its lines, an answer for the whole network.
use Rattle.std.proofs.Common.{◌≡◌, ℕ, ◌<◌, ◌==◌, ◌&&◌, Bool, true, false, cond, List, [], ◌∷◌, length, map, filter, get_or, refl, sym, ap, ◌∙◌, subst, arith, sum_by, inl, inr, Option, Some, None}
use Rattle.std.specs.Prelude.{Contains, IfSome, find, is_some}
use Rattle.std.proofs.lemmas.Bool.{and_parts, and_from, both_ways, cases_Bool, cases_eq, eq-eqb, ne_eqb, false_from_ne_true}
use Rattle.std.proofs.lemmas.List.{get_or-map, length-map}
use Rattle.std.proofs.lemmas.List.Elements.{All-contains}
use Rattle.digraph.proofs.Members.{from_map, in_filter, in_map, of_filter}
use Rattle.cut_net.specs.declared.priced.Priced.{Priced}
use Rattle.cut_net.specs.Network.{Network, missing_item}
use Rattle.cut_net.specs.WellFormed.{AreBetween}
use Rattle.cut_net.specs.Cuts.{Any, Chain, IsChain, IsCheapest, IsCut, Outside, have_equal_ends, weight}
use Rattle.cut_net.specs.Lines.{amount_in, comes_before, flow_by, removed_by, AreImportsInOrder, IsAnswer, IsCheapestAnswer, IsCutAnswer, IsImport}
use Rattle.cut_net.specs.AnswerClaim.{AnswerClaim, CutOf, BlockedBy}
use Rattle.cut_net.proofs.Chains.{step, widened}
use Rattle.cut_net.proofs.Ends.{before_from, before_true, same_from}
use Rattle.cut_net.proofs.ListSums.{here, present, sum_by-mono, sum_by-same}
use Rattle.residual_graph.specs.Graphs.{is_flagged}
use Rattle.cut_part.specs.Subnetworks.{are_ends_in}
use Rattle.cut_part.specs.Marks.{flow_in_net, reported_in_net, claim_in_net, with_ends, IsSubnetwork}
use Rattle.cut_part.specs.Renumbering.{renumbered}
use Rattle.cut_part.proofs.Subnetworks.{cond_le, onward, sum_by-filter}
use Rattle.cut_part.proofs.Parts.{end_marked, flow_of_small, flow_same, printed_of_small, start_marked, still_marked}
use Rattle.cut_part.proofs.Sums.{sum_by-map}

find_yes : (p : Priced → Bool) (x : Priced) (ys : List Priced) → p x ≡ true → find p (x ∷ ys) ≡ Some x
find_yes p x ys on = rw on refl

find_no : (p : Priced → Bool) (x : Priced) (ys : List Priced) → p x ≡ false → find p (x ∷ ys) ≡ find p ys
find_no p x ys off = rw off refl

find_none : (p : Priced → Bool) (xs : List Priced) → ((x : Priced) → Contains xs x → p x ≡ false) → find p xs ≡ None
find_none p [] none = refl
find_none p (x ∷ xs) none = find_no p x xs (none x (here x xs)) ∙ find_none p xs (λ y c. none y (present x xs y c))

-- what was found, by other numbers
abbrev told : (Priced → Priced) → Option Priced → Option Priced
told f None = None
told f (Some line) = Some (f line)

find_told : (p q : Priced → Bool) (f : Priced → Priced) (xs : List Priced) → ((x : Priced) → Contains xs x → q (f x) ≡ p x) → find q (map f xs) ≡ told f (find p xs)
find_told p q f [] same = refl
find_told p q f (x ∷ xs) same =
    elim (cases_Bool (p x)) [
      | inl on ↦ find_yes q (f x) (map f xs) (same x (here x xs) ∙ on) ∙ sym (ap (told f) (find_yes p x xs on))
      | inr off ↦
          find_no q (f x) (map f xs) (same x (here x xs) ∙ off)
          ∙ find_told p q f xs (λ y c. same y (present x xs y c))
          ∙ sym (ap (told f) (find_no p x xs off))
    ]

some_told : (f : Priced → Priced) (o : Option Priced) → is_some (told f o) ≡ is_some o
some_told f None = refl
some_told f (Some line) = refl

amount_told : (number : ℕ → ℕ) (o : Option Priced) → amount_in (told (renumbered number) o) ≡ amount_in o
amount_told number None = refl
amount_told number (Some line) = refl

each_told : (number : ℕ → ℕ) (n : ℕ) (o : Option Priced) → IfSome o (λ (line : Priced). line.amount ≡ n) → IfSome (told (renumbered number) o) (λ (line : Priced). line.amount ≡ n)
each_told number n None h = tt
each_told number n (Some line) h = h

yes_and : (t u : Bool) → t ≡ true → u ≡ (t && u)
yes_and t u e = rw e refl

no_and : (t u : Bool) → t ≡ false → false ≡ (t && u)
no_and t u e = rw e refl

yes_cond : (t : Bool) (n : ℕ) → t ≡ true → cond t n 0 ≡ n
yes_cond t n e = rw e refl

no_cond : (t : Bool) (n : ℕ) → t ≡ false → cond t n 0 ≡ 0
no_cond t n e = rw e refl

both_conds : (t u : Bool) (n : ℕ) → cond (t && u) n 0 ≡ cond t (cond u n 0) 0
both_conds true u n = refl
both_conds false u n = refl

module _ (net : Network) (a b : ℕ) (a_in : a < length net.names) (b_in : b < length net.names) (marks : List Bool) (numbers new_numbers : List ℕ) (small : Network)
    (part : IsSubnetwork net a b marks numbers new_numbers small) where
  abbrev up : Priced → Priced
  up = renumbered (λ m. get_or numbers m 0)

  abbrev down : Priced → Priced
  down = renumbered (λ m. get_or new_numbers m 0)

  abbrev AreKnown : List Priced → Type 0
  AreKnown lines = (line : Priced) → Contains lines line → IsImport small line

  up_there : (i : Priced) → Contains small.imports i → Contains (filter (are_ends_in (is_flagged marks)) net.imports) (up i)
  up_there i c = subst (λ (xs : List Priced). Contains xs (up i)) (sym part.renumbered.imports) (in_map up small.imports i c)

  up_in : (i : Priced) → Contains small.imports i → Contains net.imports (up i) × (are_ends_in (is_flagged marks) (up i) ≡ true)
  up_in i c = of_filter (are_ends_in (is_flagged marks)) net.imports (up i) (up_there i c)

  down_up : (i : Priced) → Contains small.imports i → down (up i) ≡ i
  down_up i c =
      let low = part.renumbered.between i c in
      rw (part.renumbered.back_is i.from low.0, part.renumbered.back_is i.to low.1) refl

  down_there : (i : Priced) → Contains net.imports i → are_ends_in (is_flagged marks) i ≡ true → Contains small.imports (down i)
  down_there i c t =
      let was = from_map up small.imports i (subst (λ (xs : List Priced). Contains xs i) part.renumbered.imports (in_filter (are_ends_in (is_flagged marks)) net.imports i t c)) in
      subst (λ (j : Priced). Contains small.imports (down j)) was.2 (subst (λ (j : Priced). Contains small.imports j) (sym (down_up was.0 was.1)) was.1)

  line_low : (line : Priced) → IsImport small line → (line.from < length numbers) × (line.to < length numbers)
  line_low line (i, c, from, to, any) =
      let low = part.renumbered.between i c in
      let from_low = low.0 in
      let to_low = low.1 in
      let count = part.count in
      (omega arith, omega arith)

  pub lines_low : (lines : List Priced) → AreImportsInOrder small lines → AreBetween lines (length numbers)
  lines_low lines order line c = line_low line (All-contains (IsImport small) lines line order.known c)

  line_inside : (line : Priced) → IsImport small line → are_ends_in (is_flagged marks) (up line) ≡ true
  line_inside line (i, c, from, to, any) = rw (← from, ← to) ((up_in i c).1)

  same_number : (m l : ℕ) → is_flagged (with_ends marks a b) m ≡ true → l < length numbers → (m == get_or numbers l 0) ≡ (get_or new_numbers m 0 == l)
  same_number m l t h =
      elim (cases_eq (get_or new_numbers m 0) l) [
        | inl e ↦ eq-eqb m (get_or numbers l 0) (sym (part.renumbering.number_is m t) ∙ ap (λ k. get_or numbers k 0) e) ∙ sym (eq-eqb (get_or new_numbers m 0) l e)
        | inr ne ↦ ne_eqb m (get_or numbers l 0) (λ e. ne (ap (λ k. get_or new_numbers k 0) e ∙ part.renumbering.place_is l h)) ∙ sym (ne_eqb (get_or new_numbers m 0) l ne)
      ]

  same_line : (i line : Priced) → are_ends_in (is_flagged marks) i ≡ true → IsImport small line → have_equal_ends i (up line) ≡ have_equal_ends (down i) line
  same_line i line t known =
      let parts = and_parts (is_flagged marks i.from) (is_flagged marks i.to) t in
      let low = line_low line known in
      rw (same_number i.from line.from (still_marked marks a b i.from parts.0) low.0, same_number i.to line.to (still_marked marks a b i.to parts.1) low.1) refl

  found_up : (i : Priced) → are_ends_in (is_flagged marks) i ≡ true → (lines : List Priced) → AreKnown lines → find (have_equal_ends i) (map up lines) ≡ told up (find (have_equal_ends (down i)) lines)
  found_up i t lines known = find_told (have_equal_ends (down i)) (have_equal_ends i) up lines (λ line c. same_line i line t (known line c))

  found_none : (i : Priced) → are_ends_in (is_flagged marks) i ≡ false → (lines : List Priced) → AreKnown lines → find (have_equal_ends i) (map up lines) ≡ None
  found_none i f lines known = find_none (have_equal_ends i) (map up lines) (λ x c.
      let was = from_map up lines x c in
      subst (λ (y : Priced). have_equal_ends i y ≡ false) was.2 (false_from_ne_true _ (λ t.
      let same = same_from i (up was.0) t in
      both_ways (are_ends_in (is_flagged marks) i) f (rw (same.from, same.to) (line_inside was.0 (known was.0 was.1))))))

  removed_agrees : (lines : List Priced) → AreKnown lines → (i : Priced) → removed_by (map up lines) i ≡ reported_in_net marks new_numbers (removed_by lines) i
  removed_agrees lines known i =
      elim (cases_Bool (are_ends_in (is_flagged marks) i)) [
        | inl t ↦
            ap is_some (found_up i t lines known) ∙ some_told up (find (have_equal_ends (down i)) lines)
            ∙ yes_and (are_ends_in (is_flagged marks) i) (removed_by lines (down i)) t
        | inr f ↦ ap is_some (found_none i f lines known) ∙ no_and (are_ends_in (is_flagged marks) i) (removed_by lines (down i)) f
      ]

  flow_agrees : (lines : List Priced) → AreKnown lines → (i : Priced) → flow_in_net marks new_numbers (flow_by lines) i ≡ flow_by (map up lines) i
  flow_agrees lines known i =
      elim (cases_Bool (are_ends_in (is_flagged marks) i)) [
        | inl t ↦
            yes_cond (are_ends_in (is_flagged marks) i) (flow_by lines (down i)) t
            ∙ sym (ap amount_in (found_up i t lines known) ∙ amount_told (λ m. get_or numbers m 0) (find (have_equal_ends (down i)) lines))
        | inr f ↦ no_cond (are_ends_in (is_flagged marks) i) (flow_by lines (down i)) f ∙ sym (ap amount_in (found_none i f lines known))
      ]

  -- a set of imports weighs in the subnetwork what its imports between the flagged modules weigh
  weight_part : (y : Priced → Bool) → sum_by (λ i. cond (are_ends_in (is_flagged marks) i) (cond (y i) i.amount 0) 0) net.imports ≡ weight small.imports (λ i. y (up i))
  weight_part y =
      sym (sum_by-filter (λ i. cond (y i) i.amount 0) (are_ends_in (is_flagged marks)) net.imports)
      ∙ ap (λ (xs : List Priced). sum_by (λ i. cond (y i) i.amount 0) xs) part.renumbered.imports
      ∙ sum_by-map (λ i. cond (y i) i.amount 0) up small.imports

  weight_up : (lines : List Priced) → AreKnown lines → weight net.imports (removed_by (map up lines)) ≡ weight small.imports (removed_by lines)
  weight_up lines known =
      sum_by-same (λ i. cond (removed_by (map up lines) i) i.amount 0) (λ i. cond (are_ends_in (is_flagged marks) i) (cond (removed_by lines (down i)) i.amount 0) 0) net.imports
      (λ i c. ap (λ t. cond t i.amount 0) (removed_agrees lines known i) ∙ both_conds (are_ends_in (is_flagged marks) i) (removed_by lines (down i)) i.amount)
      ∙ weight_part (λ i. removed_by lines (down i))
      ∙ sum_by-same (λ i. cond (removed_by lines (down (up i))) i.amount 0) (λ i. cond (removed_by lines i) i.amount 0) small.imports
      (λ i c. ap (λ j. cond (removed_by lines j) i.amount 0) (down_up i c))

  -- lines of imports of the subnetwork, in order, are lines of imports of the whole network, in order
  known_up : (line : Priced) → IsImport small line → IsImport net (up line)
  known_up line (i, c, from, to, any) = (up i, (up_in i c).0, ap (λ m. get_or numbers m 0) from, ap (λ m. get_or numbers m 0) to, tt)

  before_up : (i j : Priced) → IsImport small i → IsImport small j → comes_before i j ≡ true → comes_before (up i) (up j) ≡ true
  before_up i j i_known j_known before =
      let j_low = line_low j j_known in
      before_true (up i) (up j) (elim (before_from i j before).by [
        | inl less ↦ record { by = inl (part.renumbering.ascend i.from j.from less j_low.0) }
        | inr (e, less) ↦ record { by = inr (ap (λ m. get_or numbers m 0) e, part.renumbering.ascend i.to j.to less j_low.1) }
      ])

  in_order_up : (lines : List Priced) → AreImportsInOrder small lines → AreImportsInOrder net (map up lines)
  in_order_up lines order = record {
    known = λ k d h.
        let long = length-map lines up in
        rw (get_or-map up lines k missing_item d (omega arith)) (known_up (get_or lines k missing_item) (order.known k missing_item (omega arith)));
    ascending = λ j k d less in_k.
        let long = length-map lines up in
        let j_in : j < length lines = omega arith in
        let k_in : k < length lines = omega arith in
        rw (get_or-map up lines j missing_item d j_in, get_or-map up lines k missing_item d k_in)
        (before_up (get_or lines j missing_item) (get_or lines k missing_item) (order.known j missing_item j_in) (order.known k missing_item k_in) (order.ascending j k missing_item less k_in));
  }

  -- a path of the whole network without lines of the subnetwork is a path of the subnetwork without them
  chain_down : (lines : List Priced) → AreKnown lines → (m : ℕ) → Chain net.imports Any a m → (more : List ℕ) →
      IsChain net.imports (Outside (removed_by (map up lines))) m more b → Chain small.imports (Outside (removed_by lines)) (get_or new_numbers m 0) (get_or new_numbers b 0)
  chain_down lines known m before [] e = ([], ap (λ k. get_or new_numbers k 0) e)
  chain_down lines known m before (n ∷ more) ((i, c, from, to, out), rest) =
      let before_i : Chain net.imports Any a i.from = rw from before in
      let before_to : Chain net.imports Any a i.to = onward net.imports a i c before_i in
      let before_n : Chain net.imports Any a n = rw to at before_to in
      let after_n : Chain net.imports Any n b = (more, widened net.imports net.imports (Outside (removed_by (map up lines))) Any (λ j d _. (d, tt)) n more b rest) in
      let after_i : Chain net.imports Any i.to b = rw to after_n in
      let in_part : are_ends_in (is_flagged marks) i ≡ true = and_from _ _ ((part.between i.from).1 (before_i, step net.imports Any b i c tt after_i)) ((part.between i.to).1 (before_to, after_i)) in
      let out_down : removed_by lines (down i) ≡ false = yes_and (are_ends_in (is_flagged marks) i) (removed_by lines (down i)) in_part ∙ sym (removed_agrees lines known i) ∙ out in
      let onwards = chain_down lines known n before_n more rest in
      (get_or new_numbers n 0 ∷ onwards.0, ((down i, down_there i c in_part, ap (λ k. get_or new_numbers k 0) from, ap (λ k. get_or new_numbers k 0) to, out_down), onwards.1))

  cut_up : (lines : List Priced) → AreKnown lines → IsCut small (get_or new_numbers a 0) (get_or new_numbers b 0) (removed_by lines) → IsCut net a b (removed_by (map up lines))
  cut_up lines known cut (more, chain) = cut (chain_down lines known a ([], refl) more chain)

  -- and a path of the subnetwork is one of the whole network
  chain_up : (y : Priced → Bool) (m n : ℕ) (more : List ℕ) → IsChain small.imports (Outside (λ i. y (up i))) m more n →
      IsChain net.imports (Outside y) (get_or numbers m 0) (map (λ k. get_or numbers k 0) more) (get_or numbers n 0)
  chain_up y m n [] e = ap (λ k. get_or numbers k 0) e
  chain_up y m n (k ∷ more) ((i, c, from, to, out), rest) =
      ((up i, (up_in i c).0, ap (λ m. get_or numbers m 0) from, ap (λ m. get_or numbers m 0) to, out), chain_up y k n more rest)

  start_is : get_or numbers (get_or new_numbers a 0) 0 ≡ a
  start_is = part.renumbering.number_is a (start_marked marks a b (let size = part.size in omega arith))

  end_is : get_or numbers (get_or new_numbers b 0) 0 ≡ b
  end_is = part.renumbering.number_is b (end_marked marks a b (let size = part.size in omega arith))

  cut_down : (y : Priced → Bool) → IsCut net a b y → IsCut small (get_or new_numbers a 0) (get_or new_numbers b 0) (λ i. y (up i))
  cut_down y cut (more, chain) =
      cut (subst (λ m. Chain net.imports (Outside y) m b) start_is (subst (λ n. Chain net.imports (Outside y) (get_or numbers (get_or new_numbers a 0) 0) n) end_is
      (map (λ k. get_or numbers k 0) more, chain_up y (get_or new_numbers a 0) (get_or new_numbers b 0) more chain)))

  cheapest_lines : (lines : List Priced) → AreKnown lines → IsCheapest small (get_or new_numbers a 0) (get_or new_numbers b 0) (removed_by lines) → IsCheapest net a b (removed_by (map up lines))
  cheapest_lines lines known cheapest = record {
    cut = cut_up lines known cheapest.cut;
    least = λ y y_cut.
        let le = cheapest.least (λ i. y (up i)) (cut_down y y_cut) in
        let w = weight_up lines known in
        let v = weight_part y in
        let within = sum_by-mono (λ i. cond (are_ends_in (is_flagged marks) i) (cond (y i) i.amount 0) 0) (λ i. cond (y i) i.amount 0) net.imports
        (λ i c. cond_le (are_ends_in (is_flagged marks) i) (cond (y i) i.amount 0) (cond (y i) i.amount 0) (λ _. omega arith)) in
        omega arith;
  }

  each_up : (lines : List Priced) → AreKnown lines → ((i : Priced) → Contains small.imports i → IfSome (find (have_equal_ends i) lines) (λ line. line.amount ≡ i.amount)) →
      (i : Priced) → Contains net.imports i → IfSome (find (have_equal_ends i) (map up lines)) (λ line. line.amount ≡ i.amount)
  each_up lines known each i c =
      elim (cases_Bool (are_ends_in (is_flagged marks) i)) [
        | inl t ↦
            subst (λ (o : Option Priced). IfSome o (λ (line : Priced). line.amount ≡ i.amount)) (sym (found_up i t lines known))
            (each_told (λ m. get_or numbers m 0) i.amount (find (have_equal_ends (down i)) lines) (each (down i) (down_there i c t)))
        | inr f ↦ subst (λ (o : Option Priced). IfSome o (λ (line : Priced). line.amount ≡ i.amount)) (sym (found_none i f lines known)) tt
      ]

  answer_lines : (printed : List Priced) (total : ℕ) (flow : List Priced) → IsCutAnswer small (get_or new_numbers a 0) (get_or new_numbers b 0) printed total flow →
      IsCutAnswer net a b (map up printed) total (map up flow)
  answer_lines printed total flow is =
      let printed_known : AreKnown printed = λ line c. All-contains (IsImport small) printed line is.right.printed_in_order.known c in
      let flow_known : AreKnown flow = λ line c. All-contains (IsImport small) flow line is.right.flow_in_order.known c in
      record {
        right = record {
          printed_in_order = in_order_up printed is.right.printed_in_order;
          flow_in_order = in_order_up flow is.right.flow_in_order;
          cut = cut_up printed printed_known is.right.cut;
          weights = record {
            each = each_up printed printed_known is.right.weights.each;
            sum = is.right.weights.sum ∙ sym (weight_up printed printed_known);
          };
          is_flow = flow_same net a b (flow_in_net marks new_numbers (flow_by flow)) (flow_by (map up flow)) total (λ i c. flow_agrees flow flow_known i)
              (flow_of_small net a b a_in b_in marks numbers new_numbers small part (flow_by flow) total is.right.is_flow);
        };
        are_printed = λ i c.
            let whole = printed_of_small net a b a_in b_in marks numbers new_numbers small part (removed_by printed) is.are_printed i c in
            let same = removed_agrees printed printed_known i in
            (λ t. whole.0 (sym same ∙ t), λ p. same ∙ whole.1 p);
        flow_above_zero = λ k d h.
            let long = length-map flow up in
            rw (get_or-map up flow k missing_item d (omega arith)) (is.flow_above_zero k missing_item (omega arith));
      }

  pub answer_up : (claim : AnswerClaim) → IsAnswer small (get_or new_numbers a 0) (get_or new_numbers b 0) claim → IsAnswer net a b (claim_in_net numbers claim)
  answer_up (CutOf total printed flow) is = answer_lines printed total flow is
  answer_up (BlockedBy chain) is = absurd is

  pub cheapest_up : (claim : AnswerClaim) → IsAnswer small (get_or new_numbers a 0) (get_or new_numbers b 0) claim → IsCheapestAnswer small (get_or new_numbers a 0) (get_or new_numbers b 0) claim →
      IsCheapestAnswer net a b (claim_in_net numbers claim)
  cheapest_up (CutOf total printed flow) is cheapest = cheapest_lines printed (λ line c. All-contains (IsImport small) printed line is.right.printed_in_order.known c) cheapest
  cheapest_up (BlockedBy chain) is cheapest = absurd is
