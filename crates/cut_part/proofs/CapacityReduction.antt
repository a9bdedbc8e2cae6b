-- Reducing the weight of an import to one that suffices loses no flow, and a maximum flow of the reduced network is one of the original.
use Rattle.std.proofs.Common.{◌≡◌, ◌≢◌, ℕ, ◌+◌, ◌≤◌, ◌<◌, ◌==◌, Bool, true, false, cond, not, eqb, ◌&&◌, List, [], ◌∷◌, length, get_or, refl, sym, ap, ◌∙◌, subst, arith, inl, inr}
use Rattle.std.specs.Prelude.{Contains}
use Rattle.std.proofs.lemmas.Bool.{cases_Bool, cases_eq, cases_lt, both_ways, eq-eqb, ne_eqb, cond-true}
use Rattle.std.proofs.lemmas.List.{get_or_default, get_or-set_same, get_or-set_other, length-map, length-set}
use Rattle.std.proofs.Math.ListN.{get_or-map}
use Rattle.std.proofs.Math.Seq.{map-set_same}
use Rattle.digraph.specs.declared.edge.Edge.{Edge}
use Rattle.cut_net.specs.declared.priced.Priced.{Priced}
use Rattle.cut_net.specs.Network.{Network, missing_item}
use Rattle.cut_net.specs.WellFormed.{AreBetween}
use Rattle.cut_net.specs.Cuts.{entering, leaving, leaves, IsFlow}
use Rattle.cut_net.specs.Lines.{flow_by, edge_of}
use Rattle.cut_net.proofs.ListSums.{sum_by-mono, sum_by-both, sum_by-tight}
use Rattle.cut_net.proofs.Duality.{across, enters, cond_le}
use Rattle.cut_part.specs.CapacityReduction.{ends_of, import_in, weighing, reweighed, weight_leaving, weight_entering, IsUnreachable, IsResidualBarrier, DependsOnEndsOnly, IsEnough, IsMaxFlow, IsReducedAt, AreReductions, IsReduced}
use Rattle.cut_part.proofs.Sums.{same_entering, same_leaving, sum_one, sum_two}

-- what holds at each number holds of each import, and each import has its number
pub at_numbers : (imports : List Priced) (P : Priced → Type 0) → ((k : ℕ) → k < length imports → P (import_in imports k)) → (i : Priced) → Contains imports i → P i
at_numbers imports P each i (k, in_k, at_k) = subst P (get_or_default imports k missing_item i in_k ∙ at_k) (each k in_k)

pub renumbering : (imports : List Priced) (k : ℕ) → k < length imports → Contains imports (import_in imports k)
renumbering imports k h = (k, h, get_or_default imports k (import_in imports k) missing_item h)

-- the modules but one
all_but : ℕ → ℕ → Bool
all_but x m = not (m == x)

ends_apart : (t u : Bool) (n : ℕ) → cond (not (not t) && not u) n 0 + cond (t && u) n 0 ≡ cond t n 0
ends_apart true true n = omega arith
ends_apart true false n = omega arith
ends_apart false u n = refl

ends_apart_back : (t u : Bool) (n : ℕ) → cond (not t && not (not u)) n 0 + cond (t && u) n 0 ≡ cond u n 0
ends_apart_back true true n = omega arith
ends_apart_back true false n = refl
ends_apart_back false true n = omega arith
ends_apart_back false false n = refl

module _ (net : Network) (a b : ℕ) (flow : Priced → ℕ) (value : ℕ) (is_flow : IsFlow net a b flow value) where
  -- no module but the end takes more than it sends
  pub takes_no_more : (x : ℕ) → x ≢ b → entering net.imports flow x ≤ leaving net.imports flow x
  takes_no_more x not_b =
      elim (cases_eq x a) [
        | inl e ↦ let s = is_flow.at_start in rw e (omega arith)
        | inr not_a ↦ let s = is_flow.kept x not_a not_b in omega arith
      ]

  -- what enters the end is what leaves it and the value
  pub at_end : AreBetween net.imports (length net.names) → a < length net.names → a ≢ b →
      leaving net.imports flow b + value ≡ entering net.imports flow b
  unfolding all_but
  at_end between a_in apart =
      let over = across net a b flow value (all_but b) between a_in is_flow (record { start = rw (ne_eqb a b apart) refl; end = rw (eq-eqb b b refl) refl }) in
      let out = sum_by-both (λ i. cond (enters (all_but b) i) (flow i) 0) (λ i. cond ((i.from == b) && (i.to == b)) (flow i) 0) (λ i. cond (i.from == b) (flow i) 0) net.imports
      (λ i c. ends_apart (i.from == b) (i.to == b) (flow i)) in
      let into = sum_by-both (λ i. cond (leaves (all_but b) i) (flow i) 0) (λ i. cond ((i.from == b) && (i.to == b)) (flow i) 0) (λ i. cond (i.to == b) (flow i) 0) net.imports
      (λ i c. ends_apart_back (i.from == b) (i.to == b) (flow i)) in
      omega arith

  -- no module but the start sends more than it takes
  pub sends_no_more : AreBetween net.imports (length net.names) → a < length net.names → a ≢ b →
      (x : ℕ) → x ≢ a → leaving net.imports flow x ≤ entering net.imports flow x
  sends_no_more between a_in apart x not_a =
      elim (cases_eq x b) [
        | inl e ↦ let s = at_end between a_in apart in rw e (omega arith)
        | inr not_b ↦ let s = is_flow.kept x not_a not_b in omega arith
      ]

  leaving_within : (x : ℕ) → leaving net.imports flow x ≤ weight_leaving net x
  leaving_within x = sum_by-mono _ _ net.imports (λ i c. cond_le (i.from == x) (flow i) i.amount (is_flow.within i c))

  entering_within : (x : ℕ) → entering net.imports flow x ≤ weight_entering net x
  entering_within x = sum_by-mono _ _ net.imports (λ i c. cond_le (i.to == x) (flow i) i.amount (is_flow.within i c))

  -- the flow of one import is within what enters its imported module, and within what leaves its importer
  flow_enters : (k : ℕ) → k < length net.imports → flow (import_in net.imports k) ≤ entering net.imports flow (import_in net.imports k).to
  flow_enters k h =
      let i = import_in net.imports k in
      let one = sum_one (λ j. cond (j.to == i.to) (flow j) 0) net.imports k missing_item h in
      let same : cond (i.to == i.to) (flow i) 0 ≡ flow i = cond-true (i.to == i.to) (flow i) 0 (eq-eqb i.to i.to refl) in
      omega arith

  flow_leaves : (k : ℕ) → k < length net.imports → flow (import_in net.imports k) ≤ leaving net.imports flow (import_in net.imports k).from
  flow_leaves k h =
      let i = import_in net.imports k in
      let one = sum_one (λ j. cond (j.from == i.from) (flow j) 0) net.imports k missing_item h in
      let same : cond (i.from == i.from) (flow i) 0 ≡ flow i = cond-true (i.from == i.from) (flow i) 0 (eq-eqb i.from i.from refl) in
      omega arith

  -- a weight that suffices is at least the flow
  pub enough_holds : AreBetween net.imports (length net.names) → a < length net.names → a ≢ b →
      (k amount : ℕ) → k < length net.imports → IsEnough net a b (import_in net.imports k) amount → flow (import_in net.imports k) ≤ amount
  enough_holds between a_in apart k amount h enough =
      elim enough [
        | inl (not_b, leaving_le) ↦
            let e = flow_enters k h in let t = takes_no_more (import_in net.imports k).to not_b in let l = leaving_within (import_in net.imports k).to in omega arith
        | inr (not_a, entering_le) ↦
            let e = flow_leaves k h in let t = sends_no_more between a_in apart (import_in net.imports k).from not_a in let l = entering_within (import_in net.imports k).from in omega arith
      ]

-- the ends are as before
pub ends_reweighed : (net : Network) (k amount : ℕ) → ends_of (reweighed net k amount).imports ≡ ends_of net.imports
ends_reweighed net k amount = map-set_same edge_of net.imports k (weighing (import_in net.imports k) amount) missing_item refl

module _ (net : Network) (a b : ℕ) (flow : Priced → ℕ) (value : ℕ) (by_ends : DependsOnEndsOnly flow) (k amount : ℕ) (present : k < length net.imports) where
  -- an import of the new network is the one that was reduced, or was there
  import_now : (j : ℕ) → (j ≡ k → import_in (reweighed net k amount).imports j ≡ weighing (import_in net.imports k) amount) × (j ≢ k → import_in (reweighed net k amount).imports j ≡ import_in net.imports j)
  import_now j = (
    λ e. rw e (get_or-set_same net.imports k (weighing (import_in net.imports k) amount) missing_item present),
    λ ne. get_or-set_other net.imports k j (weighing (import_in net.imports k) amount) missing_item ne,
  )

  pub keeps_flow : AreBetween net.imports (length net.names) → a < length net.names → a ≢ b → IsEnough net a b (import_in net.imports k) amount →
      IsFlow net a b flow value → IsFlow (reweighed net k amount) a b flow value
  keeps_flow between a_in apart enough is_flow =
      let ends = ends_reweighed net k amount in
      let into = λ (m : ℕ). same_entering flow by_ends (reweighed net k amount).imports net.imports m ends in
      let out = λ (m : ℕ). same_leaving flow by_ends (reweighed net k amount).imports net.imports m ends in
      record {
        within = at_numbers (reweighed net k amount).imports (λ i. flow i ≤ i.amount) (λ j h.
            elim (cases_eq j k) [
              | inl e ↦ rw ((import_now j).0 e)
                  (let le = enough_holds net a b flow value is_flow between a_in apart k amount present enough in
                  let same = by_ends (weighing (import_in net.imports k) amount) (import_in net.imports k) refl refl in omega arith)
              | inr ne ↦ rw ((import_now j).1 ne) (is_flow.within (import_in net.imports j) (renumbering net.imports j (omega (arith, length-set net.imports k (weighing (import_in net.imports k) amount)))))
            ]);
        kept = λ m not_a not_b. into m ∙ is_flow.kept m not_a not_b ∙ sym (out m);
        at_start = let i = into a in let o = out a in let s = is_flow.at_start in omega arith;
      }

  -- an import but the one that was reduced is in the new network
  still_there : (j : ℕ) → j < length net.imports → j ≢ k → Contains (reweighed net k amount).imports (import_in net.imports j)
  still_there j h ne =
      subst (Contains (reweighed net k amount).imports) ((import_now j).1 ne)
      (renumbering (reweighed net k amount).imports j (omega (arith, length-set net.imports k (weighing (import_in net.imports k) amount))))

  is_there_now : Contains (reweighed net k amount).imports (weighing (import_in net.imports k) amount)
  is_there_now =
      subst (Contains (reweighed net k amount).imports) ((import_now k).0 refl)
      (renumbering (reweighed net k amount).imports k (omega (arith, length-set net.imports k (weighing (import_in net.imports k) amount))))

  module _ (modules : ℕ → Bool) (barrier : IsResidualBarrier (reweighed net k amount) flow a b modules) where
    -- where the reduced import doesn't lead out of the modules they are a barrier as they are
    same_barrier : (modules (import_in net.imports k).from ≡ true → modules (import_in net.imports k).to ≡ true) → IsResidualBarrier net flow a b modules
    same_barrier goes = record {
      start = barrier.start;
      end = barrier.end;
      closed = record {
        forward = at_numbers net.imports (λ i. flow i < i.amount → modules i.from ≡ true → modules i.to ≡ true) (λ j h room t.
            elim (cases_eq j k) [
              | inl e ↦ rw e (goes (rw e at t))
              | inr ne ↦ barrier.closed.forward (import_in net.imports j) (still_there j h ne) room t
            ]);
        backward = at_numbers net.imports (λ i. 0 < flow i → modules i.to ≡ true → modules i.from ≡ true) (λ j h some t.
            elim (cases_eq j k) [
              | inl e ↦
                  let same = by_ends (weighing (import_in net.imports k) amount) (import_in net.imports k) refl refl in
                  let some_k : 0 < flow (import_in net.imports k) = rw e at some in
                  rw e (barrier.closed.backward (weighing (import_in net.imports k) amount) is_there_now (omega arith) (rw e at t))
              | inr ne ↦ barrier.closed.backward (import_in net.imports j) (still_there j h ne) some t
            ]);
      };
    }

    module _ (is_flow : IsFlow net a b flow value) (t_from : modules (import_in net.imports k).from ≡ true) (f_to : modules (import_in net.imports k).to ≡ false) where
      -- the flow fills what was left
      full : amount ≤ flow (import_in net.imports k)
      full =
          let same = by_ends (weighing (import_in net.imports k) amount) (import_in net.imports k) refl refl in
          elim (cases_lt (flow (weighing (import_in net.imports k) amount)) amount) [
            | inl room ↦ absurd (both_ways _ f_to (barrier.closed.forward (weighing (import_in net.imports k) amount) is_there_now room t_from))
            | inr none ↦ omega arith
          ]

      -- with the imported module they are a barrier: no other import brings flow into it, and all that leave it are full
      with_imported : (import_in net.imports k).to ≢ b → weight_leaving net (import_in net.imports k).to ≤ amount → IsResidualBarrier net flow a b (λ m. cond (m == (import_in net.imports k).to) true (modules m))
      with_imported not_b le =
          let x = (import_in net.imports k).to in
          let above = full in
          let one = flow_enters net a b flow value is_flow k present in
          let takes = takes_no_more net a b flow value is_flow x not_b in
          let leaves_le = leaving_within net a b flow value is_flow x in
          record {
            start = elim (cases_Bool (a == x)) [ inl t ↦ rw t refl | inr f ↦ rw f barrier.start ];
            end = rw (ne_eqb b x (λ e. not_b (sym e))) barrier.end;
            closed = record {
              forward = at_numbers net.imports (λ i. flow i < i.amount → cond (i.from == x) true (modules i.from) ≡ true → cond (i.to == x) true (modules i.to) ≡ true) (λ j h room t.
                  elim (cases_eq (import_in net.imports j).to x) [
                    | inl e ↦ rw (eq-eqb _ _ e) refl
                    | inr ne ↦ rw (ne_eqb _ _ ne)
                        (elim (cases_eq (import_in net.imports j).from x) [
                          | inl e ↦
                              let tight = sum_by-tight (λ i. cond (i.from == x) (flow i) 0) (λ i. cond (i.from == x) i.amount 0) net.imports
                              (λ i c. cond_le (i.from == x) (flow i) i.amount (is_flow.within i c)) (omega arith) (import_in net.imports j) j h (get_or_default net.imports j (import_in net.imports j) missing_item h) in
                              let s : flow (import_in net.imports j) ≡ (import_in net.imports j).amount = rw (eq-eqb _ _ e) at tight in
                              absurd (omega arith)
                          | inr ne_from ↦ barrier.closed.forward (import_in net.imports j) (still_there j h (λ e. ne (ap (λ n. (import_in net.imports n).to) e))) room (rw (ne_eqb _ _ ne_from) at t)
                        ])
                  ]);
              backward = at_numbers net.imports (λ i. 0 < flow i → cond (i.to == x) true (modules i.to) ≡ true → cond (i.from == x) true (modules i.from) ≡ true) (λ j h some t.
                  elim (cases_Bool (eqb (import_in net.imports j).from x)) [
                    | inl e ↦ rw e refl
                    | inr ne_from ↦ rw ne_from
                        (elim (cases_eq j k) [
                          | inl e ↦ rw e t_from
                          | inr ne ↦ elim (cases_eq (import_in net.imports j).to x) [
                            | inl e ↦
                                let two = sum_two (λ i. cond (i.to == x) (flow i) 0) net.imports j k missing_item h present ne in
                                let two_here : flow (import_in net.imports j) + flow (import_in net.imports k) ≤ entering net.imports flow x = rw (eq-eqb _ _ e, eq-eqb x x refl) at two in
                                absurd (omega arith)
                            | inr ne_to ↦ barrier.closed.backward (import_in net.imports j) (still_there j h ne) some (rw (ne_eqb _ _ ne_to) at t)
                          ]
                        ])
                  ]);
            };
          }

      -- without the importer they are a barrier: it sends nothing over any other import, and all that enter it are full
      without_importer : AreBetween net.imports (length net.names) → a < length net.names → a ≢ b →
          (import_in net.imports k).from ≢ a → weight_entering net (import_in net.imports k).from ≤ amount → IsResidualBarrier net flow a b (λ m. cond (m == (import_in net.imports k).from) false (modules m))
      without_importer between a_in apart not_a le =
          let x = (import_in net.imports k).from in
          let above = full in
          let one = flow_leaves net a b flow value is_flow k present in
          let sends = sends_no_more net a b flow value is_flow between a_in apart x not_a in
          let enters_le = entering_within net a b flow value is_flow x in
          record {
            start = rw (ne_eqb a x (λ e. not_a (sym e))) barrier.start;
            end = elim (cases_Bool (eqb b x)) [ inl t ↦ rw t refl | inr f ↦ rw f barrier.end ];
            closed = record {
              forward = at_numbers net.imports (λ i. flow i < i.amount → cond (i.from == x) false (modules i.from) ≡ true → cond (i.to == x) false (modules i.to) ≡ true) (λ j h room t.
                  elim (cases_eq (import_in net.imports j).from x) [
                    | inl e ↦ let no : false ≡ true = rw (eq-eqb _ _ e) at t in absurd (both_ways false refl no)
                    | inr ne_from ↦
                        let to_too = barrier.closed.forward (import_in net.imports j) (still_there j h (λ e. ne_from (ap (λ n. (import_in net.imports n).from) e))) room (rw (ne_eqb _ _ ne_from) at t) in
                        elim (cases_eq (import_in net.imports j).to x) [
                          | inl e ↦
                              let tight = sum_by-tight (λ i. cond (i.to == x) (flow i) 0) (λ i. cond (i.to == x) i.amount 0) net.imports
                              (λ i c. cond_le (i.to == x) (flow i) i.amount (is_flow.within i c)) (omega arith) (import_in net.imports j) j h (get_or_default net.imports j (import_in net.imports j) missing_item h) in
                              let s : flow (import_in net.imports j) ≡ (import_in net.imports j).amount = rw (eq-eqb _ _ e) at tight in
                              absurd (omega arith)
                          | inr ne ↦ rw (ne_eqb _ _ ne) to_too
                        ]
                  ]);
              backward = at_numbers net.imports (λ i. 0 < flow i → cond (i.to == x) false (modules i.to) ≡ true → cond (i.from == x) false (modules i.from) ≡ true) (λ j h some t.
                  elim (cases_eq (import_in net.imports j).to x) [
                    | inl e ↦ let no : false ≡ true = rw (eq-eqb _ _ e) at t in absurd (both_ways false refl no)
                    | inr ne_to ↦
                        let t_to : modules (import_in net.imports j).to ≡ true = rw (ne_eqb _ _ ne_to) at t in
                        elim (cases_eq j k) [
                          | inl e ↦ absurd (both_ways _ f_to (rw e at t_to))
                          | inr ne ↦
                              let from_too = barrier.closed.backward (import_in net.imports j) (still_there j h ne) some t_to in
                              elim (cases_eq (import_in net.imports j).from x) [
                                | inl e ↦
                                    let two = sum_two (λ i. cond (i.from == x) (flow i) 0) net.imports j k missing_item h present ne in
                                    let two_here : flow (import_in net.imports j) + flow (import_in net.imports k) ≤ leaving net.imports flow x = rw (eq-eqb _ _ e, eq-eqb x x refl) at two in
                                    absurd (omega arith)
                                | inr ne_from ↦ rw (ne_eqb _ _ ne_from) from_too
                              ]
                        ]
                  ]);
            };
          }

    still_barred : AreBetween net.imports (length net.names) → a < length net.names → a ≢ b → IsEnough net a b (import_in net.imports k) amount →
        IsFlow net a b flow value → IsUnreachable net flow a b
    still_barred between a_in apart enough is_flow =
        elim (cases_Bool (modules (import_in net.imports k).to)) [
          | inl t_to ↦ (modules, same_barrier (λ _. t_to))
          | inr f_to ↦ elim (cases_Bool (modules (import_in net.imports k).from)) [
            | inr f_from ↦ (modules, same_barrier (λ t. absurd (both_ways _ f_from t)))
            | inl t_from ↦ elim enough [
              | inl (not_b, le) ↦ (λ m. cond (m == (import_in net.imports k).to) true (modules m), with_imported is_flow t_from f_to not_b le)
              | inr (not_a, le) ↦ (λ m. cond (m == (import_in net.imports k).from) false (modules m), without_importer is_flow t_from f_to between a_in apart not_a le)
            ]
          ]
        ]

-- one step
pub lowered_at : (old new : Network) (a b k amount : ℕ) → AreBetween old.imports (length old.names) → a < length old.names → a ≢ b →
    IsReducedAt old new a b k amount → IsReduced old new a b
lowered_at old new a b k amount between a_in apart step = subst (λ (net : Network). IsReduced old net a b) (sym step.changed) (record {
  names = refl;
  pins = refl;
  ends = ends_reweighed old k amount;
  reduced = λ j.
      let now = import_now old a b (λ _. 0) 0 (λ i j e f. refl) k amount step.present j in
      let below = step.below in
      elim (cases_eq j k) [ inl e ↦ rw (now.0 e, e) below | inr ne ↦ rw (now.1 ne) (omega arith) ];
  flows = λ flow value by_ends. keeps_flow old a b flow value by_ends k amount step.present between a_in apart step.enough;
  barred = λ flow value by_ends is_flow barred. still_barred old a b flow value by_ends k amount step.present barred.0 barred.1 between a_in apart step.enough is_flow;
})

same_length : (xs ys : List Priced) → ends_of xs ≡ ends_of ys → length xs ≡ length ys
same_length xs ys e = sym (length-map xs edge_of) ∙ ap length e ∙ length-map ys edge_of

-- imports by number have the same ends
pub same_pair : (xs ys : List Priced) (k : ℕ) → ends_of xs ≡ ends_of ys → edge_of (import_in xs k) ≡ edge_of (import_in ys k)
same_pair xs ys k e = sym (get_or-map edge_of xs k missing_item) ∙ ap (λ (ps : List Edge). get_or ps k (edge_of missing_item)) e ∙ get_or-map edge_of ys k missing_item

-- the imports lead between as many modules
pub still_between : (xs ys : List Priced) (n : ℕ) → ends_of xs ≡ ends_of ys → AreBetween ys n → AreBetween xs n
still_between xs ys n e between = at_numbers xs (λ i. (i.from < n) × (i.to < n)) (λ k h.
    let pair = same_pair xs ys k e in
    let b = between (import_in ys k) (renumbering ys k (omega (arith, same_length xs ys e))) in
    let from : (import_in xs k).from ≡ (import_in ys k).from = ap (λ (p : Edge). p.from) pair in
    let to : (import_in xs k).to ≡ (import_in ys k).to = ap (λ (p : Edge). p.to) pair in
    let from_in = b.0 in
    let to_in = b.1 in
    (omega arith, omega arith))

module _ (old new : Network) (a b : ℕ) (reduced_capacities : IsReduced old new a b) where
  -- a flow of the new network is one of the old network
  pub flow_back : (flow : Priced → ℕ) (value : ℕ) → DependsOnEndsOnly flow → IsFlow new a b flow value → IsFlow old a b flow value
  flow_back flow value by_ends is_flow =
      let into = λ (m : ℕ). same_entering flow by_ends new.imports old.imports m reduced_capacities.ends in
      let out = λ (m : ℕ). same_leaving flow by_ends new.imports old.imports m reduced_capacities.ends in
      record {
        within = at_numbers old.imports (λ i. flow i ≤ i.amount) (λ k h.
            let pair = same_pair new.imports old.imports k reduced_capacities.ends in
            let same = by_ends (import_in new.imports k) (import_in old.imports k) (ap (λ (p : Edge). p.from) pair) (ap (λ (p : Edge). p.to) pair) in
            let le = is_flow.within (import_in new.imports k) (renumbering new.imports k (omega (arith, same_length new.imports old.imports reduced_capacities.ends))) in
            let reduced = reduced_capacities.reduced k in
            omega arith);
        kept = λ m not_a not_b. sym (into m) ∙ is_flow.kept m not_a not_b ∙ out m;
        at_start = let i = into a in let o = out a in let s = is_flow.at_start in omega arith;
      }

  pub greatest_back : (flow : Priced → ℕ) (value : ℕ) → DependsOnEndsOnly flow → IsMaxFlow new a b flow value → IsMaxFlow old a b flow value
  greatest_back flow value by_ends greatest =
      let is_flow = flow_back flow value by_ends greatest.is_flow in
      record { is_flow = is_flow; barred = reduced_capacities.barred flow value by_ends is_flow greatest.barred }

-- two reductions, one after the other
pub narrowed_twice : (one two three : Network) (a b : ℕ) → IsReduced one two a b → IsReduced two three a b → IsReduced one three a b
narrowed_twice one two three a b first second = record {
  names = second.names ∙ first.names;
  pins = second.pins ∙ first.pins;
  ends = second.ends ∙ first.ends;
  reduced = λ k. let f = first.reduced k in let s = second.reduced k in omega arith;
  flows = λ flow value by_ends is_flow. second.flows flow value by_ends (first.flows flow value by_ends is_flow);
  barred = λ flow value by_ends is_flow barred. first.barred flow value by_ends is_flow (second.barred flow value by_ends (first.flows flow value by_ends is_flow) barred);
}

-- the network as it is
pub narrowed_none : (net : Network) (a b : ℕ) → IsReduced net net a b
narrowed_none net a b = record {
  names = refl;
  pins = refl;
  ends = refl;
  reduced = λ k. omega arith;
  flows = λ flow value by_ends is_flow. is_flow;
  barred = λ flow value by_ends is_flow barred. barred;
}

-- any number of steps, in any order
pub lowered_all : (steps : List (ℕ × ℕ)) (old new : Network) (a b : ℕ) → AreBetween old.imports (length old.names) → a < length old.names → a ≢ b →
    AreReductions old new a b steps → IsReduced old new a b
lowered_all [] old new a b between a_in apart e = subst (λ (net : Network). IsReduced old net a b) (sym e) (narrowed_none old a b)
lowered_all ((k, amount) ∷ steps) old new a b between a_in apart (step, more) =
    narrowed_twice old (reweighed old k amount) new a b (lowered_at old (reweighed old k amount) a b k amount between a_in apart step)
    (lowered_all steps (reweighed old k amount) new a b (still_between (reweighed old k amount).imports old.imports (length old.names) (ends_reweighed old k amount) between) a_in apart more)

-- a flow given by lines depends only on the ends of an import
pub by_lines : (lines : List Priced) → DependsOnEndsOnly (flow_by lines)
by_lines lines i j e f = rw (e, f) refl
