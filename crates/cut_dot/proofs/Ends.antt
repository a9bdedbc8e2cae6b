-- Modules that are flagged at the ends of imports.
use Rattle.std.proofs.Common.{◌≡◌, ℕ, ◌+◌, ◌<◌, Bool, true, false, List, [], ◌∷◌, ◌++◌, length, get_or, set, take, filter, refl, sym, ap, ◌∙◌, subst, inl, inr}
use Rattle.std.specs.Prelude.{Contains}
use Rattle.std.proofs.lemmas.Bool.{cases_eq, and_from}
use Rattle.std.proofs.lemmas.List.{get_or-set_other, take_more}
use Rattle.std.proofs.lemmas.List.Elements.{Contains-append_cases, Contains-append_left, Contains-append_right}
use Rattle.digraph.proofs.Members.{first_member, later_member, no_member, one_member}
use Rattle.cut_net.specs.declared.priced.Priced.{Priced}
use Rattle.cut_net.specs.Cuts.{IsSetOf}
use Rattle.cut_part.specs.Subnetworks.{are_ends_in}
use Rattle.cut_part.specs.Marks.{with_ends}
use Rattle.cut_part.proofs.Parts.{end_marked, start_marked, still_marked}
use Rattle.residual_graph.specs.Graphs.{is_flagged}
use Rattle.cut_dot.specs.Pictures.{IsImportEnd}

-- where nothing is flagged, no import is inspected
pub none_at_end : (marks : List Bool) → ((m : ℕ) → is_flagged marks m ≡ false) → IsSetOf (is_flagged marks) (IsImportEnd [])
none_at_end marks blank m = (λ t. let no = sym (blank m) ∙ t in absurd cc, λ (i, within, at). no_member i within)

module _ (imports : List Priced) (k : ℕ) (d : Priced) (marks : List Bool) where
  one_behind : k < length imports → (i : Priced) → Contains (take (k + 1) imports) i → Contains (take k imports ++ get_or imports k d ∷ []) i
  one_behind in_k i within = subst (λ (v : List Priced). Contains v i) (take_more imports k d in_k) within

  -- the flags, with the ends of the next import
  pub one_more_at_end : k < length imports → (get_or imports k d).from < length marks → (get_or imports k d).to < length marks → IsSetOf (is_flagged marks) (IsImportEnd (take k imports))
      → IsSetOf (is_flagged (with_ends marks (get_or imports k d).from (get_or imports k d).to)) (IsImportEnd (take (k + 1) imports))
  one_more_at_end in_k from_in to_in so_far m =
      let i = get_or imports k d in
      let whole = take_more imports k d in_k in
      let last : Contains (take (k + 1) imports) i = rw whole (Contains-append_right (take k imports) (i ∷ []) i (first_member i [] i refl)) in (
        λ t. elim (cases_eq m i.to) [
          | inl e ↦ (i, last, inr (sym e))
          | inr no_to ↦ elim (cases_eq m i.from) [
            | inl e ↦ (i, last, inl (sym e))
            | inr no_from ↦
                let was = sym (get_or-set_other (set marks i.from true) i.to m true false no_to ∙ get_or-set_other marks i.from m true false no_from) ∙ t in
                let before = (so_far m).0 was in
                (before.0, rw whole (Contains-append_left (take k imports) (i ∷ []) before.0 before.1), before.2)
          ]
        ],
        λ (j, within, at). elim (Contains-append_cases (take k imports) (i ∷ []) j (one_behind in_k j within)) [
          | inl before ↦ still_marked marks i.from i.to m ((so_far m).1 (j, before, at))
          | inr here ↦ let same = one_member i j here in elim at [
            | inl from ↦ subst (λ (n : ℕ). is_flagged (with_ends marks i.from i.to) n ≡ true) (ap (λ (x : Priced). x.from) same ∙ from) (start_marked marks i.from i.to from_in)
            | inr to ↦ subst (λ (n : ℕ). is_flagged (with_ends marks i.from i.to) n ≡ true) (ap (λ (x : Priced). x.to) same ∙ to) (end_marked marks i.from i.to to_in)
          ]
        ],
      )

all_pass : {X : Type 0} (p : X → Bool) (xs : List X) → ((x : X) → Contains xs x → p x ≡ true) → filter p xs ≡ xs
all_pass p [] passes = refl
all_pass p (x ∷ xs) passes = rw (passes x (first_member x xs x refl)) (ap (λ ys. x ∷ ys) (all_pass p xs (λ y within. passes y (later_member x xs y within))))

-- all imports lead between modules at their ends
pub all_inside : (marks : ℕ → Bool) (imports : List Priced) → IsSetOf marks (IsImportEnd imports) → filter (are_ends_in marks) imports ≡ imports
all_inside marks imports at_ends = all_pass (are_ends_in marks) imports (λ i within. and_from _ _ ((at_ends i.from).1 (i, within, inl refl)) ((at_ends i.to).1 (i, within, inr refl)))
