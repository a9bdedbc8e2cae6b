-- Paths of imports are followed along linked lists.
use Rattle.std.proofs.Common.{◌≡◌, ℕ, ◌+◌, ◌<◌, Bool, true, false, List, [], ◌∷◌, ◌++◌, length, replicate, set, refl, sym, ap, ◌∙◌, subst, arith, inl, inr}
use Rattle.std.proofs.lemmas.Bool.{cases_eq}
use Rattle.std.proofs.lemmas.List.{get_or_default}
use Rattle.std.proofs.lemmas.List.Elements.{Contains-get_or}
use Rattle.digraph.specs.LinkedLists.{IsLast}
use Rattle.digraph.proofs.SpreadMarks.{follow_ends, follow_marked, follow_starts, follow_unmarked, mark_before, mark_kept, spread_starts, start_alone, start_marked}
use Rattle.cut_net.specs.declared.priced.Priced.{Priced}
use Rattle.cut_net.specs.Network.{missing_item}
use Rattle.cut_net.specs.Cuts.{Any, Chain, IsChain}
use Rattle.residual_graph.specs.Graphs.{is_flagged}
use Rattle.cut_part.specs.Marks.{AreReachable}
use Rattle.cut_part.specs.CapacityReduction.{import_in}
use Rattle.cut_part.specs.Reach.{imported, IsFollowing, IsSpreading, IsImporter}
use Rattle.cut_part.proofs.Subnetworks.{onward}

-- ---- one module's imports

module _ (imports : List Priced) (start : ℕ) (marks : List Bool) (waiting : List ℕ) (m : ℕ) where
  pub following_starts : (next : ℕ) → IsLast (IsImporter imports m) (length imports) next → IsSpreading imports start marks (waiting ++ m ∷ []) → IsFollowing imports start marks waiting m next
  following_starts next last s = record {
    started = s.started;
    mark_reachable = s.mark_reachable;
    spread = follow_starts (IsImporter imports) (imported imports) (length imports) marks waiting m next last s.spread;
  }

  pub following_ends : IsFollowing imports start marks waiting m 0 → IsSpreading imports start marks waiting
  following_ends f = record { started = f.started; mark_reachable = f.mark_reachable; spread = follow_ends (IsImporter imports) (imported imports) (length imports) marks waiting m f.spread }

  module _ (number next : ℕ) (low : number < length imports) (own : IsImporter imports m number) (last : IsLast (IsImporter imports m) number next)
      (f : IsFollowing imports start marks waiting m (number + 1)) where
    -- the imported module has its flag set already
    pub follows_marked : is_flagged marks (imported imports number) ≡ true → IsFollowing imports start marks waiting m next
    follows_marked on = record {
      started = f.started;
      mark_reachable = f.mark_reachable;
      spread = follow_marked (IsImporter imports) (imported imports) (length imports) marks waiting m number next last f.spread on;
    }

    -- it gets one, and waits
    pub follows_unmarked : imported imports number < length marks →
        IsFollowing imports start (set marks (imported imports number) true) (waiting ++ imported imports number ∷ []) m next
    follows_unmarked within =
        let to = imported imports number in
        record {
          started = mark_kept marks to start within f.started;
          mark_reachable = λ x on. elim (cases_eq x to) [
            | inl e ↦
                let to_from = subst (Chain imports Any start) (sym own) (f.mark_reachable m f.spread.own) in
                subst (Chain imports Any start) (sym e) (onward imports start (import_in imports number) (Contains-get_or imports number missing_item low) to_from)
            | inr ne ↦ f.mark_reachable x (mark_before marks to x ne on)
          ];
          spread = follow_unmarked (IsImporter imports) (imported imports) (length imports) marks waiting m number next last f.spread within;
        }

-- ---- the whole

pub spreading_starts : (imports : List Priced) (start modules : ℕ) → start < modules → IsSpreading imports start (set (replicate modules false) start true) (start ∷ [])
spreading_starts imports start modules low = record {
  started = start_marked start modules low;
  mark_reachable = λ x on. ([], sym (start_alone start modules x on));
  spread = spread_starts start modules (IsImporter imports) (imported imports) (length imports) low;
}

along : (imports : List Priced) (start : ℕ) (marks : List Bool) → IsSpreading imports start marks [] → (m : ℕ) → is_flagged marks m ≡ true → (more : List ℕ) (n : ℕ) → IsChain imports Any m more n → is_flagged marks n ≡ true
along imports start marks s m on [] n e = subst (λ v. is_flagged marks v ≡ true) e on
along imports start marks s m on (x ∷ more) n ((i, (k, in_k, at_k), from, to, any), rest) =
    let is : import_in imports k ≡ i = get_or_default imports k missing_item i in_k ∙ at_k in
    let from_on : is_flagged marks (import_in imports k).from ≡ true = ap (λ (j : Priced). is_flagged marks j.from) is ∙ ap (is_flagged marks) from ∙ on in
    let to_is : (import_in imports k).to ≡ x = ap (λ (j : Priced). j.to) is ∙ to in
    elim (s.spread.followed k (import_in imports k).from in_k refl from_on) [
      | inl to_on ↦ along imports start marks s x (subst (λ v. is_flagged marks v ≡ true) to_is to_on) more n rest
      | inr w ↦ absurd (omega (arith, w.1))
    ]

pub spread : (imports : List Priced) (start : ℕ) (marks : List Bool) → IsSpreading imports start marks [] → AreReachable imports start marks
spread imports start marks s m = (s.mark_reachable m, λ (more, chain). along imports start marks s start s.started more m chain)
