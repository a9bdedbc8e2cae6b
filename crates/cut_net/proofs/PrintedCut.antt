-- The imports that are reported leave the minimal source side and are a cut. Those that leave and aren't reported weigh nothing.
use Rattle.std.proofs.Common.{◌≡◌, ℕ, ◌<◌, Bool, true, false, cond, ◌&&◌, not, List, length, [], ◌∷◌, sym, ◌∙◌, subst, arith, inl, inr}
use Rattle.std.specs.Prelude.{Contains, nat_lt}
use Rattle.std.proofs.lemmas.Bool.{cases_Bool, both_ways, and_from, and_left, and_parts, cond-true, cond-false, ltb-true, lt-ltb, not-true, not_from_false, false_from_ne_true}
use Rattle.cut_net.specs.declared.priced.Priced.{Priced}
use Rattle.cut_net.specs.Network.{Network}
use Rattle.cut_net.specs.WellFormed.{AreBetween}
use Rattle.cut_net.specs.Cuts.{IsChain, Outside, IsCut, IsSide, leaves, IsMinimumSide, InSourceSide, LeavesSourceSide, AreReported, IsSetOf}
use Rattle.cut_net.proofs.Certificate.{cond_within, leaves_in_cut, side_of_cut, weight-mono}
use Rattle.cut_net.proofs.Chains.{no_chain_to}
use Rattle.cut_net.proofs.ListSums.{sum_by-tight}

module _ (net : Network) (a b : ℕ) (n : ℕ → Bool) (is_near : IsSetOf n (InSourceSide net a b)) (x : Priced → Bool) (printed : AreReported net a b x) where
  pub leaves_near : (i : Priced) → Contains net.imports i → x i ≡ true → leaves n i ≡ true
  leaves_near i c t =
      let out = ((printed i c).0 t).0 in
      and_from _ _ ((is_near i.from).1 out.0) (not_from_false _ (false_from_ne_true _ (λ u. out.1 ((is_near i.to).0 u))))

  -- a path to b by imports that aren't reported is one by imports that don't leave the minimal source side
  stays : (m : ℕ) (more : List ℕ) → IsChain net.imports (Outside x) m more b → IsChain net.imports (λ i. LeavesSourceSide net a b i → ⊥) m more b
  stays m [] e = e
  stays m (k ∷ more) ((i, c, ef, et, out), rest) =
      let later = stays k more rest in
      ((i, c, ef, et, λ leaving. both_ways (x i) out ((printed i c).1 (leaving, (more, subst (λ j. IsChain net.imports (λ i. LeavesSourceSide net a b i → ⊥) j more b) (sym et) later)))), later)

  within : (m : ℕ) (more : List ℕ) → n m ≡ true → IsChain net.imports (λ i. LeavesSourceSide net a b i → ⊥) m more b → n b ≡ true
  within m [] t e = subst (λ j. n j ≡ true) e t
  within m (k ∷ more) t ((i, c, ef, et, not_leaving), rest) =
      within k more
      (elim (cases_Bool (n k)) [
        | inl u ↦ u
        | inr f ↦ absurd (not_leaving ((is_near i.from).0 (subst (λ j. n j ≡ true) (sym ef) t), λ near. both_ways (n k) f (subst (λ j. n j ≡ true) et ((is_near i.to).1 near))))
      ])
      rest

  pub cut_of_near : IsSide net a b n → IsCut net a b x
  cut_of_near side chain = both_ways (n b) side.end (within a chain.0 side.start (stays a chain.0 chain.1))

  pub unprinted : IsMinimumSide net a b n → (i : Priced) → Contains net.imports i → leaves n i ≡ true → x i ≡ false → i.amount ≡ 0
  unprinted least i c out off =
      let cut = cut_of_near least.is_side in
      let side = side_of_cut net a b x cut in
      let le = least.least (no_chain_to net.imports x b) side in
      let more = weight-mono net.imports (leaves (no_chain_to net.imports x b)) x (leaves_in_cut net.imports b x) in
      let same : cond (x i) i.amount 0 ≡ cond (leaves n i) i.amount 0 =
      sum_by-tight (λ j. cond (x j) j.amount 0) (λ j. cond (leaves n j) j.amount 0) net.imports
      (λ j d. cond_within (x j) (leaves n j) j.amount (leaves_near j d)) (omega arith) i c.0 c.1 c.2 in
      sym (cond-true (leaves n i) i.amount 0 out) ∙ sym same ∙ cond-false (x i) i.amount 0 off

-- a source side of minimum weight has the same leaving imports without the numbers that are no module's
module _ (net : Network) (a b : ℕ) (between : AreBetween net.imports (length net.names)) (a_in : a < length net.names) (s : ℕ → Bool) (least : IsMinimumSide net a b s) where
  abbrev pub among_modules : ℕ → Bool
  among_modules k = s k && nat_lt k (length net.names)

  leaves_both : (i : Priced) → Contains net.imports i → leaves among_modules i ≡ true → leaves s i ≡ true
  leaves_both i c out =
      let parts = and_parts (among_modules i.from) (not (among_modules i.to)) out in
      let has = and_parts (s i.from) (nat_lt i.from (length net.names)) parts.0 in
      and_from _ _ has.0 (not_from_false _ (false_from_ne_true _ (λ u.
      both_ways (among_modules i.to) (not-true _ parts.1) (and_from _ _ u (lt-ltb i.to (length net.names) (between i c).1)))))

  pub among_is_least : IsMinimumSide net a b among_modules
  among_is_least = record {
    is_side = record { start = and_from _ _ least.is_side.start (lt-ltb a (length net.names) a_in); end = and_left _ _ least.is_side.end };
    least = λ other is_side.
        let le = weight-mono net.imports (leaves among_modules) (leaves s) leaves_both in
        let more = least.least other is_side in
        omega arith;
  }

  pub among_near : ((k : ℕ) → k < length net.names → s k ≡ true → InSourceSide net a b k) → IsSetOf among_modules (InSourceSide net a b)
  among_near near m =
      (λ t. let has = and_parts (s m) (nat_lt m (length net.names)) t in near m (ltb-true m (length net.names) has.1) has.0, λ is_near. is_near among_modules among_is_least)
