-- A reader with more levels left returns the same, unless the other one found a construct too deep.
use Rattle.std.proofs.Common.{◌≡◌, ℕ, ◌≤◌, List, ◌++◌, Ok, Err, refl, ap, ◌∙◌, ◌⊎◌, inl, inr}
use Rattle.ob_tree.specs.declared.token.Leaf.{Leaf}
use Rattle.ob_tree.specs.TreeEvents.{Events, construct}
use Rattle.ob_grammar.specs.Combinators.{TooDeep, ◌>>=◌, Read}
use Rattle.ob_grammar.specs.ReadModules.{module_at}
use Rattle.ob_grammar.proofs.Compatible.{IsCompatible}
use Rattle.ob_grammar.proofs.CompatibleProductions.{module_at_held}

-- the first reader found a construct too deep, or both return the same
abbrev pub Agree : Read → Read → Type 0
Agree a b = ((x : Leaf × List Leaf) × (a ≡ Err (TooDeep x))) ⊎ (a ≡ b)

then_agree : (a b : Read) (f g : Events × List Leaf → Read) → Agree a b → ((x : Events × List Leaf) → Agree (f x) (g x)) → Agree (a >>= f) (b >>= g)
then_agree a b f g (inl d) h = inl (d.0, rw d.1 refl)
then_agree (Ok x) b f g (inr e) h = elim (h x) [ inl d ↦ inl d | inr s ↦ inr (s ∙ ap (λ (y : Read). y >>= g) e) ]
then_agree (Err x) b f g (inr e) h = inr (ap (λ (y : Read). y >>= g) e)

agreeing : IsCompatible (λ n. Unit {0}) (λ d from a b. Agree a b)
agreeing = record {
  wrong = λ o. inr refl;
  deep = λ x. inl (x, refl);
  nothing = λ ls. inr refl;
  one_after = λ p q. then_agree _ _ _ _ p (λ x. then_agree _ _ (λ y. Ok (x.0 ++ y.0, y.1)) (λ y. Ok (x.0 ++ y.0, y.1)) (q x.1) (λ y. inr refl));
  flat = λ k e p. then_agree _ _ (λ x. Ok (construct k x.0, x.1)) (λ x. Ok (construct k x.0, x.1)) p (λ x. inr refl);
  level = λ k e p. then_agree _ _ (λ x. Ok (construct k x.0, x.1)) (λ x. Ok (construct k x.0, x.1)) p (λ x. inr refl);
  a_word = λ k rest. inr refl;
  a_value = λ k n rest. inr refl;
  a_name = λ role fault_of_stop n rest. inr refl;
  in_range = λ p. p tt;
}

pub module_at_extends : (d k : ℕ) → d ≤ k → (ls : List Leaf) → Agree (module_at d ls) (module_at k ls)
module_at_extends d k le ls = (module_at_held agreeing d k le).at ls
