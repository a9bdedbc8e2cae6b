-- The picture without a path, and the picture by flow without flow.
use Rattle.std.proofs.Common.{◌≡◌, ℕ, Bool, false, ◌||◌, ◌&&◌, List, [], ◌∷◌, filter, refl, ap, ap₂, ◌∙◌, subst, inl, inr}
use Rattle.std.proofs.lemmas.Bool.{cases_Bool, false_from_ne_true}
use Rattle.std.specs.Prelude.{Contains}
use Rattle.digraph.proofs.Members.{no_member}
use Rattle.cut_net.specs.declared.priced.Priced.{Priced}
use Rattle.cut_net.specs.Cuts.{Any, Chain}
use Rattle.cut_net.specs.Network.{Network}
use Rattle.cut_net.proofs.Chains.{joined}
use Rattle.cut_part.specs.Subnetworks.{are_ends_in}
use Rattle.cut_dot.specs.Ends.{is_chain_end}
use Rattle.cut_dot.specs.Pictures.{drawn_imports, drawn_modules, is_drawn, is_reported, numbers, reported_imports, AreStillReached, IsFlowPicture, IsPicture}
use Rattle.cut_dot.specs.Texts.{picture_text}

-- two tests that agree pass the same members
pub same_members : {X : Type 0} (p q : X → Bool) → ((x : X) → p x ≡ q x) → (xs : List X) → filter p xs ≡ filter q xs
same_members p q same [] = refl
same_members p q same (x ∷ xs) = elim (cases_Bool (q x)) [
  | inl t ↦ rw (same x, t) (ap (λ ys. x ∷ ys) (same_members p q same xs))
  | inr f ↦ rw (same x, f) (same_members p q same xs)
]

no_members : {X : Type 0} (p : X → Bool) → ((x : X) → p x ≡ false) → (xs : List X) → filter p xs ≡ []
no_members p none [] = refl
no_members p none (x ∷ xs) = rw (none x) (no_members p none xs)

two_ends : (net : Network) (a b : ℕ) (marks : ℕ → Bool) → ((m : ℕ) → marks m ≡ false) → drawn_modules net a b marks ≡ filter (is_chain_end a b) (numbers net)
two_ends net a b marks none = same_members (is_drawn a b marks) (is_chain_end a b) (λ m. ap (λ (t : Bool). t || is_chain_end a b m) (none m)) (numbers net)

pub alone : (net : Network) (a b : ℕ) (printed flow : List Priced) (text : List ℕ) → IsPicture net a b printed flow text → (Chain net.imports Any a b → ⊥)
    → (reached : ℕ → Bool) × AreStillReached net a printed reached × (text ≡ picture_text net a b printed flow reached (filter (is_chain_end a b) (numbers net)) [])
alone net a b printed flow text is no_chain =
    let none : (m : ℕ) → is.between m ≡ false = λ m. false_from_ne_true _ (λ t. let on = (is.are_between m).0 t in no_chain (joined net.imports Any a m b on.0 on.1)) in
    let modules : drawn_modules net a b is.between ≡ filter (is_chain_end a b) (numbers net) = two_ends net a b is.between none in
    let imports : drawn_imports net is.between ≡ [] = no_members (are_ends_in is.between) (λ i. ap (λ (t : Bool). t && is.between i.to) (none i.from)) net.imports in
    (is.reached, is.are_reached, is.text_is ∙ ap₂ (λ (ms : List ℕ) (some : List Priced). picture_text net a b printed flow is.reached ms some) modules imports)

pub alone_by_flow : (net : Network) (a b : ℕ) (text : List ℕ) → IsFlowPicture net a b [] [] text
    → (reached : ℕ → Bool) × AreStillReached net a [] reached × (text ≡ picture_text net a b [] [] reached (filter (is_chain_end a b) (numbers net)) [])
alone_by_flow net a b text is =
    let imports : reported_imports net [] [] ≡ [] = no_members (is_reported [] []) (λ i. refl) net.imports in
    let none : (m : ℕ) → is.at_end m ≡ false = λ m. false_from_ne_true _ (λ t. let at = (is.are_at_ends m).0 t in let within : Contains [] at.0 = subst (λ (v : List Priced). Contains v at.0) imports at.1 in no_member at.0 within) in
    let modules = two_ends net a b is.at_end none in
    (is.reached, is.are_reached, is.text_is ∙ ap₂ (λ (ms : List ℕ) (some : List Priced). picture_text net a b [] [] is.reached ms some) modules imports)
