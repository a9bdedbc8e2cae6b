-- A path belongs to one declaration.
use Rattle.std.proofs.Common.{◌≡◌, ℕ, zero, suc, List, [], ◌∷◌, ◌++◌, Option, Some, None, refl, sym, ap, ◌∙◌}
use Rattle.std.specs.Option.{option_map, option_map_or, option_and_then}
use Rattle.scip_symbol.specs.SymbolTexts.{DescriptorModel}
use Rattle.scip_symbol.specs.declared.kind.DescriptorKind.TheVariants.{Namespace}
use Rattle.ob_emit.specs.Symbols.{PathStep, descriptor, module_path, path_within}

-- lists with equal last parts are equal before these parts
record EndAlike {X : Type 0} (xs ys : List X) (x y : X) : Type 0 where
  prefix : xs ≡ ys
  end : x ≡ y

no_end : {X : Type 0} (xs : List X) (x : X) → [] ≡ xs ++ x ∷ [] → ⊥
no_end [] x e = cc
no_end (y ∷ ys) x e = cc

end_alike : {X : Type 0} (xs ys : List X) (x y : X) → xs ++ x ∷ [] ≡ ys ++ y ∷ [] → EndAlike xs ys x y
end_alike [] [] x y e = let f : x ∷ [] ≡ y ∷ [] = e in record { prefix = refl; end = cc }
end_alike [] (b ∷ ys) x y e = let f : x ∷ [] ≡ b ∷ (ys ++ y ∷ []) = e in let g : [] ≡ ys ++ y ∷ [] = cc in absurd (no_end ys y g)
end_alike (a ∷ xs) [] x y e = let f : a ∷ (xs ++ x ∷ []) ≡ y ∷ [] = e in let g : [] ≡ xs ++ x ∷ [] = cc in absurd (no_end xs x g)
end_alike (a ∷ xs) (b ∷ ys) x y e =
    let f : a ∷ (xs ++ x ∷ []) ≡ b ∷ (ys ++ y ∷ []) = e in
    let first : a ≡ b = cc in
    let rest : xs ++ x ∷ [] ≡ ys ++ y ∷ [] = cc in
    let h : EndAlike xs ys x y = end_alike xs ys x y rest in
    let prefix : xs ≡ ys = h.prefix in
    record { prefix = cc; end = h.end }

module _ (m : List ℕ) (steps : ℕ → Option PathStep) where
  -- the path above a step
  abbrev pub above : ℕ → Option ℕ → Option (List DescriptorModel)
  above n owner = option_map_or (path_within m steps n) owner (Some (module_path m))

  -- a path has a step, and the path above it
  pub record HasStep (n k : ℕ) (ds : List DescriptorModel) : Type 0 where
    pub step : PathStep
    pub there : steps k ≡ Some step
    pub prefix : List DescriptorModel
    pub up : above n step.owner ≡ Some prefix
    pub whole : ds ≡ prefix ++ step.own ∷ []

  behind : (n k : ℕ) (s : PathStep) (ds : List DescriptorModel) (prefix : Option (List DescriptorModel)) → steps k ≡ Some s → above n s.owner ≡ prefix →
      option_map (λ (xs : List DescriptorModel). xs ++ s.own ∷ []) prefix ≡ Some ds → HasStep n k ds
  behind n k s ds None there up e = absurd (let f : None ≡ Some ds = e in cc)
  behind n k s ds (Some prefix) there up e = record {
    step = s;
    there = there;
    prefix = prefix;
    up = up;
    whole = (let f : Some (prefix ++ s.own ∷ []) ≡ Some ds = e in cc);
  }

  by_step : (n k : ℕ) (ds : List DescriptorModel) (o : Option PathStep) → steps k ≡ o →
      option_and_then (λ (s : PathStep). option_map (λ (xs : List DescriptorModel). xs ++ s.own ∷ []) (above n s.owner)) o ≡ Some ds → HasStep n k ds
  by_step n k ds None there e = absurd (let f : None ≡ Some ds = e in cc)
  by_step n k ds (Some s) there e = behind n k s ds (above n s.owner) there refl e

  pub has_step : (n k : ℕ) (ds : List DescriptorModel) → path_within m steps (suc n) k ≡ Some ds → HasStep n k ds
  unfolding path_within
  has_step n k ds e = by_step n k ds (steps k) refl e

  pub no_path : (k : ℕ) (ds : List DescriptorModel) → path_within m steps 0 k ≡ Some ds → ⊥
  unfolding path_within
  no_path k ds e = let f : None ≡ Some ds = e in cc

  -- a path begins with its module, and has more descriptors
  pub record Begins (ds : List DescriptorModel) : Type 0 where
    pub rest : List DescriptorModel
    pub whole : ds ≡ descriptor Namespace m ∷ rest

  mutual_front : (n : ℕ) (owner : Option ℕ) (prefix : List DescriptorModel) → ((k : ℕ) (ds : List DescriptorModel) → path_within m steps n k ≡ Some ds → Begins ds) →
      above n owner ≡ Some prefix → Begins prefix
  mutual_front n None prefix begin e = record { rest = []; whole = (let f : Some (module_path m) ≡ Some prefix = e in cc) }
  mutual_front n (Some o) prefix begin e = begin o prefix e

  pub begins : (n k : ℕ) (ds : List DescriptorModel) → path_within m steps n k ≡ Some ds → Begins ds
  begins zero k ds e = absurd (no_path k ds e)
  begins (suc n) k ds e =
      let h : HasStep n k ds = has_step n k ds e in
      let b : Begins h.prefix = mutual_front n h.step.owner h.prefix (λ j xs f. begins n j xs f) h.up in
      record { rest = b.rest ++ h.step.own ∷ []; whole = h.whole ∙ ap (λ (xs : List DescriptorModel). xs ++ h.step.own ∷ []) b.whole }

  -- so it isn't the path of the module
  longer : (n k : ℕ) (ds : List DescriptorModel) → path_within m steps n k ≡ Some ds → module_path m ≡ ds → ⊥
  longer zero k ds e is = no_path k ds e
  longer (suc n) k ds e is =
      let h : HasStep n k ds = has_step n k ds e in
      let b : Begins h.prefix = mutual_front n h.step.owner h.prefix (λ j xs f. begins n j xs f) h.up in
      let f : module_path m ≡ descriptor Namespace m ∷ (b.rest ++ h.step.own ∷ []) = is ∙ h.whole ∙ ap (λ (xs : List DescriptorModel). xs ++ h.step.own ∷ []) b.whole in
      let g : [] ≡ b.rest ++ h.step.own ∷ [] = cc in
      no_end b.rest h.step.own g

  module _ (alike : (k j : ℕ) (s t : PathStep) → steps k ≡ Some s → steps j ≡ Some t → s.own ≡ t.own → s.owner ≡ t.owner → k ≡ j) where
    owners : (n o : ℕ) (a b : Option ℕ) (prefix back : List DescriptorModel) →
        ((k j : ℕ) (ds : List DescriptorModel) → path_within m steps n k ≡ Some ds → path_within m steps o j ≡ Some ds → k ≡ j) →
        above n a ≡ Some prefix → above o b ≡ Some back → prefix ≡ back → a ≡ b
    owners n o None None prefix back once e f is = refl
    owners n o None (Some j) prefix back once e f is = absurd (longer o j back f ((let g : Some (module_path m) ≡ Some prefix = e in let h : module_path m ≡ prefix = cc in h) ∙ is))
    owners n o (Some k) None prefix back once e f is = absurd (longer n k prefix e ((let g : Some (module_path m) ≡ Some back = f in let h : module_path m ≡ back = cc in h) ∙ sym is))
    owners n o (Some k) (Some j) prefix back once e f is = ap Some (once k j prefix e (f ∙ ap Some (sym is)))

    pub path_once : (n o k j : ℕ) (ds : List DescriptorModel) → path_within m steps n k ≡ Some ds → path_within m steps o j ≡ Some ds → k ≡ j
    path_once zero o k j ds e f = absurd (no_path k ds e)
    path_once (suc n) zero k j ds e f = absurd (no_path j ds f)
    path_once (suc n) (suc o) k j ds e f =
        let a : HasStep n k ds = has_step n k ds e in
        let b : HasStep o j ds = has_step o j ds f in
        let h : EndAlike a.prefix b.prefix a.step.own b.step.own = end_alike a.prefix b.prefix a.step.own b.step.own (sym a.whole ∙ b.whole) in
        alike k j a.step b.step a.there b.there h.end (owners n o a.step.owner b.step.owner a.prefix b.prefix (λ i l xs p q. path_once n o i l xs p q) a.up b.up h.prefix)
