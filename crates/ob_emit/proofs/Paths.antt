-- Paths, one step up at a time.
use Rattle.std.proofs.Common.{◌≡◌, ℕ, zero, suc, ◌<◌, List, [], ◌∷◌, ◌++◌, Option, Some, None, Bool, true, false, refl, sym, ap, ◌∙◌, subst, arith, append_assoc, append-nil}
use Rattle.std.specs.Option.{option_map, option_map_or, option_and_then}
use Rattle.scip_symbol.specs.SymbolTexts.{DescriptorModel, canonical_descriptor_text}
use Rattle.scip_symbol.specs.declared.kind.DescriptorKind.TheVariants.{Namespace}
use Rattle.ob_emit.specs.Symbols.{PathStep, descriptor, module_path, path, path_within}
use Rattle.ob_emit.specs.StoredTexts.{path_text, OwnersPrecede, IsAppended}

-- the path above a step, with at most this many steps
abbrev above : List ℕ → (ℕ → Option PathStep) → ℕ → PathStep → Option (List DescriptorModel)
above m steps n s = option_map (λ (ds : List DescriptorModel). ds ++ s.own ∷ []) (option_map_or (path_within m steps n) s.owner (Some (module_path m)))

-- the path of a step, given those of owners
abbrev pub path_by : List ℕ → (ℕ → Option PathStep) → PathStep → Option (List DescriptorModel)
path_by m steps s = option_map (λ (ds : List DescriptorModel). ds ++ s.own ∷ []) (option_map_or (path m steps) s.owner (Some (module_path m)))

module _ (m : List ℕ) (steps : ℕ → Option PathStep) (before : OwnersPrecede steps) where
  above_same : (n o k : ℕ) (s : PathStep) (w : Option ℕ) → ((v : ℕ) → v < k → path_within m steps n v ≡ path_within m steps o v) → steps k ≡ Some s → s.owner ≡ w
      → option_map_or (path_within m steps n) w (Some (module_path m)) ≡ option_map_or (path_within m steps o) w (Some (module_path m))
  above_same n o k s None same e f = refl
  above_same n o k s (Some v) same e f = same v (before k v s e f)

  step_same : (n o k : ℕ) (v : Option PathStep) → ((v : ℕ) → v < k → path_within m steps n v ≡ path_within m steps o v) → steps k ≡ v
      → option_and_then (above m steps n) v ≡ option_and_then (above m steps o) v
  step_same n o k None same e = refl
  step_same n o k (Some s) same e = ap (option_map (λ (ds : List DescriptorModel). ds ++ s.own ∷ [])) (above_same n o k s s.owner same e refl)

  -- more steps than needed give the same path
  stable : (n o k : ℕ) → k < n → k < o → path_within m steps n k ≡ path_within m steps o k
  unfolding path_within
  stable zero o k l h = absurd (omega (arith, l))
  stable (suc n) zero k l h = absurd (omega (arith, h))
  stable (suc n) (suc o) k l h = step_same n o k (steps k) (λ v b. stable n o v (omega arith) (omega arith)) refl

  above_is : (k : ℕ) (s : PathStep) (w : Option ℕ) → steps k ≡ Some s → s.owner ≡ w → option_map_or (path_within m steps k) w (Some (module_path m)) ≡ option_map_or (path m steps) w (Some (module_path m))
  above_is k s None e f = refl
  above_is k s (Some w) e f = let b : w < k = before k w s e f in stable k (suc w) w b (omega arith)

  -- the path of a step is that of its owner, or of the module, and its own descriptor
  pub path_some : (k : ℕ) (s : PathStep) → steps k ≡ Some s → path m steps k ≡ path_by m steps s
  unfolding path_within
  path_some k s e = rw e (ap (option_map (λ (ds : List DescriptorModel). ds ++ s.own ∷ [])) (above_is k s s.owner e refl))

  pub path_none : (k : ℕ) → steps k ≡ None → path m steps k ≡ None
  unfolding path_within
  path_none k e = rw e refl

pub text_more : (ds : List DescriptorModel) (d : DescriptorModel) → path_text (ds ++ d ∷ []) ≡ path_text ds ++ canonical_descriptor_text d
text_more [] d = append-nil (canonical_descriptor_text d)
text_more (x ∷ ds) d = ap (λ (t : List ℕ). canonical_descriptor_text x ++ t) (text_more ds d) ∙ sym (append_assoc (canonical_descriptor_text x) (path_text ds) (canonical_descriptor_text d))

pub text_one : (d : DescriptorModel) → path_text (d ∷ []) ≡ canonical_descriptor_text d
text_one d = append-nil (canonical_descriptor_text d)

-- one more descriptor is appended
pub pushed_more : (old mid : List ℕ) (o : Option (List DescriptorModel)) (d : DescriptorModel) → IsAppended old mid o true
    → IsAppended old (mid ++ canonical_descriptor_text d) (option_map (λ (ds : List DescriptorModel). ds ++ d ∷ []) o) true
pushed_more old mid None d h = absurd (let e : None ≡ Some mid = h in cc)
pushed_more old mid (Some ds) d h =
    let e : old ++ path_text ds ≡ mid = (let f : Some (old ++ path_text ds) ≡ Some mid = h in cc) in
    ap Some (ap (λ (t : List ℕ). old ++ t) (text_more ds d) ∙ (sym (append_assoc old (path_text ds) (canonical_descriptor_text d)) ∙ ap (λ (t : List ℕ). t ++ canonical_descriptor_text d) e))

pub pushed_none : (old mid new : List ℕ) (o : Option (List DescriptorModel)) (d : DescriptorModel) → IsAppended old mid o false
    → IsAppended old new (option_map (λ (ds : List DescriptorModel). ds ++ d ∷ []) o) false
pushed_none old mid new o d h = ap (option_map (λ (ds : List DescriptorModel). ds ++ d ∷ [])) h

-- the module's descriptor is appended
pub pushed_module : (old m : List ℕ) → IsAppended old (old ++ canonical_descriptor_text (descriptor Namespace m)) (Some (module_path m)) true
pushed_module old m = ap (λ (t : List ℕ). Some (old ++ t)) (text_one (descriptor Namespace m))

-- what was appended is the symbol string of the path
pub pushed_text : (old new : List ℕ) (o : Option (List DescriptorModel)) → IsAppended old new o true → Some new ≡ option_map (λ (ds : List DescriptorModel). old ++ path_text ds) o
pushed_text old new o h = sym h

pub pushed_nothing : (old new : List ℕ) (o : Option (List DescriptorModel)) → IsAppended old new o false → None ≡ option_map (λ (ds : List DescriptorModel). old ++ path_text ds) o
pushed_nothing old new o h = sym (ap (option_map (λ (ds : List DescriptorModel). old ++ path_text ds)) h)

-- the descriptor of a step is appended after those above it
pub pushed_step : (m : List ℕ) (steps : ℕ → Option PathStep) → OwnersPrecede steps → (k : ℕ) (s : PathStep) (old mid new : List ℕ) (found : Bool) → steps k ≡ Some s
    → IsAppended old mid (option_map_or (path m steps) s.owner (Some (module_path m))) found → found ≡ true → new ≡ mid ++ canonical_descriptor_text s.own → IsAppended old new (path m steps k) found
pushed_step m steps before k s old mid new found e h t is =
    let more : IsAppended old (mid ++ canonical_descriptor_text s.own) (path_by m steps s) true =
    pushed_more old mid (option_map_or (path m steps) s.owner (Some (module_path m))) s.own (subst (λ (b : Bool). IsAppended old mid (option_map_or (path m steps) s.owner (Some (module_path m))) b) t h) in
    let last : IsAppended old new (path_by m steps s) true = subst (λ (x : List ℕ). IsAppended old x (path_by m steps s) true) (sym is) more in
    let whole : IsAppended old new (path m steps k) true = subst (λ (o : Option (List DescriptorModel)). IsAppended old new o true) (sym (path_some m steps before k s e)) last in
    subst (λ (b : Bool). IsAppended old new (path m steps k) b) (sym t) whole

-- nothing is appended
pub pushed_no_step : (m : List ℕ) (steps : ℕ → Option PathStep) → OwnersPrecede steps → (k : ℕ) (s : PathStep) (old mid : List ℕ) (found : Bool) → steps k ≡ Some s
    → IsAppended old mid (option_map_or (path m steps) s.owner (Some (module_path m))) found → found ≡ false → IsAppended old mid (path m steps k) found
pushed_no_step m steps before k s old mid found e h f =
    let none : IsAppended old mid (path_by m steps s) false =
    pushed_none old mid mid (option_map_or (path m steps) s.owner (Some (module_path m))) s.own (subst (λ (b : Bool). IsAppended old mid (option_map_or (path m steps) s.owner (Some (module_path m))) b) f h) in
    let whole : IsAppended old mid (path m steps k) false = subst (λ (o : Option (List DescriptorModel)). IsAppended old mid o false) (sym (path_some m steps before k s e)) none in
    subst (λ (b : Bool). IsAppended old mid (path m steps k) b) (sym f) whole
