-- Each forbidden path has a violation, and each violation is on a forbidden path without other violations.
use Rattle.std.proofs.Common.{◌≡◌, ◌∙◌, ℕ, ◌<◌, ◌⊎◌, inl, inr, List, [], ◌∷◌, ◌++◌, length, get_or, refl, sym, ap, ap₂, subst, arith, append_assoc, length-append}
use Rattle.std.specs.Prelude.{Contains}
use Rattle.std.proofs.lemmas.List.{get_or_default}
use Rattle.std.proofs.lemmas.List.Elements.{Contains-append_cases, Contains-get_or}
use Rattle.digraph.specs.Chains.{IsChain}
use Rattle.digraph.proofs.Members.{first_member, later_member, no_member, one_member}
use Rattle.cut_net.specs.declared.priced.Priced.{Priced}
use Rattle.cut_net.specs.Network.{Network, missing_item}
use Rattle.cut_rules.specs.declared.file.File.{File}
use Rattle.cut_rules.specs.declared.rule.RuleKind.{RuleKind}
use Rattle.cut_rules.specs.declared.rule.RuleKind.TheVariants as kinds
use Rattle.cut_rules.specs.RuleLines.{Forbid, Restricts, States}
use Rattle.cut_rules.specs.Rules.{IsUnallowedImport, IsAllowed, IsIn}
use Rattle.cut_rules.specs.Verdicts.{import_at, Breaks, BreaksRule, ByForbid, ByForbidImport, ByMay, IsForbidden, IsForbiddenPath, IsOnPath, PathByForbid, PathByForbidImport, PathByMay}
use Rattle.cut_rules.proofs.LineLaws.{says_one}

-- one edge more
chain_push : (G : ℕ → ℕ → Type 0) (a : ℕ) (more : List ℕ) (m n : ℕ) → IsChain G a more m → G m n → IsChain G a (more ++ n ∷ []) n
chain_push G a [] m n e step = (subst (λ (v : ℕ). G v n) (sym e) step, refl)
chain_push G a (b ∷ more) m n (first, rest) step = (first, chain_push G b more m n rest step)

-- a list's last two members are those of the list before and the last one, or the second is after the first of that list
last_two : (before after : List ℕ) (f t s : ℕ) (more : List ℕ) (n : ℕ) → before ++ f ∷ t ∷ after ≡ (s ∷ more) ++ n ∷ [] → ((t ≡ n) × (s ∷ more ≡ before ++ f ∷ [])) ⊎ Contains more t
last_two [] after f t s [] n e = let first : f ≡ s = cc in inl (cc, ap (λ (v : ℕ). v ∷ []) (sym first))
last_two [] after f t s (u ∷ more) n e = inr (first_member u more t (cc))
last_two (b ∷ before) after f t s [] n e = absurd (let long = ap length e in let more = length-append before (f ∷ t ∷ after) in omega arith)
last_two (b ∷ before) after f t s (u ∷ more) n e =
    let rest : before ++ f ∷ t ∷ after ≡ (u ∷ more) ++ n ∷ [] = cc in
    let head : b ≡ s = cc in
    elim (last_two before after f t u more n rest) [
      | inl (same, whole) ↦ inl (same, ap₂ (λ (v : ℕ) (vs : List ℕ). v ∷ vs) (sym head) whole)
      | inr later ↦ inr (later_member u more t later)
    ]

-- the last node of a path is its end
chain_last : (G : ℕ → ℕ → Type 0) (before : List ℕ) (f s : ℕ) (more : List ℕ) (m : ℕ) → IsChain G s more m → s ∷ more ≡ before ++ f ∷ [] → f ≡ m
chain_last G [] f s [] m e whole = let first : s ≡ f = cc in sym first ∙ e
chain_last G [] f s (u ∷ more) m chain whole = absurd (let long = ap length whole in omega arith)
chain_last G (b ∷ before) f s [] m e whole = absurd (let long = ap length whole in let more = length-append before (f ∷ []) in omega arith)
chain_last G (b ∷ before) f s (u ∷ more) m (step, rest) whole = chain_last G before f u more m rest cc

module _ (net : Network) (files : List File) (pieces : List (List ℕ)) (line : ℕ) where
  kind_at : (kind other : RuleKind) (x y u v : List ℕ) → States pieces line (Restricts kind x y) → States pieces line (Restricts other u v) → (kind ≡ other) × (x ≡ u) × (y ≡ v)
  kind_at kind other x y u v first second = let one : Restricts kind x y ≡ Restricts other u v = says_one pieces line (Restricts kind x y) (Restricts other u v) first second in (cc, cc, cc)

  -- an import that counts, by its number
  number_of : (m n : ℕ) → IsUnallowedImport net pieces m n → (k : ℕ) × (k < length net.imports) × (IsAllowed net pieces (import_at net k) → ⊥) × ((import_at net k).from ≡ m) × ((import_at net k).to ≡ n)
  number_of m n (i, (k, lt, is), from, to, free) =
      let here : get_or net.imports k missing_item ≡ i = get_or_default net.imports k missing_item i lt ∙ is in (
        k,
        lt,
        λ allowed. free (subst (IsAllowed net pieces) here allowed),
        ap (λ (j : Priced). j.from) here ∙ from,
        ap (λ (j : Priced). j.to) here ∙ to,
      )

  -- ---- none is left

  module _ (whole : List ℕ) (none : (k : ℕ) → IsOnPath net whole k → BreaksRule net files pieces line k → ⊥) where
    -- an import of the path that the rule forbids
    stop : (before after path : List ℕ) (m n : ℕ) → IsUnallowedImport net pieces m n → whole ≡ before ++ m ∷ n ∷ after → IsForbidden net files pieces line m n path → ⊥
    stop before after path m n counts split forbidden =
        let (k, lt, free, from, to) = number_of m n counts in
        none k (record { before = before; after = after; whole = split ∙ ap₂ (λ (a b : ℕ). before ++ a ∷ b ∷ after) (sym from) (sym to) })
        (path, record { within = lt; counted = free; forbidden = subst (λ (a : ℕ). IsForbidden net files pieces line a (import_at net k).to path) (sym from) (subst (λ (b : ℕ). IsForbidden net files pieces line m b path) (sym to) forbidden) })

    -- past the first modules, none of which after the start is of the second set
    walk : (x y : List ℕ) → States pieces line (Forbid x y) → (start : ℕ) → IsIn net files pieces x start → (front before : List ℕ) (m : ℕ) → IsChain (IsUnallowedImport net pieces) start front m → ((v : ℕ) → Contains front v → IsIn net files pieces y v → ⊥)
        → start ∷ front ≡ before ++ m ∷ [] → (n : ℕ) (more : List ℕ) (end : ℕ) → whole ≡ before ++ m ∷ n ∷ more → IsChain (IsUnallowedImport net pieces) m (n ∷ more) end → IsIn net files pieces y end → ⊥
    walk x y says start source front before m chain free front_is n [] end split (step, e) target =
        stop before [] (start ∷ front) m n step split (ByForbid x y says (subst (IsIn net files pieces y) (sym e) target) (source, chain, free))
    walk x y says start source front before m chain free front_is n (o ∷ more) end split (step, rest) target =
        walk x y says start source (front ++ n ∷ []) (before ++ m ∷ []) n (chain_push (IsUnallowedImport net pieces) start front m n chain step)
        (λ v has named. elim (Contains-append_cases front (n ∷ []) v has) [
          | inl old ↦ free v old named
          | inr new ↦ stop before (o ∷ more) (start ∷ front) m n step split (ByForbid x y says (subst (IsIn net files pieces y) (sym (one_member n v new)) named) (source, chain, free))
        ])
        (ap (λ (vs : List ℕ). vs ++ n ∷ []) front_is)
        o more end (split ∙ sym (append_assoc before (m ∷ []) (n ∷ o ∷ more))) rest target

  pub violations_cover_paths : (path : List ℕ) → IsForbiddenPath net files pieces line path → ((k : ℕ) → IsOnPath net path k → BreaksRule net files pieces line k → ⊥) → ⊥
  violations_cover_paths path (PathByForbid x y start next more end says source chain target) none = walk path none x y says start source [] [] start refl (λ v has named. no_member v has) refl next more end refl chain target
  violations_cover_paths path (PathByForbidImport x y m n says source counts target) none = stop path none [] [] (m ∷ []) m n counts refl (ByForbidImport x y says source target refl)
  violations_cover_paths path (PathByMay x m n may source counts outside others) none = stop path none [] [] (m ∷ []) m n counts refl (ByMay x may source outside others refl)

  -- ---- each leaves one

  -- the one import of a path of two modules
  only_one : (k m n : ℕ) → IsOnPath net (m ∷ n ∷ []) k → ((import_at net k).from ≡ m) × ((import_at net k).to ≡ n)
  only_one k m n on = by on.before on.after on.whole
    where
      by : (before after : List ℕ) → m ∷ n ∷ [] ≡ before ++ (import_at net k).from ∷ (import_at net k).to ∷ after → ((import_at net k).from ≡ m) × ((import_at net k).to ≡ n)
      by [] after e = (cc, cc)
      by (b ∷ []) after e = absurd (let long = ap length e in omega arith)
      by (b ∷ c ∷ before) after e = absurd (let long = ap length e in let more = length-append before ((import_at net k).from ∷ (import_at net k).to ∷ after) in omega arith)

  abbrev IsLeft : ℕ → Type 0
  IsLeft number = (path : List ℕ) × IsForbiddenPath net files pieces line path × IsOnPath net path number
      × ((k : ℕ) → IsOnPath net path k → BreaksRule net files pieces line k → ((import_at net k).from ≡ (import_at net number).from) × ((import_at net k).to ≡ (import_at net number).to))

  counts_here : (number : ℕ) → number < length net.imports → (IsAllowed net pieces (import_at net number) → ⊥) → IsUnallowedImport net pieces (import_at net number).from (import_at net number).to
  counts_here number lt free = (import_at net number, Contains-get_or net.imports number missing_item lt, refl, refl, free)

  target_of : (x y : List ℕ) → States pieces line (Forbid x y) → (m n : ℕ) (path : List ℕ) → IsForbidden net files pieces line m n path → IsIn net files pieces y n
  target_of x y says m n path (ByForbid u v other target free) = subst (λ (w : List ℕ). IsIn net files pieces w n) (sym (kind_at kinds.Forbid kinds.Forbid x y u v says other).2) target
  target_of x y says m n path (ByForbidImport u v other source target only) = absurd (let e = (kind_at kinds.Forbid kinds.ForbidImport x y u v says other).0 in cc)
  target_of x y says m n path (ByMay u may source outside others only) = absurd (let e = (kind_at kinds.Forbid kinds.May x y u may.target says may.says).0 in cc)

  pub leaves_one : (number : ℕ) (path : List ℕ) → Breaks net files pieces line number path → IsLeft number
  leaves_one number path breaks = by path breaks.forbidden
    where
      counts : IsUnallowedImport net pieces (import_at net number).from (import_at net number).to
      counts = counts_here number breaks.within breaks.counted

      split : (front : List ℕ) (start : ℕ) → IsChain (IsUnallowedImport net pieces) start front (import_at net number).from → (before : List ℕ) × (start ∷ front ≡ before ++ (import_at net number).from ∷ [])
      split [] start e = ([], ap (λ (v : ℕ). v ∷ []) e)
      split (u ∷ front) start (step, rest) = let (before, whole) = split front u rest in (start ∷ before, ap (λ (vs : List ℕ). start ∷ vs) whole)

      made : (x y : List ℕ) → States pieces line (Forbid x y) → (start : ℕ) → IsIn net files pieces x start → (front : List ℕ) → IsIn net files pieces y (import_at net number).to → IsChain (IsUnallowedImport net pieces) start front (import_at net number).from
          → IsForbiddenPath net files pieces line ((start ∷ front) ++ (import_at net number).to ∷ [])
      made x y says start source [] target chain = PathByForbid x y start (import_at net number).to [] (import_at net number).to says source (chain_push (IsUnallowedImport net pieces) start [] (import_at net number).from (import_at net number).to chain counts) target
      made x y says start source (u ∷ front) target chain =
          PathByForbid x y start u (front ++ (import_at net number).to ∷ []) (import_at net number).to says source (chain_push (IsUnallowedImport net pieces) start (u ∷ front) (import_at net number).from (import_at net number).to chain counts) target

      by : (path : List ℕ) → IsForbidden net files pieces line (import_at net number).from (import_at net number).to path → IsLeft number
      by [] (ByForbid x y says target none) = absurd none
      by (start ∷ front) (ByForbid x y says target (source, chain, free)) =
          let m = (import_at net number).from in
          let n = (import_at net number).to in
          let (before, whole) = split front start chain in (
            (start ∷ front) ++ n ∷ [],
            made x y says start source front target chain,
            record { before = before; after = []; whole = ap (λ (vs : List ℕ). vs ++ n ∷ []) whole ∙ append_assoc before (m ∷ []) (n ∷ []) },
            λ k on (other, is). elim (last_two on.before on.after (import_at net k).from (import_at net k).to start front n (sym on.whole)) [
              | inl (same, front_is) ↦ (chain_last (IsUnallowedImport net pieces) on.before (import_at net k).from start front m chain front_is, same)
              | inr later ↦ absurd (free (import_at net k).to later (target_of x y says (import_at net k).from (import_at net k).to other is.forbidden))
            ],
          )
      by path (ByForbidImport x y says source target only) = (
        (import_at net number).from ∷ (import_at net number).to ∷ [],
        PathByForbidImport x y (import_at net number).from (import_at net number).to says source counts target,
        record { before = []; after = []; whole = refl },
        λ k on other. only_one k (import_at net number).from (import_at net number).to on,
      )
      by path (ByMay x may source outside others only) = (
        (import_at net number).from ∷ (import_at net number).to ∷ [],
        PathByMay x (import_at net number).from (import_at net number).to may source counts outside others,
        record { before = []; after = []; whole = refl },
        λ k on other. only_one k (import_at net number).from (import_at net number).to on,
      )
