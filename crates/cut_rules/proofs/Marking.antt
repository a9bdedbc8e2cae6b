-- Flags of the modules of a name.
use Rattle.std.proofs.Common.{◌≡◌, ℕ, zero, suc, replicate, ◌+◌, ◌<◌, ◌⊎◌, inl, inr, true, false, Bool, List, [], ◌∷◌, ◌++◌, length, get_or, Some, refl, sym, ap, ◌∙◌, subst, arith}
use Rattle.std.specs.Prelude.{◌↔◌, AllPairs, Contains, slice_get}
use Rattle.std.proofs.lemmas.Bool.{cases_eq, cases_lt}
use Rattle.std.proofs.lemmas.List.{get_or_past}
use Rattle.std.proofs.lemmas.List.Elements.{Contains-append_left, Contains-get_or, Contains-push, Contains-push_cases}
use Rattle.std.proofs.lemmas.List.Quantifiers.{all_pairs_push}
use Rattle.digraph.specs.Marks.{marked}
use Rattle.texts.proofs.FieldCuts.{some_is}
use Rattle.cut_rules.specs.declared.table.ModuleSet.{ModuleSet}
use Rattle.cut_rules.specs.declared.table.SetTable.{SetTable}
use Rattle.cut_rules.specs.declared.file.File.{File}
use Rattle.cut_rules.specs.Builders.{HasFlaggedIndex, IsAtIndex, IsMember}

pub marked_low : (flags : List Bool) (v : ℕ) → marked flags v ≡ true → v < length flags
marked_low flags v e = elim (cases_lt v (length flags)) [
  | inl lt ↦ lt
  | inr ge ↦ absurd (let f : true ≡ false = sym e ∙ get_or_past flags v false ge in cc)
]

-- the flags are the old ones and those of which this holds
abbrev pub AreMarks : List Bool → List Bool → (ℕ → Type 0) → Type 0
AreMarks old now P = (length now ≡ length old) × ((m : ℕ) → m < length old → (marked now m ≡ true) ↔ ((marked old m ≡ true) ⊎ P m))

pub marks_as : (a b : List Bool) (P Q : ℕ → Type 0) → ((m : ℕ) → P m ↔ Q m) → AreMarks a b P → AreMarks a b Q
marks_as a b P Q same (long, elements) = (
  long,
  λ m small. (
    λ e. elim ((elements m small).0 e) [ inl was ↦ inl was | inr p ↦ inr ((same m).0 p) ],
    λ either. (elements m small).1 (elim either [ inl was ↦ inl was | inr q ↦ inr ((same m).1 q) ]),
  ),
)

-- ---- the modules of flagged indices

-- the module has one of the first indices, and that one is flagged
abbrev pub HasMarkBefore : List File → List Bool → ℕ → ℕ → Type 0
HasMarkBefore files places count m = (k : ℕ) × (k < count) × IsAtIndex files k m × (marked places k ≡ true)

-- the set of a number
pub set_member : (files : List File) (table : SetTable) (number s : ℕ) (set : ModuleSet) → number ≡ table.modules + s → slice_get table.sets.items s ≡ Some set → (m : ℕ) → HasFlaggedIndex files set.flags.items m ↔ IsMember files table number m
set_member files table number s set e present m = (
  λ has. (s, e, (set, present, has)),
  λ (t, f, (other, at, has)).
      let same : t ≡ s = omega arith in
      let set_is : other ≡ set = some_is other set (sym at ∙ ap (slice_get table.sets.items) same ∙ present) in
      subst (λ (x : ModuleSet). HasFlaggedIndex files x.flags.items m) set_is has,
)

-- ---- the nodes with a mark

abbrev pub AreMarkedBefore : List Bool → ℕ → List ℕ → Type 0
AreMarkedBefore flags count nodes = ((v : ℕ) → Contains nodes v ↔ ((v < count) × (marked flags v ≡ true))) × AllPairs (λ v w. v < w) nodes

pub marked_next : (flags : List Bool) (count : ℕ) (nodes : List ℕ) → marked flags count ≡ true → AreMarkedBefore flags count nodes → AreMarkedBefore flags (count + 1) (nodes ++ count ∷ [])
marked_next flags count nodes here (elements, up) = (
  λ v. (
    λ has. elim (Contains-push_cases nodes count v has) [
      | inl old ↦ let (lt, is) = (elements v).0 old in (omega arith, is)
      | inr e ↦ (omega arith, subst (λ (n : ℕ). marked flags n ≡ true) e here)
    ],
    λ (lt, is). elim (cases_eq v count) [
      | inl e ↦ subst (Contains (nodes ++ count ∷ [])) (sym e) (Contains-push nodes count)
      | inr ne ↦ Contains-append_left nodes (count ∷ []) v ((elements v).1 (omega (arith, ne), is))
    ],
  ),
  all_pairs_push (λ (v w : ℕ). v < w) nodes count up (λ k d lt. ((elements (get_or nodes k d)).0 (Contains-get_or nodes k d lt)).0),
)

pub unmarked_next : (flags : List Bool) (count : ℕ) (nodes : List ℕ) → marked flags count ≡ false → AreMarkedBefore flags count nodes → AreMarkedBefore flags (count + 1) nodes
unmarked_next flags count nodes here (elements, up) = (
  λ v. (
    λ has. let (lt, is) = (elements v).0 has in (omega arith, is),
    λ (lt, is). elim (cases_eq v count) [
      | inl e ↦ absurd (let f : true ≡ false = sym is ∙ ap (marked flags) e ∙ here in cc)
      | inr ne ↦ (elements v).1 (omega (arith, ne), is)
    ],
  ),
  up,
)

pub no_marks : (n v : ℕ) → marked (replicate n false) v ≡ false
no_marks zero v = refl
no_marks (suc n) zero = refl
no_marks (suc n) (suc v) = no_marks n v
