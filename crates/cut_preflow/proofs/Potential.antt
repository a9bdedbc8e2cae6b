-- A number that falls with each step, in a form without subtraction.
use Rattle.std.proofs.Common.{◌≡◌, ◌≢◌, ℕ, ◌+◌, ◌<◌, ◌≤◌, min, inl, inr, ◌==◌, if◌then◌else◌, refl, sym, ◌∙◌, arith}
use Rattle.std.proofs.lemmas.Bool.{cases_eq}
use Rattle.cut_preflow.specs.Total.{total}
use Rattle.cut_preflow.proofs.Choices.{choice_same, choice_other}
use Rattle.cut_preflow.proofs.Totals.{total-change}

-- two sums that differ at two indices alone
pub total-change_two : (n : ℕ) (g h : ℕ → ℕ) (u w : ℕ) → u < n → w < n → u ≢ w → ((j : ℕ) → j < n → j ≢ u → j ≢ w → g j ≡ h j) → total n g + (h u + h w) ≡ total n h + (g u + g w)
total-change_two n g h u w lu lw ne same =
    let first = total-change n g mid u lu (λ j lj nj. sym (choice_other j u (h j) (g j) nj)) in
    let second = total-change n mid h w lw at_w in
    let mid_u : mid u ≡ h u = choice_same u u (h u) (g u) refl in
    let mid_w : mid w ≡ g w = choice_other w u (h w) (g w) (λ e. ne (sym e)) in
    omega (arith, first, second, mid_u, mid_w)
  where
    mid : ℕ → ℕ
    mid j = if j == u then h j else g j

    at_w : (j : ℕ) → j < n → j ≢ w → mid j ≡ h j
    at_w j lj nj = elim (cases_eq j u) [
      | inl e ↦ choice_same j u (h j) (g j) e
      | inr nu ↦ choice_other j u (h j) (g j) nu ∙ same j lj nu nj
    ]

-- The label at which the next push over an import can end: of a full import it is that of the importer, of an empty one that of
-- the imported node, else the smaller. It never falls, and each push that fills or empties the import raises it by one.
abbrev pub level : (capacity flow tail head : ℕ) → ℕ
level capacity flow a b = if flow == capacity then a else (if flow == 0 then b else min a b)

pub level_le : (c f a b a' b' : ℕ) → a ≤ a' → b ≤ b' → level c f a b ≤ level c f a' b'
level_le c f a b a' b' p q = elim (cases_eq f c) [
  | inl e ↦ omega (arith, choice_same f c a (if f == 0 then b else min a b) e, choice_same f c a' (if f == 0 then b' else min a' b') e)
  | inr ne ↦ elim (cases_eq f 0) [
    | inl z ↦ omega (arith, choice_other f c a (if f == 0 then b else min a b) ne, choice_other f c a' (if f == 0 then b' else min a' b') ne, choice_same f 0 b (min a b) z, choice_same f 0 b' (min a' b') z)
    | inr nz ↦ omega (arith, choice_other f c a (if f == 0 then b else min a b) ne, choice_other f c a' (if f == 0 then b' else min a' b') ne, choice_other f 0 b (min a b) nz, choice_other f 0 b' (min a' b') nz)
  ]
]

pub level_full : (c a b : ℕ) → level c c a b ≡ a
level_full c a b = choice_same c c a (if c == 0 then b else min a b) refl

pub level_empty : (c a b : ℕ) → 0 < c → level c 0 a b ≡ b
level_empty c a b l = choice_other 0 c a (if 0 == 0 then b else min a b) (omega arith) ∙ choice_same 0 0 b (min a b) refl

-- where the import has room and its importer stands one above the imported node
pub level_ahead : (c f a b : ℕ) → f < c → a ≡ b + 1 → level c f a b ≡ b
level_ahead c f a b l e = elim (cases_eq f 0) [
  | inl z ↦ choice_other f c a (if f == 0 then b else min a b) (omega arith) ∙ choice_same f 0 b (min a b) z
  | inr nz ↦ choice_other f c a (if f == 0 then b else min a b) (omega arith) ∙ choice_other f 0 b (min a b) nz ∙ (omega arith)
]

-- where the import has flow and the imported node stands one above its importer
pub level_back : (c f a b : ℕ) → 0 < f → b ≡ a + 1 → level c f a b ≡ a
level_back c f a b l e = elim (cases_eq f c) [
  | inl full ↦ choice_same f c a (if f == 0 then b else min a b) full
  | inr ne ↦ choice_other f c a (if f == 0 then b else min a b) ne ∙ choice_other f 0 b (min a b) (omega arith) ∙ (omega arith)
]

pub level_at_most : (c f a b most : ℕ) → a ≤ most → b ≤ most → level c f a b ≤ most
level_at_most c f a b most p q = elim (cases_eq f c) [
  | inl e ↦ omega (arith, choice_same f c a (if f == 0 then b else min a b) e)
  | inr ne ↦ elim (cases_eq f 0) [
    | inl z ↦ omega (arith, choice_other f c a (if f == 0 then b else min a b) ne, choice_same f 0 b (min a b) z)
    | inr nz ↦ omega (arith, choice_other f c a (if f == 0 then b else min a b) ne, choice_other f 0 b (min a b) nz)
  ]
]
