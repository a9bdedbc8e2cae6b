-- The ends of imports, and their order.
use Rattle.std.proofs.Common.{◌≡◌, ◌<◌, true, sym, ◌∙◌, arith, ◌⊎◌, inl, inr}
use Rattle.std.proofs.lemmas.Bool.{and_parts, and_from, or_cases, or_left, or_right, ltb-true, lt-ltb, eqb-true, eq-eqb}
use Rattle.cut_net.specs.declared.priced.Priced.{Priced}
use Rattle.cut_net.specs.Cuts.{have_equal_ends}
use Rattle.cut_net.specs.Lines.{comes_before}

-- the same ends
pub record Same (i j : Priced) : Type 0 where
  pub from : i.from ≡ j.from
  pub to : i.to ≡ j.to

pub same_from : (i j : Priced) → have_equal_ends i j ≡ true → Same i j
same_from i j e = let p = and_parts _ _ e in record { from = eqb-true i.from j.from p.0; to = eqb-true i.to j.to p.1 }

pub same_true : (i j : Priced) → Same i j → have_equal_ends i j ≡ true
same_true i j s = and_from _ _ (eq-eqb i.from j.from s.from) (eq-eqb i.to j.to s.to)

pub same_sym : {i j : Priced} → Same i j → Same j i
same_sym s = record { from = sym s.from; to = sym s.to }

-- two imports with the ends of one line
pub same_trans : {i l j : Priced} → Same i l → Same j l → Same i j
same_trans s t = record { from = s.from ∙ sym t.from; to = s.to ∙ sym t.to }

-- the order of the ends
pub record Before (i j : Priced) : Type 0 where
  pub by : (i.from < j.from) ⊎ ((i.from ≡ j.from) × (i.to < j.to))

pub before_from : (i j : Priced) → comes_before i j ≡ true → Before i j
before_from i j e = elim (or_cases _ _ e) [
  | inl l ↦ record { by = inl (ltb-true i.from j.from l) }
  | inr r ↦ let p = and_parts _ _ r in record { by = inr (eqb-true i.from j.from p.0, ltb-true i.to j.to p.1) }
]

pub before_true : (i j : Priced) → Before i j → comes_before i j ≡ true
before_true i j b = elim b.by [
  | inl l ↦ or_left _ _ (lt-ltb i.from j.from l)
  | inr r ↦ or_right _ _ (and_from _ _ (eq-eqb i.from j.from r.0) (lt-ltb i.to j.to r.1))
]

-- an import that comes before another one isn't equal to it and doesn't come after it
pub apart : {i j : Priced} → Before i j → Same i j → ⊥
apart b s = let e = s.from in let f = s.to in elim b.by [ inl l ↦ absurd (omega arith) | inr r ↦ absurd (omega arith) ]

pub one_way : {i j : Priced} → Before i j → Before j i → ⊥
one_way b c = elim b.by [
  | inl l ↦ elim c.by [ inl m ↦ absurd (omega arith) | inr m ↦ absurd (omega arith) ]
  | inr l ↦ elim c.by [ inl m ↦ absurd (omega arith) | inr m ↦ absurd (omega arith) ]
]

pub before_same : {i j k l : Priced} → Before i j → Same i k → Same j l → Before k l
before_same b s t =
    let e = s.from in let f = t.from in let g = s.to in let h = t.to in
    elim b.by [ inl l ↦ record { by = inl (omega arith) } | inr r ↦ record { by = inr (omega arith, omega arith) } ]
