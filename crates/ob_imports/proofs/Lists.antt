-- Lists of the numbers below a limit that have a property.
use Rattle.std.proofs.Common.{◌≡◌, ℕ, ◌+◌, ◌<◌, ◌≤◌, List, [], ◌∷◌, ◌++◌, length, sym, ◌∙◌, subst, arith, ⊎_elim, length-append}
use Rattle.std.specs.Prelude.{slice_index, Contains}
use Rattle.std.proofs.lemmas.Bool.{cases_lt}
use Rattle.std.proofs.lemmas.List.{get_or_append_left}
use Rattle.std.proofs.Math.Seq.{get_or-append_seam}
use Rattle.ob_imports.specs.Graphs.{IsListOf}

-- the list has the numbers below n with the property
pub record IsListBelow (P : ℕ → Type 0) (vs : List ℕ) (n : ℕ) : Type 0 where
  pub each : (k : ℕ) → k < length vs → P (slice_index vs k) × (slice_index vs k < n)
  pub all : (v : ℕ) → v < n → P v → Contains vs v
  pub ascending : (k : ℕ) → k + 1 < length vs → slice_index vs k < slice_index vs (k + 1)

pub listed-none : (P : ℕ → Type 0) → IsListBelow P [] 0
listed-none P = record {
  each = λ k l. absurd (omega arith);
  all = λ v l. absurd (omega arith);
  ascending = λ k l. absurd (omega arith);
}

pub listed-yes : (P : ℕ → Type 0) (vs : List ℕ) (n : ℕ) → IsListBelow P vs n → P n → IsListBelow P (vs ++ n ∷ []) (n + 1)
listed-yes P vs n b y =
    let long : length (vs ++ n ∷ []) ≡ length vs + 1 = length-append vs (n ∷ []) in
    let end : (k : ℕ) → k ≡ length vs → slice_index (vs ++ n ∷ []) k ≡ n = λ k e. rw e (get_or-append_seam vs n [] 0) in
    let old : (k : ℕ) → k < length vs → slice_index (vs ++ n ∷ []) k ≡ slice_index vs k = λ k l. get_or_append_left vs (n ∷ []) 0 k l in
    record {
      each = λ k h. ⊎_elim
          (λ (l : k < length vs). rw (old k l) ((b.each k l).0, (let s : slice_index vs k < n = (b.each k l).1 in omega arith)))
          (λ (l : length vs ≤ k). let e : k ≡ length vs = omega arith in rw (end k e) (y, omega arith))
          (cases_lt k (length vs));
      all = λ v h q. ⊎_elim
          (λ (l : v < n). let c = b.all v l q in (c.0, (let i : c.0 < length vs = c.1 in omega arith), get_or_append_left vs (n ∷ []) v c.0 c.1 ∙ c.2))
          (λ (l : n ≤ v). let e : v ≡ n = omega arith in (length vs, omega arith, get_or-append_seam vs n [] v ∙ sym e))
          (cases_lt v n);
      ascending = λ k h. ⊎_elim
          (λ (l : k + 1 < length vs). let k' : k < length vs = omega arith in rw (old k k', old (k + 1) l) (b.ascending k l))
          (λ (l : length vs ≤ k + 1). let k' : k < length vs = omega arith in let e : k + 1 ≡ length vs = omega arith in rw (old k k', end (k + 1) e) (b.each k k').1)
          (cases_lt (k + 1) (length vs));
    }

pub listed-no : (P : ℕ → Type 0) (vs : List ℕ) (n : ℕ) → IsListBelow P vs n → ¬ P n → IsListBelow P vs (n + 1)
listed-no P vs n b lacks = record {
  each = λ k h. ((b.each k h).0, (let s : slice_index vs k < n = (b.each k h).1 in omega arith));
  all = λ v h q. ⊎_elim
      (λ (l : v < n). b.all v l q)
      (λ (l : n ≤ v). let e : v ≡ n = omega arith in absurd (lacks (subst P e q)))
      (cases_lt v n);
  ascending = b.ascending;
}

pub listed-all : (P : ℕ → Type 0) (vs : List ℕ) (n : ℕ) → IsListBelow P vs n → ((v : ℕ) → P v → v < n) → IsListOf P vs
listed-all P vs n b below = record {
  each = λ k h. (b.each k h).0;
  all = λ v q. b.all v (below v q) q;
  ascending = b.ascending;
}
