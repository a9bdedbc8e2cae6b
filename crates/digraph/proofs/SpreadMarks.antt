-- The spreading of flags along linked lists of steps.
use Rattle.std.proofs.Common.{◌≡◌, ℕ, ◌+◌, ◌<◌, Bool, true, false, not, cond, List, [], ◌∷◌, ◌++◌, length, replicate, set, sym, ap, ◌∙◌, subst, arith, inl, inr, get_or-set_same, get_or-set_other}
use Rattle.std.specs.Prelude.{◌≢◌, Contains}
use Rattle.std.proofs.lemmas.Bool.{both_ways, cases_eq, cases_lt}
use Rattle.std.proofs.lemmas.List.{get_or-replicate, get_or_past, length-replicate, length_push}
use Rattle.std.proofs.lemmas.List.Elements.{Contains-push, Contains-push_cases, Contains-append_left}
use Rattle.std.proofs.lemmas.List.Sums.{sum_by-set}
use Rattle.digraph.specs.Marks.{marked}
use Rattle.digraph.specs.Spreading.{left_over, IsSpread, IsSpreadBut}
use Rattle.digraph.specs.LinkedLists.{IsLast}

-- ---- one more flag

pub mark_here : (marks : List Bool) (v : ℕ) → v < length marks → marked (set marks v true) v ≡ true
mark_here marks v within = get_or-set_same marks v true false within

pub mark_kept : (marks : List Bool) (v x : ℕ) → v < length marks → marked marks x ≡ true → marked (set marks v true) x ≡ true
mark_kept marks v x within on = elim (cases_eq x v) [
  | inl e ↦ ap (marked (set marks v true)) e ∙ mark_here marks v within
  | inr ne ↦ get_or-set_other marks v x true false ne ∙ on
]

pub mark_before : (marks : List Bool) (v x : ℕ) → x ≢ v → marked (set marks v true) x ≡ true → marked marks x ≡ true
mark_before marks v x ne on = sym (get_or-set_other marks v x true false ne) ∙ on

-- a set flag has an index within the list
pub mark_within : (marks : List Bool) (v : ℕ) → marked marks v ≡ true → v < length marks
mark_within marks v on = elim (cases_lt v (length marks)) [
  | inl less ↦ less
  | inr more ↦ absurd (both_ways _ (get_or_past marks v false more) on)
]

-- an unflagged node is flagged and waits
pub left_same : (marks : List Bool) (waiting : List ℕ) (v : ℕ) → v < length marks → marked marks v ≡ false → left_over (set marks v true) (waiting ++ v ∷ []) ≡ left_over marks waiting
left_same marks waiting v within off =
    let sum = sum_by-set (λ (m : Bool). cond {A = ℕ} (not m) 1 0) marks v true false within in
    let one : cond {A = ℕ} (not (marked marks v)) 1 0 ≡ 1 = ap (λ (m : Bool). cond {A = ℕ} (not m) 1 0) off in
    let longer = length_push waiting v in
    omega arith

-- ---- one node's steps

module _ (leaves : ℕ → ℕ → Type 0) (to : ℕ → ℕ) (count : ℕ) (marks : List Bool) (waiting : List ℕ) (one : ℕ) where
  pub follow_starts : (next : ℕ) → IsLast (leaves one) count next → IsSpread leaves to count marks (waiting ++ one ∷ []) → IsSpreadBut leaves to count marks waiting one next
  follow_starts next last s = record {
    waits = λ x w. s.waits x (Contains-append_left waiting (one ∷ []) x w);
    own = s.waits one (Contains-push waiting one);
    followed = λ k v l leaves_it t. elim (s.followed k v l leaves_it t) [
      | inl on ↦ inl on
      | inr w ↦ elim (Contains-push_cases waiting one v w) [
        | inl old ↦ inr (inl old)
        | inr e ↦ elim (cases_lt k next) [
          | inl less ↦ inr (inr (sym e, less))
          | inr more ↦ absurd (last.none_after k more l (subst (λ (x : ℕ). leaves x k) (sym e) leaves_it))
        ]
      ]
    ];
  }

  pub follow_ends : IsSpreadBut leaves to count marks waiting one 0 → IsSpread leaves to count marks waiting
  follow_ends f = record {
    waits = f.waits;
    followed = λ k v l leaves_it t. elim (f.followed k v l leaves_it t) [
      | inl on ↦ inl on
      | inr rest ↦ elim rest [
        | inl w ↦ inr w
        | inr left ↦ absurd (omega (arith, left.1))
      ]
    ];
  }

  module _ (number next : ℕ) (last : IsLast (leaves one) number next) (f : IsSpreadBut leaves to count marks waiting one (number + 1)) where
    -- a step that was left is the current one, or is still left
    still : (k v : ℕ) → leaves v k → v ≡ one → k < number + 1 → k ≢ number → k < next
    still k v leaves_it e low other = elim (cases_lt k next) [
      | inl less ↦ less
      | inr more ↦ absurd (last.none_after k more (omega arith) (subst (λ (x : ℕ). leaves x k) e leaves_it))
    ]

    -- the target of the step is flagged already
    pub follow_marked : marked marks (to number) ≡ true → IsSpreadBut leaves to count marks waiting one next
    follow_marked on = record {
      waits = f.waits;
      own = f.own;
      followed = λ k v l leaves_it t. elim (f.followed k v l leaves_it t) [
        | inl done ↦ inl done
        | inr rest ↦ elim rest [
          | inl w ↦ inr (inl w)
          | inr left ↦ elim (cases_eq k number) [
            | inl e ↦ inl (ap (λ (j : ℕ). marked marks (to j)) e ∙ on)
            | inr ne ↦ inr (inr (left.0, still k v leaves_it left.0 left.1 ne))
          ]
        ]
      ];
    }

    -- the target is flagged now, and waits
    pub follow_unmarked : to number < length marks → IsSpreadBut leaves to count (set marks (to number) true) (waiting ++ to number ∷ []) one next
    follow_unmarked within =
        let new = set marks (to number) true in
        let here : marked new (to number) ≡ true = mark_here marks (to number) within in
        record {
          waits = λ x w. elim (Contains-push_cases waiting (to number) x w) [
            | inl old ↦ mark_kept marks (to number) x within (f.waits x old)
            | inr e ↦ ap (marked new) (sym e) ∙ here
          ];
          own = mark_kept marks (to number) one within f.own;
          followed = λ k v l leaves_it t. elim (cases_eq v (to number)) [
            | inl e ↦ inr (inl (subst (Contains (waiting ++ to number ∷ [])) (sym e) (Contains-push waiting (to number))))
            | inr ne ↦ elim (f.followed k v l leaves_it (mark_before marks (to number) v ne t)) [
              | inl done ↦ inl (mark_kept marks (to number) (to k) within done)
              | inr rest ↦ elim rest [
                | inl w ↦ inr (inl (Contains-append_left waiting (to number ∷ []) v w))
                | inr left ↦ elim (cases_eq k number) [
                  | inl e ↦ inl (ap (λ (j : ℕ). marked new (to j)) e ∙ here)
                  | inr other ↦ inr (inr (left.0, still k v leaves_it left.0 left.1 other))
                ]
              ]
            ]
          ];
        }

-- ---- the start

module _ (start nodes : ℕ) where
  abbrev pub first_marks : List Bool
  first_marks = set (replicate nodes false) start true

  pub start_marked : start < nodes → marked first_marks start ≡ true
  start_marked low = let size = length-replicate nodes false in mark_here (replicate nodes false) start (omega arith)

  pub start_alone : (x : ℕ) → marked first_marks x ≡ true → x ≡ start
  start_alone x on = elim (cases_eq x start) [
    | inl e ↦ e
    | inr ne ↦ absurd (both_ways _ none_seen (mark_before (replicate nodes false) start x ne on))
  ]
    where
      none_seen : marked (replicate nodes false) x ≡ false
      none_seen = elim (cases_lt x nodes) [
        | inl less ↦ get_or-replicate nodes x false false less
        | inr more ↦ get_or_past (replicate nodes false) x false (omega (arith, length-replicate nodes false))
      ]

  pub spread_starts : (leaves : ℕ → ℕ → Type 0) (to : ℕ → ℕ) (count : ℕ) → start < nodes → IsSpread leaves to count first_marks (start ∷ [])
  spread_starts leaves to count low = record {
    waits = λ x w. ap (marked first_marks) (only x w) ∙ start_marked low;
    followed = λ k v l leaves_it on. inr (0, omega arith, sym (start_alone v on));
  }
    where
      only : (x : ℕ) → Contains (start ∷ []) x → x ≡ start
      only x w = elim (Contains-push_cases [] start x w) [
        | inl none ↦ absurd (omega (arith, none.1))
        | inr e ↦ sym e
      ]
