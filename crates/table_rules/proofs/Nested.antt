-- The names in the blocks of a fragment of a tree are contiguous.
use Rattle.std.proofs.Common.{◌≡◌, ℕ, ◌+◌, ◌<◌, ◌≤◌, ◌⊎◌, inl, inr, List, ◌++◌, refl, sym, ◌∙◌, subst, arith}
use Rattle.std.specs.Prelude.{Contains}
use Rattle.std.proofs.lemmas.List.Elements.{Contains-append_cases}
use Rattle.module_table.specs.declared.rows.Block.{Block}
use Rattle.module_table.specs.declared.rows.Declared.{Declared}
use Rattle.module_table.specs.declared.rows.DeclGroup.{DeclGroup}
use Rattle.module_table.specs.Blocks.{Encloses, IsDirectlyIn, OccursIn, itself, further}
use Rattle.module_table.specs.Blocks as stands
use Rattle.module_table.specs.Order.{IsIncreasingBy}
use Rattle.module_table.specs.Parts.{Rows, joined}
use Rattle.module_table.proofs.Around.{around_all, around_inner}

-- names between two tokens, in a block or in blocks inside it that begin there: the names of each such block are contiguous
pub record Nest (B : List Block) (E : ℕ → ℕ → Type 0) (outer low high : ℕ) : Type 0 where
  pub context : (n c : ℕ) → E n c → (low ≤ n) × (n < high) × Encloses B outer c
  pub behind : (n b c : ℕ) → E n c → Encloses B b c → Encloses B b outer ⊎ ((low ≤ b) × (b + 1 < n))
  pub between : (n m b c d : ℕ) → E n c → E m d → low ≤ b → b + 1 < n → n ≤ m → Encloses B b d → Encloses B b c

-- names of the block itself
pub nest_own : (B : List Block) (E : ℕ → ℕ → Type 0) (outer low high : ℕ) → ((n c : ℕ) → E n c → (low ≤ n) × (n < high) × (c ≡ outer)) → Nest B E outer low high
nest_own B E outer low high own = record {
  context = λ n c e. ((own n c e).0, (own n c e).1, itself (sym (own n c e).2));
  behind = λ n b c e a. inl (subst (Encloses B b) (own n c e).2 a);
  between = λ n m b c d e f lo lt le a. subst (Encloses B b) ((own m d f).2 ∙ sym (own n c e).2) a;
}

-- names after names
pub nest_both : (B : List Block) (E F G : ℕ → ℕ → Type 0) (outer low middle high : ℕ) → ((n c : ℕ) → G n c → E n c ⊎ F n c) → low ≤ middle → middle ≤ high → Nest B E outer low middle → Nest B F outer middle high → Nest B G outer low high
nest_both B E F G outer low middle high split l m e f = record {
  context = λ n c g. elim (split n c g) [
    | inl x ↦ (let i = e.context n c x in (i.0, (let h : n < middle = i.1 in omega arith), i.2))
    | inr y ↦ (let i = f.context n c y in ((let h : middle ≤ n = i.0 in omega arith), i.1, i.2))
  ];
  behind = λ n b c g a. elim (split n c g) [
    | inl x ↦ e.behind n b c x a
    | inr y ↦ elim (f.behind n b c y a) [ inl o ↦ inl o | inr i ↦ inr ((let h : middle ≤ b = i.0 in omega arith), i.1) ]
  ];
  between = λ n k b c d g h lo lt le a. elim (split n c g) [
    | inl x ↦ elim (split k d h) [
      | inl y ↦ e.between n k b c d x y lo lt le a
      | inr y ↦ elim (f.behind k b d y a) [
        | inl o ↦ around_all B b outer c o (e.context n c x).2
        | inr i ↦ absurd (let u : n < middle = (e.context n c x).1 in let v : middle ≤ b = i.0 in omega arith)
      ]
    ]
    | inr x ↦ elim (split k d h) [
      | inl y ↦ absurd (let u : middle ≤ n = (f.context n c x).0 in let v : k < middle = (e.context k d y).1 in omega arith)
      | inr y ↦ elim (f.behind k b d y a) [
        | inl o ↦ around_all B b outer c o (f.context n c x).2
        | inr i ↦ f.between n k b c d x y i.0 lt le a
      ]
    ]
  ];
}

-- a block that begins here, whose names follow its first two tokens
pub nest_block : (B : List Block) → IsIncreasingBy (λ (b : Block). b.first) B → (E : ℕ → ℕ → Type 0) (outer k low high : ℕ) → IsDirectlyIn B k outer → k ≤ low → ((n c : ℕ) → E n c → k + 1 < n) → Nest B E k low high → Nest B E outer k high
nest_block B up E outer k low high dir l late e = record {
  context = λ n c x. (let i = e.context n c x in ((let h : low ≤ n = i.0 in omega arith), i.1, around_all B outer k c (further outer dir (itself refl)) i.2));
  behind = λ n b c x a. elim (e.behind n b c x a) [
    | inl o ↦ elim (around_inner B up b k outer dir o) [
      | inl same ↦ inr ((omega (arith, same)), (let h : k + 1 < n = late n c x in omega (arith, same)))
      | inr o ↦ inl o
    ]
    | inr i ↦ inr ((let h : low ≤ b = i.0 in omega arith), i.1)
  ];
  between = λ n m b c d x y lo lt le a. elim (e.behind m b d y a) [
    | inl o ↦ around_all B b k c o (e.context n c x).2
    | inr i ↦ e.between n m b c d x y i.0 lt le a
  ];
}

-- the name of a procedure, which is in the block around it, before the names that follow it
pub nest_named : (B : List Block) (E F G : ℕ → ℕ → Type 0) (outer k high : ℕ) → ((n c : ℕ) → G n c → E n c ⊎ F n c) → k + 1 < high → ((n c : ℕ) → E n c → (n ≡ k + 1) × (c ≡ outer)) → ((n c : ℕ) → F n c → k + 1 < n)
    → Nest B F outer k high → Nest B G outer k high
nest_named B E F G outer k high split some own late f = record {
  context = λ n c g. elim (split n c g) [
    | inl x ↦ ((let e = (own n c x).0 in omega arith), (let e = (own n c x).0 in omega arith), itself (sym (own n c x).1))
    | inr y ↦ f.context n c y
  ];
  behind = λ n b c g a. elim (split n c g) [
    | inl x ↦ inl (subst (Encloses B b) (own n c x).1 a)
    | inr y ↦ f.behind n b c y a
  ];
  between = λ n m b c d g h lo lt le a. elim (split n c g) [
    | inl x ↦ absurd (let e = (own n c x).0 in omega arith)
    | inr x ↦ elim (split m d h) [
      | inl y ↦ absurd (let e = (own m d y).0 in let u : k + 1 < n = late n c x in omega arith)
      | inr y ↦ f.between n m b c d x y lo lt le a
    ]
  ];
}

-- ---- entries

-- what the declaration groups of these tokens declare
pub record Whole (B : List Block) (outer low high : ℕ) (r : Rows) : Type 0 where
  pub decl_groups : (x : DeclGroup) → Contains r.decl_groups x → (low ≤ x.first) × (x.first < high)
  pub declared : (d : Declared) → Contains r.declared d → (low ≤ d.declared_by) × (d.declared_by < high)
  pub nest : Nest B (OccursIn r) outer low high

abbrev pub AreAmong : List Block → Rows → Type 0
AreAmong B r = (x : Block) → Contains r.blocks x → Contains B x

-- names of two fragments, neither of which declares for the other
pub stands_both : (a b : Rows) → ((d : Declared) (by : DeclGroup) → Contains a.declared d → Contains b.decl_groups by → by.first ≡ d.declared_by → ⊥) → ((d : Declared) (by : DeclGroup) → Contains b.declared d → Contains a.decl_groups by → by.first ≡ d.declared_by → ⊥)
    → (n c : ℕ) → OccursIn (joined a b) n c → OccursIn a n c ⊎ OccursIn b n c
unfolding joined
stands_both a b f g n c (stands.used u h e i) = elim (Contains-append_cases a.uses b.uses u h) [
  | inl l ↦ inl (stands.used u l e i)
  | inr r ↦ inr (stands.used u r e i)
]
stands_both a b f g n c (stands.declared d by h j s o e i) = elim (Contains-append_cases a.declared b.declared d h) [
  | inl l ↦ elim (Contains-append_cases a.decl_groups b.decl_groups by j) [
    | inl x ↦ inl (stands.declared d by l x s o e i)
    | inr x ↦ absurd (f d by l x s)
  ]
  | inr r ↦ elim (Contains-append_cases a.decl_groups b.decl_groups by j) [
    | inl x ↦ absurd (g d by r x s)
    | inr x ↦ inr (stands.declared d by r x s o e i)
  ]
]

either_bound : {X : Type 0} (n : X → ℕ) (xs ys : List X) (low middle high : ℕ) → low ≤ middle → middle ≤ high → ((x : X) → Contains xs x → (low ≤ n x) × (n x < middle)) → ((x : X) → Contains ys x → (middle ≤ n x) × (n x < high))
    → (x : X) → Contains (xs ++ ys) x → (low ≤ n x) × (n x < high)
either_bound n xs ys low middle high l m f g x h = elim (Contains-append_cases xs ys x h) [
  | inl a ↦ (let p = f x a in let q : n x < middle = p.1 in (p.0, omega arith))
  | inr b ↦ (let p = g x b in let q : middle ≤ n x = p.0 in (omega arith, p.1))
]

pub whole_both : (B : List Block) (outer low middle high : ℕ) (a b : Rows) → low ≤ middle → middle ≤ high → Whole B outer low middle a → Whole B outer middle high b → Whole B outer low high (joined a b)
unfolding joined
whole_both B outer low middle high a b l m f g = record {
  decl_groups = either_bound (λ (x : DeclGroup). x.first) a.decl_groups b.decl_groups low middle high l m f.decl_groups g.decl_groups;
  declared = either_bound (λ (d : Declared). d.declared_by) a.declared b.declared low middle high l m f.declared g.declared;
  nest = nest_both B (OccursIn a) (OccursIn b) (OccursIn (joined a b)) outer low middle high
      (stands_both a b
      (λ d by x y s. (let p : d.declared_by < middle = (f.declared d x).1 in let q : middle ≤ by.first = (g.decl_groups by y).0 in omega arith))
      (λ d by x y s. (let p : middle ≤ d.declared_by = (g.declared d x).0 in let q : by.first < middle = (f.decl_groups by y).1 in omega arith)))
      l m f.nest g.nest;
}
