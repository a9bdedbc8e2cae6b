-- The open blocks, and a block that is entered.
use Rattle.std.proofs.Common.{◌≡◌, ℕ, zero, suc, ◌+◌, ◌-◌, ◌<◌, ◌≤◌, inl, inr, List, [], ◌∷◌, ◌++◌, length, Some, None, refl, sym, ap, ◌∙◌, subst, length-append, arith}
use Rattle.std.specs.Prelude.{slice_get, Contains}
use Rattle.std.proofs.lemmas.List.Elements.{Contains-append_cases, Contains-append_left}
use Rattle.std.proofs.lemmas.Option.{slice_get_within}
use Rattle.module_table.specs.declared.rows.Block.{Block}
use Rattle.module_table.specs.Order.{IsIncreasingBy}
use Rattle.module_table.specs.Blocks.{Encloses, IsDirectlyIn, itself, further}
use Rattle.ob_scope.specs.Visibility.{AreOpen, Enters, IsInnermost, IsOpen}
use Rattle.ob_scope.specs.WalkOrder.{MayEnter}
use Rattle.std.proofs.Common.{⊎_elim}
use Rattle.std.proofs.lemmas.Bool.{cases_lt}
use Rattle.module_table.proofs.Around.{around-le, one_outer}
use Rattle.module_table.proofs.Elements.{contains_slice, slice_contains, slice_there, some_one}
use Rattle.ob_scope.proofs.Finding.{get_last, get_left, get_push}

at_same : {X : Type 0} (xs : List X) (i j : ℕ) (x y : X) → i ≡ j → slice_get xs i ≡ Some x → slice_get xs j ≡ Some y → x ≡ y
at_same xs i j x y e p q = some_one x y (sym p ∙ ap (slice_get xs) e ∙ q)

contains_one : (x y : ℕ) → Contains (x ∷ []) y → y ≡ x
contains_one x y (zero, l, e) = sym e
contains_one x y (suc k, l, e) = absurd (omega (arith, l))

module _ (blocks : List Block) (stack : List ℕ) (opens : AreOpen blocks stack) where
  -- an open block encloses the open blocks further in
  up : (g i b c : ℕ) → slice_get stack i ≡ Some b → slice_get stack (i + g) ≡ Some c → Encloses blocks b c
  up zero i b c p q = itself (at_same stack i (i + 0) b c (omega arith) p q)
  up (suc g) i b c p q =
      let within = slice_get_within stack (i + suc g) c q in
      let d = slice_there stack (i + g) (omega arith) in
      let next : slice_get stack (i + g + 1) ≡ Some c = ap (slice_get stack) (let e : i + g + 1 ≡ i + suc g = omega arith in e) ∙ q in
      further d.0 (opens.inside (i + g) d.0 c d.1 next) (up g i b d.0 p d.1)

  pub open_around : (b top : ℕ) → IsInnermost stack top → Contains stack b → Encloses blocks b top
  open_around b top last has =
      let p = slice_contains stack b has in
      let within = slice_get_within stack p.0 b p.1 in
      up (length stack - 1 - p.0) p.0 b top p.1 (ap (slice_get stack) (let e : p.0 + (length stack - 1 - p.0) ≡ length stack - 1 = omega arith in e) ∙ last)

  -- the open blocks are in increasing order of their first tokens
  pub open_ascend : IsIncreasingBy (λ (b : ℕ). b) stack
  open_ascend i j b c below p q =
      let within = slice_get_within stack j c q in
      let d = slice_there stack (i + 1) (omega arith) in
      let step : b < d.0 = (opens.inside i b d.0 p d.1).behind in
      let rest : d.0 ≤ c = around-le blocks d.0 c (up (j - (i + 1)) (i + 1) d.0 c d.1 (ap (slice_get stack) (let e : i + 1 + (j - (i + 1)) ≡ j = omega arith in e) ∙ q)) in
      omega arith

  -- all blocks around an open block are open
  around_at : IsIncreasingBy (λ (b : Block). b.first) blocks → (b c : ℕ) → Encloses blocks b c → (i : ℕ) → slice_get stack i ≡ Some c → Contains stack b
  around_at sorted b c (itself e) i p = contains_slice stack i b (p ∙ ap Some (sym e))
  around_at sorted b c (further d inner rest) zero p = absurd (opens.outermost c d p inner)
  around_at sorted b c (further d inner rest) (suc i) p =
      let within = slice_get_within stack (suc i) c p in
      let e = slice_there stack i (omega arith) in
      let here : IsDirectlyIn blocks c e.0 = opens.inside i e.0 c e.1 (ap (slice_get stack) (let f : i + 1 ≡ suc i = omega arith in f) ∙ p) in
      let same : e.0 ≡ d = one_outer blocks sorted c e.0 d here inner in
      around_at sorted b d rest i (e.1 ∙ ap Some same)

  pub around_open : IsIncreasingBy (λ (b : Block). b.first) blocks → (b top : ℕ) → IsInnermost stack top → Encloses blocks b top → Contains stack b
  around_open sorted b top last a = around_at sorted b top a (length stack - 1) last

  -- one more block
  pub open_push : (outer block : ℕ) → IsInnermost stack outer → IsDirectlyIn blocks block outer → AreOpen blocks (stack ++ block ∷ [])
  open_push outer block last inner = record {
    outermost = λ b c p dir. elim (get_push stack block b 0 p) [
      | inl old ↦ opens.outermost b c old dir
      | inr new ↦ (let within = slice_get_within stack (length stack - 1) outer last in absurd (omega (arith, new.0)))
    ];
    inside = λ i b c p q. elim (get_push stack block c (i + 1) q) [
      | inl old ↦ elim (get_push stack block b i p) [
        | inl older ↦ opens.inside i b c older old
        | inr new ↦ (let within = slice_get_within stack (i + 1) c old in absurd (omega (arith, new.0)))
      ]
      | inr new ↦ elim (get_push stack block b i p) [
        | inl old ↦ (
            let same : b ≡ outer = at_same stack i (length stack - 1) b outer (omega (arith, new.0)) old last in
            subst (λ (x : ℕ). IsDirectlyIn blocks x b) new.1 (subst (λ (x : ℕ). IsDirectlyIn blocks block x) (sym same) inner))
        | inr also ↦ absurd (omega (arith, new.0, also.0))
      ]
    ];
  }

pub open_none : (blocks : List Block) → AreOpen blocks []
open_none blocks = record {
  outermost = λ b c p dir. absurd (let f : None ≡ Some b = p in cc);
  inside = λ i b c p q. absurd (let f : None ≡ Some b = p in cc);
}

open_one : (blocks : List Block) (block : ℕ) → ((c : ℕ) → IsDirectlyIn blocks block c → ⊥) → AreOpen blocks (block ∷ [])
open_one blocks block none = record {
  outermost = λ b c p dir. none c (subst (λ (x : ℕ). IsDirectlyIn blocks x c) (sym (some_one block b p)) dir);
  inside = λ i b c p q. absurd (let within = slice_get_within (block ∷ []) (i + 1) c q in omega arith);
}

-- the remaining blocks after the innermost ones are closed
pub open_front : (blocks : List Block) (watermark : ℕ) (xs ys all : List ℕ) → all ≡ xs ++ ys → IsOpen blocks all watermark → IsOpen blocks xs watermark
open_front blocks watermark xs ys all e h = record {
  chain = record {
    outermost = λ b c p dir. h.chain.outermost b c (rw e (get_left xs ys 0 b p)) dir;
    inside = λ i b c p q. h.chain.inside i b c (rw e (get_left xs ys i b p)) (rw e (get_left xs ys (i + 1) c q));
  };
  begun = λ b has. h.begun b (rw e (Contains-append_left xs ys b has));
}

pub enter_same : (blocks : List Block) (block watermark : ℕ) (xs ys all : List ℕ) → all ≡ xs ++ ys → IsOpen blocks all watermark → IsInnermost xs block → Enters blocks block all watermark xs watermark
enter_same blocks block watermark xs ys all e h last = record {
  scope_stack = open_front blocks watermark xs ys all e h;
  innermost = last;
  kept = λ b has. inl (rw e (Contains-append_left xs ys b has));
  later = omega arith;
  last = inl refl;
}

innermost_push : (stack : List ℕ) (block : ℕ) → IsInnermost (stack ++ block ∷ []) block
innermost_push stack block =
    let long = length-append stack (block ∷ []) in
    ap (slice_get (stack ++ block ∷ [])) (let e : length (stack ++ block ∷ []) - 1 ≡ length stack = omega arith in e) ∙ get_last stack block

begun_push : (stack : List ℕ) (block since watermark : ℕ) → ((b : ℕ) → Contains stack b → b < since) → since ≤ block → watermark ≡ block + 1 → (b : ℕ) → Contains (stack ++ block ∷ []) b → b < watermark
begun_push stack block since watermark begun le e b has = elim (Contains-append_cases stack (block ∷ []) b has) [
  | inl old ↦ (let l : b < since = begun b old in omega arith)
  | inr new ↦ (let same : b ≡ block = contains_one block b new in omega arith)
]

-- a block inside the innermost one is opened
pub enter_inner : (blocks : List Block) (outer block since watermark later : ℕ) (all xs ys stack new : List ℕ) → all ≡ xs ++ ys → Enters blocks outer xs since stack watermark → IsDirectlyIn blocks block outer
    → watermark ≤ block → new ≡ stack ++ block ∷ [] → later ≡ block + 1 → Enters blocks block all since new later
enter_inner blocks outer block since watermark later all xs ys stack new prefix e inner le is now = rw is (record {
  scope_stack = record { chain = open_push blocks stack e.scope_stack.chain outer block e.innermost inner; begun = begun_push stack block watermark later e.scope_stack.begun le now };
  innermost = innermost_push stack block;
  kept = λ b has. elim (Contains-append_cases stack (block ∷ []) b has) [
    | inl old ↦ elim (e.kept b old) [
      | inl older ↦ inl (rw prefix (Contains-append_left xs ys b older))
      | inr scope_stack ↦ inr scope_stack
    ]
    | inr fresh_one ↦ (let same : b ≡ block = contains_one block b fresh_one in let l = e.later in inr (omega arith))
  ];
  later = (let l = e.later in omega arith);
  last = inr now;
})

-- an outermost block is opened
pub enter_outermost : (blocks : List Block) (block since later : ℕ) (all new : List ℕ) → ((c : ℕ) → IsDirectlyIn blocks block c → ⊥) → since ≤ block → new ≡ [] ++ block ∷ [] → later ≡ block + 1
    → Enters blocks block all since new later
enter_outermost blocks block since later all new none le is now = rw is (record {
  scope_stack = record { chain = open_one blocks block none; begun = λ b has. (let same : b ≡ block = contains_one block b has in omega arith) };
  innermost = refl;
  kept = λ b has. (let same : b ≡ block = contains_one block b has in inr (omega arith));
  later = omega arith;
  last = inr now;
})

-- ---- a block that may be entered

module _ (blocks : List Block) (block since : ℕ) (all : List ℕ) (may : MayEnter blocks all since block) (xs : List ℕ) (kept : (b : ℕ) → Contains all b → b ≤ block → Contains xs b) where
  -- the enclosing block may be entered too
  pub may_outer : (outer : ℕ) → IsDirectlyIn blocks block outer → MayEnter blocks xs since outer
  may_outer outer dir b a = elim (may b (further outer dir a)) [
    | inl has ↦ inl (kept b has (let l : b ≤ outer = around-le blocks b outer a in let h : outer < block = dir.behind in omega arith))
    | inr above ↦ inr above
  ]

  top_of : IsIncreasingBy (λ (b : ℕ). b) xs → ((b : ℕ) → Contains xs b → b ≤ block) → Contains xs block → IsInnermost xs block
  top_of up left has =
      let p = slice_contains xs block has in
      let within = slice_get_within xs p.0 block p.1 in
      let d = slice_there xs (length xs - 1) (omega arith) in
      let le : d.0 ≤ block = left d.0 (contains_slice xs (length xs - 1) d.0 d.1) in
      ⊎_elim
      (λ (below : p.0 < length xs - 1). absurd (let l : block < d.0 = up p.0 (length xs - 1) block d.0 below p.1 d.1 in omega arith))
      (λ (above : length xs - 1 ≤ p.0). ap (slice_get xs) (let e : length xs - 1 ≡ p.0 = omega arith in e) ∙ p.1)
      (cases_lt p.0 (length xs - 1))

  -- if it isn't the innermost, it was never opened
  pub never_opened : IsIncreasingBy (λ (b : ℕ). b) xs → ((b : ℕ) → Contains xs b → b ≤ block) → (IsInnermost xs block → ⊥) → since ≤ block
  never_opened up left other = elim (may block (itself refl)) [
    | inl has ↦ absurd (other (top_of up left (kept block has (omega arith))))
    | inr above ↦ above
  ]
