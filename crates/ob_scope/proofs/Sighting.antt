-- Visible members, when a member is declared or a block is entered.
use Rattle.std.proofs.Common.{◌≡◌, ℕ, ◌+◌, ◌-◌, ◌<◌, ◌≤◌, ◌⊎◌, inl, inr, List, length, get_or, Option, Some, None, refl, sym, ap, ◌∙◌, subst, arith, ⊎_elim}
use Rattle.std.specs.Prelude.{slice_get, slice_index, slice_index_or, slice_set, Contains}
use Rattle.std.specs.Str.{bytes_eq}
use Rattle.std.proofs.lemmas.Bool.{cases_lt, cases_eq}
use Rattle.std.proofs.lemmas.List.{get_or-set_same, get_or-set_other}
use Rattle.std.proofs.lemmas.List.Sums.{passes_at_first}
use Rattle.std.proofs.lemmas.Slice.Eq.{bytes_eq-Decides}
use Rattle.module_table.specs.declared.rows.Block.{Block}
use Rattle.module_table.specs.Order.{IsIncreasingBy}
use Rattle.scopes.specs.declared.members.Member.{Member}
use Rattle.text_hash.specs.declared.name.Name.{Name}
use Rattle.scopes.specs.declared.members.Scope.{Scope}
use Rattle.scopes.specs.declared.members.Scope.TheVariants as locations
use Rattle.ob_scope.specs.Lookups.{use_in, IsResolved}
use Rattle.module_table.specs.Blocks.{Encloses, itself}
use Rattle.scopes.specs.Scope.{IsVisible, ResolvesToNothing}
use Rattle.ob_scope.specs.BindingStates.{IsPrefixBefore}
use Rattle.ob_scope.specs.Visibility.{name_number, AreInterned, AreVisible, IsIn, IsInnermost, IsLimit, IsNamedAt, IsOpen, IsOpenScope, IsVisibleAt, IsStart}
use Rattle.module_table.proofs.Elements.{contains_slice, slice_contains, slice_there, some_one}
use Rattle.ob_scope.proofs.Opening.{around_open, open_around}

module _ (blocks : List Block) (members : List Member) (numbers : List ℕ) where
  block_one : (b c : ℕ) → locations.Block b ≡ locations.Block c → b ≡ c
  block_one b c e = cc

  -- a member has one block
  pub one_in : (k b c : ℕ) → IsIn members k b → IsIn members k c → b ≡ c
  one_in k b c p q =
      let same : p.member ≡ q.member = some_one p.member q.member (sym p.there ∙ q.there) in
      block_one b c (sym p.placed ∙ ap (λ (m : Member). m.place) same ∙ q.placed)

  pub in_at : (k i b : ℕ) → k ≡ i → IsIn members k b → IsIn members i b
  in_at k i b e p = subst (λ (x : ℕ). IsIn members x b) e p

  named_later : (j n k : ℕ) → IsNamedAt members numbers j n k → IsNamedAt members numbers (j + 1) n k
  named_later j n k p = record { below = (let l : k < j = p.below in omega arith); number = p.number; block = p.block; inside = p.inside }

  -- another block is entered
  module _ (old new : List ℕ) (since watermark j : ℕ) (latest earlier : List (Option ℕ)) (kept : (b : ℕ) → Contains new b → Contains old b ⊎ (since ≤ b)) (later : since ≤ watermark)
      (s : AreVisible blocks members numbers old since j latest earlier) where
    was_open : (k b : ℕ) → k < j → IsIn members k b → Contains new b → Contains old b
    was_open k b below p has = elim (kept b has) [
      | inl was ↦ was
      | inr scope_stack ↦ absurd (let l : b < since = s.begun k b below p in omega arith)
    ]

    pub seen_enter : AreVisible blocks members numbers new watermark j latest earlier
    seen_enter = record {
      begun = λ k b below p. (let l : b < since = s.begun k b below p in omega arith);
      ordered = λ k i b c before below p q has. s.ordered k i b c before below p q (was_open k b (omega arith) p has);
      starts = λ n. record {
        limit = λ k seen. (s.starts n).limit k (record { named = seen.named; is_open = was_open k seen.named.block seen.named.below seen.named.inside seen.is_open });
        some = (s.starts n).some;
      };
      behind = s.behind;
      older = s.older;
    }

  module _ (stack : List ℕ) (watermark j : ℕ) (latest earlier : List (Option ℕ)) (s : AreVisible blocks members numbers stack watermark j latest earlier) where
    -- a member that is declared in no block
    pub seen_field : ((b : ℕ) → IsIn members j b → ⊥) → AreVisible blocks members numbers stack watermark (j + 1) latest earlier
    seen_field none = record {
      begun = λ k b below p. s.begun k b (before k b below p) p;
      ordered = λ k i b c l below p q has. s.ordered k i b c l (before i c below q) p q has;
      starts = λ n. record {
        limit = λ k seen. (s.starts n).limit k (record {
          named = record { below = before k seen.named.block seen.named.below seen.named.inside; number = seen.named.number; block = seen.named.block; inside = seen.named.inside };
          is_open = seen.is_open;
        });
        some = λ x e. named_later j n x ((s.starts n).some x e);
      };
      behind = λ k i b c l below same p q around. s.behind k i b c l (before i c below q) same p q around;
      older = s.older;
    }
      where
        before : (k b : ℕ) → k < j + 1 → IsIn members k b → k < j
        before k b below p = elim (cases_lt k j) [
          | inl less ↦ less
          | inr past ↦ absurd (none b (in_at k j b (omega arith) p))
        ]

    -- a later head of candidates is a head of candidates too
    pub seen_start : (n : ℕ) (at : Option ℕ) → n < length latest → IsStart members numbers stack j n at → AreVisible blocks members numbers stack watermark j (slice_set latest n at) earlier
    seen_start n at within start = record {
      begun = s.begun;
      ordered = s.ordered;
      starts = λ m. ⊎_elim
          (λ (e : m ≡ n). rw e (rw (get_or-set_same latest n at None within) start))
          (λ (ne : m ≡ n → ⊥). rw (get_or-set_other latest n m at None ne) (s.starts m))
          (cases_eq m n);
      behind = s.behind;
      older = s.older;
    }

    -- a head of candidates whose block has ended is replaced by the candidate before it
    pub start_back : (n i : ℕ) → IsStart members numbers stack j n (Some i) → ((b : ℕ) → IsIn members i b → Contains stack b → ⊥) → IsStart members numbers stack j n (slice_index_or earlier i None)
    start_back n i start ended =
        let here = start.some i refl in
        let below : i < j = here.below in
        record {
          limit = λ k seen. (
              let bound = start.limit k seen in
              let same : i ≡ bound.0 = some_one i bound.0 bound.1 in
              let le : k ≤ bound.0 = bound.2 in
              ⊎_elim
              (λ (less : k < i).
              s.behind k i seen.named.block here.block less below (seen.named.number ∙ sym here.number) seen.named.inside here.inside
              (s.ordered k i seen.named.block here.block less below seen.named.inside here.inside seen.is_open))
              (λ (past : i ≤ k). absurd (ended seen.named.block (in_at k i seen.named.block (omega arith) seen.named.inside) seen.is_open))
              (cases_lt k i));
          some = λ h e. (
              let o = s.older i h e in
              let less : h < i = o.below in
              record { below = omega arith; number = o.number ∙ here.number; block = o.block; inside = o.inside });
        }

    -- a member that is declared in the innermost block
    module _ (sorted : IsIncreasingBy (λ (b : Block). b.first) blocks) (scope_stack : IsOpen blocks stack watermark) (block : ℕ) (last : IsInnermost stack block) (here : IsIn members j block)
        (within : slice_index numbers j < length latest) (inside : j < length earlier) where
      first : ℕ
      first = slice_index numbers j

      here_open : Contains stack block
      here_open = contains_slice stack (length stack - 1) block last

      pub seen_bind : AreVisible blocks members numbers stack watermark (j + 1) (slice_set latest (slice_index numbers j) (Some j)) (slice_set earlier j (slice_index_or latest (slice_index numbers j) None))
      seen_bind = record {
        begun = λ k b below p. ⊎_elim
            (λ (less : k < j). s.begun k b less p)
            (λ (past : j ≤ k). (let same : b ≡ block = one_in j b block (in_at k j b (omega arith) p) here in subst (λ (x : ℕ). x < watermark) (sym same) (scope_stack.begun block here_open)))
            (cases_lt k j);
        ordered = λ k i b c before below p q has. ⊎_elim
            (λ (less : i < j). s.ordered k i b c before less p q has)
            (λ (past : j ≤ i). (
            let same : c ≡ block = one_in j c block (in_at i j c (omega arith) q) here in
            subst (λ (x : ℕ). Encloses blocks b x) (sym same) (open_around blocks stack scope_stack.chain b block last has)))
            (cases_lt i j);
        starts = λ m. ⊎_elim (λ (e : m ≡ slice_index numbers j). start_here m e) (λ (ne : m ≡ slice_index numbers j → ⊥). start_there m ne) (cases_eq m (slice_index numbers j));
        behind = λ k i b c before below same p q around. ⊎_elim
            (λ (less : i < j). (
            let other : slice_index_or (slice_set earlier j (slice_index_or latest (slice_index numbers j) None)) i None ≡ slice_index_or earlier i None = get_or-set_other earlier j i _ None (λ (e : i ≡ j). omega arith) in
            rw other (s.behind k i b c before less same p q around)))
            (λ (past : j ≤ i). behind_here k i b c before (omega arith) same p q around)
            (cases_lt i j);
        older = λ i h e. ⊎_elim
            (λ (is : i ≡ j). older_here i h is e)
            (λ (ne : i ≡ j → ⊥). s.older i h (sym (get_or-set_other earlier j i (slice_index_or latest (slice_index numbers j) None) None ne) ∙ e))
            (cases_eq i j);
      }
        where
          start_here : (m : ℕ) → m ≡ slice_index numbers j → IsStart members numbers stack (j + 1) m (slice_index_or (slice_set latest (slice_index numbers j) (Some j)) m None)
          start_here m e = rw e (rw (get_or-set_same latest (slice_index numbers j) (Some j) None within) (record {
            limit = λ k seen. (j, refl, (let l : k < j + 1 = seen.named.below in omega arith));
            some = λ x is. (let same : j ≡ x = some_one j x is in subst (λ (y : ℕ). IsNamedAt members numbers (j + 1) (slice_index numbers j) y) same (record { below = omega arith; number = refl; block = block; inside = here }));
          }))

          start_there : (m : ℕ) → (m ≡ slice_index numbers j → ⊥) → IsStart members numbers stack (j + 1) m (slice_index_or (slice_set latest (slice_index numbers j) (Some j)) m None)
          start_there m ne = rw (get_or-set_other latest (slice_index numbers j) m (Some j) None ne) (record {
            limit = λ k seen. (s.starts m).limit k (record {
              named = record {
                below = ⊎_elim
                    (λ (less : k < j). less)
                    (λ (past : j ≤ k). (let l : k < j + 1 = seen.named.below in let at : k ≡ j = omega arith in absurd (ne (sym seen.named.number ∙ ap (slice_index numbers) at))))
                    (cases_lt k j);
                number = seen.named.number;
                block = seen.named.block;
                inside = seen.named.inside;
              };
              is_open = seen.is_open;
            });
            some = λ x e. named_later j m x ((s.starts m).some x e);
          })

          behind_here : (k i b c : ℕ) → k < i → i ≡ j → slice_index numbers k ≡ slice_index numbers i → IsIn members k b → IsIn members i c → Encloses blocks b c
              → IsLimit (slice_index_or (slice_set earlier j (slice_index_or latest (slice_index numbers j) None)) i None) k
          behind_here k i b c before at same p q around =
              let innermost : c ≡ block = one_in j c block (in_at i j c at q) here in
              let shown = around_open blocks stack scope_stack.chain sorted b block last (subst (λ (x : ℕ). Encloses blocks b x) innermost around) in
              rw at (rw (get_or-set_same earlier j (slice_index_or latest (slice_index numbers j) None) None inside)
              ((s.starts (slice_index numbers j)).limit k (record { named = record { below = omega arith; number = same ∙ ap (slice_index numbers) at; block = b; inside = p }; is_open = shown })))

          older_here : (i h : ℕ) → i ≡ j → slice_index_or (slice_set earlier j (slice_index_or latest (slice_index numbers j) None)) i None ≡ Some h → IsNamedAt members numbers i (slice_index numbers i) h
          older_here i h is e = rw is ((s.starts (slice_index numbers j)).some h
              (sym (get_or-set_same earlier j (slice_index_or latest (slice_index numbers j) None) None inside) ∙ ap (λ (x : ℕ). slice_index_or (slice_set earlier j (slice_index_or latest (slice_index numbers j) None)) x None) (sym is) ∙ e))

-- no member is declared yet
pub seen_none : (blocks : List Block) (members : List Member) (numbers stack : List ℕ) (watermark : ℕ) (latest earlier : List (Option ℕ)) → ((n : ℕ) → slice_index_or latest n None ≡ None) → ((i : ℕ) → slice_index_or earlier i None ≡ None)
    → AreVisible blocks members numbers stack watermark 0 latest earlier
seen_none blocks members numbers stack watermark latest earlier no_latest no_earlier = record {
  begun = λ k b below p. absurd (omega arith);
  ordered = λ k i b c before below p q has. absurd (omega arith);
  starts = λ n. record { limit = λ k seen. absurd (let l : k < 0 = seen.named.below in omega arith); some = λ x e. absurd (let f : None ≡ Some x = sym (no_latest n) ∙ e in cc) };
  behind = λ k i b c before below same p q around. absurd (omega arith);
  older = λ i h e. absurd (let f : None ≡ Some h = sym (no_earlier i) ∙ e in cc);
}

-- ---- numbers of names

-- texts with equal numbers are equal
same_text : (names : List Name) (a b : List ℕ) → name_number names a ≡ name_number names b → name_number names a < length names → a ≡ b
same_text names a b e within =
    let x = slice_there names (name_number names a) within in
    let first = (bytes_eq-Decides a (get_or names (name_number names a) x.0).bytes.now).0 (passes_at_first (λ (y : Name). bytes_eq a y.bytes.now) names x.0 within) in
    let second = (bytes_eq-Decides b (get_or names (name_number names b) x.0).bytes.now).0 (passes_at_first (λ (y : Name). bytes_eq b y.bytes.now) names x.0 (rw (← e) within)) in
    first ∙ ap (λ (n : ℕ). (get_or names n x.0).bytes.now) e ∙ sym second

---- the declaration that a use resolves to

module _ (name : ℕ → List ℕ) (blocks : List Block) (members : List Member) (names : List Name) (numbers : List ℕ) (numbered : AreInterned name members names numbers)
    (stack : List ℕ) (watermark j : ℕ) (latest earlier : List (Option ℕ)) (s : AreVisible blocks members numbers stack watermark j latest earlier)
    (sorted : IsIncreasingBy (λ (b : Block). b.first) blocks) (scope_stack : IsOpen blocks stack watermark) (block token : ℕ) (last : IsInnermost stack block) (prefix : IsPrefixBefore members j token) where
  -- a declaration visible at the use is visible in the open blocks
  seen_here : (b : ℕ) (e : Member) → IsVisible name blocks members (use_in block token) b e → (k : ℕ) × (slice_get members k ≡ Some e) × IsVisibleAt members numbers stack j (name_number names (name token)) k
  seen_here b e t =
      let p = slice_contains members e t.declared in
      let below : p.0 < j = ⊎_elim (λ (less : p.0 < j). less) (λ (past : j ≤ p.0). absurd (let l : token ≤ e.number = prefix.behind p.0 e past p.1 in let k : e.number < token = t.before in omega arith)) (cases_lt p.0 j) in (
        p.0,
        p.1,
        record {
          named = record { below = below; number = numbered.each p.0 e p.1 ∙ ap (name_number names) t.named; block = b; inside = record { member = e; there = p.1; placed = t.placed } };
          is_open = around_open blocks stack scope_stack.chain sorted b block last t.around;
        },
      )

  pub resolved_none : IsStart members numbers stack j (name_number names (name token)) None → ResolvesToNothing name blocks members (use_in block token)
  resolved_none start b e t =
      let here = seen_here b e t in
      let bound = start.limit here.0 here.2 in
      let bad : None ≡ Some bound.0 = bound.1 in
      absurd cc

  -- a name that no member has
  pub resolved_unnamed : length names ≤ name_number names (name token) → ResolvesToNothing name blocks members (use_in block token)
  resolved_unnamed past b e t =
      let p = slice_contains members e t.declared in
      let within = numbered.within p.0 e p.1 in
      let same : slice_index numbers p.0 ≡ name_number names (name token) = numbered.each p.0 e p.1 ∙ ap (name_number names) t.named in
      omega arith

  open_in : (i c : ℕ) (m : Member) → slice_get members i ≡ Some m → IsOpenScope stack m.place → IsIn members i c → Contains stack c
  open_in i c m there is p =
      let same : m ≡ p.member = some_one m p.member (sym there ∙ p.there) in
      subst (λ (x : Scope). IsOpenScope stack x) (ap (λ (y : Member). y.place) same ∙ p.placed) is

  pub resolved_found : (i : ℕ) → IsStart members numbers stack j (name_number names (name token)) (Some i) → (m : Member) × (slice_get members i ≡ Some m) × IsOpenScope stack m.place → IsResolved name blocks members block token i
  unfolding seen_here
  resolved_found i start (m, there, is) =
      let here = start.some i refl in
      let c = here.block in
      let at : slice_get members i ≡ Some here.inside.member = here.inside.there in
      let d = here.inside.member in
      let shown = open_in i c m there is here.inside in
      record {
        member = d;
        there = at;
        resolves = record {
          block = c;
          seen = record {
            declared = contains_slice members i d at;
            placed = here.inside.placed;
            named = same_text names (name d.number) (name token) (sym (numbered.each i d at) ∙ here.number) (rw (← numbered.each i d at) (numbered.within i d at));
            before = prefix.before i d here.below at;
            around = open_around blocks stack scope_stack.chain c block last shown;
          };
          innermost = λ b e t. (
              let other = seen_here b e t in
              let bound = start.limit other.0 other.2 in
              let le : other.0 ≤ bound.0 = bound.2 in
              let same : i ≡ bound.0 = some_one i bound.0 bound.1 in
              ⊎_elim
              (λ (less : other.0 < i). s.ordered other.0 i b c less here.below other.2.named.inside here.inside other.2.is_open)
              (λ (past : i ≤ other.0). itself (one_in blocks members numbers i b c (in_at blocks members numbers other.0 i b (omega arith) other.2.named.inside) here.inside))
              (cases_lt other.0 i));
        };
      }
