-- One more use is resolved.
use Rattle.std.proofs.Common.{◌≡◌, ℕ, zero, suc, ◌+◌, ◌<◌, ◌≤◌, inl, inr, ◌⊎◌, Bool, true, false, List, [], ◌∷◌, ◌++◌, length, take, Some, None, refl, sym, ap, ◌∙◌, subst, arith, ⊎_elim}
use Rattle.std.specs.Prelude.{slice_get, slice_index, slice_set, ◌&&◌, if◌then◌else◌}
use Rattle.std.proofs.lemmas.Bool.{cases_lt, cases_eq, false≢true}
use Rattle.std.specs.Option.{is_some}
use Rattle.std.proofs.lemmas.List.{get_or-set_same, get_or-set_other, length-set, take_more}
use Rattle.std.proofs.lemmas.Option.{slice_get_within, get_or_from_slice_get}
use Rattle.scopes.specs.declared.meaning.Resolution.{Resolution}
use Rattle.module_table.specs.declared.rows.Block.{Block}
use Rattle.module_table.specs.declared.rows.Used.{Used}
use Rattle.module_table.specs.declared.rows.DeclKind.{DeclKind}
use Rattle.module_table.specs.declared.rows.DeclKind.TheVariants as decl_kinds
use Rattle.scopes.specs.declared.members.Member.{Member}
use Rattle.scopes.specs.Scope.{ResolvesTo, HasNoDuplicates}
use Rattle.scopes.specs.QualifiedUses.{Counts, IsQualifiedBy, none, one_more, other}
use Rattle.module_table.specs.Order.{IsIncreasingBy}
use Rattle.ob_scope.specs.Lookups.{MeansNothing}
use Rattle.ob_scope.specs.Found.{counted_for, is_import, AreCounted, AreMeant, MeansBefore}
use Rattle.module_table.proofs.Elements.{some_one}
use Rattle.scopes.proofs.Meanings.{means_once}
use Rattle.ob_scope.proofs.Named.{one_of_number}

module _ {X : Type 0} where
  -- an element of a longer list
  pub get_left : (xs ys : List X) (i : ℕ) (x : X) → slice_get xs i ≡ Some x → slice_get (xs ++ ys) i ≡ Some x
  get_left [] ys i x e = absurd (let f : None ≡ Some x = e in cc)
  get_left (y ∷ xs) ys zero x e = e
  get_left (y ∷ xs) ys (suc i) x e = get_left xs ys i x e

  pub get_last : (xs : List X) (x : X) → slice_get (xs ++ x ∷ []) (length xs) ≡ Some x
  get_last [] x = refl
  get_last (y ∷ xs) x = get_last xs x

  pub get_push : (xs : List X) (x y : X) (i : ℕ) → slice_get (xs ++ x ∷ []) i ≡ Some y → (slice_get xs i ≡ Some y) ⊎ ((i ≡ length xs) × (x ≡ y))
  get_push [] x y zero e = inr (refl, some_one x y e)
  get_push [] x y (suc i) e = absurd (let f : None ≡ Some y = e in cc)
  get_push (z ∷ xs) x y zero e = inl e
  get_push (z ∷ xs) x y (suc i) e = elim (get_push xs x y i e) [ inl h ↦ inl h | inr h ↦ inr (ap suc h.0, h.1) ]

  -- one more element that is counted, or isn't
  counts_more : (P : X → Type 0) (xs : List X) (x : X) (n : ℕ) → P x → Counts P xs n → Counts P (xs ++ x ∷ []) (suc n)
  counts_more P [] x n p none = one_more p none
  counts_more P (y ∷ xs) x n p (one_more q c) = one_more q (counts_more P xs x _ p c)
  counts_more P (y ∷ xs) x n p (other q c) = other q (counts_more P xs x n p c)

  counts_same : (P : X → Type 0) (xs : List X) (x : X) (n : ℕ) → (P x → ⊥) → Counts P xs n → Counts P (xs ++ x ∷ []) n
  counts_same P [] x n p none = other p none
  counts_same P (y ∷ xs) x n p (one_more q c) = one_more q (counts_same P xs x _ p c)
  counts_same P (y ∷ xs) x n p (other q c) = other q (counts_same P xs x n p c)

abbrev counted : Bool → DeclKind → ℕ
counted q s = if q && is_import s then 1 else 0

-- a qualified use counts 1 for an import, any other use 0
abbrev CountsOne : Bool → DeclKind → Type 0
CountsOne q s = ((q ≡ true) × (s ≡ decl_kinds.Import) × (counted q s ≡ 1)) ⊎ (((q ≡ true) → s ≡ decl_kinds.Import → ⊥) × (counted q s ≡ 0))

counts_one : (q : Bool) (s : DeclKind) → CountsOne q s
counts_one false s = inr ((λ e f. false≢true e), refl)
counts_one true decl_kinds.Import = inl (refl, refl, refl)
counts_one true decl_kinds.Constant = inr ((λ e f. absurd (let g : decl_kinds.Constant ≡ decl_kinds.Import = f in cc)), refl)
counts_one true decl_kinds.Type = inr ((λ e f. absurd (let g : decl_kinds.Type ≡ decl_kinds.Import = f in cc)), refl)
counts_one true decl_kinds.Variable = inr ((λ e f. absurd (let g : decl_kinds.Variable ≡ decl_kinds.Import = f in cc)), refl)
counts_one true decl_kinds.Procedure = inr ((λ e f. absurd (let g : decl_kinds.Procedure ≡ decl_kinds.Import = f in cc)), refl)
counts_one true decl_kinds.Parameter = inr ((λ e f. absurd (let g : decl_kinds.Parameter ≡ decl_kinds.Import = f in cc)), refl)
counts_one true decl_kinds.Field = inr ((λ e f. absurd (let g : decl_kinds.Field ≡ decl_kinds.Import = f in cc)), refl)

module _ (name : ℕ → List ℕ) (blocks : List Block) (members : List Member) (uses : List Used) where
  weaker : (k used declared : ℕ) → MeansBefore name blocks members uses k used declared → MeansBefore name blocks members uses (k + 1) used declared
  weaker k used declared m = record {
    place = m.place;
    below = (let l : m.place < k = m.below in omega arith);
    use_row = m.use_row;
    there = m.there;
    of_use = m.of_use;
    named_declaration = m.named_declaration;
    means = m.means;
    of_declared = m.of_declared;
  }

  -- one of the earlier uses, or this one
  before_or_last : (k used declared : ℕ) (u : Used) → slice_get uses k ≡ Some u → (m : MeansBefore name blocks members uses (k + 1) used declared) →
      MeansBefore name blocks members uses k used declared ⊎ ((u.number ≡ used) × ((d : Member) × ResolvesTo name blocks members u d × (d.number ≡ declared)))
  before_or_last k used declared u at m = ⊎_elim
      (λ (old : m.place < k). inl (record { place = m.place; below = old; use_row = m.use_row; there = m.there; of_use = m.of_use; named_declaration = m.named_declaration; means = m.means; of_declared = m.of_declared }))
      (λ (now : k ≤ m.place).
      let l : m.place < k + 1 = m.below in
      let e : m.place ≡ k = omega arith in
      let same : m.use_row ≡ u = some_one m.use_row u (sym m.there ∙ ap (slice_get uses) e ∙ at) in
      inr (sym (ap (λ (x : Used). x.number) same) ∙ m.of_use, (m.named_declaration, subst (λ (x : Used). ResolvesTo name blocks members x m.named_declaration) same m.means, m.of_declared)))
      (cases_lt m.place k)

  pub meant_none : AreMeant name blocks members uses 0 []
  meant_none = record {
    sound = λ i row e. absurd (let f : None ≡ Some row = e in cc);
    all = λ used declared m. absurd (let l : m.place < 0 = m.below in omega arith);
    ordered = λ i j x y l e. absurd (let f : None ≡ Some x = e in cc);
  }

  pub meant_other : (k : ℕ) (rows : List Resolution) (u : Used) → AreMeant name blocks members uses k rows → slice_get uses k ≡ Some u → MeansNothing name blocks members u → AreMeant name blocks members uses (k + 1) rows
  meant_other k rows u a at nothing = record {
    sound = λ i row e. weaker k row.used row.declared (a.sound i row e);
    all = λ used declared m. elim (before_or_last k used declared u at m) [
      | inl h ↦ a.all used declared h
      | inr h ↦ absurd (nothing h.1.0 h.1.1)
    ];
    ordered = a.ordered;
  }

  -- a use before the last has a smaller number
  before_last : (k used declared : ℕ) (u : Used) → IsIncreasingBy (λ (x : Used). x.number) uses → slice_get uses k ≡ Some u → MeansBefore name blocks members uses k used declared → used < u.number
  before_last k used declared u up at m =
      subst (λ (n : ℕ). n < u.number) m.of_use (up m.place k m.use_row u m.below m.there at)

  pub meant_more : (k : ℕ) (rows : List Resolution) (u : Used) (m : Member) → IsIncreasingBy (λ (x : Used). x.number) uses → HasNoDuplicates name members → AreMeant name blocks members uses k rows → slice_get uses k ≡ Some u
      → ResolvesTo name blocks members u m → AreMeant name blocks members uses (k + 1) (rows ++ record { used = u.number; declared = m.number } ∷ [])
  meant_more k rows u m up once a at means =
      let new : Resolution = record { used = u.number; declared = m.number } in
      record {
        sound = λ j row e. elim (get_push rows new row j e) [
          | inl h ↦ weaker k row.used row.declared (a.sound j row h)
          | inr h ↦ subst (λ (x : Resolution). MeansBefore name blocks members uses (k + 1) x.used x.declared) h.1
              (record { place = k; below = omega arith; use_row = u; there = at; of_use = refl; named_declaration = m; means = means; of_declared = refl })
        ];
        all = λ used declared h. elim (before_or_last k used declared u at h) [
          | inl old ↦ (let p = a.all used declared old in (p.0, get_left rows (new ∷ []) p.0 (record { used = used; declared = declared }) p.1))
          | inr now ↦ (
              let same : m ≡ now.1.0 = means_once name blocks members u m now.1.0 once means now.1.1 in
              let e : new ≡ record { used = used; declared = declared } = row_is u.number used m.number declared now.0 (ap (λ (x : Member). x.number) same ∙ now.1.2) in
              (length rows, get_last rows new ∙ ap Some e))
        ];
        ordered = λ x y p q l e f. elim (get_push rows new q y f) [
          | inl old ↦ elim (get_push rows new p x e) [
            | inl older ↦ a.ordered x y p q l older old
            | inr last ↦ absurd (let s : y < length rows = slice_get_within rows y q old in omega (arith, last.0))
          ]
          | inr last ↦ elim (get_push rows new p x e) [
            | inl older ↦ subst (λ (v : Resolution). p.used < v.used) last.1 (before_last k p.used p.declared u up at (a.sound x p older))
            | inr also ↦ absurd (omega (arith, last.0, also.0))
          ]
        ];
      }
    where
      row_is : (a b c d : ℕ) → a ≡ b → c ≡ d → (let x : Resolution = record { used = a; declared = c } in x) ≡ record { used = b; declared = d }
      row_is a b c d e f = cc

  ---- counts

  uses_more : (k : ℕ) (u : Used) → slice_get uses k ≡ Some u → take (k + 1) uses ≡ take k uses ++ u ∷ []
  uses_more k u at =
      take_more uses k u (slice_get_within uses k _ at) ∙ ap (λ (x : Used). take k uses ++ x ∷ []) (get_or_from_slice_get uses k u u at)

  -- a use is qualified by a member exactly if it means that member, the member is an import, and the use has a dot
  qualified_row : (i j : ℕ) (m n : Member) (u : Used) → IsIncreasingBy (λ (x : Member). x.number) members → HasNoDuplicates name members → slice_get members i ≡ Some m → slice_get members j ≡ Some n
      → ResolvesTo name blocks members u m → IsQualifiedBy name blocks members n.number u → (j ≡ i) × (m.decl_kind ≡ decl_kinds.Import)
  qualified_row i j m n u up once p q means by =
      let same : m ≡ by.declared = means_once name blocks members u m by.declared once means by.means in
      let number : m.number ≡ n.number = ap (λ (x : Member). x.number) same ∙ by.is_alias in
      (one_of_number name members j i n m up q p (sym number), ap (λ (x : Member). x.decl_kind) same ∙ by.of_import)

  pub counted_none : (counts : List ℕ) → length counts ≡ length members → ((i : ℕ) → slice_index counts i ≡ 0) → AreCounted name blocks members uses 0 counts
  counted_none counts l z = record { as_many = l; small = λ i. rw (z i) (omega arith); each = λ i m e. rw (z i) none }

  pub counted_other : (k : ℕ) (counts : List ℕ) (u : Used) → AreCounted name blocks members uses k counts → slice_get uses k ≡ Some u → MeansNothing name blocks members u → AreCounted name blocks members uses (k + 1) counts
  counted_other k counts u c at nothing = record {
    as_many = c.as_many;
    small = λ i. (let s : slice_index counts i ≤ k = c.small i in omega arith);
    each = λ i m e. rw (uses_more k u at) (counts_same _ (take k uses) u _ (λ q. nothing q.declared q.means) (c.each i m e));
  }

  -- the count of the member that a use means
  this_row : (k i : ℕ) (counts : List ℕ) (u : Used) (m n : Member) → IsIncreasingBy (λ (x : Member). x.number) members → HasNoDuplicates name members → n ≡ m → AreCounted name blocks members uses k counts → slice_get members i ≡ Some m
      → ResolvesTo name blocks members u m → CountsOne (is_some u.member) m.decl_kind
      → Counts (IsQualifiedBy name blocks members n.number) (take k uses ++ u ∷ []) (slice_index counts i + counted_for m u)
  this_row k i counts u m n up once is c there means (inl h) =
      let here : slice_get members i ≡ Some n = there ∙ ap Some (sym is) in
      let e : suc (slice_index counts i) ≡ slice_index counts i + counted_for m u = omega (arith, h.2) in
      subst (λ (x : ℕ). Counts (IsQualifiedBy name blocks members n.number) (take k uses ++ u ∷ []) x) e
      (counts_more _ (take k uses) u _
      (record { qualified = h.0; declared = m; means = means; is_alias = ap (λ (x : Member). x.number) (sym is); of_import = h.1 })
      (c.each i n here))
  this_row k i counts u m n up once is c there means (inr h) =
      let here : slice_get members i ≡ Some n = there ∙ ap Some (sym is) in
      let e : slice_index counts i ≡ slice_index counts i + counted_for m u = omega (arith, h.1) in
      subst (λ (x : ℕ). Counts (IsQualifiedBy name blocks members n.number) (take k uses ++ u ∷ []) x) e
      (counts_same _ (take k uses) u _
      (λ q. h.0 q.qualified (qualified_row i i m n u up once there here means q).1)
      (c.each i n here))

  pub counted_more : (k i : ℕ) (counts : List ℕ) (u : Used) (m : Member) → IsIncreasingBy (λ (x : Member). x.number) members → HasNoDuplicates name members → AreCounted name blocks members uses k counts → slice_get uses k ≡ Some u
      → slice_get members i ≡ Some m → ResolvesTo name blocks members u m
      → AreCounted name blocks members uses (k + 1) (slice_set counts i (slice_index counts i + counted_for m u))
  counted_more k i counts u m up once c at there means =
      let more = counted_for m u in
      let new = slice_set counts i (slice_index counts i + more) in
      let within : i < length members = slice_get_within members i m there in
      let inside : i < length counts = (let l : length counts ≡ length members = c.as_many in omega arith) in
      let same : slice_index new i ≡ slice_index counts i + more = get_or-set_same counts i (slice_index counts i + more) 0 inside in
      let distinct : (j : ℕ) → (j ≡ i → ⊥) → slice_index new j ≡ slice_index counts j = λ j ne. get_or-set_other counts i j (slice_index counts i + more) 0 ne in
      let one = counts_one (is_some u.member) m.decl_kind in
      let small_more : more ≤ 1 = elim one [ inl h ↦ omega (arith, h.2) | inr h ↦ omega (arith, h.1) ] in
      record {
        as_many = length-set counts i (slice_index counts i + more) ∙ c.as_many;
        small = λ j. ⊎_elim
            (λ (e : j ≡ i). rw e (rw same (let s : slice_index counts i ≤ k = c.small i in omega arith)))
            (λ (ne : j ≡ i → ⊥). rw (distinct j ne) (let s : slice_index counts j ≤ k = c.small j in omega arith))
            (cases_eq j i);
        each = λ j n e. ⊎_elim
            (λ (q : j ≡ i).
            let is : n ≡ m = some_one n m (sym e ∙ ap (slice_get members) q ∙ there) in
            rw (uses_more k u at) (rw q (rw same (this_row k i counts u m n up once is c there means one))))
            (λ (ne : j ≡ i → ⊥).
            rw (uses_more k u at) (rw (distinct j ne)
            (counts_same _ (take k uses) u _ (λ q. ne (qualified_row i j m n u up once there e means q).0) (c.each j n e))))
            (cases_eq j i);
      }
