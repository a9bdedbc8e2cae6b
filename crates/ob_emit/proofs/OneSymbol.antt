-- A symbol is the symbol of one declaration.
use Rattle.std.proofs.Common.{◌≡◌, ℕ, zero, suc, ◌+◌, ◌<◌, ◌≤◌, ◌^◌, ◌==◌, inl, inr, List, [], ◌∷◌, length, get_or, take, Bool, true, false, cond, Option, Some, None, refl, sym, ap, ◌∙◌, arith, eqb-true, length-take}
use Rattle.std.specs.Prelude.{slice_get, position, count_by}
use Rattle.std.specs.Fmt.{decimal}
use Rattle.std.specs.Option.{option_map, option_and_then}
use Rattle.std.proofs.lemmas.Bool.{cases_lt}
use Rattle.std.proofs.lemmas.Fmt.{decimal_is_IsNumeral}
use Rattle.std.proofs.lemmas.List.Quantifiers.{position-Some}
use Rattle.std.proofs.lemmas.List.Sums.{count_by-le-length, count_by_more_yes, sum_by-cons}
use Rattle.std.proofs.lemmas.Option.{get_or_from_slice_get, slice_get_within}
use Rattle.std.specs.Str.Parse.{digits_value}
use Rattle.module_table.specs.declared.rows.Declared.{Declared}
use Rattle.module_table.specs.declared.rows.DeclGroup.{DeclGroup}
use Rattle.module_table.specs.Tables.{module_name_token}
use Rattle.scopes.specs.declared.members.Scope.{Scope}
use Rattle.scopes.specs.declared.members.Scope.TheVariants.{Block, Record}
use Rattle.scopes.specs.Members.{members_of, group_scope}
use Rattle.ob_scan.specs.Texts.{text_at}
use Rattle.ob_view.specs.World.{World, text, decl_group_of, owner_at}
use Rattle.scip_symbol.specs.declared.kind.DescriptorKind.{DescriptorKind}
use Rattle.scip_symbol.specs.declared.kind.DescriptorKind.TheVariants.{Namespace, Term}
use Rattle.scip_symbol.specs.SymbolTexts.{DescriptorModel, SymbolModel, Local}
use Rattle.ob_emit.specs.DistinctSymbols.{DeclaresOnce, IsLocal}
use Rattle.ob_emit.specs.Symbols.{PathStep, descriptor, declared_symbol, global, step_in_record, is_local, descriptor_kind, declared_path, declared_step, declared_step_by, declared_steps, symbol_at}
use Rattle.ob_emit.proofs.OneMember.{declares, member_once, owns, DeclaresBy, Owns}
use Rattle.ob_emit.proofs.OnePath.{begins, path_once, Begins}

-- ---- steps of the module's own declarations

-- a step in the module's block, or in a record
data StepsBy (w : World) (k : ℕ) (by : DeclGroup) (s : PathStep) : Type 0 where
  block : {kind : DescriptorKind} → by.of_record ≡ None → by.block ≡ 0 → s ≡ record { own = descriptor kind (text w k); owner = None } → StepsBy w k by s
  field : {r o : ℕ} → by.of_record ≡ Some r → owner_at w r ≡ Some o → s ≡ record { own = descriptor Term (text w k); owner = Some o } → StepsBy w k by s

record HasStepBy (w : World) (k : ℕ) (s : PathStep) : Type 0 where
  by : DeclGroup
  declared : decl_group_of w k ≡ Some by
  steps : StepsBy w k by s

module _ (w : World) (k : ℕ) (s : PathStep) where
  by_kind : (by : DeclGroup) (kind : Option DescriptorKind) → by.of_record ≡ None → by.block ≡ 0 →
      option_map (λ (v : DescriptorKind). record { own = descriptor v (text w k); owner = None }) kind ≡ Some s → StepsBy w k by s
  by_kind by None is foreign e = absurd (let f : None ≡ Some s = e in cc)
  by_kind by (Some kind) is foreign e =
      let made : PathStep = record { own = descriptor kind (text w k); owner = None } in
      let f : Some made ≡ Some s = e in
      let g : made ≡ s = cc in
      block is foreign (sym g)

  by_test : (by : DeclGroup) (r o : ℕ) (b : Bool) → by.of_record ≡ Some r → owner_at w r ≡ Some o →
      cond b (Some (record { own = descriptor Term (text w k); owner = Some o })) None ≡ Some s → StepsBy w k by s
  by_test by r o false is owner e = absurd (let f : None ≡ Some s = e in cc)
  by_test by r o true is owner e =
      let made : PathStep = record { own = descriptor Term (text w k); owner = Some o } in
      let f : Some made ≡ Some s = e in
      let g : made ≡ s = cc in
      field is owner (sym g)

  by_owner : (by : DeclGroup) (r : ℕ) (v : Option ℕ) → by.of_record ≡ Some r → owner_at w r ≡ v → step_in_record k (text w k) v ≡ Some s → StepsBy w k by s
  by_owner by r None is owner e = absurd (let f : None ≡ Some s = e in cc)
  by_owner by r (Some o) is owner e = by_test by r o _ is owner e

  by_place : (by : DeclGroup) (v : Option ℕ) → by.of_record ≡ v → by.block ≡ 0 → declared_step_by w k by.decl_kind v ≡ Some s → StepsBy w k by s
  by_place by None is foreign e = by_kind by (descriptor_kind by.decl_kind) is foreign e
  by_place by (Some r) is foreign e = by_owner by r (owner_at w r) is refl e

  by_block : (by : DeclGroup) (b : Bool) → (by.block == 0) ≡ b → cond b (declared_step_by w k by.decl_kind by.of_record) None ≡ Some s → StepsBy w k by s
  by_block by false is e = absurd (let f : None ≡ Some s = e in cc)
  by_block by true is e = by_place by by.of_record refl (eqb-true by.block 0 is) e

  by_declarer : (v : Option DeclGroup) → decl_group_of w k ≡ v → option_and_then (declared_step w k) v ≡ Some s → HasStepBy w k s
  by_declarer None is e = absurd (let f : None ≡ Some s = e in cc)
  by_declarer (Some by) is e = record { by = by; declared = is; steps = by_block by (by.block == 0) refl e }

  has_step_by : declared_steps w k ≡ Some s → HasStepBy w k s
  has_step_by e = by_declarer (decl_group_of w k) refl e

---- equal steps are steps of one declaration

module _ (w : World) (once : DeclaresOnce w) where
  -- members with one name in one scope
  in_one_place : (k j : ℕ) (a b : DeclGroup) → decl_group_of w k ≡ Some a → decl_group_of w j ≡ Some b → group_scope a ≡ group_scope b → text w k ≡ text w j → k ≡ j
  unfolding text
  in_one_place k j a b at_k at_j place named =
      let f : DeclaresBy w k a = declares w k a at_k in
      let g : DeclaresBy w j b = declares w j b at_j in
      let same_text : text_at w.bytes w.tokens f.row.number ≡ text_at w.bytes w.tokens g.row.number =
      ap (text_at w.bytes w.tokens) f.number ∙ named ∙ ap (text_at w.bytes w.tokens) (sym g.number) in
      sym f.number
      ∙ member_once (text_at w.bytes w.tokens) (members_of w.rows) (record { place = group_scope a; number = f.row.number; decl_kind = a.decl_kind }) (record { place = group_scope b; number = g.row.number; decl_kind = b.decl_kind })
      once.once f.among g.among place same_text
      ∙ g.number

  -- the scope of a declaration group, by its record
  place_by : DeclGroup → Option ℕ → Scope
  place_by a None = Block a.block
  place_by a (Some r) = Record r

  alike_by : (k j : ℕ) (s t : PathStep) (a b : DeclGroup) → decl_group_of w k ≡ Some a → decl_group_of w j ≡ Some b → StepsBy w k a s → StepsBy w j b t → s.own ≡ t.own → s.owner ≡ t.owner → k ≡ j
  alike_by k j s t a b at_k at_j (block {kind = kind} none foreign is) (block {kind = other} none_too outer_too is_too) own owner =
      let named : text w k ≡ text w j = ap (λ (v : DescriptorModel). v.name) (ap (λ (v : PathStep). v.own) (sym is) ∙ own ∙ ap (λ (v : PathStep). v.own) is_too) in
      in_one_place k j a b at_k at_j (block_place a none ∙ ap Block (foreign ∙ sym outer_too) ∙ sym (block_place b none_too)) named
    where
      block_place : (c : DeclGroup) → c.of_record ≡ None → group_scope c ≡ Block c.block
      block_place c e = rw e refl
  alike_by k j s t a b at_k at_j (block none foreign is) (field {o = o} r at_o is_too) own owner =
      absurd (let e : None ≡ Some o = ap (λ (v : PathStep). v.owner) (sym is) ∙ owner ∙ ap (λ (v : PathStep). v.owner) is_too in cc)
  alike_by k j s t a b at_k at_j (field {o = o} r at_o is) (block none foreign is_too) own owner =
      absurd (let e : Some o ≡ None = ap (λ (v : PathStep). v.owner) (sym is) ∙ owner ∙ ap (λ (v : PathStep). v.owner) is_too in cc)
  alike_by k j s t a b at_k at_j (field {r = r} {o = o} in_r at_o is) (field {r = q} {o = p} in_q at_p is_too) own owner =
      let named : text w k ≡ text w j = ap (λ (v : DescriptorModel). v.name) (ap (λ (v : PathStep). v.own) (sym is) ∙ own ∙ ap (λ (v : PathStep). v.own) is_too) in
      let e : Some o ≡ Some p = ap (λ (v : PathStep). v.owner) (sym is) ∙ owner ∙ ap (λ (v : PathStep). v.owner) is_too in
      let same_owner : o ≡ p = cc in
      let x : Owns w r o = owns w r o at_o in
      let y : Owns w q p = owns w q p at_p in
      let same_record : r ≡ q = sym x.number ∙ once.owners x.row y.row x.among y.among (x.owner ∙ same_owner ∙ sym y.owner) ∙ y.number in
      in_one_place k j a b at_k at_j (record_place a r in_r ∙ ap Record same_record ∙ sym (record_place b q in_q)) named
    where
      record_place : (c : DeclGroup) (r : ℕ) → c.of_record ≡ Some r → group_scope c ≡ Record r
      record_place c r e = rw e refl

  alike : (k j : ℕ) (s t : PathStep) → declared_steps w k ≡ Some s → declared_steps w j ≡ Some t → s.own ≡ t.own → s.owner ≡ t.owner → k ≡ j
  alike k j s t e f own owner =
      let a : HasStepBy w k s = has_step_by w k s e in
      let b : HasStepBy w j t = has_step_by w j t f in
      alike_by k j s t a.by b.by a.declared b.declared a.steps b.steps own owner

  own_path_once : (k j : ℕ) (ds : List DescriptorModel) → declared_path w k ≡ Some ds → declared_path w j ≡ Some ds → k ≡ j
  own_path_once k j ds e f = path_once (text w module_name_token) (declared_steps w) alike (suc k) (suc j) k j ds e f

---- numbers of local symbols

count_more : {X : Type 0} (p : X → Bool) (xs : List X) (i j : ℕ) → i ≤ j → count_by p (take i xs) ≤ count_by p (take j xs)
count_more p [] zero j l = omega arith
count_more p [] (suc i) j l = omega arith
count_more p (x ∷ xs) zero j l = omega arith
count_more p (x ∷ xs) (suc i) zero l = absurd (omega arith)
count_more {X} p (x ∷ xs) (suc i) (suc j) l =
    let h : count_by p (take i xs) ≤ count_by p (take j xs) = count_more p xs i j (omega arith) in
    let a : count_by p (take (suc i) (x ∷ xs)) ≡ cond (p x) 1 0 + count_by p (take i xs) = sum_by-cons (λ (y : X). cond (p y) 1 0) x (take i xs) in
    let b : count_by p (take (suc j) (x ∷ xs)) ≡ cond (p x) 1 0 + count_by p (take j xs) = sum_by-cons (λ (y : X). cond (p y) 1 0) x (take j xs) in
    omega (arith, a, b, h)

count_passed : {X : Type 0} (p : X → Bool) (xs : List X) (i j : ℕ) (x : X) → slice_get xs i ≡ Some x → p x ≡ true → i < j → count_by p (take i xs) < count_by p (take j xs)
count_passed p xs i j x at is l =
    let here : get_or xs i x ≡ x = get_or_from_slice_get xs i x x at in
    let one : count_by p (take (i + 1) xs) ≡ count_by p (take i xs) + 1 = count_by_more_yes p xs i x (slice_get_within xs i x at) (ap p here ∙ is) in
    let more : count_by p (take (i + 1) xs) ≤ count_by p (take j xs) = count_more p xs (i + 1) j (omega arith) in
    omega (arith, one, more)

-- ---- symbols

-- a declaration with the symbol that it has
pub data SymbolBy (w : World) (package_name : List ℕ) (i : ℕ) (d : Declared) (s : SymbolModel) : Type 0 where
  within : is_local w d ≡ true → s ≡ Local (decimal (count_by (is_local w) (take i w.rows.declared))) → SymbolBy w package_name i d s
  outside : {ds : List DescriptorModel} → declared_path w d.number ≡ Some ds → s ≡ global package_name ds → SymbolBy w package_name i d s

pub record HasSymbol (w : World) (package_name : List ℕ) (k : ℕ) (s : SymbolModel) : Type 0 where
  pub at : ℕ
  pub row : Declared
  pub placed : position (λ (d : Declared). d.number == k) w.rows.declared ≡ Some at
  pub there : slice_get w.rows.declared at ≡ Some row
  pub number : row.number ≡ k
  pub has : SymbolBy w package_name at row s

module _ (w : World) (package_name : List ℕ) (k : ℕ) (s : SymbolModel) where
  by_path : (i : ℕ) (d : Declared) (v : Option (List DescriptorModel)) → declared_path w d.number ≡ v → option_map (global package_name) v ≡ Some s → SymbolBy w package_name i d s
  by_path i d None is e = absurd (let f : None ≡ Some s = e in cc)
  by_path i d (Some ds) is e =
      let f : Some (global package_name ds) ≡ Some s = e in
      let g : global package_name ds ≡ s = cc in
      outside is (sym g)

  by_local : (i : ℕ) (d : Declared) (b : Bool) → is_local w d ≡ b →
      cond b (Some (Local (decimal (count_by (is_local w) (take i w.rows.declared))))) (option_map (global package_name) (declared_path w d.number)) ≡ Some s → SymbolBy w package_name i d s
  by_local i d true is e =
      let made : SymbolModel = Local (decimal (count_by (is_local w) (take i w.rows.declared))) in
      let f : Some made ≡ Some s = e in
      let g : made ≡ s = cc in
      within is (sym g)
  by_local i d false is e = by_path i d (declared_path w d.number) refl e

  by_row : (i : ℕ) (v : Option Declared) → position (λ (d : Declared). d.number == k) w.rows.declared ≡ Some i → slice_get w.rows.declared i ≡ v →
      option_and_then (symbol_at w package_name i) v ≡ Some s → HasSymbol w package_name k s
  by_row i None placed there e = absurd (let f : None ≡ Some s = e in cc)
  by_row i (Some d) placed there e =
      let h = position-Some (λ (x : Declared). x.number == k) w.rows.declared i d placed in
      let is : get_or w.rows.declared i d ≡ d = get_or_from_slice_get w.rows.declared i d d there in
      let passes : (d.number == k) ≡ true = ap (λ (x : Declared). x.number == k) (sym is) ∙ h.1 in
      record { at = i; row = d; placed = placed; there = there; number = eqb-true d.number k passes; has = by_local i d (is_local w d) refl e }

  by_position : (v : Option ℕ) → position (λ (d : Declared). d.number == k) w.rows.declared ≡ v →
      option_and_then (λ (i : ℕ). option_and_then (symbol_at w package_name i) (slice_get w.rows.declared i)) v ≡ Some s → HasSymbol w package_name k s
  by_position None placed e = absurd (let f : None ≡ Some s = e in cc)
  by_position (Some i) placed e = by_row i (slice_get w.rows.declared i) placed refl e

  pub has_symbol : declared_symbol w package_name k ≡ Some s → HasSymbol w package_name k s
  has_symbol e = by_position (position (λ (d : Declared). d.number == k) w.rows.declared) refl e

decimals : (a b : ℕ) → a < 2 ^ 64 → b < 2 ^ 64 → decimal a ≡ decimal b → a ≡ b
decimals a b l m e = sym (decimal_is_IsNumeral a l).1 ∙ ap (digits_value 10) e ∙ (decimal_is_IsNumeral b m).1

module _ (w : World) (package_name : List ℕ) (once : DeclaresOnce w) where
  local_number : (i : ℕ) → count_by (is_local w) (take i w.rows.declared) < 2 ^ 64
  local_number i =
      let few : length w.rows.declared < 2 ^ 64 = once.few in
      omega (arith, count_by-le-length (is_local w) (take i w.rows.declared), length-take i w.rows.declared, few)

  local_once : (i j : ℕ) (d e : Declared) → slice_get w.rows.declared i ≡ Some d → slice_get w.rows.declared j ≡ Some e → is_local w d ≡ true → is_local w e ≡ true →
      count_by (is_local w) (take i w.rows.declared) ≡ count_by (is_local w) (take j w.rows.declared) → d.number ≡ e.number
  local_once i j d e at_d at_e is_d is_e same = elim (cases_lt i j) [
    | inl before ↦ absurd (let l = count_passed (is_local w) w.rows.declared i j d at_d is_d before in omega (arith, l, same))
    | inr not_before ↦ (elim (cases_lt j i) [
      | inl behind ↦ absurd (let l = count_passed (is_local w) w.rows.declared j i e at_e is_e behind in omega (arith, l, same))
      | inr not_behind ↦ (
          let is : i ≡ j = omega arith in
          let f : Some d ≡ Some e = sym at_d ∙ ap (slice_get w.rows.declared) is ∙ at_e in
          let g : d ≡ e = cc in
          ap (λ (x : Declared). x.number) g)
    ])
  ]

  symbol_once : (i j : ℕ) (d e : Declared) (s : SymbolModel) → slice_get w.rows.declared i ≡ Some d → slice_get w.rows.declared j ≡ Some e →
      SymbolBy w package_name i d s → SymbolBy w package_name j e s → d.number ≡ e.number
  symbol_once i j d e s at_d at_e (within is_d is) (within is_e is_too) =
      let f : Local (decimal (count_by (is_local w) (take i w.rows.declared))) ≡ Local (decimal (count_by (is_local w) (take j w.rows.declared))) = sym is ∙ is_too in
      let g : decimal (count_by (is_local w) (take i w.rows.declared)) ≡ decimal (count_by (is_local w) (take j w.rows.declared)) = cc in
      local_once i j d e at_d at_e is_d is_e (decimals _ _ (local_number i) (local_number j) g)
  symbol_once i j d e s at_d at_e (within is_d is) (outside {ds = ds} p is_too) =
      absurd (let f : Local (decimal (count_by (is_local w) (take i w.rows.declared))) ≡ global package_name ds = sym is ∙ is_too in cc)
  symbol_once i j d e s at_d at_e (outside {ds = ds} p is) (within is_e is_too) =
      absurd (let f : global package_name ds ≡ Local (decimal (count_by (is_local w) (take j w.rows.declared))) = sym is ∙ is_too in cc)
  symbol_once i j d e s at_d at_e (outside {ds = ds} p is) (outside {ds = es} q is_too) =
      let f : global package_name ds ≡ global package_name es = sym is ∙ is_too in
      let g : ds ≡ es = cc in
      own_path_once w once d.number e.number es (p ∙ ap Some g) q

  pub declaration_once : (k j : ℕ) (s : SymbolModel) → declared_symbol w package_name k ≡ Some s → declared_symbol w package_name j ≡ Some s → k ≡ j
  declaration_once k j s e f =
      let a : HasSymbol w package_name k s = has_symbol w package_name k s e in
      let b : HasSymbol w package_name j s = has_symbol w package_name j s f in
      sym a.number ∙ symbol_once a.at b.at a.row b.row s a.there b.there a.has b.has ∙ b.number

-- ---- two modules

module _ (w v : World) (package_name : List ℕ) (other : text w module_name_token ≡ text v module_name_token → ⊥) where
  apart : (i j : ℕ) (d e : Declared) (s : SymbolModel) → SymbolBy w package_name i d s → SymbolBy v package_name j e s → IsLocal s
  apart i j d e s (within is_d is) b = rw is tt
  apart i j d e s (outside p is) (within is_e is_too) = rw is_too tt
  apart i j d e s (outside {ds = ds} p is) (outside {ds = es} q is_too) =
      let f : global package_name ds ≡ global package_name es = sym is ∙ is_too in
      let g : ds ≡ es = cc in
      let a : Begins (text w module_name_token) (declared_steps w) ds = begins (text w module_name_token) (declared_steps w) (suc d.number) d.number ds p in
      let b : Begins (text v module_name_token) (declared_steps v) es = begins (text v module_name_token) (declared_steps v) (suc e.number) e.number es q in
      let h : descriptor Namespace (text w module_name_token) ∷ a.rest ≡ descriptor Namespace (text v module_name_token) ∷ b.rest = sym a.whole ∙ g ∙ b.whole in
      let i : descriptor Namespace (text w module_name_token) ≡ descriptor Namespace (text v module_name_token) = cc in
      absurd (other (ap (λ (x : DescriptorModel). x.name) i))

  pub only_local : (k j : ℕ) (s : SymbolModel) → declared_symbol w package_name k ≡ Some s → declared_symbol v package_name j ≡ Some s → IsLocal s
  only_local k j s e f =
      let a : HasSymbol w package_name k s = has_symbol w package_name k s e in
      let b : HasSymbol v package_name j s = has_symbol v package_name j s f in
      apart a.at b.at a.row b.row s a.has b.has
