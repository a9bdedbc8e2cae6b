-- The symbols of valid names have symbol strings, and these distinguish declarations.
use Rattle.std.proofs.Common.{◌≡◌, ◌≢◌, ℕ, zero, suc, ◌<◌, ◌^◌, ◌+◌, List, [], ◌∷◌, ◌++◌, codes, length, take, true, false, Option, Some, None, refl, sym, ap, ◌∙◌, subst, arith, length-take}
use Rattle.std.specs.Prelude.{slice_get, count_by, slice_index}
use Rattle.std.specs.List.{flat_map}
use Rattle.std.specs.Fmt.{decimal}
use Rattle.std.specs.Char.{digit_value}
use Rattle.std.specs.Option.{option_map, option_and_then}
use Rattle.std.specs.Str.Parse.{AllDigits}
use Rattle.std.proofs.lemmas.Bool.{eqb-false, or_parts}
use Rattle.std.proofs.lemmas.Fmt.{decimal_is_IsNumeral}
use Rattle.std.proofs.lemmas.List.Sums.{count_by-le-length}
use Rattle.module_table.specs.declared.rows.Declared.{Declared}
use Rattle.module_table.specs.declared.rows.Import.{Import}
use Rattle.module_table.specs.Tables.{module_name_token}
use Rattle.ob_interface.specs.Interfaces.{ModuleInterface}
use Rattle.module_table.proofs.Elements.{some_one}
use Rattle.ob_view.specs.declared.target.Target.{Target}
use Rattle.ob_view.specs.declared.target.Target.TheVariants as targets
use Rattle.ob_view.specs.World.{World, module_of_item, text}
use Rattle.scip_symbol.specs.declared.kind.DescriptorKind.TheVariants.{Namespace, Term}
use Rattle.scip_symbol.specs.Outcomes.{begins_with_space, is_stop, is_wrong_part}
use Rattle.scip_symbol.specs.SymbolTexts.{BeginsLocal, DescriptorText, DescriptorTexts, IsOptionalPart, DescriptorModel, SymbolModel, Local, SymbolText, are_simple, is_simple, canonical_descriptor_text, canonical_name, canonical_text}
use Rattle.scip_symbol.proofs.PlainTexts.{texts_apart}
use Rattle.scip_symbol.proofs.WriteLaws.{plain_name_text}
use Rattle.ob_emit.specs.DistinctSymbols.{DeclaresOnce, IsLocal}
use Rattle.ob_emit.specs.Named.{NamesAreIdentifiers, HasNames, IsName}
use Rattle.ob_emit.specs.Symbols.{PathStep, declared_symbol, descriptor, global, is_local, module_path, declared_steps, package_of, interface_path, path_within, scheme, interface_steps, symbol_of}
use Rattle.ob_emit.proofs.Naming.{AreOfStepNames, IsOfName, import_named, own_named, own_steps_named, reached_named, steps_named}
use Rattle.ob_emit.proofs.OnePath.{above, begins, has_step, no_path, Begins, HasStep}
use Rattle.ob_emit.proofs.OneSymbol.{SymbolBy, within, outside, HasSymbol, has_symbol, declaration_once, only_local}

-- ---- descriptors of names

some_name : (name : List ℕ) → IsName name → name ≢ []
some_name [] e = absurd cc
some_name (b ∷ name) e = λ s. absurd cc

descriptor_text : (d : DescriptorModel) → IsOfName d → DescriptorText d (canonical_descriptor_text d)
descriptor_text d of = record {
  name = canonical_name d.name;
  name_is = plain_name_text d.name (some_name d.name of.name);
  of_method = λ other. of.plain;
  simple = ap are_simple of.plain;
  whole = refl;
}

pub ReferencesAreIdentifiers : List DescriptorModel → Type 0
ReferencesAreIdentifiers [] = Unit {0}
ReferencesAreIdentifiers (d ∷ ds) = IsOfName d × ReferencesAreIdentifiers ds

descriptor_texts : (ds : List DescriptorModel) → ReferencesAreIdentifiers ds → DescriptorTexts ds (flat_map canonical_descriptor_text ds)
unfolding ReferencesAreIdentifiers
descriptor_texts [] are = refl
descriptor_texts (d ∷ ds) are = (canonical_descriptor_text d, flat_map canonical_descriptor_text ds, descriptor_text d are.0, descriptor_texts ds are.1, refl)

one_more : (ds : List DescriptorModel) (d : DescriptorModel) → ReferencesAreIdentifiers ds → IsOfName d → ReferencesAreIdentifiers (ds ++ d ∷ [])
unfolding ReferencesAreIdentifiers
one_more [] d are is = (is, tt)
one_more (x ∷ ds) d are is = (are.0, one_more ds d are.1 is)

named : (name : List ℕ) → IsName name → IsOfName (descriptor Namespace name)
named name is = record { name = is; plain = refl }

pub module_named : (name : List ℕ) → IsName name → ReferencesAreIdentifiers (module_path name)
unfolding ReferencesAreIdentifiers
module_named name is = (named name is, tt)

pub external_named : (module_name name : List ℕ) → IsName module_name → IsName name → ReferencesAreIdentifiers (module_path module_name ++ descriptor Term name ∷ [])
external_named module_name name is named_too = one_more (module_path module_name) (descriptor Term name) (module_named module_name is) (record { name = named_too; plain = refl })

-- ---- paths of names

module _ (m : List ℕ) (steps : ℕ → Option PathStep) (m_named : IsName m) (steps_are : AreOfStepNames steps) where
  front_named : (n : ℕ) (owner : Option ℕ) (prefix : List DescriptorModel) → ((k : ℕ) (ds : List DescriptorModel) → path_within m steps n k ≡ Some ds → ReferencesAreIdentifiers ds) → above m steps n owner ≡ Some prefix → ReferencesAreIdentifiers prefix
  front_named n None prefix rest e = subst ReferencesAreIdentifiers (some_one (module_path m) prefix e) (module_named m m_named)
  front_named n (Some o) prefix rest e = rest o prefix e

  path_named : (n k : ℕ) (ds : List DescriptorModel) → path_within m steps n k ≡ Some ds → ReferencesAreIdentifiers ds
  path_named zero k ds e = absurd (no_path m steps k ds e)
  path_named (suc n) k ds e =
      let h : HasStep m steps n k ds = has_step m steps n k ds e in
      subst ReferencesAreIdentifiers (sym h.whole) (one_more h.prefix h.step.own (front_named n h.step.owner h.prefix (λ j xs f. path_named n j xs f) h.up) (steps_are k h.step h.there))

  path_some : (n k : ℕ) (ds : List DescriptorModel) → path_within m steps n k ≡ Some ds → ds ≢ []
  path_some n k ds e none = let b : Begins m steps ds = begins m steps n k ds e in let f : descriptor Namespace m ∷ b.rest ≡ [] = sym b.whole ∙ none in absurd cc

-- ---- symbols

not_local : BeginsLocal scheme → ⊥
not_local h = absurd (let e : ◌≡◌ {A = ℕ} 115 108 = ap (λ (xs : List ℕ). slice_index xs 0) h.1 in omega arith)

optional : (part : List ℕ) → is_wrong_part part ≡ false → IsOptionalPart part
optional [] e = record { next = tt; no_stop = λ s. absurd cc }
optional (b ∷ part) e =
    let right = or_parts (begins_with_space (b ∷ part)) (is_stop (b ∷ part)) e in
    record { next = eqb-false b 32 right.0; no_stop = λ s. stop (b ∷ part) right.1 s }
  where
    stop : (xs : List ℕ) → is_stop xs ≡ false → xs ≡ codes "." → ⊥
    stop xs e s = let k : is_stop (codes ".") ≡ false = subst (λ (x : List ℕ). is_stop x ≡ false) s e in absurd cc

pub global_text : (p : List ℕ) (ds : List DescriptorModel) → is_wrong_part p ≡ false → ds ≢ [] → ReferencesAreIdentifiers ds → SymbolText (global p ds) (canonical_text (global p ds))
global_text p ds right some are = record {
  scheme_is = eqb-false 115 32 refl;
  not_local = not_local;
  manager_is = optional [] refl;
  package_is = optional p right;
  version_is = optional [] refl;
  some = some;
  rest = flat_map canonical_descriptor_text ds;
  rest_is = descriptor_texts ds are;
  whole = refl;
}

digit_simple : (c : ℕ) → digit_value c < 10 → is_simple c ≡ true
digit_simple c l = grind arith

digits_simple : (ds : List ℕ) → AllDigits 10 ds → are_simple ds ≡ true
digits_simple [] h = refl
digits_simple (c ∷ ds) h = rw (digit_simple c h.0) (digits_simple ds h.1)

local_symbol_text : (n : ℕ) → n < 2 ^ 64 → SymbolText (Local (decimal n)) (canonical_text (Local (decimal n)))
local_symbol_text n l =
    let numeral = (decimal_is_IsNumeral n l).0 in
    (record { some = λ none. absurd (let size : length (decimal n) ≡ 0 = ap length none in omega (arith, size, numeral.0)); simple = digits_simple (decimal n) numeral.1 }, refl)

abbrev HasText : SymbolModel → Type 0
HasText s = SymbolText s (canonical_text s)

module _ (w : World) (p : List ℕ) (names : NamesAreIdentifiers w) (right : is_wrong_part p ≡ false) (few : length w.rows.declared < 2 ^ 64) where
  by_symbol : (i : ℕ) (d : Declared) (s : SymbolModel) → SymbolBy w p i d s → HasText s
  by_symbol i d s (within is_d is) =
      let count = count_by-le-length (is_local w) (take i w.rows.declared) in
      subst HasText (sym is) (local_symbol_text (count_by (is_local w) (take i w.rows.declared)) (omega (arith, count, length-take i w.rows.declared, few)))
  by_symbol i d s (outside {ds = ds} path is) =
      let m = text w module_name_token in
      subst HasText (sym is)
      (global_text p ds right (path_some m (declared_steps w) (own_named w names) (own_steps_named w names) (suc d.number) d.number ds path)
      (path_named m (declared_steps w) (own_named w names) (own_steps_named w names) (suc d.number) d.number ds path))

  pub declared_text : (k : ℕ) (s : SymbolModel) → declared_symbol w p k ≡ Some s → HasText s
  declared_text k s e = let h : HasSymbol w p k s = has_symbol w p k s e in by_symbol h.at h.row s h.has

  by_path : (m : ModuleInterface) (d : ℕ) (o : Option (List DescriptorModel)) (s : SymbolModel) → HasNames m → interface_path m d ≡ o → option_map (global p) o ≡ Some s → HasText s
  by_path m d None s has is e = absurd (let none : None ≡ Some s = e in cc)
  by_path m d (Some ds) s has is e =
      subst HasText (some_one (global p ds) s e)
      (global_text p ds right (path_some m.name (interface_steps m) has.own (steps_named m has) (suc d) d ds is) (path_named m.name (interface_steps m) has.own (steps_named m has) (suc d) d ds is))

  by_module : (i d : ℕ) (o : Option ModuleInterface) (s : SymbolModel) → slice_get w.reached i ≡ o → option_and_then (λ (m : ModuleInterface). option_map (global p) (interface_path m d)) o ≡ Some s → HasText s
  by_module i d None s is e = absurd (let none : None ≡ Some s = e in cc)
  by_module i d (Some m) s is e = by_path m d (interface_path m d) s (reached_named w names i m is) refl e

  by_name : (item name : ℕ) (o : Option Import) (s : SymbolModel) → IsName (text w name) → slice_get w.rows.imports item ≡ o
      → option_map (λ (i : Import). global [] (module_path (text w i.imported) ++ descriptor Term (text w name) ∷ [])) o ≡ Some s → HasText s
  by_name item name None s named_too is e = absurd (let none : None ≡ Some s = e in cc)
  by_name item name (Some i) s named_too is e =
      subst HasText (some_one _ s e)
      (global_text [] (module_path (text w i.imported) ++ descriptor Term (text w name) ∷ []) refl (λ none. absurd cc) (external_named (text w i.imported) (text w name) (import_named w names i item is) named_too))

  right_package : (item : ℕ) (o : Option ℕ) → module_of_item w item ≡ o → is_wrong_part (package_of w p item) ≡ false
  right_package item None is = rw is refl
  right_package item (Some module_number) is = rw is right

  by_item : (item : ℕ) (o : Option Import) (s : SymbolModel) → slice_get w.rows.imports item ≡ o
      → option_map (λ (i : Import). global (package_of w p item) (module_path (text w i.imported))) o ≡ Some s → HasText s
  by_item item None s is e = absurd (let none : None ≡ Some s = e in cc)
  by_item item (Some i) s is e =
      subst HasText (some_one _ s e)
      (global_text (package_of w p item) (module_path (text w i.imported)) (right_package item (module_of_item w item) refl) (λ none. absurd cc) (module_named (text w i.imported) (import_named w names i item is)))

  pub target_text : (t : Target) (s : SymbolModel) → ((item name : ℕ) → t ≡ targets.External item name → IsName (text w name)) → symbol_of w p t ≡ Some s → HasText s
  target_text (targets.Declared k) s external e = declared_text k s e
  target_text (targets.Imported i d) s external e = by_module i d (slice_get w.reached i) s refl e
  target_text (targets.External item name) s external e = by_name item name (slice_get w.rows.imports item) s (external item name refl) refl e
  target_text targets.Own s external e =
      subst HasText (some_one _ s e) (global_text p (module_path (text w module_name_token)) right (λ none. absurd cc) (module_named (text w module_name_token) (own_named w names)))
  target_text (targets.«Module» item) s external e = by_item item (slice_get w.rows.imports item) s refl e
  target_text targets.Predeclared s external e = absurd (let none : None ≡ Some s = e in cc)
  target_text targets.Unresolved s external e = absurd (let none : None ≡ Some s = e in cc)

---- declarations with one symbol string

pub one_text : (w : World) (p : List ℕ) (k j : ℕ) (s t : SymbolModel) → DeclaresOnce w → NamesAreIdentifiers w → is_wrong_part p ≡ false → declared_symbol w p k ≡ Some s → declared_symbol w p j ≡ Some t
    → canonical_text s ≡ canonical_text t → k ≡ j
one_text w p k j s t once names right e f same =
    let is : s ≡ t = texts_apart s t (declared_text w p names right once.few k s e) (declared_text w p names right once.few j t f) same in
    declaration_once w p once k j s e (f ∙ ap Some (sym is))

pub local_texts : (w v : World) (p : List ℕ) (k j : ℕ) (s t : SymbolModel) → (text w module_name_token ≡ text v module_name_token → ⊥) → NamesAreIdentifiers w → NamesAreIdentifiers v → length w.rows.declared < 2 ^ 64 → length v.rows.declared < 2 ^ 64
    → is_wrong_part p ≡ false → declared_symbol w p k ≡ Some s → declared_symbol v p j ≡ Some t → canonical_text s ≡ canonical_text t → IsLocal s × IsLocal t
local_texts w v p k j s t other names there few many right e f same =
    let is : s ≡ t = texts_apart s t (declared_text w p names right few k s e) (declared_text v p there right many j t f) same in
    let both : IsLocal s = only_local w v p other k j s e (f ∙ ap Some (sym is)) in
    (both, subst IsLocal is both)
