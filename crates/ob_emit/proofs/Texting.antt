-- Symbol strings by index, one more at a time.
use Rattle.std.proofs.Common.{◌≡◌, ℕ, zero, suc, ◌+◌, ◌<◌, inl, inr, List, [], ◌∷◌, ◌++◌, length, get_or, map, take, Option, Some, None, refl, sym, ap, ◌∙◌, subst, arith}
use Rattle.std.specs.Prelude.{slice_get}
use Rattle.std.specs.Option.{option_map}
use Rattle.std.proofs.lemmas.Bool.{cases_lt}
use Rattle.std.proofs.lemmas.List.{length-append}
use Rattle.std.proofs.lemmas.Option.{slice_get_within, get_or_from_slice_get}
use Rattle.module_table.specs.declared.rows.Declared.{Declared}
use Rattle.ob_view.specs.World.{World}
use Rattle.ob_emit.specs.StoredTexts.{AreDeclaredTexts}
use Rattle.ob_emit.specs.Symbols.{symbol_at}
use Rattle.std.specs.Prelude.{◌==◌, count_by, position, Bool, true, false, String}
use Rattle.std.specs.Option.{option_and_then}
use Rattle.std.specs.String.{string_bytes}
use Rattle.std.proofs.lemmas.List.Quantifiers.{position-Some}
use Rattle.std.proofs.lemmas.List.Sums.{count_by_more_no, count_by_more_yes}
use Rattle.std.proofs.lemmas.Option.{slice_get-map}
use Rattle.std.proofs.Common.{append_assoc}
use Rattle.module_table.specs.Parts.{Rows}
use Rattle.module_table.specs.declared.rows.Import.{Import}
use Rattle.module_table.proofs.Elements.{slice_there, some_one}
use Rattle.ob_view.specs.World.{text}
use Rattle.ob_interface.specs.Interfaces.{ModuleInterface}
use Rattle.scip_symbol.specs.SymbolTexts.{canonical_descriptor_text, DescriptorModel}
use Rattle.scip_symbol.specs.declared.kind.DescriptorKind.TheVariants.{Term}
use Rattle.ob_emit.specs.StoredTexts.{prefix_text, named_symbol, path_text}
use Rattle.ob_emit.specs.Symbols.{declared_symbol, descriptor, global, imported_symbol, scheme, is_local, module_path, module_symbol, package_of, path, interface_path, interface_steps}
use Rattle.ob_emit.proofs.Paths.{text_more}
use Rattle.scip_symbol.specs.SymbolTexts.{Global, canonical_text}

pub get_front : {X : Type 0} (xs : List X) (y : X) (i : ℕ) → i < length xs → slice_get (xs ++ y ∷ []) i ≡ slice_get xs i
get_front [] y i l = absurd (omega (arith, l))
get_front (x ∷ xs) y zero l = refl
get_front (x ∷ xs) y (suc i) l = get_front xs y i (omega (arith, l))

pub get_last : {X : Type 0} (xs : List X) (y : X) → slice_get (xs ++ y ∷ []) (length xs) ≡ Some y
get_last [] y = refl
get_last (x ∷ xs) y = get_last xs y

pub made_none : (w : World) (p : List ℕ) → AreDeclaredTexts w p 0 []
made_none w p = record { as_many = refl; each = λ i d l e. absurd (omega arith) }

pub made_more : (w : World) (p : List ℕ) (n : ℕ) (made : List (Option (List ℕ))) (d : Declared) (t : Option (List ℕ)) → AreDeclaredTexts w p n made → slice_get w.rows.declared n ≡ Some d
    → t ≡ option_map canonical_text (symbol_at w p n d) → AreDeclaredTexts w p (n + 1) (made ++ t ∷ [])
made_more w p n made d t a there is = record {
  as_many = length-append made (t ∷ []) ∙ ap (λ (k : ℕ). k + 1) a.as_many;
  each = λ i e l at. elim (cases_lt i n) [
    | inl below ↦ get_front made t i (omega (arith, a.as_many, below)) ∙ a.each i e below at
    | inr above ↦ (
        let same : i ≡ n = omega (arith, above, l) in
        let one : d ≡ e = some_one d e (sym there ∙ (ap (slice_get w.rows.declared) (sym same) ∙ at)) in
        let here : slice_get (made ++ t ∷ []) n ≡ Some t = subst (λ (k : ℕ). slice_get (made ++ t ∷ []) k ≡ Some t) a.as_many (get_last made t) in
        subst (λ (k : ℕ). slice_get (made ++ t ∷ []) k ≡ Some (option_map canonical_text (symbol_at w p k e))) (sym same)
        (here ∙ ap Some (is ∙ ap (λ (x : Declared). option_map canonical_text (symbol_at w p n x)) one)))
  ];
}

-- the symbol strings of the first declarations, for any package prefix, with the number of local declarations among them
pub record AreMadeBefore (w : World) (prefix : List ℕ) (n locals : ℕ) (made : List (Option (List ℕ))) : Type 0 where
  pub counted : locals ≡ count_by (is_local w) (take n w.rows.declared)
  pub each : (p : List ℕ) → prefix ≡ prefix_text p → AreDeclaredTexts w p n made

pub before_none : (w : World) (prefix : List ℕ) → AreMadeBefore w prefix 0 0 []
before_none w prefix = record { counted = refl; each = λ p e. made_none w p }

module _ (w : World) (prefix : List ℕ) (n locals : ℕ) (made : List (Option (List ℕ))) (d : Declared) (t : Option (List ℕ)) (b : AreMadeBefore w prefix n locals made) (at : slice_get w.rows.declared n ≡ Some d)
    (is : (p : List ℕ) → prefix ≡ prefix_text p → t ≡ option_map canonical_text (symbol_at w p n d)) where
  within : n < length w.rows.declared
  within = slice_get_within w.rows.declared n d at

  local_is : (v : Bool) → is_local w d ≡ v → is_local w (get_or w.rows.declared n d) ≡ v
  local_is v e = ap (is_local w) (get_or_from_slice_get w.rows.declared n d d at) ∙ e

  -- the next declaration is local
  pub before_local : is_local w d ≡ true → AreMadeBefore w prefix (n + 1) (locals + 1) (made ++ t ∷ [])
  before_local e = record {
    counted = ap (λ (k : ℕ). k + 1) b.counted ∙ sym (count_by_more_yes (is_local w) w.rows.declared n d within (local_is true e));
    each = λ p f. made_more w p n made d t (b.each p f) at (is p f);
  }

  -- the next declaration isn't local
  pub before_other : is_local w d ≡ false → AreMadeBefore w prefix (n + 1) locals (made ++ t ∷ [])
  before_other e = record {
    counted = b.counted ∙ sym (count_by_more_no (is_local w) w.rows.declared n d within (local_is false e));
    each = λ p f. made_more w p n made d t (b.each p f) at (is p f);
  }

-- ---- the symbol string of what a token declares

place_within : (ds : List Declared) (k at : ℕ) → position (λ (d : Declared). d.number == k) ds ≡ Some at → at < length ds
place_within [] k at e = absurd (let none : None ≡ Some at = e in cc)
place_within (d ∷ ds) k at e = (position-Some (λ (x : Declared). x.number == k) (d ∷ ds) at d e).0

joined : {X : Type 0} (f : Option X → Option (List ℕ)) (o : Option (Option X)) (x : Option (List ℕ)) → option_map f o ≡ Some x → option_and_then f o ≡ x
joined f None x e = absurd (let none : None ≡ Some x = e in cc)
joined f (Some v) x e = some_one (f v) x e

pub declared_text : {Z : Type 0} (w : World) (p : List ℕ) (k at : ℕ) (ds : List Declared) (o : Option ℕ) (items : List (Option (String Z))) → AreDeclaredTexts w p (length w.rows.declared) (map (option_map string_bytes) items)
    → ds ≡ w.rows.declared → o ≡ position (λ (d : Declared). d.number == k) ds → o ≡ Some at
    → option_and_then (option_map string_bytes) (slice_get items at) ≡ option_map canonical_text (declared_symbol w p k)
declared_text w p k at ds o items made same h is =
    let e : position (λ (d : Declared). d.number == k) w.rows.declared ≡ Some at = ap (position (λ (d : Declared). d.number == k)) (sym same) ∙ (sym h ∙ is) in
    let l : at < length w.rows.declared = place_within w.rows.declared k at e in
    let d = slice_there w.rows.declared at l in
    let there : option_map (option_map string_bytes) (slice_get items at) ≡ Some (option_map canonical_text (symbol_at w p at d.0)) = sym (slice_get-map (option_map string_bytes) items at) ∙ made.each at d.0 l d.1 in
    let text_is : option_and_then (option_map string_bytes) (slice_get items at) ≡ option_map canonical_text (symbol_at w p at d.0) = joined (option_map string_bytes) (slice_get items at) _ there in
    text_is ∙ ap (option_map canonical_text) (sym (
    ap (λ (q : Option ℕ). option_and_then (λ (i : ℕ). option_and_then (symbol_at w p i) (slice_get w.rows.declared i)) q) e ∙ ap (λ (q : Option Declared). option_and_then (symbol_at w p at) q) d.1))

pub no_text : (w : World) (p : List ℕ) (k : ℕ) (ds : List Declared) (o : Option ℕ) → ds ≡ w.rows.declared → o ≡ position (λ (d : Declared). d.number == k) ds → o ≡ None → option_map canonical_text (declared_symbol w p k) ≡ None
no_text w p k ds o same h is =
    let e : position (λ (d : Declared). d.number == k) w.rows.declared ≡ None = ap (position (λ (d : Declared). d.number == k)) (sym same) ∙ (sym h ∙ is) in
    rw e refl

pub declared_nothing : (w : World) (p : List ℕ) (k : ℕ) (rows : Rows) (o : Option ℕ) → rows ≡ w.rows → o ≡ position (λ (d : Declared). d.number == k) rows.declared → o ≡ None
    → None ≡ option_map canonical_text (declared_symbol w p k)
declared_nothing w p k rows o same h is =
    let e : position (λ (d : Declared). d.number == k) w.rows.declared ≡ None = ap (λ (r : Rows). position (λ (d : Declared). d.number == k) r.declared) (sym same) ∙ (sym h ∙ is) in
    sym (ap (λ (q : Option ℕ). option_map canonical_text (option_and_then (λ (i : ℕ). option_and_then (symbol_at w p i) (slice_get w.rows.declared i)) q)) e)

-- ---- the symbol strings of modules and of their names

pub module_text_is : (w : World) (p : List ℕ) (item : ℕ) (i : Import) (prefix out : List ℕ) → slice_get w.rows.imports item ≡ Some i → prefix ≡ prefix_text (package_of w p item)
    → out ≡ prefix ++ path_text (module_path (text w i.imported)) → Some out ≡ option_map canonical_text (module_symbol w p item)
module_text_is w p item i prefix out e f is =
    ap Some (is ∙ ap (λ (x : List ℕ). x ++ path_text (module_path (text w i.imported))) f)
    ∙ sym (ap (λ (o : Option Import). option_map canonical_text (option_map (λ (j : Import). Global scheme [] (package_of w p item) [] (module_path (text w j.imported))) o)) e)

pub external_text_is : (w : World) (item : ℕ) (name : List ℕ) (i : Import) (prefix mid out : List ℕ) → slice_get w.rows.imports item ≡ Some i → prefix ≡ prefix_text []
    → mid ≡ prefix ++ path_text (module_path (text w i.imported)) → out ≡ mid ++ canonical_descriptor_text (descriptor Term name) → Some out ≡ option_map canonical_text (named_symbol w item name)
external_text_is w item name i prefix mid out e f is more =
    let m = module_path (text w i.imported) in
    let d = descriptor Term name in
    let whole : out ≡ prefix_text [] ++ path_text (m ++ d ∷ []) =
    more ∙ (ap (λ (x : List ℕ). x ++ canonical_descriptor_text d) (is ∙ ap (λ (x : List ℕ). x ++ path_text m) f)
    ∙ (append_assoc (prefix_text []) (path_text m) (canonical_descriptor_text d) ∙ ap (λ (x : List ℕ). prefix_text [] ++ x) (sym (text_more m d)))) in
    ap Some whole
    ∙ sym (ap (λ (o : Option Import). option_map canonical_text (option_map (λ (j : Import). Global scheme [] [] [] (module_path (text w j.imported) ++ d ∷ [])) o)) e)

-- ---- the symbol strings of what other modules declare

told : (p : List ℕ) (o : Option (List DescriptorModel)) → option_map (λ (ds : List DescriptorModel). prefix_text p ++ path_text ds) o ≡ option_map canonical_text (option_map (global p) o)
told p None = refl
told p (Some ds) = refl

abbrev symbol_there : List ℕ → ℕ → Option ModuleInterface → Option (List ℕ)
symbol_there p d o = option_map canonical_text (option_and_then (λ (m : ModuleInterface). option_map (global p) (interface_path m d)) o)

pub imported_none : (w : World) (p : List ℕ) (i d : ℕ) → slice_get w.reached i ≡ None → None ≡ option_map canonical_text (imported_symbol w p i d)
imported_none w p i d e = sym (ap (symbol_there p d) e)

pub imported_text_is : (w : World) (p : List ℕ) (i d : ℕ) (m : ModuleInterface) (name prefix : List ℕ) → slice_get w.reached i ≡ Some m → name ≡ m.name → prefix ≡ prefix_text p
    → option_map (λ (ds : List DescriptorModel). prefix ++ path_text ds) (path name (interface_steps m) d) ≡ option_map canonical_text (imported_symbol w p i d)
imported_text_is w p i d m name prefix e n f =
    ap (λ (x : List ℕ). option_map (λ (ds : List DescriptorModel). prefix ++ path_text ds) (path x (interface_steps m) d)) n
    ∙ (ap (λ (x : List ℕ). option_map (λ (ds : List DescriptorModel). x ++ path_text ds) (interface_path m d)) f
    ∙ (told p (interface_path m d) ∙ sym (ap (symbol_there p d) e)))
