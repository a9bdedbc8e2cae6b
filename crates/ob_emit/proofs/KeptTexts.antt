-- Stored symbol strings by target, one more.
use Rattle.std.proofs.Common.{◌≡◌, ◌<◌, ◌++◌, ◌∷◌, [], ℕ, List, length, Bool, true, false, cond, Option, None, Some, String, Global, inl, inr, refl, sym, ap, subst, ◌∙◌, eqb-true, arith}
use Rattle.std.specs.Prelude.{nat_eq, slice_get, ◌&&◌}
use Rattle.std.proofs.lemmas.Bool.{cases_lt}
use Rattle.std.proofs.lemmas.List.{length-append}
use Rattle.std.proofs.lemmas.Option.{slice_get_within}
use Rattle.ob_emit.proofs.Texting.{get_front, get_last}
use Rattle.std.specs.Option.{option_map}
use Rattle.std.specs.String.{string_bytes}
use Rattle.std.specs.Str.{bytes_eq}
use Rattle.std.proofs.lemmas.Slice.Eq.{bytes_eq-Decides}
use Rattle.indexmap.specs.IndexMap.{get, IndexMap}
use Rattle.ob_view.specs.World.{World}
use Rattle.ob_emit.specs.declared.imported_cache.ImportedText.{ImportedText}
use Rattle.scip_symbol.specs.SymbolTexts.{canonical_text}
use Rattle.ob_emit.specs.StoredTexts.{is_same_name_key, named_symbol, AreExternalTexts, AreImportedTexts, AreTextsByKey, AreModuleTexts, NameKey}
use Rattle.ob_emit.specs.Symbols.{imported_symbol, module_symbol}

module _ {K S : Type 0} (same : K → K → Bool) (text_of : K → Option (List ℕ)) (one : (a b : K) → same a b ≡ true → text_of a ≡ text_of b) (old new : IndexMap K (Option (String Global)) S) (k : K) (v : Option (String Global)) where
  kept_more : AreTextsByKey same text_of old → ((q : K) → get same new q ≡ cond (same k q) (Some v) (get same old q)) → option_map string_bytes v ≡ text_of k → AreTextsByKey same text_of new
  kept_more before more is q text e = at (same k q) refl (sym (more q) ∙ e)
    where
      at : (b : Bool) → same k q ≡ b → cond b (Some v) (get same old q) ≡ Some text → option_map string_bytes text ≡ text_of q
      at false s h = before q text h
      at true s h =
          let f : Some v ≡ Some text = h in
          let t : v ≡ text = cc in
          ap (option_map string_bytes) (sym t) ∙ is ∙ one k q s

-- equal keys have one symbol string
both_true : (a b : Bool) → a && b ≡ true → (a ≡ true) × (b ≡ true)
both_true true true e = (refl, refl)
both_true true false e = absurd cc
both_true false b e = absurd cc

-- one more symbol string of a declaration of another module
module _ (w : World) (p : List ℕ) (texts : List ImportedText) where
  pub imported_none : texts ≡ [] → AreImportedTexts w p texts
  imported_none is slot row at = absurd (let e : None ≡ Some row = sym (ap (λ (rows : List ImportedText). slice_get rows slot) is) ∙ at in cc)

  pub imported_more : (one : ImportedText) → AreImportedTexts w p texts → option_map string_bytes one.text ≡ option_map canonical_text (imported_symbol w p one.reached one.declaration) → AreImportedTexts w p (texts ++ one ∷ [])
  imported_more one are is slot row at = elim (cases_lt slot (length texts)) [
    | inl below ↦ are slot row (sym (get_front texts one slot below) ∙ at)
    | inr above ↦ (
        let within : slot < length (texts ++ one ∷ []) = slice_get_within (texts ++ one ∷ []) slot row at in
        let last : slot ≡ length texts = omega (arith, length-append texts (one ∷ []), above, within) in
        let there : Some one ≡ Some row = sym (get_last texts one) ∙ (ap (slice_get (texts ++ one ∷ [])) (sym last) ∙ at) in
        let same : one ≡ row = cc in
        subst (λ (r : ImportedText). option_map string_bytes r.text ≡ option_map canonical_text (imported_symbol w p r.reached r.declaration)) same is)
  ]

-- one more symbol string of a module
pub modules_none : (w : World) (p : List ℕ) → AreModuleTexts w p []
modules_none w p item text at = absurd (let e : None ≡ Some text = at in cc)

pub modules_more : (w : World) (p : List ℕ) (texts : List (Option (String Global))) (v : Option (String Global)) → AreModuleTexts w p texts → option_map string_bytes v ≡ option_map canonical_text (module_symbol w p (length texts))
    → AreModuleTexts w p (texts ++ v ∷ [])
modules_more w p texts v are is item text at = elim (cases_lt item (length texts)) [
  | inl below ↦ are item text (sym (get_front texts v item below) ∙ at)
  | inr above ↦ (
      let within : item < length (texts ++ v ∷ []) = slice_get_within (texts ++ v ∷ []) item text at in
      let last : item ≡ length texts = omega (arith, length-append texts (v ∷ []), above, within) in
      let there : Some v ≡ Some text = sym (get_last texts v) ∙ (ap (slice_get (texts ++ v ∷ [])) (sym last) ∙ at) in
      let same : v ≡ text = cc in
      ap (option_map string_bytes) (sym same) ∙ is ∙ ap (λ (n : ℕ). option_map canonical_text (module_symbol w p n)) (sym last))
]

module _ {S : Type 0} (w : World) (old new : IndexMap NameKey (Option (String Global)) S) (key : NameKey) (v : Option (String Global)) where
  one_name : (a b : NameKey) → is_same_name_key a b ≡ true → option_map canonical_text (named_symbol w a.0 a.1.now) ≡ option_map canonical_text (named_symbol w b.0 b.1.now)
  one_name a b e =
      let both = both_true (nat_eq a.0 b.0) (bytes_eq a.1.now b.1.now) e in
      ap (λ (n : ℕ). option_map canonical_text (named_symbol w n a.1.now)) (eqb-true a.0 b.0 both.0)
      ∙ ap (λ (name : List ℕ). option_map canonical_text (named_symbol w b.0 name)) ((bytes_eq-Decides a.1.now b.1.now).0 both.1)

  pub names_more : AreExternalTexts w old → ((q : NameKey) → get is_same_name_key new q ≡ cond (is_same_name_key key q) (Some v) (get is_same_name_key old q)) → option_map string_bytes v ≡ option_map canonical_text (named_symbol w key.0 key.1.now)
      → AreExternalTexts w new
  names_more = kept_more is_same_name_key (λ (k : NameKey). option_map canonical_text (named_symbol w k.0 k.1.now)) one_name old new key v
