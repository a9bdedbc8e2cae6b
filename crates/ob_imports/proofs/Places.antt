-- Indices of names in lists.
use Rattle.std.proofs.Common.{◌≡◌, ℕ, zero, suc, ◌+◌, ◌<◌, true, false, not, List, [], ◌∷◌, ◌++◌, length, get_or, take, drop, Some, refl, sym, ap, ◌∙◌, arith, inl, inr, subst}
use Rattle.std.specs.Prelude.{Contains, String, slice_get}
use Rattle.std.specs.List.{IsDistinct, position}
use Rattle.std.specs.Cmp.Lexicographic.{nat_list_eq_equiv}
use Rattle.std.specs.Str.{bytes_eq}
use Rattle.std.specs.String.{string_bytes, string_eq}
use Rattle.std.proofs.lemmas.Bool.{cases_Bool, false≢true, false_from_ne_true, lt-ltb}
use Rattle.std.proofs.lemmas.List.{append_assoc, get_or_append_left, map-append, map_push, take-append-drop}
use Rattle.std.proofs.lemmas.List.Elements.{filter-append}
use Rattle.std.proofs.lemmas.List.Sums.{passes_at_first, position_or_len_is}
use Rattle.std.proofs.lemmas.Map.Keys.{apart_from_distinct}
use Rattle.std.proofs.lemmas.Map.Views.{Contains-from_any, list_any-from_Contains}
use Rattle.std.proofs.lemmas.Option.{get_or_from_slice_get, slice_get_within, slice_get-get_or}
use Rattle.std.proofs.lemmas.Slice.Eq.{bytes_eq-Decides}
use Rattle.std.proofs.Math.Seq.{get_or-append_seam, take-suc}
use Rattle.indexmap.specs.IndexSet.{insert_key}
use Rattle.digraph.proofs.Names.{any_text, position-map}
use Rattle.ob_imports.specs.Names.{index_in, texts}
use Rattle.ob_imports.specs.Numbering.{has_name, lacked, index_or_len}

-- ---- lists with the name

pub has_from : (names : List (List ℕ)) (name : List ℕ) → Contains names name → has_name names name ≡ true
has_from names name h = list_any-from_Contains nat_list_eq_equiv name names h

pub from_has : (names : List (List ℕ)) (name : List ℕ) → has_name names name ≡ true → Contains names name
from_has names name t = Contains-from_any (λ x y. (bytes_eq-Decides x y).0) name names t

pub not_has : (names : List (List ℕ)) (name : List ℕ) → (Contains names name → ⊥) → has_name names name ≡ false
not_has names name lacks = false_from_ne_true (has_name names name) (λ t. lacks (from_has names name t))

pub has_not : (names : List (List ℕ)) (name : List ℕ) → has_name names name ≡ false → Contains names name → ⊥
has_not names name f h = false≢true (sym f ∙ has_from names name h)

-- a name that occurs after an index isn't among the names before it
pub new_name : (xs : List (List ℕ)) (name : List ℕ) (rest : List (List ℕ)) → IsDistinct bytes_eq (xs ++ name ∷ rest) → has_name xs name ≡ false
new_name xs name rest once = not_has xs name (λ (k, within, is). (
    let all : List (List ℕ) = xs ++ name ∷ rest in
    let long : length xs < length all = (let e = Rattle.std.proofs.Common.length-append xs (name ∷ rest) in omega arith) in
    let left : get_or all k name ≡ name = get_or_append_left xs (name ∷ rest) name k within ∙ is in
    let right : get_or all (length xs) name ≡ name = get_or-append_seam xs name rest name in
    let apart : bytes_eq (get_or all k name) (get_or all (length xs) name) ≡ false = apart_from_distinct bytes_eq all k (length xs) name once within long in
    false≢true (sym apart ∙ (bytes_eq-Decides (get_or all k name) (get_or all (length xs) name)).1 (left ∙ sym right))))

module _ {Z : Type 0} where
  -- a new name is appended at the end
  pub put_new : (keys : List (String Z)) (value : String Z) → has_name (texts keys) (string_bytes value) ≡ false → texts (insert_key string_eq keys value) ≡ texts keys ++ string_bytes value ∷ []
  put_new keys value new = rw (any_text (string_bytes value) keys, new) (map_push string_bytes keys value)

  texts_more : (names : List (String Z)) (k : ℕ) (d : String Z) → k < length names → d ≡ get_or names k d → texts (take (k + 1) names) ≡ texts (take k names) ++ string_bytes d ∷ []
  texts_more names k d l is =
      let more : take (k + 1) names ≡ take k names ++ d ∷ [] = ap (λ (n : ℕ). take n names) (let e : k + 1 ≡ suc k = omega arith in e) ∙ take-suc names k d l ∙ ap (λ (x : String Z). take k names ++ x ∷ []) (sym is) in
      ap texts more ∙ map-append string_bytes (take k names) (d ∷ [])

  texts_split : (names : List (String Z)) (k : ℕ) (d : String Z) → k < length names → d ≡ get_or names k d → texts names ≡ texts (take k names) ++ string_bytes d ∷ texts (drop (k + 1) names)
  texts_split names k d l is =
      ap texts (sym (take-append-drop (k + 1) names)) ∙ map-append string_bytes (take (k + 1) names) (drop (k + 1) names)
      ∙ ap (λ (t : List (List ℕ)). t ++ texts (drop (k + 1) names)) (texts_more names k d l is) ∙ append_assoc (texts (take k names)) (string_bytes d ∷ []) (texts (drop (k + 1) names))

  -- the names up to an index are appended to the others
  pub put_more : (before : List (List ℕ)) (keys names : List (String Z)) (k : ℕ) (d value : String Z) → IsDistinct bytes_eq (before ++ texts names) → texts keys ≡ before ++ texts (take k names)
      → k < length names → d ≡ get_or names k d → string_bytes value ≡ string_bytes d → texts (insert_key string_eq keys value) ≡ before ++ texts (take (k + 1) names)
  put_more before keys names k d value once are l is same =
      let all : before ++ texts names ≡ (before ++ texts (take k names)) ++ string_bytes d ∷ texts (drop (k + 1) names) =
      ap (λ (t : List (List ℕ)). before ++ t) (texts_split names k d l is) ∙ sym (append_assoc before (texts (take k names)) (string_bytes d ∷ texts (drop (k + 1) names))) in
      let new : has_name (before ++ texts (take k names)) (string_bytes d) ≡ false = new_name (before ++ texts (take k names)) (string_bytes d) (texts (drop (k + 1) names)) (subst (IsDistinct bytes_eq) all once) in
      put_new keys value (rw (are, same) new)
      ∙ rw (are, same, texts_more names k d l is) (append_assoc before (texts (take k names)) (string_bytes d ∷ []))

  -- one more name, which may be missing from the table
  pub lacked_more : (keys : List (List ℕ)) (names : List (String Z)) (k : ℕ) (d : String Z) → k < length names → d ≡ get_or names k d
      → lacked keys (texts (take (k + 1) names)) ≡ lacked keys (texts (take k names)) ++ lacked keys (string_bytes d ∷ [])
  lacked_more keys names k d l is = ap (lacked keys) (texts_more names k d l is) ∙ filter-append (λ n. not (has_name keys n)) (texts (take k names)) (string_bytes d ∷ [])

  pub position_texts : (name : List ℕ) (keys : List (String Z)) → position (λ x. bytes_eq name (string_bytes x)) keys ≡ index_in (texts keys) name
  position_texts name keys = sym (position-map (bytes_eq name) string_bytes keys)

-- ---- the index of a name

place_below : (names : List (List ℕ)) (name : List ℕ) (k : ℕ) → k < length names → get_or names k name ≡ name → index_or_len names name < length names
place_below [] name k l is = absurd (omega arith)
place_below (x ∷ xs) name zero l is = rw ((bytes_eq-Decides name x).1 (sym is)) (omega arith)
place_below (x ∷ xs) name (suc k) l is = elim (cases_Bool (bytes_eq name x)) [
  | inl t ↦ rw t (omega arith)
  | inr f ↦ let later : index_or_len xs name < length xs = place_below xs name k (omega arith) is in rw f (omega arith)
]

pub place_within : (names : List (List ℕ)) (name : List ℕ) → Contains names name → index_or_len names name < length names
place_within names name (k, l, is) = place_below names name k l is

pub place_found : (names : List (List ℕ)) (name : List ℕ) → Contains names name → index_in names name ≡ Some (index_or_len names name)
place_found names name h = rw (lt-ltb (index_or_len names name) (length names) (place_within names name h)) refl

pub name_at : (names : List (List ℕ)) (name : List ℕ) → Contains names name → slice_get names (index_or_len names name) ≡ Some name
name_at names name h =
    let lt : index_or_len names name < length names = place_within names name h in
    let same : name ≡ get_or names (index_or_len names name) name = (bytes_eq-Decides name (get_or names (index_or_len names name) name)).0 (passes_at_first (bytes_eq name) names name lt) in
    slice_get-get_or names (index_or_len names name) name lt ∙ ap (λ (n : List ℕ). Some n) (sym same)

-- a name has one index
pub place_is : (names : List (List ℕ)) (name : List ℕ) (r : ℕ) → IsDistinct bytes_eq names → slice_get names r ≡ Some name → index_or_len names name ≡ r
place_is names name r once e =
    let lt : r < length names = slice_get_within names r name e in
    let at : get_or names r name ≡ name = get_or_from_slice_get names r name name e in
    position_or_len_is (bytes_eq name) names r name (omega arith)
    (λ k below. false_from_ne_true _ (λ t.
    let same : name ≡ get_or names k name = (bytes_eq-Decides name (get_or names k name)).0 t in
    false≢true (sym (apart_from_distinct bytes_eq names k r name once below lt) ∙ (bytes_eq-Decides (get_or names k name) (get_or names r name)).1 (sym same ∙ sym at))))
    (λ _. (bytes_eq-Decides name (get_or names r name)).1 (sym at))
