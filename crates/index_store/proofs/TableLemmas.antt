-- Entries of strings, and the effect of one more string or entry.
use Rattle.std.proofs.Common.{◌≡◌, ℕ, zero, suc, ◌+◌, ◌<◌, true, false, cond, ltb, not, List, [], ◌∷◌, ◌++◌, length, set, map, Option, Some, None, refl, sym, ap, ◌∙◌, arith, inl, inr}
use Rattle.std.specs.Prelude.{Contains, option_map, String, if◌then◌else◌}
use Rattle.std.specs.List.{list_any, position, prefix_len}
use Rattle.std.specs.Str.{bytes_eq}
use Rattle.std.specs.String.{string_bytes, string_eq}
use Rattle.std.proofs.lemmas.Bool.{cases_Bool, cases_lt, false≢true, lt-ltb, le-ltb}
use Rattle.std.proofs.lemmas.List.{append-nil, map_push}
use Rattle.indexmap.specs.IndexSet.{insert_key}
use Rattle.std.proofs.lemmas.Slice.Eq.{bytes_eq-Decides}
use Rattle.index_store.specs.Tables.{text_index, rows_at, rows_under, text_at}

pub same_bytes : (a b : List ℕ) → bytes_eq a b ≡ true → a ≡ b
same_bytes a b = (bytes_eq-Decides a b).0

pub bytes_same : (a b : List ℕ) → a ≡ b → bytes_eq a b ≡ true
bytes_same a b = (bytes_eq-Decides a b).1

-- a number that is one more
one_more : (o : Option ℕ) (n : ℕ) → option_map (λ m. m + 1) o ≡ Some n → (m : ℕ) × (o ≡ Some m) × (n ≡ suc m)
one_more None n e = absurd cc
one_more (Some m) n e = (m, refl, (let f : m + 1 ≡ n = cc in omega (arith, f)))

none_more : (o : Option ℕ) → option_map (λ m. m + 1) o ≡ None → o ≡ None
none_more None e = refl
none_more (Some m) e = absurd cc

pub number_there : (texts : List (List ℕ)) (text : List ℕ) (n : ℕ) → text_index texts text ≡ Some n → (n < length texts) × (text_at texts n ≡ text)
number_there [] text n e = absurd cc
number_there (t ∷ texts) text n e = elim (cases_Bool (bytes_eq text t)) [
  | inl same ↦ let z : Some 0 ≡ Some n = rw same at e in
      let zero_is : n ≡ 0 = cc in
      rw zero_is (omega arith, sym (same_bytes text t same))
  | inr other ↦ let m = one_more (text_index texts text) n (rw other at e) in
      let h = number_there texts text m.0 m.1 in
      rw m.2 ((let l = h.0 in omega (arith, l)), h.1)
]

-- a text with a number is one of the texts
pub text_among : (texts : List (List ℕ)) (text : List ℕ) (n : ℕ) → text_index texts text ≡ Some n → Contains texts text
text_among [] text n e = absurd cc
text_among (t ∷ texts) text n e = elim (cases_Bool (bytes_eq text t)) [
  | inl same ↦ (zero, omega arith, sym (same_bytes text t same))
  | inr other ↦ let m = one_more (text_index texts text) n (rw other at e) in
      let h = text_among texts text m.0 m.1 in
      (suc h.0, (let l = h.1 in omega (arith, l)), h.2)
]

-- and one without a number is none of them
pub text_lacking : (texts : List (List ℕ)) (text : List ℕ) → text_index texts text ≡ None → Contains texts text → ⊥
text_lacking [] text e (n, l, is) = omega (arith, l)
text_lacking (t ∷ texts) text e (zero, l, is) = absurd (let z = rw (bytes_same text t (sym is)) at e in cc)
text_lacking (t ∷ texts) text e (suc n, l, is) = elim (cases_Bool (bytes_eq text t)) [
  | inl same ↦ absurd (let z = rw same at e in cc)
  | inr other ↦ text_lacking texts text (none_more (text_index texts text) (rw other at e)) (n, omega (arith, l), is)
]

-- a new text has the last number
pub number_last : (texts : List (List ℕ)) (text : List ℕ) → text_index texts text ≡ None → text_index (texts ++ text ∷ []) text ≡ Some (length texts)
number_last [] text e = rw (bytes_same text text refl) refl
number_last (t ∷ texts) text e = elim (cases_Bool (bytes_eq text t)) [
  | inl same ↦ absurd (let z = rw same at e in cc)
  | inr other ↦ rw (other, number_last texts text (none_more (text_index texts text) (rw other at e))) (ap (λ (k : ℕ). Some k) (omega arith))
]

pub text_kept : (texts more : List (List ℕ)) (n : ℕ) → n < length texts → text_at (texts ++ more) n ≡ text_at texts n
text_kept [] more n l = absurd (omega (arith, l))
text_kept (t ∷ texts) more zero l = refl
text_kept (t ∷ texts) more (suc n) l = text_kept texts more n (omega (arith, l))

module _ {A : Type 0} where
  pub under_number : (texts : List (List ℕ)) (rows : List (List A)) (text : List ℕ) (n : ℕ) → length texts ≡ length rows → text_index texts text ≡ Some n → rows_under texts rows text ≡ rows_at rows n
  under_number [] rows text n long e = absurd cc
  under_number (t ∷ texts) [] text n long e = absurd (omega (arith, long))
  under_number (t ∷ texts) (r ∷ rows) text n long e = elim (cases_Bool (bytes_eq text t)) [
    | inl same ↦ let z : Some 0 ≡ Some n = rw same at e in
        let zero_is : n ≡ 0 = cc in
        rw (same, zero_is) refl
    | inr other ↦ let m = one_more (text_index texts text) n (rw other at e) in
        rw (other, m.2) (under_number texts rows text m.0 (omega (arith, long)) m.1)
  ]

  pub under_none : (texts : List (List ℕ)) (rows : List (List A)) (text : List ℕ) → text_index texts text ≡ None → rows_under texts rows text ≡ []
  under_none [] rows text e = refl
  under_none (t ∷ texts) [] text e = refl
  under_none (t ∷ texts) (r ∷ rows) text e = elim (cases_Bool (bytes_eq text t)) [
    | inl same ↦ absurd (let z = rw same at e in cc)
    | inr other ↦ rw other (under_none texts rows text (none_more (text_index texts text) (rw other at e)))
  ]

  -- a text more has no rows
  pub under_added : (texts : List (List ℕ)) (rows : List (List A)) (text other : List ℕ) → length texts ≡ length rows → rows_under (texts ++ text ∷ []) (rows ++ [] ∷ []) other ≡ rows_under texts rows other
  under_added [] [] text other long = elim (cases_Bool (bytes_eq other text)) [
    | inl same ↦ rw same refl
    | inr apart ↦ rw apart refl
  ]
  under_added [] (r ∷ rows) text other long = absurd (omega (arith, long))
  under_added (t ∷ texts) [] text other long = absurd (omega (arith, long))
  under_added (t ∷ texts) (r ∷ rows) text other long = ap (λ (rs : List A). cond (bytes_eq other t) r rs) (under_added texts rows text other (omega (arith, long)))

  -- a row more under a text
  pub under_pushed : (texts : List (List ℕ)) (rows : List (List A)) (text : List ℕ) (n : ℕ) (row : A) (other : List ℕ) → length texts ≡ length rows → text_index texts text ≡ Some n
      → rows_under texts (set rows n (rows_at rows n ++ row ∷ [])) other ≡ rows_under texts rows other ++ (if bytes_eq other text then row ∷ [] else [])
  under_pushed [] rows text n row other long e = absurd cc
  under_pushed (t ∷ texts) [] text n row other long e = absurd (omega (arith, long))
  under_pushed (t ∷ texts) (r ∷ rows) text n row other long e = elim (cases_Bool (bytes_eq text t)) [
    | inl same ↦ let z : Some 0 ≡ Some n = rw same at e in
        let zero_is : n ≡ 0 = cc in
        let is : text ≡ t = same_bytes text t same in
        elim (cases_Bool (bytes_eq other t)) [
          | inl here ↦ rw (zero_is, here, is) (rw here refl)
          | inr apart ↦ rw (zero_is, apart, is) (rw apart (sym (append-nil (rows_under texts rows other))))
        ]
    | inr differs ↦ let m = one_more (text_index texts text) n (rw differs at e) in
        elim (cases_Bool (bytes_eq other t)) [
          | inl here ↦ let no : bytes_eq other text ≡ false = Rattle.std.proofs.lemmas.Bool.false_from_ne_true (bytes_eq other text) (λ both. false≢true (sym differs ∙ bytes_same text t (sym (same_bytes other text both) ∙ same_bytes other t here))) in
              rw (m.2, here, no) (sym (append-nil r))
          | inr apart ↦ rw (m.2, apart) (under_pushed texts rows text m.0 row other (omega (arith, long)) m.1)
        ]
  ]

-- ---- what the kit's tables give

below_more : (n len : ℕ) → cond (ltb (1 + n) (suc len)) (Some (1 + n)) None ≡ option_map (λ m. m + 1) (cond (ltb n len) (Some n) None)
below_more n len =
    let e : 1 + n ≡ n + 1 = omega arith in
    elim (cases_lt n len) [
      | inl lt ↦ rw (lt-ltb (1 + n) (suc len) (omega arith), lt-ltb n len lt) (ap (λ (k : ℕ). Some k) e)
      | inr le ↦ rw (le-ltb (1 + n) (suc len) (omega arith), le-ltb n len le) refl
    ]

module _ {Z : Type 0} where
  pub number_is : (keys : List (String Z)) (text : List ℕ) → position (λ k. bytes_eq text (string_bytes k)) keys ≡ text_index (map string_bytes keys) text
  number_is [] text = refl
  number_is (k ∷ keys) text = elim (cases_Bool (bytes_eq text (string_bytes k))) [
    | inl same ↦ rw (same, lt-ltb 0 (suc (length keys)) (omega arith)) refl
    | inr other ↦ rw other (below_more (prefix_len (λ x. not (bytes_eq text (string_bytes x))) keys) (length keys) ∙ ap (option_map (λ m. m + 1)) (number_is keys text))
  ]

  any_is : (keys : List (String Z)) (text : List ℕ) → text_index (map string_bytes keys) text ≡ None → list_any (λ k. bytes_eq text (string_bytes k)) keys ≡ false
  any_is [] text e = refl
  any_is (k ∷ keys) text e = elim (cases_Bool (bytes_eq text (string_bytes k))) [
    | inl same ↦ absurd (let z = rw same at e in cc)
    | inr other ↦ rw other (any_is keys text (none_more (text_index (map string_bytes keys) text) (rw other at e)))
  ]

  pub texts_more : (keys : List (String Z)) (key : String Z) (text : List ℕ) → string_bytes key ≡ text → text_index (map string_bytes keys) text ≡ None → map string_bytes (insert_key string_eq keys key) ≡ map string_bytes keys ++ text ∷ []
  texts_more keys key text is new = rw (any_is keys (string_bytes key) (rw (← is) at new)) (map_push string_bytes keys key ∙ ap (λ (t : List ℕ). map string_bytes keys ++ t ∷ []) is)
