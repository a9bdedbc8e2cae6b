-- Parsing a line of a prices file inverts writing it.
use Rattle.std.proofs.Common.{◌≡◌, ◌≢◌, ℕ, ◌<◌, ◌^◌, true, List, ◌∷◌, ◌++◌, Option, Some, None, refl, sym, ap, ◌∙◌, codes}
use Rattle.std.specs.Prelude.{option_map, option_and_then}
use Rattle.std.specs.Option.{option_map_or}
use Rattle.std.specs.Fmt.{decimal}
use Rattle.std.proofs.lemmas.Option.{option_and_then_some}
use Rattle.texts.specs.Fields.{split_at_first, named, number_of, is_name}
use Rattle.texts.proofs.FieldCuts.{cut_takes, cut_again}
use Rattle.texts.proofs.FieldNames.{named_takes, named_again, name_without}
use Rattle.texts.proofs.FieldNumbers.{number_takes, number_again}
use Rattle.cut_net.specs.declared.pin_state.Change.{Change}
use Rattle.cut_net.specs.declared.pin_state.Change.TheVariants.{Price, Pin}
use Rattle.cut_net.specs.NetReading.{after_word}
use Rattle.cut_net.specs.NetText.{is_nonempty}
use Rattle.cut_net.specs.Prices.{PriceLine, IsChange, IsPriceLine, price_line, change_line}
use Rattle.cut_net.specs.PriceReading.{pin_of_fields, price_of_fields, price_line_of, line_with_change}
use Rattle.cut_net.proofs.NetLines.{map_some, word_takes, word_again}

abbrev after_pin : List ℕ → List ℕ
after_pin fields = codes "pin" ++ 32 ∷ fields

abbrev after_price : List ℕ → List ℕ
after_price fields = codes "price" ++ 32 ∷ fields

pin_takes : (fields : List ℕ) (l : PriceLine) → pin_of_fields fields ≡ Some l → (after_pin fields ≡ price_line l) × IsPriceLine l
unfolding pin_of_fields
pin_takes fields l e =
    option_and_then_some _ (split_at_first 32 fields) l e (λ parts h1 e.
    option_and_then_some _ (named parts.0) l e (λ m h2 e.
    map_some _ (named parts.1) l e (λ n h3 same.
    let p = named_takes parts.0 m h2 in
    let q = named_takes parts.1 n h3 in
    let whole : fields ≡ m ++ 32 ∷ n = cut_takes 32 fields parts h1 ∙ rw (p.0, q.0) refl in
    rw (← same, whole) (refl, record { importer = p.1; imported = q.1; change = tt }))))

price_takes : (fields : List ℕ) (l : PriceLine) → price_of_fields fields ≡ Some l → (after_price fields ≡ price_line l) × IsPriceLine l
unfolding price_of_fields
price_takes fields l e =
    option_and_then_some _ (split_at_first 32 fields) l e (λ parts h1 e.
    option_and_then_some _ (split_at_first 32 parts.1) l e (λ others h2 e.
    option_and_then_some _ (named parts.0) l e (λ m h3 e.
    option_and_then_some _ (named others.0) l e (λ n h4 e.
    map_some _ (number_of others.1) l e (λ w h5 same.
    let p = named_takes parts.0 m h3 in
    let q = named_takes others.0 n h4 in
    let r = number_takes others.1 w h5 in
    let rest : parts.1 ≡ n ++ 32 ∷ decimal w = cut_takes 32 parts.1 others h2 ∙ rw (q.0, r.0) refl in
    let whole : fields ≡ m ++ 32 ∷ (n ++ 32 ∷ decimal w) = cut_takes 32 fields parts h1 ∙ rw (p.0, rest) refl in
    rw (← same, whole) (refl, record { importer = p.1; imported = q.1; change = r.1 }))))))

-- the bytes of a parsed line are those of its content
pub line_takes : (piece : List ℕ) (l : PriceLine) → price_line_of piece ≡ Some l → (price_line l ≡ piece) × IsPriceLine l
unfolding price_line_of
line_takes piece l e = by (after_word (codes "pin") piece) refl e
  where
    by : (o : Option (List ℕ)) → after_word (codes "pin") piece ≡ o → option_map_or pin_of_fields o (option_and_then price_of_fields (after_word (codes "price") piece)) ≡ Some l → (price_line l ≡ piece) × IsPriceLine l
    by (Some fields) h e =
        let p = pin_takes fields l e in
        (sym (word_takes (codes "pin") piece fields h ∙ p.0), p.1)
    by None h e =
        option_and_then_some price_of_fields (after_word (codes "price") piece) l e (λ fields g e.
        let p = price_takes fields l e in
        (sym (word_takes (codes "price") piece fields g ∙ p.0), p.1))

other_word : (fields : List ℕ) → after_word (codes "pin") (after_price fields) ≡ None
unfolding after_word
other_word fields = rw (cut_again 32 (codes "price") fields refl) refl

pin_again : (m n : List ℕ) → is_name m ≡ true → is_name n ≡ true → pin_of_fields (m ++ 32 ∷ n) ≡ Some (line_with_change m n Pin)
unfolding pin_of_fields
pin_again m n p q = rw (cut_again 32 m n (name_without 32 m refl p), named_again m p, named_again n q) refl

price_again : (m n : List ℕ) (w : ℕ) → is_name m ≡ true → is_name n ≡ true → w < 2 ^ 64 → price_of_fields (m ++ 32 ∷ (n ++ 32 ∷ decimal w)) ≡ Some (line_with_change m n (Price w))
unfolding price_of_fields
price_again m n w p q lt =
    let a = cut_again 32 m (n ++ 32 ∷ decimal w) (name_without 32 m refl p) in
    let b = cut_again 32 n (decimal w) (name_without 32 n refl q) in
    rw (a, b, named_again m p, named_again n q, number_again w lt) refl

again : (m n : List ℕ) (change : Change) → is_name m ≡ true → is_name n ≡ true → IsChange change → price_line_of (change_line m n change) ≡ Some (line_with_change m n change)
unfolding price_line_of
again m n (Price w) p q lt =
    let rest = m ++ 32 ∷ (n ++ 32 ∷ decimal w) in
    rw (other_word rest, word_again (codes "price") rest refl) (price_again m n w p q lt)
again m n Pin p q h = rw (word_again (codes "pin") (m ++ 32 ∷ n) refl) (pin_again m n p q)

-- the bytes of a valid line are parsed as its content
line_again : (l : PriceLine) → IsPriceLine l → price_line_of (price_line l) ≡ Some l
line_again l h = again l.importer l.imported l.change h.importer h.imported h.change

-- two valid lines with equal bytes are equal
pub line_once : (l k : PriceLine) → IsPriceLine l → IsPriceLine k → price_line l ≡ price_line k → l ≡ k
line_once l k good well e =
    let a = line_again l good in
    let b = line_again k well in
    let c : price_line_of (price_line l) ≡ price_line_of (price_line k) = ap price_line_of e in
    cc

-- bytes that aren't parsed are the bytes of no valid line
pub no_line : (piece : List ℕ) → price_line_of piece ≡ None → (l : PriceLine) → IsPriceLine l → price_line l ≢ piece
no_line piece none l good e =
    let a : Some l ≡ None = sym (line_again l good) ∙ ap price_line_of e ∙ none in
    absurd cc

-- a line isn't empty
written : (m n : List ℕ) (change : Change) → is_nonempty (change_line m n change) ≡ true
written m n (Price w) = refl
written m n Pin = refl

pub line_written : (line : PriceLine) → is_nonempty (price_line line) ≡ true
line_written line = written line.importer line.imported line.change

pub not_read : {X Y : Type 0} (f : X → Y) (o : Option X) (r : Option Y) → option_map f o ≡ r → ((x : X) → o ≡ Some x → ⊥) → r ≡ None
not_read f None r e none = sym e
not_read f (Some x) r e none = absurd (none x refl)
