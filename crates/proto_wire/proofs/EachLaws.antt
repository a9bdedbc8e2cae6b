-- Properties of each element that a loop has read, and the bytes that are written for the elements.
use Rattle.std.proofs.Common.{◌≡◌, ℕ, zero, suc, ◌+◌, ◌<◌, List, [], ◌∷◌, ◌++◌, map, take, length, get_or, slice_index_or, sym, ap, ap₂, ◌∙◌, subst, append_assoc, arith}
use Rattle.std.specs.List.{AllByRecursion}
use Rattle.std.proofs.lemmas.Grind.{flat_map-append}
use Rattle.std.proofs.lemmas.List.{append-nil, map-append, map_more}
use Rattle.proto_wire.specs.Writing.{payload_field, payload_fields, spelled, spelled_fields}

each-suc : {X : Type 0} (P : X → Type 0) (xs : List X) (i : ℕ) (d : X) → i < length xs → AllByRecursion P (take i xs) → P (slice_index_or xs i d) → AllByRecursion P (take (suc i) xs)
each-suc P [] i d some h p = absurd (omega arith)
each-suc P (x ∷ xs) zero d some h p = (p, tt)
each-suc P (x ∷ xs) (suc i) d some h p = (h.0, each-suc P xs i d (omega arith) h.1 p)

pub each-more : {X : Type 0} (P : X → Type 0) (xs : List X) (i : ℕ) (d : X) → i < length xs → AllByRecursion P (take i xs) → P (slice_index_or xs i d) → AllByRecursion P (take (i + 1) xs)
each-more P xs i d some h p =
    let e : suc i ≡ i + 1 = omega arith in
    subst (λ (n : ℕ). AllByRecursion P (take n xs)) e (each-suc P xs i d some h p)

spelling_more : {X : Type 0} (k : ℕ) (payload : X → List ℕ) (xs : List X) (i : ℕ) (d : X) → i < length xs
    → spelled_fields (payload_fields k (map payload (take (i + 1) xs))) ≡ spelled_fields (payload_fields k (map payload (take i xs))) ++ spelled (payload_field k (payload (get_or xs i d)))
spelling_more k payload xs i d l =
    let x = payload (get_or xs i d) in
    ap (λ (ys : List (List ℕ)). spelled_fields (payload_fields k ys)) (map_more payload xs i d l)
    ∙ ap spelled_fields (map-append (payload_field k) (map payload (take i xs)) (x ∷ []))
    ∙ flat_map-append spelled (payload_fields k (map payload (take i xs))) (payload_field k x ∷ [])
    ∙ ap (λ (ys : List ℕ). spelled_fields (payload_fields k (map payload (take i xs))) ++ ys) (append-nil (spelled (payload_field k x)))

-- one more payload is written after the others
pub put-more : {X : Type 0} (k : ℕ) (payload : X → List ℕ) (xs : List X) (i : ℕ) (x : X) (first out new : List ℕ) → i < length xs → x ≡ get_or xs i x
    → out ≡ first ++ spelled_fields (payload_fields k (map payload (take i xs))) → new ≡ out ++ spelled (payload_field k (payload x))
    → new ≡ first ++ spelled_fields (payload_fields k (map payload (take (i + 1) xs)))
put-more k payload xs i x first out new l is old more =
    more
    ∙ ap₂ (λ (ys zs : List ℕ). ys ++ zs) old (ap (λ z. spelled (payload_field k (payload z))) is)
    ∙ append_assoc first (spelled_fields (payload_fields k (map payload (take i xs)))) (spelled (payload_field k (payload (get_or xs i x))))
    ∙ ap (λ (ys : List ℕ). first ++ ys) (sym (spelling_more k payload xs i x l))
