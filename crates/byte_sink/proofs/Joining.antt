-- Pieces that are written one after the other.
use Rattle.std.proofs.Common.{◌≡◌, ◌++◌, ◌+◌, ◌<◌, ℕ, List, [], ◌∷◌, Option, Result, Ok, Err, append_assoc, append-nil, ap, sym, ◌∙◌, refl, subst, length, take, drop, get_or, map}
use Rattle.std.specs.Prelude.{IfErr, OnOk}
use Rattle.std.specs.List.{flat_map}
use Rattle.std.proofs.KnownBytes.{Appends-nil, Appends-trans}
use Rattle.std.proofs.lemmas.Grind.{flat_map-append}
use Rattle.std.proofs.lemmas.List.{map_more, map-append, take-append-drop}
use Rattle.byte_sink.specs.declared.sink.SinkFault.{SinkFault}
use Rattle.byte_sink.specs.Sinks.{AppendsPrefix, Writes}
use Rattle.byte_sink.specs.Pieces.{WritesAllBut}

-- if a text is written up to `rest`, and `rest` with a second text up to `last`, both texts are written up to `last`
pub joined : (old now new : Option (List ℕ)) (start first second rest last whole : List ℕ) → whole ≡ first ++ second → WritesAllBut old now (start ++ first) rest → WritesAllBut now new (rest ++ second) last
    → WritesAllBut old new (start ++ whole) last
joined old now new start first second rest last whole e p q = (
  p.0 ++ q.0,
  ap (λ (t : List ℕ). start ++ t) e ∙ sym (append_assoc start first second) ∙ ap (λ (t : List ℕ). t ++ second) p.1 ∙ append_assoc p.0 rest second ∙ ap (λ (t : List ℕ). p.0 ++ t) q.1
      ∙ sym (append_assoc p.0 q.0 last),
  Appends-trans old now new p.0 q.0 p.2 q.2,
)

-- nothing is written
pub no_front : (known : Option (List ℕ)) (text : List ℕ) → AppendsPrefix known known text
no_front known text = ([], text, refl, Appends-nil known)

-- a prefix of a text is a prefix of the text followed by more
pub front_more : (old new : Option (List ℕ)) (start first left whole : List ℕ) → whole ≡ first ++ left → AppendsPrefix old new (start ++ first) → AppendsPrefix old new (start ++ whole)
front_more old new start first left whole e p =
    (p.0, p.1 ++ left, ap (λ (t : List ℕ). start ++ t) e ∙ sym (append_assoc start first left) ∙ ap (λ (t : List ℕ). t ++ left) p.2 ∙ append_assoc p.0 p.1 left, p.3)

-- what is written of a text is a prefix of the text, and of the text followed by more
pub some_front : (old new : Option (List ℕ)) (start first rest left whole : List ℕ) → whole ≡ first ++ left → WritesAllBut old new (start ++ first) rest → AppendsPrefix old new (start ++ whole)
some_front old new start first rest left whole e p = front_more old new start first left whole e (p.0, rest, p.1, p.2)

-- if a text is written up to `rest`, and a prefix of `rest` with a second text, a prefix of both texts is written
pub front_joined : (old now new : Option (List ℕ)) (start first second rest left whole : List ℕ) → whole ≡ (first ++ second) ++ left → WritesAllBut old now (start ++ first) rest → AppendsPrefix now new (rest ++ second)
    → AppendsPrefix old new (start ++ whole)
front_joined old now new start first second rest left whole e p q =
    let both = joined old now new start first second rest q.1 (first ++ second) refl p (q.0, q.2, q.3) in
    some_front old new start (first ++ second) q.1 left whole e both

-- all of the rest is written, or a prefix of it
pub puts_then : {T : Type 0} (old now new : Option (List ℕ)) (text rest : List ℕ) (result : Result T SinkFault) → WritesAllBut old now text rest → Writes now new result rest → Writes old new result text
puts_then old now new text rest (Ok x) p q = rw p.1 (Appends-trans old now new p.0 rest p.2 q)
puts_then old now new text rest (Err fault) p q =
    (p.0 ++ q.0, q.1, p.1 ∙ ap (λ (t : List ℕ). p.0 ++ t) q.2 ∙ sym (append_assoc p.0 q.0 q.1), Appends-trans old now new p.0 q.0 p.2 q.3)

-- the unwritten rest of an equal text
pub gathered_as : {T E : Type 0} (old new : Option (List ℕ)) (start first whole rest : List ℕ) (result : Result T E) → first ≡ whole → OnOk result (WritesAllBut old new (start ++ first) rest)
    → OnOk result (WritesAllBut old new (start ++ whole) rest)
gathered_as old new start first whole rest result e h = subst (λ (t : List ℕ). OnOk result (WritesAllBut old new (start ++ t) rest)) e h

-- a prefix of an equal text
pub broken_as : {T E : Type 0} (old new : Option (List ℕ)) (start first whole : List ℕ) (result : Result T E) → first ≡ whole → IfErr result (λ _. AppendsPrefix old new (start ++ first))
    → IfErr result (λ _. AppendsPrefix old new (start ++ whole))
broken_as old new start first whole result e h = subst (λ (t : List ℕ). IfErr result (λ _. AppendsPrefix old new (start ++ t))) e h

-- what is written of the members of a list, one after the other
module _ {X Y : Type 0} (seen : X → Y) (line : Y → List ℕ) where
  abbrev pub lines : List X → List ℕ
  lines xs = flat_map line (map seen xs)

  -- one more element is written
  pub lines_more : (xs : List X) (k : ℕ) (d : X) → k < length xs → lines (take (k + 1) xs) ≡ lines (take k xs) ++ line (seen (get_or xs k d))
  lines_more xs k d l =
      ap (flat_map line) (map_more seen xs k d l) ∙ flat_map-append line (map seen (take k xs)) (seen (get_or xs k d) ∷ [])
      ∙ ap (λ (t : List ℕ). lines (take k xs) ++ t) (append-nil (line (seen (get_or xs k d))))

  -- the elements before an index, and those from the index on
  pub lines_split : (xs : List X) (k : ℕ) → lines xs ≡ lines (take k xs) ++ lines (drop k xs)
  lines_split xs k = ap lines (sym (take-append-drop k xs)) ∙ ap (flat_map line) (map-append seen (take k xs) (drop k xs)) ∙ flat_map-append line (map seen (take k xs)) (map seen (drop k xs))

  -- the elements before an index, the element at it, and those after it
  pub lines_around : (xs : List X) (k : ℕ) (d : X) → k < length xs → lines xs ≡ (lines (take k xs) ++ line (seen (get_or xs k d))) ++ lines (drop (k + 1) xs)
  lines_around xs k d l = lines_split xs (k + 1) ∙ ap (λ (t : List ℕ). t ++ lines (drop (k + 1) xs)) (lines_more xs k d l)
