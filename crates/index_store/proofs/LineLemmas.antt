-- Lines that are buffered and written in pieces.
use Rattle.std.proofs.Common.{◌≡◌, ◌++◌, ◌+◌, ◌<◌, ℕ, List, [], ◌∷◌, Option, Result, Ok, Err, append_assoc, append-nil, ap, sym, ◌∙◌, length, take, drop, get_or, map, refl}
use Rattle.std.specs.Io.KnownBytes.{Appends}
use Rattle.std.proofs.KnownBytes.{Appends-trans}
use Rattle.std.proofs.lemmas.Grind.{flat_map-append}
use Rattle.std.proofs.lemmas.List.{map_more, map-append, take-append-drop}
use Rattle.byte_sink.specs.declared.sink.SinkFault.{SinkFault}
use Rattle.byte_sink.specs.Sinks.{AppendsPrefix, Writes}
use Rattle.texts.specs.Places.{Style}
use Rattle.index_store.specs.declared.location.Place.{Place}
use Rattle.index_store.specs.Queries.{location_model}
use Rattle.index_store.specs.Lines.{location_line, location_lines}

-- the lines of the locations so far
abbrev pub lines_to : Style → List Place → ℕ → List ℕ
lines_to style locations k = location_lines style (map location_model (take k locations))

abbrev pub all_lines : Style → List Place → List ℕ
all_lines style locations = location_lines style (map location_model locations)

-- they are a front of all lines
pub lines_front : (style : Style) (locations : List Place) (k : ℕ) → all_lines style locations ≡ lines_to style locations k ++ location_lines style (map location_model (drop k locations))
lines_front style locations k =
    ap (all_lines style) (sym (take-append-drop k locations)) ∙ ap (location_lines style) (map-append location_model (take k locations) (drop k locations))
    ∙ flat_map-append (location_line style) (map location_model (take k locations)) (map location_model (drop k locations))

-- one line more, and some of the lines that were gathered are put
pub lines_more : (style : Style) (locations : List Place) (k : ℕ) (d : Place) (done before moved gathered after : List ℕ) → k < length locations → lines_to style locations k ≡ done ++ before → before ≡ moved ++ gathered
    → after ≡ gathered ++ location_line style (location_model (get_or locations k d)) → lines_to style locations (k + 1) ≡ (done ++ moved) ++ after
lines_more style locations k d done before moved gathered after l so_far split more =
    let line = location_line style (location_model (get_or locations k d)) in
    let one : lines_to style locations (k + 1) ≡ lines_to style locations k ++ (line ++ []) =
    ap (location_lines style) (map_more location_model locations k d l) ∙ flat_map-append (location_line style) (map location_model (take k locations)) (location_model (get_or locations k d) ∷ []) in
    one ∙ ap (λ (t : List ℕ). lines_to style locations k ++ t) (append-nil line) ∙ ap (λ (t : List ℕ). t ++ line) (so_far ∙ ap (λ (t : List ℕ). done ++ t) split)
    ∙ ap (λ (t : List ℕ). t ++ line) (sym (append_assoc done moved gathered)) ∙ append_assoc (done ++ moved) gathered line ∙ ap (λ (t : List ℕ). (done ++ moved) ++ t) (sym more)

-- what was put, and then a front of what was gathered, is a front of all
pub front_then : (start now new : Option (List ℕ)) (all so_far done gathered rest : List ℕ) → all ≡ so_far ++ rest → so_far ≡ done ++ gathered → Appends start now done → AppendsPrefix now new gathered
    → AppendsPrefix start new all
front_then start now new all so_far done gathered rest e f p q = (
  done ++ q.0,
  q.1 ++ rest,
  e ∙ ap (λ (t : List ℕ). t ++ rest) (f ∙ ap (λ (t : List ℕ). done ++ t) q.2 ∙ sym (append_assoc done q.0 q.1)) ∙ append_assoc (done ++ q.0) q.1 rest,
  Appends-trans start now new done q.0 p q.3,
)

-- so is what was put alone
pub front_put : (start now new : Option (List ℕ)) (all so_far done before moved gathered rest : List ℕ) → all ≡ so_far ++ rest → so_far ≡ done ++ before → before ≡ moved ++ gathered → Appends start now done
    → Appends now new moved → AppendsPrefix start new all
front_put start now new all so_far done before moved gathered rest e f split p q =
    front_then start now new all so_far done before rest e f p (moved, gathered, split, q)

-- all that was gathered is put at the end
pub puts_then : {T : Type 0} (start now new : Option (List ℕ)) (all done gathered : List ℕ) (result : Result T SinkFault) → all ≡ done ++ gathered → Appends start now done → Writes now new result gathered
    → Writes start new result all
puts_then start now new all done gathered (Ok x) e p q = rw e (Appends-trans start now new done gathered p q)
puts_then start now new all done gathered (Err fault) e p q = front_then start now new all (done ++ gathered) done gathered [] (e ∙ sym (append-nil (done ++ gathered))) refl p q
