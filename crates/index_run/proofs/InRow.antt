-- Bytes that are written one after another.
use Rattle.std.proofs.Common.{◌≡◌, ◌++◌, ◌∷◌, [], ℕ, true, List, Option, Result, Ok, Err, sym, ap, ◌∙◌, subst, append_assoc, append-nil}
use Rattle.std.specs.List.{flat_map}
use Rattle.std.specs.Io.KnownBytes.{Appends}
use Rattle.std.proofs.KnownBytes.{Appends-trans}
use Rattle.std.proofs.lemmas.Grind.{flat_map-append}
use Rattle.std.proofs.lemmas.List.{flat_map_more}
use Rattle.byte_sink.specs.Sinks.{AppendsPrefix, WritesBy}

-- what was put, and then a front of what is next, is a front of all
pub front_then : (start now new : Option (List ℕ)) (all done next rest : List ℕ) → all ≡ done ++ (next ++ rest) → Appends start now done → AppendsPrefix now new next → AppendsPrefix start new all
front_then start now new all done next rest e p q = (
  done ++ q.0,
  q.1 ++ rest,
  e ∙ ap (λ (t : List ℕ). done ++ (t ++ rest)) q.2 ∙ ap (λ (t : List ℕ). done ++ t) (append_assoc q.0 q.1 rest) ∙ sym (append_assoc done q.0 (q.1 ++ rest)),
  Appends-trans start now new done q.0 p q.3,
)

-- what was put, and then what a call puts at its end
pub puts_then : {E : Type 0} (start now new : Option (List ℕ)) (all done last : List ℕ) (result : Result (Unit {0}) E) → all ≡ done ++ last → Appends start now done → WritesBy (λ _. true) now new result last →
    WritesBy (λ _. true) start new result all
puts_then start now new all done last (Ok x) e p q = rw e (Appends-trans start now new done last p q)
puts_then start now new all done last (Err fault) e p q = front_then start now new all done last [] (e ∙ ap (λ (t : List ℕ). done ++ t) (sym (append-nil last))) p q

-- ---- a list of things, each with its bytes

module _ {X : Type 0} (bytes_of : X → List ℕ) (start now : Option (List ℕ)) (done : List X) (taken : Appends start now (flat_map bytes_of done)) where
  -- one more is put
  pub one_put : (new : Option (List ℕ)) (x : X) → Appends now new (bytes_of x) → Appends start new (flat_map bytes_of (done ++ x ∷ []))
  one_put new x q = subst (λ (t : List ℕ). Appends start new t) (flat_map_more bytes_of [] done x) (Appends-trans start now new (flat_map bytes_of done) (bytes_of x) taken q)

  module _ (all left : List X) (whole : done ++ left ≡ all) (bytes : List ℕ) (are : bytes ≡ flat_map bytes_of all) where
    -- a front of the next one is put
    pub front_put : (new : Option (List ℕ)) (x : X) (rest : List X) → left ≡ x ∷ rest → AppendsPrefix now new (bytes_of x) → AppendsPrefix start new bytes
    front_put new x rest e q =
        front_then start now new bytes (flat_map bytes_of done) (bytes_of x) (flat_map bytes_of rest)
        (are ∙ ap (flat_map bytes_of) (sym whole ∙ ap (λ (l : List X). done ++ l) e) ∙ flat_map-append bytes_of done (x ∷ rest)) taken q

    -- and none is left
    pub all_put : left ≡ [] → Appends start now bytes
    all_put e = subst (λ (t : List ℕ). Appends start now t) (sym (are ∙ ap (flat_map bytes_of) (sym whole ∙ ap (λ (l : List X). done ++ l) e ∙ append-nil done))) taken
