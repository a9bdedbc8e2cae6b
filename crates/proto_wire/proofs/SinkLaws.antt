-- What a sink accepts of two texts, one after the other.
use Rattle.std.proofs.Common.{◌≡◌, ℕ, List, ◌++◌, Option, Some, None, Result, Ok, Err, sym, ap, ◌∙◌, append_assoc}
use Rattle.std.specs.Io.KnownBytes.{Appends}
use Rattle.byte_sink.specs.declared.sink.SinkFault.{SinkFault}
use Rattle.byte_sink.specs.Sinks.{AppendsPrefix, Writes}

-- known bytes that grow twice
Appends-then : (old between new : Option (List ℕ)) (first second : List ℕ) → Appends old between first → Appends between new second → Appends old new (first ++ second)
Appends-then None between new first second p q = tt
Appends-then (Some xs) None new first second p q = absurd p
Appends-then (Some xs) (Some ys) None first second p q = absurd q
Appends-then (Some xs) (Some ys) (Some zs) first second p q = rw (q, p) (append_assoc xs first second)

-- a prefix of the first text is a prefix of both texts
pub front-of_first : (old new : Option (List ℕ)) (bytes first second : List ℕ) → bytes ≡ first → AppendsPrefix old new bytes → AppendsPrefix old new (first ++ second)
front-of_first old new bytes first second e h =
    (h.0, h.1 ++ second, ap (λ (text : List ℕ). text ++ second) (sym e ∙ h.2) ∙ append_assoc h.0 h.1 second, h.3)

-- the whole first text, and then what is written of the second
pub writes-then : {T : Type 0} (old between new : Option (List ℕ)) (bytes first second : List ℕ) (result : Result T SinkFault) → bytes ≡ first → Appends old between bytes → Writes between new result second → Writes old new result (first ++ second)
writes-then old between new bytes first second (Ok x) e p q = Appends-then old between new first second (rw (← e) p) q
writes-then old between new bytes first second (Err fault) e p q =
    (first ++ q.0, q.1, ap (λ (text : List ℕ). first ++ text) q.2 ∙ sym (append_assoc first q.0 q.1), Appends-then old between new first q.0 (rw (← e) p) q.3)
