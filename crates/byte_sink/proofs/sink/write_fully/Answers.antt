use Rattle.std.proofs.Common.{◌≡◌, ℕ, ◌-◌, List, ◌++◌, take, drop, length, Option, Some, None, append_assoc, rules, arith}
use Rattle.std.proofs.lemmas.List.{take-append-drop, take_all, length-drop}
use Rattle.std.specs.Io.KnownBytes.{Appends}
use Rattle.byte_sink.proofs.sink.write_fully.Goals as goal

-- known bytes that grow twice
Appends-then : (a b c : Option (List ℕ)) (x y : List ℕ) → Appends a b x → Appends b c y → Appends a c (x ++ y)
Appends-then None b c x y p q = tt
Appends-then (Some xs) None c x y p q = absurd p
Appends-then (Some xs) (Some ys) None x y p q = absurd q
Appends-then (Some xs) (Some ys) (Some zs) x y p q = rw (q, p) (append_assoc xs x y)

-- what is left after k more bytes
split_more : (bytes done rest : List ℕ) (k : ℕ) → bytes ≡ done ++ rest → bytes ≡ (done ++ take k rest) ++ take (length rest - k) (drop k rest)
split_more bytes done rest k e =
    rw (take_all (length rest - k) (drop k rest) (omega (arith, length-drop k rest)), append_assoc, take-append-drop k rest) e

pub loop-rest-preserved : goal.loop-rest-preserved
loop-rest-preserved g c =
    let now = c.loop-rest.invariant.taken in
    record {
      taken = (now.0 ++ take c.in_ok-k.k c.loop-rest.rest.now, split_more _ now.0 c.loop-rest.rest.now c.in_ok-k.k now.1, Appends-then _ _ _ now.0 _ now.2 c.in_ok-k.ensures.takes);
      failures = search rules;
    }
