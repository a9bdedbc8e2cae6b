-- One more blank, comment or token.
use Rattle.std.proofs.Common.{◌≡◌, ℕ, ◌+◌, ◌-◌, ◌≤◌, List, [], ◌∷◌, ◌++◌, length, drop, take, sym, ap, subst, arith, length-drop}
use Rattle.std.proofs.lemmas.Grind.{common_steps}
use Rattle.ob_scan.specs.declared.kind.Kind.{Kind}
use Rattle.ob_scan.specs.declared.token.Token.{Token}
use Rattle.ob_scan.specs.Spelling.{Scanned, start, gap, token, IsGap}
use Rattle.ob_scan.specs.Tokens.{IsToken}

-- the rest of the bytes from an offset on
pub rest_is : (bs : List ℕ) (at : ℕ) → at ≤ length bs → take (length bs - at) (drop at bs) ≡ drop at bs
rest_is bs at h = grind (arith, common_steps)

pub begun : (bs : List ℕ) (ts : List Token) → ts ≡ [] → Scanned bs ts 0
begun bs ts e = subst (λ x. Scanned bs x 0) (sym e) start

pub one_gap : (bs : List ℕ) (ts : List Token) (at n : ℕ) → at ≤ length bs → Scanned bs ts at → IsGap n (take (length bs - at) (drop at bs)) → Scanned bs ts (at + n)
one_gap bs ts at n le h g = gap h (subst (λ x. IsGap n x) (rest_is bs at le) g)

pub one_token : (bs : List ℕ) (ts us : List Token) (at n : ℕ) (k : Kind) → at ≤ length bs → Scanned bs ts at → IsToken k n (take (length bs - at) (drop at bs)) → us ≡ ts ++ record { kind = k; start = at; end = at + n } ∷ [] → Scanned bs us (at + n)
one_token bs ts us at n k le h g e = subst (λ x. Scanned bs x (at + n)) (sym e) (token h (subst (λ x. IsToken k n x) (rest_is bs at le) g))

pub fits : (bs : List ℕ) (at n : ℕ) → at ≤ length bs → n ≤ length (take (length bs - at) (drop at bs)) → at + n ≤ length bs
fits bs at n le h =
    let same : length (take (length bs - at) (drop at bs)) ≡ length (drop at bs) = ap length (rest_is bs at le) in
    omega (arith, length-drop at bs)
