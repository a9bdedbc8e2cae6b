-- Names with an error have no other outcome.
use Rattle.std.proofs.Common.{◌≡◌, ℕ, List, Option, Result, Ok, Err, refl, sym, ap, ◌∙◌, Some, None, inl, inr}
use Rattle.std.proofs.lemmas.Option.{none-some, same_Some}
use Rattle.cut_net.specs.Network.{Network}
use Rattle.cut_net.specs.AnswerClaim.{AnswerClaim}
use Rattle.cut_solve.specs.Solving.{IsSolveOutcome, SolveError, SameModule, NoSuchModule}

both : {P : Type 0} (o : Option ℕ) (a : ℕ) → o ≡ None → o ≡ Some a → P
both o a none some = absurd (none-some a (sym none ∙ some))

pub error_is_unique : (net : Network) (from to : List ℕ) (refusal : SolveError) (o : Result AnswerClaim SolveError) → IsSolveOutcome net from to (Err refusal) → IsSolveOutcome net from to o → o ≡ Err refusal
error_is_unique net from to SameModule (Ok claim) holds other =
    absurd (other.apart (same_Some other.a other.b (sym other.from_is ∙ holds.from_is ∙ sym holds.to_is ∙ other.to_is)))
error_is_unique net from to SameModule (Err SameModule) holds other = refl
error_is_unique net from to SameModule (Err (NoSuchModule name)) holds (inl unknown) = both _ holds.a unknown.0 holds.from_is
error_is_unique net from to SameModule (Err (NoSuchModule name)) holds (inr unknown) = both _ holds.a unknown.1 holds.to_is
error_is_unique net from to (NoSuchModule name) (Ok claim) (inl unknown) other = both _ other.a unknown.0 other.from_is
error_is_unique net from to (NoSuchModule name) (Ok claim) (inr unknown) other = both _ other.b unknown.1 other.to_is
error_is_unique net from to (NoSuchModule name) (Err SameModule) (inl unknown) other = both _ other.a unknown.0 other.from_is
error_is_unique net from to (NoSuchModule name) (Err SameModule) (inr unknown) other = both _ other.a unknown.1 other.to_is
error_is_unique net from to (NoSuchModule name) (Err (NoSuchModule second)) (inl unknown) (inl again) = ap (λ (n : List ℕ). Err (NoSuchModule n)) (again.1 ∙ sym unknown.1)
error_is_unique net from to (NoSuchModule name) (Err (NoSuchModule second)) (inl unknown) (inr again) = both _ again.0.0 unknown.0 again.0.1
error_is_unique net from to (NoSuchModule name) (Err (NoSuchModule second)) (inr unknown) (inl again) = both _ unknown.0.0 again.0 unknown.0.1
error_is_unique net from to (NoSuchModule name) (Err (NoSuchModule second)) (inr unknown) (inr again) = ap (λ (n : List ℕ). Err (NoSuchModule n)) (again.2 ∙ sym unknown.2)
