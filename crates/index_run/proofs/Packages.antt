-- A package that the command line accepts is valid in a symbol.
use Rattle.std.proofs.Common.{◌≡◌, ◌∷◌, [], ℕ, List, Some, false, refl, ap}
use Rattle.std.proofs.lemmas.Bool.{ne_eqb}
use Rattle.oscip_job.specs.Jobs.{IsPackage}
use Rattle.scip_symbol.specs.Outcomes.{is_wrong_part}

pub not_wrong : (text : List ℕ) → IsPackage text → is_wrong_part text ≡ false
not_wrong [] h = refl
not_wrong (b ∷ []) h = rw (ne_eqb b 32 (λ e. h.1 (ap Some e)), ne_eqb b 46 (λ e. h.0 (ap (λ (x : ℕ). x ∷ []) e))) refl
not_wrong (b ∷ c ∷ rest) h = rw (ne_eqb b 32 (λ e. h.1 (ap Some e))) refl
