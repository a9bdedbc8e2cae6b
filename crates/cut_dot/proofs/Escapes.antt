-- Names have no quotation mark and no backslash.
use Rattle.std.proofs.Common.{◌≡◌, ◌≢◌, ℕ, true, List, [], ◌∷◌, get_or, sym, ap, ◌∙◌, arith}
use Rattle.std.specs.Prelude.{All}
use Rattle.std.specs.Char.{is_ascii_alphabetic, is_ascii_alphanumeric}
use Rattle.std.specs.List.{list_all}
use Rattle.std.proofs.lemmas.Bool.{and_parts, and_from}
use Rattle.std.proofs.lemmas.Bool.Decides.{nat_tests}
use Rattle.std.proofs.lemmas.List.Sums.{AllPass-from_list_all}
use Rattle.texts.specs.Fields.{is_name}
use Rattle.cut_net.specs.Network.{Network}
use Rattle.cut_net.specs.WellFormed.{IsNetwork}
use Rattle.cut_dot.specs.Texts.{NeedsNoEscape}

letter_is : (b : ℕ) → is_ascii_alphabetic b ≡ true → is_ascii_alphanumeric b ≡ true
letter_is b e = grind (arith, nat_tests)

no_mark : (c : ℕ) → is_ascii_alphanumeric c ≡ true → (c ≢ 34) × (c ≢ 92)
no_mark c e = (
  λ same. let bad : is_ascii_alphanumeric 34 ≡ true = sym (ap is_ascii_alphanumeric same) ∙ e in absurd cc,
  λ same. let bad : is_ascii_alphanumeric 92 ≡ true = sym (ap is_ascii_alphanumeric same) ∙ e in absurd cc,
)

all_plain : (name : List ℕ) → list_all is_ascii_alphanumeric name ≡ true → NeedsNoEscape name
all_plain name e k d lt = no_mark (get_or name k d) (AllPass-from_list_all is_ascii_alphanumeric name e k d lt)

name_plain : (name : List ℕ) → is_name name ≡ true → NeedsNoEscape name
name_plain [] e = λ k d lt. absurd (omega arith)
name_plain (b ∷ bytes) e = let p = and_parts _ _ e in all_plain (b ∷ bytes) (and_from _ _ (letter_is b p.0) p.1)

pub names_plain : (net : Network) → IsNetwork net → All NeedsNoEscape net.names
names_plain net invariants k d lt = name_plain (get_or net.names k d) (invariants.named k d lt)
