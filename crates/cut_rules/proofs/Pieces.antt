-- The builder after one more line.
use Rattle.std.proofs.Common.{◌≡◌, ℕ, zero, suc, ◌+◌, ◌<◌, ◌≤◌, ◌⊎◌, inl, inr, List, [], ◌∷◌, length, Some, refl, ap, subst, arith}
use Rattle.std.specs.Prelude.{◌↔◌, slice_get, option_and_then}
use Rattle.std.proofs.lemmas.Bool.{cases_eq}
use Rattle.std.proofs.lemmas.Option.{option_and_then_some}
use Rattle.texts.proofs.FieldCuts.{some_is}
use Rattle.cut_rules.specs.RuleLines.{RuleLine, Selector, Adds, Restricts, Allow, IsPieceAt, States, Spells}
use Rattle.cut_rules.specs.LineReading.{rule_line_of, parse_set_name, set_of}
use Rattle.cut_rules.specs.Rules.{IsSet}
use Rattle.cut_rules.specs.Builders.{IsSetWithin}
use Rattle.cut_rules.proofs.LineLaws.{line_again, line_takes, one_piece}

pub get_low : {A : Type 0} (xs : List A) (k : ℕ) (x : A) → slice_get xs k ≡ Some x → k < length xs
get_low [] k x e = absurd cc
get_low (y ∷ ys) zero x e = omega arith
get_low (y ∷ ys) (suc k) x e = let lt = get_low ys k x e in omega arith

pub says_low : (pieces : List (List ℕ)) (line : ℕ) (l : RuleLine) → States pieces line l → (0 < line) × (line ≤ length pieces)
says_low pieces line l s =
    let at = s.at in
    let lt = get_low pieces at.place s.piece at.present in
    let e = at.number in
    (omega arith, omega arith)

-- among the lines up to the next one are those up to this one, and the next one
pub within_next : (Q : ℕ → Type 0) (count : ℕ) → ((l : ℕ) × (l ≤ count + 1) × Q l) ↔ (((l : ℕ) × (l ≤ count) × Q l) ⊎ Q (count + 1))
within_next Q count = (
  λ (l, le, q). elim (cases_eq l (count + 1)) [
    | inl e ↦ inr (subst Q e q)
    | inr ne ↦ inl (l, omega (arith, ne), q)
  ],
  λ either. elim either [ inl (l, le, q) ↦ (l, omega arith, q) | inr q ↦ (count + 1, omega arith, q) ],
)

module _ (pieces : List (List ℕ)) (count : ℕ) (piece : List ℕ) (at : IsPieceAt pieces (count + 1) piece) where
  pub says_here : (l : RuleLine) → Spells piece l → States pieces (count + 1) l
  says_here l spelled = record { piece = piece; at = at; spelled = spelled }

  pub spelled_here : (l : RuleLine) → States pieces (count + 1) l → Spells piece l
  spelled_here l s = subst (λ (p : List ℕ). Spells p l) (one_piece pieces (count + 1) s.piece piece s.at at) s.spelled

  -- the set to which the line adds modules
  set_here : (s : List ℕ) → ((selector : Selector) × States pieces (count + 1) (Adds s selector)) → set_of piece ≡ Some s
  unfolding set_of
  set_here s (selector, says) = ap (option_and_then parse_set_name) (line_again piece (Adds s selector) (spelled_here (Adds s selector) says))

  of_set : (s : List ℕ) (l : RuleLine) → States pieces (count + 1) l → parse_set_name l ≡ Some s → (selector : Selector) × States pieces (count + 1) (Adds s selector)
  of_set s (Adds t selector) says e = (selector, subst (λ (x : List ℕ). States pieces (count + 1) (Adds x selector)) (some_is t s e) says)
  of_set s (Restricts kind x y) says e = absurd cc
  of_set s (Allow m n) says e = absurd cc

  set_there : (s : List ℕ) → set_of piece ≡ Some s → (selector : Selector) × States pieces (count + 1) (Adds s selector)
  unfolding set_of
  set_there s e = option_and_then_some parse_set_name (rule_line_of piece) s e (λ l h e. of_set s l (says_here l (line_takes piece l h)) e)

  -- the sets of the lines so far, with this one
  pub sets_next : (s : List ℕ) → IsSetWithin pieces (count + 1) s ↔ (IsSetWithin pieces count s ⊎ (set_of piece ≡ Some s))
  sets_next s =
      let next = within_next (λ (l : ℕ). (selector : Selector) × States pieces l (Adds s selector)) count in (
        λ (line, le, selector, says). elim (next.0 (line, le, (selector, says))) [
          | inl (l, low, own) ↦ inl (l, low, own.0, own.1)
          | inr own ↦ inr (set_here s own)
        ],
        λ either. elim either [
          | inl (line, le, selector, says) ↦ (line, omega arith, selector, says)
          | inr e ↦ let own = set_there s e in (count + 1, omega arith, own.0, own.1)
        ],
      )

pub all_sets : (pieces : List (List ℕ)) (s : List ℕ) → IsSetWithin pieces (length pieces) s ↔ IsSet pieces s
all_sets pieces s = (
  λ (line, le, selector, says). (line, selector, says),
  λ (line, selector, says). (line, (says_low pieces line (Adds s selector) says).1, selector, says),
)

pub piece_here : (pieces : List (List ℕ)) (count : ℕ) (piece : List ℕ) → slice_get pieces count ≡ Some piece → IsPieceAt pieces (count + 1) piece
piece_here pieces count piece present = record { place = count; number = refl; present = present }
