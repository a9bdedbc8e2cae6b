-- The error of a module in which a scope declares a name twice.
use Rattle.std.specs.Prelude.{◌≡◌, ℕ, List}
use Rattle.std.specs.String.{string_bytes}
use Rattle.ob_scan.specs.declared.token.Token.{Token}
use Rattle.ob_scan.specs.Texts.{text_at, token_at}
use Rattle.module_table.specs.Parts.{Rows}
use Rattle.scopes.specs.declared.members.Member.{Member}
use Rattle.scopes.specs.declared.members.Scope.TheVariants.{Block, Record}
use Rattle.scopes.specs.Members.{members_of}
use Rattle.scopes.specs.Scope.{IsFirstDuplicate}
use Rattle.ob_scope.specs.declared.fault.ScopeFault.{ScopeFault}
use Rattle.ob_scope.specs.declared.fault.ScopeFault.TheVariants as faults

-- d and e are the first duplicates, `name` is their name, and `first` and `second` are the byte offsets of their identifiers
pub record IsDuplicateAt (bytes : List ℕ) (ts : List Token) (rows : Rows) (d e : Member) (name : List ℕ) (first second : ℕ) : Type 0 where
  pub is_first : IsFirstDuplicate (text_at bytes ts) (members_of rows) d e
  pub named : name ≡ text_at bytes ts d.number
  pub first_at : first ≡ (token_at ts d.number).start
  pub second_at : second ≡ (token_at ts e.number).start

-- the error has the name and the offsets of the first duplicates, in one block (`Twice`) or one record (`TwiceField`); or it is `Memory`
abbrev pub IsScopeFault : List ℕ → List Token → Rows → ScopeFault → Type 0
IsScopeFault bytes ts rows (faults.Twice name first second) =
    (d e : Member) × (block : ℕ) × (e.place ≡ Block block) × IsDuplicateAt bytes ts rows d e (string_bytes name) first second
IsScopeFault bytes ts rows (faults.TwiceField name first second) =
    (d e : Member) × (record_token : ℕ) × (e.place ≡ Record record_token) × IsDuplicateAt bytes ts rows d e (string_bytes name) first second
IsScopeFault bytes ts rows faults.Memory = Unit {0}
