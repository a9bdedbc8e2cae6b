-- Conditions on names: the names that a module declares and uses, and the names in interfaces, are identifiers.
use Rattle.std.specs.Prelude.{◌≡◌, ℕ, List, true, Contains}
use Rattle.ob_scan.specs.Tokens.{is_name}
use Rattle.ob_scan.specs.Texts.{text_at}
use Rattle.ob_interface.specs.Interfaces.{Declaration, ModuleInterface}
use Rattle.scopes.specs.IdentifierNames.{AreNames}
use Rattle.ob_view.specs.World.{World, text}
use Rattle.ob_view.specs.declared.target.Reference.{Reference}
use Rattle.ob_view.specs.declared.target.Target.TheVariants as targets

-- the bytes are an identifier
abbrev pub IsName : List ℕ → Type 0
IsName bytes = is_name bytes ≡ true

-- in an interface, the module's name and the names of the declarations are identifiers
pub record HasNames (m : ModuleInterface) : Type 0 where
  pub own : IsName m.name
  pub declarations : (d : Declaration) → Contains m.declarations d → IsName d.name

-- the module's own name, what it declares and what its import items name are identifiers, and so are the names in the reached interfaces
pub record NamesAreIdentifiers (w : World) : Type 0 where
  pub here : AreNames (text_at w.bytes w.tokens) w.rows
  pub reached : (m : ModuleInterface) → Contains w.reached m → HasNames m

-- the bytes of each reference's token are an identifier, and so are the bytes of each token that is the name in an `External` target
pub record ReferencesAreIdentifiers (w : World) (refs : List Reference) : Type 0 where
  pub own : (r : Reference) → Contains refs r → IsName (text w r.number)
  pub external : (r : Reference) → Contains refs r → (item name : ℕ) → r.target ≡ targets.External item name → IsName (text w name)
