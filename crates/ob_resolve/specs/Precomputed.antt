-- What is computed of a module before its identifiers are resolved, and the reference of each identifier.
use Rattle.std.specs.Prelude.{◌≡◌, ◌<◌, ℕ, Some, length, slice_get}
use Rattle.ob_view.specs.World.{World}
use Rattle.ob_targets.specs.Refers.{Refers}
use Rattle.ob_targets.specs.SyntaxPosition.{syntax_position}
use Rattle.ob_targets.specs.Targets.{is_written}
use Rattle.ob_view.specs.declared.target.Reference.{Reference}
use Rattle.ob_resolve.specs.declared.precomputed.Precomputed.{Precomputed}
use Rattle.ob_resolve.specs.Selected.{AreNamedTargets}
use Rattle.ob_resolve.specs.StoredKinds.{AreStoredKinds}
use Rattle.ob_resolve.specs.Used.{AreUseTargets}

-- the lists are those of the module `w`. They have for each token its syntactic position and whether it is written, and each stored kind is
-- right. They have the targets of all uses and of the names of all selectors
pub record IsPrecomputed (w : World) (f : Precomputed) : Type 0 where
  pub syntax_positions : (k : ℕ) → k < length w.tokens → slice_get f.syntax_positions.items k ≡ Some (syntax_position w.rows k)
  pub written : (k : ℕ) → k < length w.tokens → slice_get f.written.items k ≡ Some (is_written w.rows k)
  pub decl_kinds : AreStoredKinds w f.decl_kinds.items
  pub used : AreUseTargets w f.used.items
  pub selected : AreNamedTargets w (length w.rows.selectors) f.selected.items

-- the reference has the token number `k`, and the target and the role that the rules give the identifier at this token
pub record IsReference (w : World) (k : ℕ) (r : Reference) : Type 0 where
  pub number : r.number ≡ k
  pub refers : Refers w k r.target r.role
