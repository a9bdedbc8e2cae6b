-- The parsed item at the end of a list.
use Rattle.std.proofs.Common.{◌≡◌, List, [], ◌∷◌, ◌++◌, Ok, Err, ap, subst, ◌∙◌}
use Rattle.std.specs.Prelude.{Result}
use Rattle.ob_scan.specs.declared.token.Token.{Token}
use Rattle.ob_tree.specs.TreeEvents.{Events}
use Rattle.ob_grammar.specs.declared.cursor.Cursor.{Cursor}
use Rattle.ob_grammar.specs.declared.stop.Stop.{Stop}
use Rattle.ob_grammar.specs.Combinators.{Read}
use Rattle.ob_grammar.specs.ParsesAs.{Fails, ParsesAs, AppendsItem, remaining}

-- the item was read, and the list ends with it
pub record IsKept {T : Type 0} (ts : List Token) (view : T → Events) (old new : List T) (rest : Cursor) (read : Read) : Type 0 where
  pub item : T
  pub items : new ≡ old ++ item ∷ []
  pub is_read : read ≡ Ok (view item, remaining ts rest)

pub kept : {X T : Type 0} (ts : List Token) (view : T → Events) (r : Result (X × Cursor) Stop) (value : X → T) (old new : List T) (rest : Cursor) (read : Read)
    → ParsesAs ts (λ x. (view (value x.0), remaining ts x.1)) r read → AppendsItem value old new r (Ok rest) → IsKept ts view old new rest read
kept ts view (Ok x) value old new rest read gives invariants = record { item = value x.0; items = invariants.0; is_read = gives ∙ ap (λ (i : Cursor). Ok (view (value x.0), remaining ts i)) invariants.1 }
kept ts view (Err e) value old new rest read gives invariants = absurd invariants

-- reading stopped, or an allocation failed
pub unkept : {X T : Type 0} (ts : List Token) (view : T → Events) (r : Result (X × Cursor) Stop) (value : X → T) (old new : List T) (stop : Stop) (read : Read)
    → ParsesAs ts (λ x. (view (value x.0), remaining ts x.1)) r read → AppendsItem value old new r (Err stop) → Fails ts stop read
unkept ts view (Ok x) value old new stop read gives invariants = rw invariants tt
unkept ts view (Err e) value old new stop read gives invariants = subst (λ (s : Stop). Fails ts s read) invariants gives
