-- The type declared after a use, by its index.
use Rattle.std.proofs.Common.{ℕ, List}
use Rattle.module_table.specs.declared.rows.Block.{Block}
use Rattle.module_table.specs.declared.rows.Used.{Used}
use Rattle.scopes.specs.declared.members.Member.{Member}
use Rattle.scopes.specs.Scope.{IsLaterType}
use Rattle.ob_scope.specs.Lookups.{IsTypeAfter}
use Rattle.module_table.proofs.Elements.{contains_slice, slice_contains}

module _ (name : ℕ → List ℕ) (blocks : List Block) (members : List Member) where
  -- a type declared after a use
  pub later_from_place : (u : Used) (i : ℕ) (h : IsTypeAfter name members u.block u.number i) → IsLaterType name members u h.member
  later_from_place u i h = record {
    declared = contains_slice members i h.member h.here.there;
    placed = h.here.placed;
    named = h.here.named;
    after = h.after;
    a_type = h.a_type;
  }

  pub place_from_later : (u : Used) (e : Member) → IsLaterType name members u e → (i : ℕ) × IsTypeAfter name members u.block u.number i
  place_from_later u e s =
      let p = slice_contains members e s.declared in
      (p.0, record { member = e; here = record { there = p.1; placed = s.placed; named = s.named }; after = s.after; a_type = s.a_type })
