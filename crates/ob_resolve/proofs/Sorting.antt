-- The stored kinds of tokens' declarations.
use Rattle.std.proofs.Common.{◌≡◌, ℕ, zero, suc, ◌<◌, List, length, set, Option, Some, None, inl, inr, sym, ap, ◌∙◌}
use Rattle.std.specs.Prelude.{slice_get, replicate}
use Rattle.std.proofs.lemmas.Bool.{cases_eq}
use Rattle.module_table.specs.declared.rows.DeclKind.{DeclKind}
use Rattle.ob_view.specs.World.{World, decl_kind_of}
use Rattle.ob_resolve.specs.StoredKinds.{AreStoredKinds}
use Rattle.ob_resolve.proofs.Marks.{slice_get-set_same, slice_get-set_other}

never : (n k : ℕ) (s : DeclKind) → slice_get (replicate n None) k ≡ Some (Some s) → ⊥
never zero k s e = absurd cc
never (suc n) zero s e = absurd cc
never (suc n) (suc k) s e = never n k s e

pub none_kept : (w : World) (decl_kinds : List (Option DeclKind)) → decl_kinds ≡ replicate (length decl_kinds) None → AreStoredKinds w decl_kinds
none_kept w decl_kinds is = record { kept = λ k s e. absurd (never (length decl_kinds) k s (ap (λ (xs : List (Option DeclKind)). slice_get xs k) (sym is) ∙ e)) }

pub one_kept : (w : World) (decl_kinds : List (Option DeclKind)) (n : ℕ) (o : Option DeclKind) → n < length decl_kinds → o ≡ decl_kind_of w n → AreStoredKinds w decl_kinds → AreStoredKinds w (set decl_kinds n o)
one_kept w decl_kinds n o room is are = record {
  kept = λ k s e. elim (cases_eq k n) [
    | inl same ↦ (
        let here : slice_get (set decl_kinds n o) n ≡ Some (Some s) = rw same at e in
        let top : slice_get (set decl_kinds n o) n ≡ Some o = slice_get-set_same decl_kinds n o room in
        let told : o ≡ Some s = cc in
        ap (decl_kind_of w) same ∙ sym is ∙ told)
    | inr other ↦ are.kept k s (sym (slice_get-set_other decl_kinds n k o other) ∙ e)
  ];
}
