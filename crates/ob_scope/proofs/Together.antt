-- The identifiers in the entries of a table, as members and uses.
use Rattle.std.proofs.Common.{◌≡◌, ℕ, zero, suc, List, [], ◌∷◌, Option, Some, None, refl, sym, ap, ◌∙◌, arith}
use Rattle.std.specs.Prelude.{◌==◌, Contains, true, false}
use Rattle.std.proofs.lemmas.Bool.{cases_Bool}
use Rattle.std.proofs.Common.{inl, inr, ◌⊎◌, eqb-true}
use Rattle.module_table.specs.declared.rows.Declared.{Declared}
use Rattle.module_table.specs.declared.rows.DeclGroup.{DeclGroup}
use Rattle.module_table.specs.Blocks.{AreBlocksContiguous, OccursIn}
use Rattle.module_table.specs.Blocks as stands
use Rattle.module_table.specs.Parts.{Rows}
use Rattle.scopes.specs.declared.members.Member.{Member}
use Rattle.scopes.specs.declared.members.Scope.TheVariants.{Block, Record}
use Rattle.scopes.specs.Members.{decl_group_at, declared_members, members_of, group_scope}
use Rattle.ob_scope.specs.WalkOrder.{AreContiguous, IsNameIn, member, use_row}

-- the declaration group of a member
pub record Declares (by : List DeclGroup) (ds : List Declared) (m : Member) : Type 0 where
  pub row : Declared
  pub among : Contains ds row
  pub construct : DeclGroup
  pub there : Contains by construct
  pub first : construct.first ≡ row.declared_by
  pub number : row.number ≡ m.number
  pub place : group_scope construct ≡ m.place

record Found (by : List DeclGroup) (k : ℕ) (d : DeclGroup) : Type 0 where
  there : Contains by d
  first : d.first ≡ k

found_at : (by : List DeclGroup) (k : ℕ) (d : DeclGroup) → decl_group_at by k ≡ Some d → Found by k d
found_at [] k d e = absurd (let f : None ≡ Some d = e in cc)
found_at (x ∷ by) k d e = go (λ f. found_at by k d f) (cases_Bool (x.first == k))
  where
    later : Found by k d → Found (x ∷ by) k d
    later h = (let (i, l, g) = h.there in record { there = (suc i, omega arith, g); first = h.first })

    go : (decl_group_at by k ≡ Some d → Found by k d) → ((x.first == k) ≡ true) ⊎ ((x.first == k) ≡ false) → Found (x ∷ by) k d
    go rest (inl t) = (let f : Some x ≡ Some d = rw t at e in let same : x ≡ d = cc in record { there = (zero, omega arith, same); first = ap (λ (y : DeclGroup). y.first) (sym same) ∙ eqb-true x.first k t })
    go rest (inr n) = later (rest (rw n at e))

pub declares : (by : List DeclGroup) (ds : List Declared) (m : Member) → Contains (declared_members by ds) m → Declares by ds m
declares by [] m (i, l, e) = absurd (omega arith)
declares by (d ∷ ds) m h = go (λ x. declares by ds m x) (decl_group_at by d.declared_by) refl
  where
    later : Declares by ds m → Declares by (d ∷ ds) m
    later r = (let (i, l, e) = r.among in record { row = r.row; among = (suc i, omega arith, e); construct = r.construct; there = r.there; first = r.first; number = r.number; place = r.place })

    here : (Contains (declared_members by ds) m → Declares by ds m) → (y : DeclGroup) → decl_group_at by d.declared_by ≡ Some y → Contains (record { place = group_scope y; number = d.number; decl_kind = y.decl_kind } ∷ declared_members by ds) m → Declares by (d ∷ ds) m
    here rest y e (zero, l, g) = (let f = found_at by d.declared_by y e in record { row = d; among = (zero, omega arith, refl); construct = y; there = f.there; first = f.first; number = ap (λ (x : Member). x.number) g; place = ap (λ (x : Member). x.place) g })
    here rest y e (suc i, l, g) = later (rest (i, omega arith, g))

    go : (Contains (declared_members by ds) m → Declares by ds m) → (o : Option DeclGroup) → decl_group_at by d.declared_by ≡ o → Declares by (d ∷ ds) m
    go rest None e = later (rest (rw e at h))
    go rest (Some y) e = here rest y e (rw e at h)

-- a declaration group in a block declares no field
in_block : (y : DeclGroup) (b : ℕ) → group_scope y ≡ Block b → (y.of_record ≡ None) × (y.block ≡ b)
in_block y b e = go y.of_record refl
  where
    go : (o : Option ℕ) → y.of_record ≡ o → (y.of_record ≡ None) × (y.block ≡ b)
    go None f = (f, (let g : Block y.block ≡ Block b = rw f at e in cc))
    go (Some r) f = absurd (let g : Record r ≡ Block b = rw f at e in cc)

stands_of : (r : Rows) (n c : ℕ) → IsNameIn (members_of r) r.uses n c → OccursIn r n c
stands_of r n c (member m h placed e) =
    let d = declares r.decl_groups r.declared m h in
    let p = in_block d.construct c (d.place ∙ placed) in
    stands.declared d.row d.construct d.among d.there d.first p.0 (d.number ∙ e) p.1
stands_of r n c (use_row u h i e) = stands.used u h e i

pub together_of : (r : Rows) → AreBlocksContiguous r → AreContiguous r.blocks (members_of r) r.uses
together_of r w = record {
  behind = λ n b c h a. w.behind n b c (stands_of r n c h) a;
  between = λ n m b c d h j lt le a. w.between n m b c d (stands_of r n c h) (stands_of r m d j) lt le a;
}
