-- The visible declaration, or else the later type.
use Rattle.std.proofs.Common.{◌≡◌, ℕ, List, refl, Bool, true, false, not, sym, ◌∙◌}
use Rattle.std.proofs.lemmas.Bool.{false≢true}
use Rattle.module_table.specs.declared.rows.Block.{Block}
use Rattle.module_table.specs.declared.rows.Used.{Used}
use Rattle.scopes.specs.declared.members.Member.{Member}
use Rattle.scopes.specs.Scope.{ResolvesTo, by_scope, as_target, IsLaterType, ResolvesToNothing}
use Rattle.ob_scope.specs.Lookups.{use_in}
use Rattle.ob_scan.specs.Texts.{text_at}
use Rattle.ob_scope.proofs.Named.{none_then, some_then}
use Rattle.ob_scope.proofs.Seeing.{later_from_place, place_from_later}
use Rattle.ob_scope.proofs.Resolving.{resolves-as, nothing-as}
use Rattle.ob_scope.proofs.resolve.resolve_use.Goals as goal
use Rattle.ob_scope.proofs.resolve.resolve_use.Goals.{In_default}

pub returns-in-Some-clause-found : goal.returns-in-Some-clause-found
returns-in-Some-clause-found c =
    let name = text_at c.args.text.now.bytes.now c.args.text.now.tokens.now in
    let h = rw c.in-Some.is at c.in_ok-at.ensures.found in
    record { member = h.member; there = h.there; means = by_scope (resolves-as name c.args.blocks.now c.args.members.now c.args.used (use_in c.args.used.block c.args.used.number) h.member refl refl h.resolves) }

-- what a use means that resolves to nothing and is no target
means_none : (name : ℕ → List ℕ) (blocks : List Block) (ds : List Member) (u : Used) (d : Member) → u.is_target ≡ false → ResolvesToNothing name blocks ds u → ResolvesTo name blocks ds u d → ⊥
means_none name blocks ds u d none nothing (by_scope r) = nothing r.block d r.seen
means_none name blocks ds u d none nothing (as_target t n l) = let x : u.is_target ≡ true = t in false≢true (sym none ∙ x)

found_none : (c : In_default) → ResolvesToNothing (text_at c.args.text.now.bytes.now c.args.text.now.tokens.now) c.args.blocks.now c.args.members.now c.args.used
found_none c =
    let u = c.args.used in
    nothing-as (text_at c.args.text.now.bytes.now c.args.text.now.tokens.now) c.args.blocks.now c.args.members.now u (use_in u.block u.number) refl refl (rw c.in_default.is at c.in_ok-at.ensures.none)

not_false : (b : Bool) → not b ≡ false → b ≡ true
not_false true e = refl
not_false false e = sym e

not_true : (b : Bool) → not b ≡ true → b ≡ false
not_true true e = sym e
not_true false e = refl

pub returns-then-not-used-clause-none : goal.returns-then-not-used-clause-none
returns-then-not-used-clause-none c =
    let name = text_at c.args.text.now.bytes.now c.args.text.now.tokens.now in
    let u = c.args.used in
    let nothing = found_none (goal.at.returns-then-not-used-clause-none c).In_default in
    λ d. means_none name c.args.blocks.now c.args.members.now u d (not_true _ c.if-not-used.true) nothing

pub returns-clause-found : goal.returns-clause-found
returns-clause-found c =
    let name = text_at c.args.text.now.bytes.now c.args.text.now.tokens.now in
    let u = c.args.used in
    let nothing = found_none (goal.at.returns-clause-found c).In_default in
    let target : u.is_target ≡ true = not_false _ c.if-not-used.false in
    some_then c.find_later_type.result _ _
    (λ i h. record { member = h.member; there = h.here.there; means = as_target target nothing (later_from_place name c.args.blocks.now c.args.members.now u i h) })
    c.find_later_type.ensures.found

-- what a target means that resolves to nothing
means_later : (name : ℕ → List ℕ) (blocks : List Block) (ds : List Member) (u : Used) (d : Member) → ResolvesToNothing name blocks ds u → ResolvesTo name blocks ds u d → IsLaterType name ds u d
means_later name blocks ds u d nothing (by_scope r) = absurd (nothing r.block d r.seen)
means_later name blocks ds u d nothing (as_target t n l) = l

pub returns-clause-none : goal.returns-clause-none
returns-clause-none c =
    let name = text_at c.args.text.now.bytes.now c.args.text.now.tokens.now in
    let u = c.args.used in
    let nothing = found_none (goal.at.returns-clause-none c).In_default in
    none_then c.find_later_type.result c.find_later_type.ensures.none (λ none d m.
    let p = place_from_later name c.args.blocks.now c.args.members.now u d (means_later name c.args.blocks.now c.args.members.now u d nothing m) in
    none p.0 p.1)
