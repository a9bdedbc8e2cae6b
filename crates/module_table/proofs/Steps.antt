-- How a table grows, step by step.
use Rattle.std.proofs.Common.{◌≡◌, ℕ, zero, suc, ◌+◌, ◌-◌, ◌≤◌, List, [], ◌∷◌, ◌++◌, length, set, refl, sym, ap, append_assoc, map, arith}
use Rattle.std.proofs.lemmas.List.{append-nil, set_at}
use Rattle.module_table.specs.declared.rows.DeclKind.{DeclKind}
use Rattle.module_table.specs.declared.builder.Context.{Context}
use Rattle.module_table.specs.Parts.{Fragment, Rows, no_rows, joined, nothing, token, both, with_rows, within, each, decl_group, declaring, declaring_at, one_decl_group}
use Rattle.module_table.specs.declared.builder.TableBuilder.{TableBuilder}
use Rattle.module_table.specs.TableStages.{Stage, stage_of, after, advanced, added, closed}

joined_assoc : (a b c : Rows) → joined (joined a b) c ≡ joined a (joined b c)
unfolding joined
joined_assoc a b c = simp (append_assoc)

joined_none : (a : Rows) → joined a no_rows ≡ a
unfolding joined no_rows
joined_none a = simp (append-nil)

stage : (n m : ℕ) (a b : Rows) → n ≡ m → a ≡ b → (let s : Stage = record { number = n; rows = a } in s) ≡ record { number = m; rows = b }
stage n m a b e f = rw (e, f) refl

pub after_nothing : (c : Context) (s : Stage) → after nothing c s ≡ s
unfolding after nothing
after_nothing c s = stage _ _ _ _ (omega arith) (joined_none s.rows)

pub after_token : (c : Context) (s : Stage) → after token c s ≡ advanced s
unfolding after token advanced
after_token c s = stage _ _ _ _ refl (joined_none s.rows)

pub after_both : (p q : Fragment) (c : Context) (s : Stage) → after (both p q) c s ≡ after q c (after p c s)
unfolding after both
after_both p q c s = stage _ _ _ _ (omega arith) (sym (joined_assoc s.rows (p.rows c s.number) (q.rows c (s.number + p.width))))

pub after_tells : (own : Context → ℕ → Rows) (p : Fragment) (c : Context) (s : Stage) → after (with_rows own p) c s ≡ after p c (added (own c s.number) s)
unfolding after with_rows added
after_tells own p c s = stage _ _ _ _ refl (sym (joined_assoc s.rows (own c s.number) (p.rows c s.number)))

pub after_within : (around : Context → ℕ → Context) (p : Fragment) (c : Context) (s : Stage) → after (within around p) c s ≡ after p (around c s.number) s
unfolding after within
after_within around p c s = refl

pub after_declaring : (decl_kind : DeclKind) (p : Fragment) (c : Context) (s : Stage) → after (declaring decl_kind p) c s ≡
    closed (length s.rows.decl_groups) (decl_group decl_kind c s.number 0) (after p (declaring_at c s.number) (added (one_decl_group (decl_group decl_kind c s.number 0)) s))
unfolding after declaring closed added joined
after_declaring decl_kind p c s =
    stage _ _ _ _ refl (
    let last : ℕ = s.number + p.width - 1 in
    let inner : Rows = p.rows (declaring_at c s.number) s.number in
    rw (
      append_assoc s.rows.decl_groups (decl_group decl_kind c s.number 0 ∷ []) inner.decl_groups,
      set_at s.rows.decl_groups (decl_group decl_kind c s.number 0) inner.decl_groups (decl_group decl_kind c s.number last) (length s.rows.decl_groups) refl,
    )
    (simp (append_assoc)))

pub after_each : {X : Type 0} (f : X → Fragment) (xs : List X) (x : X) (c : Context) (s : Stage) →
    after (each f (xs ++ x ∷ [])) c s ≡ after (f x) c (after (each f xs) c s)
after_each f [] x c s = rw (after_both, after_nothing, after_nothing) refl
after_each f (y ∷ xs) x c s =
    rw (after_both (f y) (each f (xs ++ x ∷ [])) c s, after_both (f y) (each f xs) c s) (after_each f xs x c (after (f y) c s))

pub each-map : {X Y : Type 0} (f : Y → Fragment) (g : X → Y) (xs : List X) → each f (map g xs) ≡ each (λ x. f (g x)) xs
each-map f g [] = refl
each-map f g (x ∷ xs) = ap (λ (p : Fragment). both (f (g x)) p) (each-map f g xs)

pub set_beyond : {X : Type 0} (xs : List X) (n : ℕ) (x : X) → length xs ≤ n → set xs n x ≡ xs
set_beyond [] n x h = refl
set_beyond (y ∷ ys) zero x h = absurd (omega (arith, h))
set_beyond (y ∷ ys) (suc n) x h = ap (λ (zs : List _). y ∷ zs) (set_beyond ys n x (omega (arith, h)))

pub number_of : (d : TableBuilder) → (stage_of d).number ≡ d.number
unfolding stage_of
number_of d = refl

pub declarers_of : (d : TableBuilder) → (stage_of d).rows.decl_groups ≡ d.decl_groups.items
unfolding stage_of
declarers_of d = refl

pub selectors_of : (d : TableBuilder) → (stage_of d).rows.selectors ≡ d.selectors.items
unfolding stage_of
selectors_of d = refl

pub added_number : (r : Rows) (s : Stage) → (added r s).number ≡ s.number
unfolding added
added_number r s = refl

pub ruleset steps = (number_of, declarers_of, append_assoc, after_nothing, after_token, after_both, after_tells, after_within)

-- an entry appended to one list, and to no other
pub ruleset growing = (append-nil, set_beyond)
