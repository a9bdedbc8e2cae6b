-- The bindings after one step.
use Rattle.std.proofs.Common.{◌≡◌, ℕ, zero, suc, ◌+◌, ◌<◌, ◌≤◌, List, [], ◌∷◌, ◌++◌, length, get_or, Option, Some, None, refl, sym, ap, ◌∙◌, subst, arith}
use Rattle.std.specs.Prelude.{slice_get, slice_index, slice_index_or, slice_set, IfNone, IfSome}
use Rattle.std.proofs.lemmas.List.{get_or_default, length-set}
use Rattle.std.proofs.lemmas.Option.{slice_get-get_or, get_or_from_slice_get}
use Rattle.module_table.specs.declared.rows.Block.{Block}
use Rattle.module_table.specs.Order.{IsIncreasingBy}
use Rattle.scopes.specs.declared.members.Member.{Member}
use Rattle.text_hash.specs.declared.name.Name.{Name}
use Rattle.scopes.specs.declared.members.Scope.TheVariants as locations
use Rattle.ob_scope.specs.declared.scope_stack.ScopeStack.{ScopeStack}
use Rattle.ob_scope.specs.declared.bindings.Bindings.{Bindings}
use Rattle.ob_scope.specs.Lookups.{use_in, IsResolved}
use Rattle.scopes.specs.Scope.{ResolvesToNothing}
use Rattle.ob_scope.specs.BindingStates.{IsPrefixBefore, AreBindings}
use Rattle.ob_scope.specs.Visibility.{name_number, AreInterned, AreVisible, Enters, IsIn, IsNamedAt, IsOpen, IsOpenScope, IsStart}
use Rattle.ob_scope.proofs.Opening.{open_ascend, open_none}
use Rattle.ob_scope.proofs.Sighting.{resolved_found, resolved_none, resolved_unnamed, seen_bind, seen_enter, seen_field, seen_none, seen_start}

module _ (blocks : List Block) (members : List Member) (numbers : List ℕ) (names : ℕ) where
  -- bindings from their fields
  sight_of : (t : Bindings) (scope_stack : ScopeStack) (next : ℕ) (latest earlier : List (Option ℕ)) → t.«open» ≡ scope_stack → t.next ≡ next → t.latest.items ≡ latest → t.earlier.items ≡ earlier
      → length latest ≡ names → length earlier ≡ length members → next ≤ length members → IsOpen blocks scope_stack.stack.items scope_stack.watermark
      → AreVisible blocks members numbers scope_stack.stack.items scope_stack.watermark next latest earlier → AreBindings blocks members numbers names t
  sight_of t scope_stack next latest earlier is_open is_next is_latest is_earlier named as_many few begun seen = record {
    named = ap length is_latest ∙ named;
    as_many = ap length is_earlier ∙ as_many;
    few = subst (λ (j : ℕ). j ≤ length members) (sym is_next) few;
    scope_stack = subst (λ (o : ScopeStack). IsOpen blocks o.stack.items o.watermark) (sym is_open) begun;
    seen = subst (λ (o : ScopeStack). AreVisible blocks members numbers o.stack.items o.watermark t.next t.latest.items t.earlier.items) (sym is_open)
        (subst (λ (j : ℕ). AreVisible blocks members numbers scope_stack.stack.items scope_stack.watermark j t.latest.items t.earlier.items) (sym is_next)
        (subst (λ (xs : List (Option ℕ)). AreVisible blocks members numbers scope_stack.stack.items scope_stack.watermark next xs t.earlier.items) (sym is_latest)
        (subst (λ (ys : List (Option ℕ)). AreVisible blocks members numbers scope_stack.stack.items scope_stack.watermark next latest ys) (sym is_earlier) seen)));
  }

  -- nothing is declared, and no block open
  pub sight_none : (t : Bindings) → t.«open».stack.items ≡ [] → t.next ≡ 0 → length t.latest.items ≡ names → length t.earlier.items ≡ length members
      → ((n : ℕ) → slice_index_or t.latest.items n None ≡ None) → ((i : ℕ) → slice_index_or t.earlier.items i None ≡ None) → AreBindings blocks members numbers names t
  sight_none t empty start named as_many no_latest no_earlier = record {
    named = named;
    as_many = as_many;
    few = omega (arith, start);
    scope_stack = record { chain = rw empty (open_none blocks); begun = λ b has. absurd (let l : has.0 < length t.«open».stack.items = has.1 in let e : length t.«open».stack.items ≡ 0 = ap length empty in omega arith) };
    seen = rw start (seen_none blocks members numbers t.«open».stack.items t.«open».watermark t.latest.items t.earlier.items no_latest no_earlier);
  }

  -- another block is entered
  sight_entered : (s t : Bindings) (block : ℕ) (scope_stack : ScopeStack) → AreBindings blocks members numbers names s → Enters blocks block s.«open».stack.items s.«open».watermark scope_stack.stack.items scope_stack.watermark
      → t.«open» ≡ scope_stack → t.next ≡ s.next → t.latest.items ≡ s.latest.items → t.earlier.items ≡ s.earlier.items → AreBindings blocks members numbers names t
  sight_entered s t block scope_stack h e is_open is_next is_latest is_earlier =
      sight_of t scope_stack s.next s.latest.items s.earlier.items is_open is_next is_latest is_earlier h.named h.as_many h.few e.scope_stack
      (seen_enter blocks members numbers s.«open».stack.items scope_stack.stack.items s.«open».watermark scope_stack.watermark s.next s.latest.items s.earlier.items e.kept e.later h.seen)

  -- another member becomes the latest one of a name
  sight_start : (s t : Bindings) (n : ℕ) (at : Option ℕ) → AreBindings blocks members numbers names s → n < names → IsStart members numbers s.«open».stack.items s.next n at
      → t.«open» ≡ s.«open» → t.next ≡ s.next → t.latest.items ≡ slice_set s.latest.items n at → t.earlier.items ≡ s.earlier.items → AreBindings blocks members numbers names t
  sight_start s t n at h within start is_open is_next is_latest is_earlier =
      sight_of t s.«open» s.next (slice_set s.latest.items n at) s.earlier.items is_open is_next is_latest is_earlier (length-set s.latest.items n at ∙ h.named) h.as_many h.few h.scope_stack
      (seen_start blocks members numbers s.«open».stack.items s.«open».watermark s.next s.latest.items s.earlier.items h.seen n at (let e = h.named in omega arith) start)

  -- a field is declared
  pub sight_field : (s t : Bindings) (d : Member) → AreBindings blocks members numbers names s → s.next < length members → ((b : ℕ) → (get_or members s.next d).place ≡ locations.Block b → ⊥)
      → t.«open» ≡ s.«open» → t.next ≡ s.next + 1 → t.latest.items ≡ s.latest.items → t.earlier.items ≡ s.earlier.items → AreBindings blocks members numbers names t
  sight_field s t d h within none is_open is_next is_latest is_earlier =
      sight_of t s.«open» (s.next + 1) s.latest.items s.earlier.items is_open is_next is_latest is_earlier h.named h.as_many (omega arith) h.scope_stack
      (seen_field blocks members numbers s.«open».stack.items s.«open».watermark s.next s.latest.items s.earlier.items h.seen
      (λ b p. none b (ap (λ (m : Member). m.place) (get_or_from_slice_get members s.next p.member d p.there) ∙ p.placed)))

  -- a member is declared in a block that is entered
  pub sight_bound : (s t : Bindings) (d : Member) (block : ℕ) (scope_stack : ScopeStack) → IsIncreasingBy (λ (b : Block). b.first) blocks → AreBindings blocks members numbers names s → s.next < length members → slice_index numbers s.next < names
      → (get_or members s.next d).place ≡ locations.Block block → Enters blocks block s.«open».stack.items s.«open».watermark scope_stack.stack.items scope_stack.watermark
      → t.«open» ≡ scope_stack → t.next ≡ s.next + 1 → t.latest.items ≡ slice_set s.latest.items (slice_index numbers s.next) (Some s.next)
      → t.earlier.items ≡ slice_set s.earlier.items s.next (slice_index_or s.latest.items (slice_index numbers s.next) None) → AreBindings blocks members numbers names t
  sight_bound s t d block scope_stack sorted h within numbered placed e is_open is_next is_latest is_earlier =
      let n = slice_index numbers s.next in
      let named = h.named in
      let as_many = h.as_many in
      let here : IsIn members s.next block = record { member = get_or members s.next d; there = slice_get-get_or members s.next d within; placed = placed } in
      sight_of t scope_stack (s.next + 1) (slice_set s.latest.items n (Some s.next)) (slice_set s.earlier.items s.next (slice_index_or s.latest.items n None)) is_open is_next is_latest is_earlier
      (length-set s.latest.items n (Some s.next) ∙ named) (length-set s.earlier.items s.next (slice_index_or s.latest.items n None) ∙ as_many) (omega arith) e.scope_stack
      (seen_bind blocks members numbers scope_stack.stack.items scope_stack.watermark s.next s.latest.items s.earlier.items
      (seen_enter blocks members numbers s.«open».stack.items scope_stack.stack.items s.«open».watermark scope_stack.watermark s.next s.latest.items s.earlier.items e.kept e.later h.seen)
      sorted e.scope_stack block e.innermost here (omega arith) (omega arith))

  -- the preconditions of the walk along candidates
  start_within : (s : Bindings) (n : ℕ) → AreBindings blocks members numbers names s → IfSome (slice_index_or s.latest.items n None) (λ i. i < length members)
  start_within s n h = go (slice_index_or s.latest.items n None) (h.seen.starts n).some
    where
      go : (o : Option ℕ) → ((x : ℕ) → o ≡ Some x → IsNamedAt members numbers s.next n x) → IfSome o (λ i. i < length members)
      go None f = tt
      go (Some x) f = let l : x < s.next = (f x refl).below in let few = h.few in omega arith

  falls : (s : Bindings) (i x : ℕ) → AreBindings blocks members numbers names s → slice_index_or s.earlier.items i None ≡ Some x → x < i
  falls s i x h e = (h.seen.older i x e).below

-- ---- look-up

pub none_push : (xs : List (Option ℕ)) → ((k : ℕ) → slice_index_or xs k None ≡ None) → (k : ℕ) → slice_index_or (xs ++ None ∷ []) k None ≡ None
none_push [] h zero = refl
none_push [] h (suc k) = refl
none_push (x ∷ xs) h zero = h zero
none_push (x ∷ xs) h (suc k) = none_push xs (λ j. h (suc j)) k

-- from one head of candidates to another head, for every visible member
abbrev pub Walks : List Member → List ℕ → List (Option ℕ) → Option ℕ → Option ℕ → Type 0
Walks members stack earlier from at =
    (bs : List Block) (ns : List ℕ) (watermark j k : ℕ) (latest : List (Option ℕ)) → AreVisible bs members ns stack watermark j latest earlier → IsStart members ns stack j k from → IsStart members ns stack j k at

walk_by : (members : List Member) (st su : List ℕ) (ea eb : List (Option ℕ)) (from start at : Option ℕ) → st ≡ su → ea ≡ eb → from ≡ start → Walks members st ea from at → Walks members su eb start at
walk_by members st su ea eb from start at e f g h =
    subst (λ (x : List ℕ). Walks members x eb start at) e (subst (λ (y : List (Option ℕ)). Walks members st y start at) f (subst (λ (z : Option ℕ). Walks members st ea z at) g h))

-- a name is looked up: the members before it are declared, and its block is entered
pub record IsLookUp (name : ℕ → List ℕ) (blocks : List Block) (members : List Member) (names : List Name) (numbers : List ℕ) (block token : ℕ) (s : Bindings) (scope_stack : ScopeStack) : Type 0 where
  pub numbered : AreInterned name members names numbers
  pub sorted : IsIncreasingBy (λ (b : Block). b.first) blocks
  pub bindings : AreBindings blocks members numbers (length names) s
  pub prefix : IsPrefixBefore members s.next token
  pub entered : Enters blocks block s.«open».stack.items s.«open».watermark scope_stack.stack.items scope_stack.watermark

module _ {name : ℕ → List ℕ} {blocks : List Block} {members : List Member} {names : List Name} {numbers : List ℕ} {block token : ℕ} {s : Bindings} {scope_stack : ScopeStack} (l : IsLookUp name blocks members names numbers block token s scope_stack) where
  seen : AreVisible blocks members numbers scope_stack.stack.items scope_stack.watermark s.next s.latest.items s.earlier.items
  seen = let e = l.entered in seen_enter blocks members numbers s.«open».stack.items scope_stack.stack.items s.«open».watermark scope_stack.watermark s.next s.latest.items s.earlier.items e.kept e.later l.bindings.seen

  pub look_same : (t : Bindings) → t.«open» ≡ scope_stack → t.next ≡ s.next → t.latest.items ≡ s.latest.items → t.earlier.items ≡ s.earlier.items → AreBindings blocks members numbers (length names) t
  look_same t is_open is_next is_latest is_earlier = sight_entered blocks members numbers (length names) s t block scope_stack l.bindings l.entered is_open is_next is_latest is_earlier

  pub look_unnamed : length names ≤ name_number names (name token) → ResolvesToNothing name blocks members (use_in block token)
  look_unnamed past =
      let e = l.entered in
      resolved_unnamed name blocks members names numbers l.numbered scope_stack.stack.items scope_stack.watermark s.next s.latest.items s.earlier.items seen l.sorted e.scope_stack block token e.innermost l.prefix past

  pub look_ascend : IsIncreasingBy (λ (b : ℕ). b) scope_stack.stack.items
  look_ascend = let e = l.entered in open_ascend blocks scope_stack.stack.items e.scope_stack.chain

  -- the latest candidate of a name, as it is read
  look_read : (n : ℕ) (read : Option ℕ) → n < length names → read ≡ get_or s.latest.items n read → slice_index_or s.latest.items n None ≡ read
  look_read n read within is = get_or_default s.latest.items n None read (let named = l.bindings.named in omega arith) ∙ sym is

  pub look_within : (n : ℕ) (read : Option ℕ) → n < length names → read ≡ get_or s.latest.items n read → IfSome read (λ i. i < length members)
  look_within n read within is =
      subst (λ (o : Option ℕ). IfSome o (λ i. i < length members)) (look_read n read within is) (start_within blocks members numbers (length names) s n l.bindings)

  pub look_falls : (earlier : List (Option ℕ)) (i x : ℕ) → earlier ≡ s.earlier.items → slice_index_or earlier i None ≡ Some x → x < i
  look_falls earlier i x is e = falls blocks members numbers (length names) s i x l.bindings (sym (ap (λ (xs : List (Option ℕ)). slice_index_or xs i None) is) ∙ e)

  -- the walk along candidates ends at a head of candidates
  pub look_start : (stack : List ℕ) (earlier : List (Option ℕ)) (n : ℕ) (read at : Option ℕ) → stack ≡ scope_stack.stack.items → earlier ≡ s.earlier.items
      → n < length names → read ≡ get_or s.latest.items n read → Walks members stack earlier read at → IsStart members numbers scope_stack.stack.items s.next n at
  look_start stack earlier n read at is_stack is_earlier within is walk =
      walk_by members stack scope_stack.stack.items earlier s.earlier.items read (slice_index_or s.latest.items n None) at is_stack is_earlier (sym (look_read n read within is)) walk
      blocks numbers scope_stack.watermark s.next n s.latest.items seen (seen.starts n)

  pub look_sight : (t : Bindings) (n : ℕ) (at : Option ℕ) → n < length names → IsStart members numbers scope_stack.stack.items s.next n at
      → t.«open» ≡ scope_stack → t.next ≡ s.next → t.latest.items ≡ slice_set s.latest.items n at → t.earlier.items ≡ s.earlier.items → AreBindings blocks members numbers (length names) t
  look_sight t n at within start is_open is_next is_latest is_earlier =
      let entered : Bindings = record s { «open» = scope_stack } in
      sight_start blocks members numbers (length names) entered t n at (look_same entered refl refl refl refl) within start is_open is_next is_latest is_earlier

  pub look_found : (n : ℕ) (at : Option ℕ) → n ≡ name_number names (name token) → IsStart members numbers scope_stack.stack.items s.next n at
      → IfSome at (λ i. (m : Member) × (slice_get members i ≡ Some m) × IsOpenScope scope_stack.stack.items m.place) → IfSome at (IsResolved name blocks members block token)
  look_found n None is start shown = tt
  look_found n (Some i) is start shown =
      let e = l.entered in
      resolved_found name blocks members names numbers l.numbered scope_stack.stack.items scope_stack.watermark s.next s.latest.items s.earlier.items seen l.sorted e.scope_stack block token e.innermost l.prefix i
      (subst (λ (k : ℕ). IsStart members numbers scope_stack.stack.items s.next k (Some i)) is start) shown

  pub look_none : (n : ℕ) (at : Option ℕ) → n ≡ name_number names (name token) → IsStart members numbers scope_stack.stack.items s.next n at → IfNone at (ResolvesToNothing name blocks members (use_in block token))
  look_none n (Some i) is start = tt
  look_none n None is start =
      let e = l.entered in
      resolved_none name blocks members names numbers l.numbered scope_stack.stack.items scope_stack.watermark s.next s.latest.items s.earlier.items seen l.sorted e.scope_stack block token e.innermost l.prefix
      (subst (λ (k : ℕ). IsStart members numbers scope_stack.stack.items s.next k None) is start)

-- bindings with equal fields
pub sight_as : (blocks : List Block) (members : List Member) (ns ms : List ℕ) (a b : ℕ) (s : Bindings) → ns ≡ ms → a ≡ b → AreBindings blocks members ns a s → AreBindings blocks members ms b s
sight_as blocks members ns ms a b s e f h = subst (λ (x : ℕ). AreBindings blocks members ms x s) f (subst (λ (xs : List ℕ). AreBindings blocks members xs a s) e h)
