-- Members of one name whose scopes start in increasing order.
use Rattle.std.proofs.Common.{◌≡◌, ℕ, ◌+◌, ◌<◌, ◌≤◌, List, [], ◌∷◌, ◌++◌, length, take, get_or, Some, sym, ap, ◌∙◌, subst, arith, ⊎_elim}
use Rattle.std.specs.Prelude.{slice_get, slice_index, slice_set}
use Rattle.std.proofs.lemmas.Bool.{cases_lt}
use Rattle.std.proofs.lemmas.List.{get_or-set_same, get_or-set_other, get_or_append_left}
use Rattle.std.proofs.lemmas.Option.{slice_get_within}
use Rattle.ob_scope.specs.declared.distinct.StartBounds.{StartBounds}
use Rattle.scopes.specs.declared.members.Member.{Member}
use Rattle.scopes.specs.declared.members.Scope.{Scope}
use Rattle.text_hash.specs.declared.name.Name.{Name}
use Rattle.ob_scope.specs.Distinct.{IsBelowBound}
use Rattle.scopes.specs.Scope.{AreDuplicates, HasNoDuplicates}
use Rattle.ob_scope.specs.Visibility.{name_number, AreInterned}
use Rattle.ob_scope.proofs.Keyed.{get_front}
use Rattle.ob_scope.proofs.Numberings.{last_number}

-- of the first i members, the scopes of each name are below its bounds, and no two members are duplicates
pub record AreApart (name : ℕ → List ℕ) (members : List Member) (numbers : List ℕ) (passed : List StartBounds) (i : ℕ) : Type 0 where
  pub reached : (k : ℕ) (m : Member) (d : StartBounds) → k < i → slice_get members k ≡ Some m → IsBelowBound (get_or passed (slice_index numbers k) d) m.place
  pub once : (a b : ℕ) (f g : Member) → a < b → b < i → slice_get members a ≡ Some f → slice_get members b ≡ Some g → AreDuplicates name f g → ⊥

module _ (name : ℕ → List ℕ) (members : List Member) where
  pub apart_none : (numbers : List ℕ) (passed : List StartBounds) → AreApart name members numbers passed 0
  apart_none numbers passed = record {
    reached = λ k m d l e. absurd (omega arith);
    once = λ a b f g l less p q t. absurd (omega arith);
  }

  -- one more name number, which no member has yet
  longer : (numbers : List ℕ) (n : ℕ) (passed : List StartBounds) (i : ℕ) → length numbers ≡ i → AreApart name members numbers passed i → AreApart name members (numbers ++ n ∷ []) passed i
  longer numbers n passed i long h = record {
    reached = λ k m d l e. subst (λ (x : ℕ). IsBelowBound (get_or passed x d) m.place) (sym (get_or_append_left numbers (n ∷ []) 0 k (omega (arith, l, long)))) (h.reached k m d l e);
    once = h.once;
  }

  module _ (names : List Name) (numbers : List ℕ) (i : ℕ) (numbered : AreInterned name (take (i + 1) members) names numbers) where
    apart_at : (passed : List StartBounds) (m : Member) (d next : StartBounds) (n : ℕ) → AreApart name members numbers passed i → length names ≤ length passed → slice_get members i ≡ Some m → slice_index numbers i ≡ n
        → (IsBelowBound (get_or passed n d) m.place → ⊥) → IsBelowBound next m.place → ((p : Scope) → IsBelowBound (get_or passed n d) p → IsBelowBound next p)
        → AreApart name members numbers (slice_set passed n next) (i + 1)
    apart_at passed m d next n h long at is new here kept = record {
      reached = reached_at;
      once = λ a b f g l less p q t. ⊎_elim
          (λ (below : b < i). h.once a b f g l below p q t)
          (λ (past : i ≤ b). (
          let same : b ≡ i = omega arith in
          let last : g ≡ m = (let s : Some g ≡ Some m = sym q ∙ ap (slice_get members) same ∙ at in cc) in
          let number : slice_index numbers a ≡ n =
          numbered.each a f (get_front name members (i + 1) a f (omega arith) p) ∙ ap (name_number names) (t.1 ∙ ap (λ (y : Member). name y.number) last) ∙ sym (numbered.each i m there) ∙ is
          in
          let earlier : IsBelowBound (get_or passed (slice_index numbers a) d) f.place = h.reached a f d (omega arith) p in
          new (subst (λ (x : ℕ). IsBelowBound (get_or passed x d) m.place) number (subst (λ (s : Scope). IsBelowBound (get_or passed (slice_index numbers a) d) s) (t.0 ∙ ap (λ (y : Member). y.place) last) earlier))))
          (cases_lt b i);
    }
      where
        there : slice_get (take (i + 1) members) i ≡ Some m
        there = get_front name members (i + 1) i m (omega arith) at

        within : n < length passed
        within = let w : slice_index numbers i < length names = numbered.within i m there in omega (arith, w, long, is)

        at_number : (j : ℕ) (e : StartBounds) → j ≡ n → get_or (slice_set passed n next) j e ≡ next
        at_number j e same = ap (λ (x : ℕ). get_or (slice_set passed n next) x e) same ∙ get_or-set_same passed n next e within

        elsewhere : (j : ℕ) (e : StartBounds) (p : Scope) → (j ≡ n → ⊥) → IsBelowBound (get_or passed j e) p → IsBelowBound (get_or (slice_set passed n next) j e) p
        elsewhere j e p distinct was = subst (λ (r : StartBounds). IsBelowBound r p) (sym (get_or-set_other passed n j next e distinct)) was

        raised : (j : ℕ) (e : StartBounds) (p : Scope) → j ≡ n → IsBelowBound (get_or passed j d) p → IsBelowBound (get_or (slice_set passed n next) j e) p
        raised j e p same was = subst (λ (r : StartBounds). IsBelowBound r p) (sym (at_number j e same)) (kept p (subst (λ (x : ℕ). IsBelowBound (get_or passed x d) p) same was))

        front_at : (k : ℕ) (x : Member) (e : StartBounds) → k < i → slice_get members k ≡ Some x → IsBelowBound (get_or (slice_set passed n next) (slice_index numbers k) e) x.place
        front_at k x e l there = ⊎_elim
            (λ (below : slice_index numbers k < n). elsewhere (slice_index numbers k) e x.place (λ s. omega (arith, below, s)) (h.reached k x e l there))
            (λ (above : n ≤ slice_index numbers k).
            ⊎_elim
            (λ (more : n < slice_index numbers k). elsewhere (slice_index numbers k) e x.place (λ s. omega (arith, more, s)) (h.reached k x e l there))
            (λ (less : slice_index numbers k ≤ n). raised (slice_index numbers k) e x.place (omega (arith, above, less)) (h.reached k x d l there))
            (cases_lt n (slice_index numbers k)))
            (cases_lt (slice_index numbers k) n)

        reached_at : (k : ℕ) (x : Member) (e : StartBounds) → k < i + 1 → slice_get members k ≡ Some x → IsBelowBound (get_or (slice_set passed n next) (slice_index numbers k) e) x.place
        reached_at k x e l there = ⊎_elim
            (λ (prefix : k < i). front_at k x e prefix there)
            (λ (past : i ≤ k). (
            let same : k ≡ i = omega arith in
            let last : m ≡ x = (let s : Some m ≡ Some x = sym at ∙ ap (slice_get members) (sym same) ∙ there in cc) in
            subst (λ (r : StartBounds). IsBelowBound r x.place) (sym (at_number (slice_index numbers k) e (ap (slice_index numbers) same ∙ is)))
            (subst (λ (y : Member). IsBelowBound next y.place) last here)))
            (cases_lt k i)

  -- one more member, whose name has this number
  pub apart_more : (names : List Name) (numbers later : List ℕ) (passed : List StartBounds) (i n : ℕ) (m : Member) (d next : StartBounds) → AreApart name members numbers passed i → length numbers ≡ i → later ≡ numbers ++ n ∷ []
      → AreInterned name (take (i + 1) members) names later → length names ≤ length passed → slice_get members i ≡ Some m
      → (IsBelowBound (get_or passed n d) m.place → ⊥) → IsBelowBound next m.place → ((p : Scope) → IsBelowBound (get_or passed n d) p → IsBelowBound next p)
      → AreApart name members later (slice_set passed n next) (i + 1)
  apart_more names numbers later passed i n m d next h long is numbered few at new here kept =
      apart_at names later i numbered passed m d next n (rw is (longer numbers n passed i long h)) few at
      (last_number numbers later i n long is) new here kept

pub apart_all : (name : ℕ → List ℕ) (members : List Member) (numbers : List ℕ) (passed : List StartBounds) (i : ℕ) → AreApart name members numbers passed i → length members ≤ i → HasNoDuplicates name members
apart_all name members numbers passed i h past = λ a b f g l p q t. (let w = slice_get_within members b g q in h.once a b f g l (omega arith) p q t)
