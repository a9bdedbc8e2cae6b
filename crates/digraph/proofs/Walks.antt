-- A walk with one more step.
use Rattle.std.proofs.Common.{◌≡◌, ℕ, zero, suc, ◌+◌, ◌-◌, ◌<◌, ◌≤◌, inl, inr, List, [], ◌∷◌, ◌++◌, length, refl, sym, ◌∙◌, ap, subst, arith, Bool, true, false, Option, Some, None, length-append, length-drop, take, drop, take_all}
use Rattle.std.specs.Prelude.{slice_index, slice_index_or, slice_set, nat_eq, replicate, All}
use Rattle.std.specs.List.{IsDistinct, list_any}
use Rattle.std.proofs.lemmas.Bool.{cases_eq, cases_lt, cases_Bool}
use Rattle.std.proofs.lemmas.List.{get_or_append_left, get_or_default, get_or-set_same, get_or-drop, get_or-set_other, length-set, take-append-drop}
use Rattle.std.proofs.lemmas.List.Elements.{All-append, All-drop, All-from_get_or, All-tail, All-take}
use Rattle.std.proofs.lemmas.Map.Keys.{IsDistinct-push}
use Rattle.std.proofs.lemmas.Map.Steps.{length-le_from_distinct_below}
use Rattle.std.proofs.lemmas.Map.Views.{exact_unsigned_eq, Contains-from_any}
use Rattle.std.proofs.lemmas.Cmp.{nat_eq_equiv}
use Rattle.std.proofs.Math.Seq.{get_or-append_seam}
use Rattle.digraph.specs.Cycle.{ClosesAt, IsLeast, IsSmallestSuccessor, IsRotated, IsWalk}
use Rattle.digraph.specs.Marks.{marked}
use Rattle.digraph.proofs.Settling.{marked_below}

-- the index that the table has for a node
abbrev pub index_in : List (Option ℕ) → ℕ → Option ℕ
index_in table v = slice_index_or table v None

-- a walk that continues at a node that it hasn't visited, with the indices of the nodes that it has visited
pub record Walking (Leads : ℕ → ℕ → Type 0) (s : ℕ → Bool) (walk : List ℕ) (table : List (Option ℕ)) (at : ℕ) : Type 0 where
  pub walked : IsWalk Leads s walk
  pub members : (k : ℕ) → k < length walk → s (slice_index walk k) ≡ true
  pub first : length walk ≡ 0 → IsLeast s at
  pub next : (n : ℕ) → n + 1 ≡ length walk → IsSmallestSuccessor Leads s (slice_index walk n) at
  pub member : s at ≡ true
  pub placed : (k : ℕ) → k < length walk → index_in table (slice_index walk k) ≡ Some k
  pub known : (v k : ℕ) → index_in table v ≡ Some k → (k < length walk) × (slice_index walk k ≡ v)
  pub unmet : index_in table at ≡ None

same_default : (xs : List ℕ) (k y : ℕ) → k < length xs → slice_index xs k ≡ slice_index_or xs k y
same_default xs k y l = get_or_default xs k 0 y l

-- a number that occurs at no index is not in the list
absent : (xs : List ℕ) (y : ℕ) → ((k : ℕ) → k < length xs → slice_index xs k ≡ y → ⊥) → list_any (nat_eq y) xs ≡ false
absent xs y none = elim (cases_Bool (list_any (nat_eq y) xs)) [
  | inl t ↦ let c = Contains-from_any exact_unsigned_eq y xs t in absurd (none c.0 c.1 (same_default xs c.0 y c.1 ∙ c.2))
  | inr f ↦ f
]

none_twice : IsDistinct nat_eq []
unfolding IsDistinct
none_twice = tt

no_place : (n v : ℕ) → index_in (replicate n None) v ≡ None
no_place zero v = refl
no_place (suc n) zero = refl
no_place (suc n) (suc v) = no_place n v

pub walking_first : (Leads : ℕ → ℕ → Type 0) (s : ℕ → Bool) (table : List (Option ℕ)) (n v : ℕ) → table ≡ replicate n None → IsLeast s v → Walking Leads s [] table v
walking_first Leads s table n v e least =
    let unmet : (u : ℕ) → index_in table u ≡ None = λ u. ap (λ (t : List (Option ℕ)). index_in t u) e ∙ no_place n u in
    record {
      walked = record {
        begins = λ l. absurd (omega arith);
        goes_on = λ k l. absurd (omega arith);
        once = none_twice;
      };
      members = λ k l. absurd (omega arith);
      first = λ _. least;
      next = λ k l. absurd (omega arith);
      member = least.member;
      placed = λ k l. absurd (omega arith);
      known = λ u k is. absurd (let bad : None ≡ Some k = sym (unmet u) ∙ is in cc);
      unmet = unmet v;
    }

-- the current node of the walk is at none of its indices
new_node : (Leads : ℕ → ℕ → Type 0) (s : ℕ → Bool) (walk : List ℕ) (table : List (Option ℕ)) (at : ℕ) → Walking Leads s walk table at
    → (k : ℕ) → k < length walk → slice_index walk k ≡ at → ⊥
new_node Leads s walk table at w k l is =
    let bad : None ≡ Some k = sym w.unmet ∙ ap (index_in table) (sym is) ∙ w.placed k l in
    cc

module _ (Leads : ℕ → ℕ → Type 0) (s : ℕ → Bool) (walk : List ℕ) (table : List (Option ℕ)) (at : ℕ) (w : Walking Leads s walk table at) where
  end : (k : ℕ) → k ≡ length walk → slice_index (walk ++ at ∷ []) k ≡ at
  end k e = rw e (get_or-append_seam walk at [] 0)

  old : (k : ℕ) → k < length walk → slice_index (walk ++ at ∷ []) k ≡ slice_index walk k
  old k l = get_or_append_left walk (at ∷ []) 0 k l

  -- the walk with its current node appended is a walk
  pub is_walk : IsWalk Leads s (walk ++ at ∷ [])
  is_walk =
      let long : length (walk ++ at ∷ []) ≡ length walk + 1 = length-append walk (at ∷ []) in
      record {
        begins = λ _. elim (cases_lt 0 (length walk)) [
          | inl some ↦ rw (old 0 some) (w.walked.begins some)
          | inr le ↦ let e : 0 ≡ length walk = omega arith in rw (end 0 e) (w.first (sym e))
        ];
        goes_on = λ k h. elim (cases_lt (k + 1) (length walk)) [
          | inl l ↦ let k' : k < length walk = omega arith in rw (old k k', old (k + 1) l) (w.walked.goes_on k l)
          | inr le ↦
              let k' : k < length walk = omega arith in
              let e : k + 1 ≡ length walk = omega arith in
              rw (old k k', end (k + 1) e) (w.next k e)
        ];
        once = IsDistinct-push nat_eq_equiv walk at w.walked.once (absent walk at (new_node Leads s walk table at w));
      }

  pub all_members : (k : ℕ) → k < length (walk ++ at ∷ []) → s (slice_index (walk ++ at ∷ []) k) ≡ true
  all_members k h =
      let long : length (walk ++ at ∷ []) ≡ length walk + 1 = length-append walk (at ∷ []) in
      elim (cases_lt k (length walk)) [
        | inl l ↦ rw (old k l) (w.members k l)
        | inr le ↦ let e : k ≡ length walk = omega arith in rw (end k e) w.member
      ]

  pub all_placed : at < length table → (k : ℕ) → k < length (walk ++ at ∷ []) → index_in (slice_set table at (Some (length walk))) (slice_index (walk ++ at ∷ []) k) ≡ Some k
  all_placed here k h =
      let long : length (walk ++ at ∷ []) ≡ length walk + 1 = length-append walk (at ∷ []) in
      elim (cases_lt k (length walk)) [
        | inl l ↦ rw (old k l) (get_or-set_other table at (slice_index walk k) (Some (length walk)) None (new_node Leads s walk table at w k l) ∙ w.placed k l)
        | inr le ↦ let e : k ≡ length walk = omega arith in rw (end k e) (get_or-set_same table at (Some (length walk)) None here ∙ ap (λ (n : ℕ). Some n) (sym e))
      ]

  pub all_known : at < length table → (v k : ℕ) → index_in (slice_set table at (Some (length walk))) v ≡ Some k → (k < length (walk ++ at ∷ [])) × (slice_index (walk ++ at ∷ []) k ≡ v)
  all_known here v k is =
      let long : length (walk ++ at ∷ []) ≡ length walk + 1 = length-append walk (at ∷ []) in
      elim (cases_eq v at) [
        | inl e ↦
            let own : index_in (slice_set table at (Some (length walk))) v ≡ Some (length walk) = ap (index_in (slice_set table at (Some (length walk)))) e ∙ get_or-set_same table at (Some (length walk)) None here in
            let both : Some (length walk) ≡ Some k = sym own ∙ is in
            let last : k ≡ length walk = cc in
            (omega arith, end k last ∙ sym e)
        | inr ne ↦
            let p = w.known v k (sym (get_or-set_other table at v (Some (length walk)) None ne) ∙ is) in
            let l : k < length walk = p.0 in
            (omega arith, old k l ∙ p.1)
      ]

  pub last_leads : (y n : ℕ) → IsSmallestSuccessor Leads s at y → n + 1 ≡ length (walk ++ at ∷ []) → IsSmallestSuccessor Leads s (slice_index (walk ++ at ∷ []) n) y
  last_leads y n next e =
      let long : length (walk ++ at ∷ []) ≡ length walk + 1 = length-append walk (at ∷ []) in
      let last : n ≡ length walk = omega arith in
      rw (end n last) next

  -- the walk continues
  pub walking_more : (y : ℕ) → at < length table → IsSmallestSuccessor Leads s at y → index_in (slice_set table at (Some (length walk))) y ≡ None
      → Walking Leads s (walk ++ at ∷ []) (slice_set table at (Some (length walk))) y
  walking_more y here next unmet =
      let long : length (walk ++ at ∷ []) ≡ length walk + 1 = length-append walk (at ∷ []) in
      record {
        walked = is_walk;
        members = all_members;
        first = λ e. absurd (omega arith);
        next = λ n e. last_leads y n next e;
        member = next.member;
        placed = all_placed here;
        known = all_known here;
        unmet = unmet;
      }

  -- the walk closes a cycle
  pub walking_back : (y k : ℕ) → at < length table → IsSmallestSuccessor Leads s at y → index_in (slice_set table at (Some (length walk))) y ≡ Some k → ClosesAt Leads s (walk ++ at ∷ []) k
  walking_back y k here next met =
      let p = all_known here y k met in
      record {
        walked = is_walk;
        place = p.0;
        back = λ n e. rw p.1 (last_leads y n next e);
      }

-- a walk has at most as many nodes as the graph
pub walking_length : (marks : List Bool) (walk : List ℕ) → IsDistinct nat_eq walk → ((k : ℕ) → k < length walk → marked marks (slice_index walk k) ≡ true) → length walk ≤ length marks
walking_length marks walk once members = length-le_from_distinct_below walk (length marks) once (λ q t.
    let c = Contains-from_any exact_unsigned_eq q walk t in
    let is : slice_index walk c.0 ≡ q = same_default walk c.0 q c.1 ∙ c.2 in
    marked_below marks q (ap (marked marks) (sym is) ∙ members c.0 c.1))

-- the whole of what is left
pub rest_whole : (xs : List ℕ) (p : ℕ) → take (length xs - p) (drop p xs) ≡ drop p xs
rest_whole xs p = rw (← length-drop p xs) (take_all (length (drop p xs)) (drop p xs) (omega arith))

pub table_read : (table : List (Option ℕ)) (v : ℕ) (o : Option ℕ) → o ≡ slice_index_or table v o → v < length table → index_in table v ≡ o
table_read table v o is l = get_or_default table v None o l ∙ sym is

module _ (Leads : ℕ → ℕ → Type 0) (s : ℕ → Bool) (walk : List ℕ) (table : List (Option ℕ)) (at : ℕ) (w : Walking Leads s walk table at) where
  -- the state after a step that pushes the current node and finds no index for the next one
  pub step_more : (new : List ℕ) (n y : ℕ) (r : Option ℕ) → new ≡ walk ++ at ∷ [] → n ≡ length walk → at < length table → y < length table → IsSmallestSuccessor Leads s at y
      → r ≡ slice_index_or (slice_set table at (Some n)) y r → r ≡ None → Walking Leads s new (slice_set table at (Some n)) y
  step_more new n y r pushed counted here there next read is =
      let in_table : y < length (slice_set table at (Some n)) = (let e = length-set table at (Some n) in omega arith) in
      let unmet : index_in (slice_set table at (Some n)) y ≡ None = table_read (slice_set table at (Some n)) y r read in_table ∙ is in
      subst (λ (ws : List ℕ). Walking Leads s ws (slice_set table at (Some n)) y) (sym pushed)
      (subst (λ (m : ℕ). Walking Leads s (walk ++ at ∷ []) (slice_set table at (Some m)) y) (sym counted)
      (walking_more Leads s walk table at w y here next (subst (λ (m : ℕ). index_in (slice_set table at (Some m)) y ≡ None) counted unmet)))

  pub step_back : (new : List ℕ) (n y k : ℕ) (r : Option ℕ) → new ≡ walk ++ at ∷ [] → n ≡ length walk → at < length table → y < length table → IsSmallestSuccessor Leads s at y
      → r ≡ slice_index_or (slice_set table at (Some n)) y r → r ≡ Some k → ClosesAt Leads s new k
  step_back new n y k r pushed counted here there next read is =
      let in_table : y < length (slice_set table at (Some n)) = (let e = length-set table at (Some n) in omega arith) in
      let met : index_in (slice_set table at (Some n)) y ≡ Some k = table_read (slice_set table at (Some n)) y r read in_table ∙ is in
      subst (λ (ws : List ℕ). ClosesAt Leads s ws k) (sym pushed)
      (walking_back Leads s walk table at w y k here next (subst (λ (m : ℕ). index_in (slice_set table at (Some m)) y ≡ Some k) counted met))

  pub new_members : (new : List ℕ) → new ≡ walk ++ at ∷ [] → All (λ m. s m ≡ true) new
  new_members new pushed = rw pushed (All-from_get_or (λ m. s m ≡ true) (walk ++ at ∷ []) 0 (all_members Leads s walk table at w))

-- a table that is all None
pub walking_start : (Leads : ℕ → ℕ → Type 0) (s : ℕ → Bool) (walk : List ℕ) (table : List (Option ℕ)) (n v : ℕ) → walk ≡ [] → table ≡ replicate n None → IsLeast s v → Walking Leads s walk table v
walking_start Leads s walk table n v none e least = subst (λ (ws : List ℕ). Walking Leads s ws table v) (sym none) (walking_first Leads s table n v e least)

pub none_cloned : (table : List (Option ℕ)) (n : ℕ) (Cloned : Option ℕ → Type 0) → (((y : Option ℕ) → Cloned y → y ≡ None) → table ≡ replicate n None) → ((x : ℕ) → Cloned (Some x) → ⊥) → table ≡ replicate n None
none_cloned table n Cloned all differs = all (λ y. from_clone Cloned differs y)
  where
    from_clone : (Cloned : Option ℕ → Type 0) → ((x : ℕ) → Cloned (Some x) → ⊥) → (y : Option ℕ) → Cloned y → y ≡ None
    from_clone Cloned differs None h = refl
    from_clone Cloned differs (Some x) h = absurd (differs x h)

-- a property of all elements of a list holds for its parts
pub All-prefix : (P : ℕ → Type 0) (xs ys : List ℕ) → All P (xs ++ ys) → All P xs
All-prefix P xs ys all k d l = subst P (get_or_append_left xs ys d k l) (all k d (let e = length-append xs ys in omega arith))

pub All-back : (P : ℕ → Type 0) (xs ys : List ℕ) → All P (xs ++ ys) → All P ys
All-back P [] ys all = all
All-back P (x ∷ xs) ys all = All-back P xs ys (All-tail P x (xs ++ ys) all)

-- a property of all elements of a list holds for the rotated list
pub All-rotated : (P : ℕ → Type 0) (loop rotated : List ℕ) → IsRotated loop rotated → All P loop → All P rotated
All-rotated P loop rotated t all =
    let whole : All P (t.prefix ++ t.rest) = subst (All P) t.whole all in
    subst (All P) (sym t.rotate_to_min) (All-append P t.rest t.prefix (All-back P t.prefix t.rest whole) (All-prefix P t.prefix t.rest whole))

-- the list is rotated at the index of its smallest number
pub turned_at : (loop rotated : List ℕ) (place : ℕ) → place < length loop → ((k : ℕ) → k < length loop → slice_index loop place ≤ slice_index loop k) → rotated ≡ drop place loop ++ take place loop
    → IsRotated loop rotated
turned_at loop rotated place within least is =
    let P : ℕ → Type 0 = λ x. slice_index loop place ≤ x in
    let some : 0 < length (drop place loop) = (let e = length-drop place loop in omega arith) in
    let first : slice_index rotated 0 ≡ slice_index loop place =
    ap (λ (l : List ℕ). slice_index l 0) is ∙ get_or_append_left (drop place loop) (take place loop) 0 0 some ∙ get_or-drop place loop 0 0 ∙ ap (slice_index loop) (omega arith) in
    let all : All P loop = All-from_get_or P loop 0 least in
    let each : All P rotated = subst (All P) (sym is) (All-append P (drop place loop) (take place loop) (All-drop P place loop all) (All-take P place loop all)) in
    record {
      prefix = take place loop;
      rest = drop place loop;
      whole = sym (take-append-drop place loop);
      rotate_to_min = is;
      least = λ k l. subst (λ (n : ℕ). n ≤ slice_index rotated k) (sym first) (each k 0 l);
    }
