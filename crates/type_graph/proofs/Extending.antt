-- Records and their bases.
use Rattle.std.proofs.Common.{◌≡◌, ℕ, zero, suc, ◌+◌, List, [], Bool, true, false, Option, Some, None, refl, sym, ap, ◌∙◌, subst, arith, cond, Bor, ◌⊎◌, inl, inr}
use Rattle.std.specs.Map.{lookup}
use Rattle.std.specs.Option.{option_copied}
use Rattle.std.specs.Str.{bytes_eq}
use Rattle.std.proofs.lemmas.Slice.Eq.{bytes_eq-Decides}
use Rattle.indexmap.specs.IndexMap.{get, IndexMap}
use Rattle.std.specs.Prelude.{◌&&◌, IfNone, IfSome}
use Rattle.std.specs.List.{All, list_any}
use Rattle.std.proofs.lemmas.List.Elements.{All-push}
use Rattle.std.proofs.lemmas.List.Folds.{Any-from_list_any}
use Rattle.text_hash.specs.declared.name.Name.{Name}
use Rattle.type_graph.specs.declared.shape.Shape.{Shape}
use Rattle.type_graph.specs.Searches.{IsRevisited}
use Rattle.type_graph.specs.declared.memo.MemoTable.{MemoTable}
use Rattle.type_graph.specs.Memoized.{IsMemoized, Adds}
use Rattle.type_graph.specs.Link.{IsTypeEnd, TypeLeadsTo}
use Rattle.type_graph.specs.Progress.{marked, unmarked, IsVisited}
use Rattle.type_graph.specs.Extending.{shape_record, base_field, own_field, risen, revisited, Extends, Has, HasField, AreParents, AreFieldsOf, AreFieldsMemoized, IsParent, IsFieldIn, IsNextParent, Lacks, LeadsToRecord, IsRecordOf, Rises, nowhere, higher, Use, same_use}
use Rattle.type_graph.proofs.Link.{leads_to_once}

-- what holds anyway holds of what there is
pub some_any : {X P : Type 0} → P → (o : Option X) → IfSome o (λ x. P)
some_any p None = tt
some_any p (Some x) = p

both_true : (a b : Bool) → a && b ≡ true → (a ≡ true) × (b ≡ true)
both_true true true e = (refl, refl)
both_true true false e = absurd cc
both_true false b e = absurd cc

module _ {N D R : Type 0} (shape : N → Shape N D R) where
  pub of_once : (n : N) (r s : R) → LeadsToRecord shape n r → LeadsToRecord shape n s → r ≡ s
  of_once n r s a b =
      let one : a.at ≡ b.at = leads_to_once shape true n a.at b.at a.leads b.leads in
      let e : Some r ≡ Some s = sym a.is ∙ ap (λ (x : N). shape_record (shape x)) one ∙ b.is in
      cc

  -- the record at the end of a type is the record that the type denotes
  pub of_end : (n m : N) (end : Option N) (o : Option R) → end ≡ Some m → IsTypeEnd shape true n end → o ≡ shape_record (shape m) → IsRecordOf shape n o
  of_end n m end o is e listed = by o listed
    where
      there : TypeLeadsTo shape true n m
      there = subst (λ (v : Option N). IfSome v (TypeLeadsTo shape true n)) is e.some

      by : (v : Option R) → v ≡ shape_record (shape m) → IsRecordOf shape n v
      by (Some r) listed = record { some = record { at = m; leads = there; is = sym listed }; none = tt }
      by None listed = record {
        some = tt;
        none = λ r h. (
            let one : h.at ≡ m = leads_to_once shape true n h.at m h.leads there in
            let f : None ≡ Some r = listed ∙ ap (λ (x : N). shape_record (shape x)) (sym one) ∙ h.is in
            cc);
      }

  pub of_none : (n : N) (end : Option N) → end ≡ None → IsTypeEnd shape true n end → IsRecordOf shape n None
  of_none n end is e = record { some = tt; none = λ r h. subst (λ (v : Option N). IfNone v ((last : N) → TypeLeadsTo shape true n last → ⊥)) is e.none h.at h.leads }

  module _ (base : R → Option N) where
    extends_once : (r s t : R) → Extends shape base r s → Extends shape base r t → s ≡ t
    extends_once r s t a b =
        let e : Some a.by ≡ Some b.by = sym a.is_base ∙ b.is_base in
        let one : a.by ≡ b.by = cc in
        of_once b.by s t (subst (λ (x : N). LeadsToRecord shape x s) one a.is_of) b.is_of

    -- what is above a record by its base
    pub above_by : (r : R) (b : Option N) (x : N) (o : Option R) → b ≡ base r → b ≡ Some x → IsRecordOf shape x o → IsParent shape base r o
    above_by r b x o listed is of = by o of
      where
        is_base : base r ≡ Some x
        is_base = sym listed ∙ is

        by : (v : Option R) → IsRecordOf shape x v → IsParent shape base r v
        by (Some s) of = record { some = record { by = x; is_base = is_base; is_of = of.some }; none = tt }
        by None of = record {
          some = tt;
          none = λ s h. (
              let e : Some h.by ≡ Some x = sym h.is_base ∙ is_base in
              let one : h.by ≡ x = cc in
              of.none s (subst (λ (y : N). LeadsToRecord shape y s) one h.is_of));
        }

    pub none_above : (r : R) (b : Option N) → b ≡ base r → b ≡ None → IsParent shape base r None
    none_above r b listed is = record { some = tt; none = λ s h. (let e : None ≡ Some h.by = sym is ∙ listed ∙ h.is_base in cc) }

    module _ {F : Type 0} (field : R → Option F) where
      -- a name denotes one field in a record, at one number of bases up
      pub has_once : (j k : ℕ) (r : R) (f h : F) → Has shape base field j r f → Has shape base field k r h → (j ≡ k) × (f ≡ h)
      has_once j k r f h (own_field p) (own_field q) = (refl, (let e : Some f ≡ Some h = sym p ∙ q in cc))
      has_once j k r f h (own_field p) (base_field q x rest) = absurd (let e : Some f ≡ None = sym p ∙ q in cc)
      has_once j k r f h (base_field p x rest) (own_field q) = absurd (let e : Some h ≡ None = sym q ∙ p in cc)
      has_once j k r f h (base_field {k = i} {parent = s} p x rest) (base_field {k = l} {parent = t} q y other) =
          let one : t ≡ s = extends_once r t s y x in
          let e = has_once i l s f h rest (subst (λ (v : R). Has shape base field l v h) one other) in
          (ap suc e.0, e.1)

      -- further up
      pub rises_on : (j k : ℕ) (r s t : R) → Rises shape base field j r s → Rises shape base field k s t → (n : ℕ) × Rises shape base field n r t
      rises_on j k r s t p nowhere = (j, p)
      rises_on j k r s t p (higher {k = i} {s = x} q none e) = let on = rises_on j i r s x p q in (suc on.0, higher on.1 none e)

      down : (s k : ℕ) (r t : R) (f : F) → Rises shape base field s r t → Has shape base field k t f → HasField shape base field r f
      down s k r t f nowhere h = record { bases = k; has = h }
      down s k r t f (higher {k = j} {s = x} p none e) h = down j (suc k) r x f p (base_field none e h)

      record Still (s k : ℕ) (t : R) (f : F) : Type 0 where
        bases : ℕ
        has : Has shape base field bases t f
        fewer : bases + s ≡ k

      one_up : (k : ℕ) (x t : R) (f : F) → field x ≡ None → Extends shape base x t → Has shape base field k x f → Still 1 k t f
      one_up k x t f none e (own_field p) = absurd (let g : None ≡ Some f = sym none ∙ p in cc)
      one_up k x t f none e (base_field {k = i} {parent = y} p z h) = record { bases = i; has = subst (λ (v : R). Has shape base field i v f) (extends_once x y t z e) h; fewer = omega arith }

      still : (s k : ℕ) (r t : R) (f : F) → Rises shape base field s r t → Has shape base field k r f → Still s k t f
      still s k r t f nowhere h = record { bases = k; has = h; fewer = omega arith }
      still s k r t f (higher {k = j} {s = x} p none e) h =
          let a = still j k r x f p h in
          let b = one_up a.bases x t f none e a.has in
          let m : a.bases + j ≡ k = a.fewer in
          let n : b.bases + 1 ≡ a.bases = b.fewer in
          record { bases = b.bases; has = b.has; fewer = omega (arith, m, n) }

      -- what is found at the last is found at the first
      pub field_same : (s : ℕ) (r t : R) (o : Option F) → Rises shape base field s r t → IsFieldIn shape base field t o → IsFieldIn shape base field r o
      field_same s r t (Some f) p h = record { some = down s h.some.bases r t f p h.some.has; none = tt }
      field_same s r t None p h = record { some = tt; none = λ f g. (let x = still s g.bases r t f p g.has in h.none f (record { bases = x.bases; has = x.has })) }

      -- a search on a cycle finds nothing
      closes_cycle : (s : ℕ) (r : R) (f : F) → Rises shape base field (suc s) r r → HasField shape base field r f → ⊥
      closes_cycle s r f p h =
          let x = still (suc s) h.bases r r f p h.has in
          let a : x.bases + suc s ≡ h.bases = x.fewer in
          let b : x.bases ≡ h.bases = (has_once x.bases h.bases r f f x.has h.has).0 in
          omega (arith, a, b)

      pub own_is : (r : R) (f : F) (o : Option F) → o ≡ field r → o ≡ Some f → IsFieldIn shape base field r (Some f)
      own_is r f o listed is = record { some = record { bases = zero; has = own_field (sym listed ∙ is) }; none = tt }

      nothing_above : (r : R) (o : Option R) → field r ≡ None → o ≡ None → IsParent shape base r o → IsFieldIn shape base field r None
      nothing_above r o none is parent = record { some = tt; none = λ f h. go f h.bases h.has }
        where
          closed : (s : R) → Extends shape base r s → ⊥
          closed = subst (λ (v : Option R). IfNone v ((s : R) → Extends shape base r s → ⊥)) is parent.none

          go : (f : F) (k : ℕ) → Has shape base field k r f → ⊥
          go f k (own_field p) = let g : None ≡ Some f = sym none ∙ p in cc
          go f k (base_field {parent = s} p e h) = closed s e

      module _ (same : R → R → Bool) (apart : (r s : R) → same r s ≡ true → r ≡ s) where
        -- a search from the first record has arrived at the second one, and has visited these
        pub record Climbs (from now : R) (met : List R) : Type 0 where
          pub steps : ℕ
          pub rises : Rises shape base field steps from now
          pub each : All (λ (r : R). (j : ℕ) × Rises shape base field (suc j) r now) met

        pub climbs_nowhere : (from : R) (met : List R) → met ≡ [] → Climbs from from met
        climbs_nowhere from met e = record { steps = zero; rises = nowhere; each = subst (λ (rs : List R). All (λ (r : R). (j : ℕ) × Rises shape base field (suc j) r from) rs) (sym e) (λ k d l. absurd (omega (arith, l))) }

        -- what a name means at the last it means in all that were passed
        pub visited : (from now : R) (met : List R) (o : Option F) → Climbs from now met → IsFieldIn shape base field now o → AreFieldsOf shape base field from met o
        visited from now met o w h = record {
          is = field_same w.steps from now o w.rises h;
          each = λ k d l. (let p = w.each k d l in field_same (suc p.0) _ now o p.1 h);
        }

        met_again : (from now : R) (met after : List R) → IsRevisited same now met after → Climbs from now met → AreFieldsOf shape base field from after None
        met_again from now met after again w =
            let a = Any-from_list_any (same now) met again.among in
            let p : (j : ℕ) × Rises shape base field (suc j) a.1 now = subst (λ (r : R). (j : ℕ) × Rises shape base field (suc j) r now) a.3 (w.each a.0 a.1 a.2) in
            let one : now ≡ a.1 = apart now a.1 a.4 in
            let q : Rises shape base field (suc p.0) now now = subst (λ (r : R). Rises shape base field (suc p.0) r now) (sym one) p.1 in
            subst (λ (rs : List R). AreFieldsOf shape base field from rs None) (sym again.unchanged) (visited from now met None w (record { some = tt; none = λ f h. closes_cycle p.0 now f q h }))

        -- a property of all checkpoints and of a visited record holds for the checkpoints after the visit
        marks_on : (P : R → Type 0) (now : R) (before after : List R) → IsVisited now before after → All P before → P now → All P after
        marks_on P now before after (marked e) each here = subst (All P) (sym e) (All-push P before now each here)
        marks_on P now before after (unmarked e) each here = subst (All P) (sym e) each

        none_left : (from now last : R) (met after : List R) (o : Option R) → IsVisited now met after → Lacks shape base field now last → o ≡ None → IsParent shape base last o → Climbs from now met → AreFieldsOf shape base field from after None
        none_left from now last met after o fresh lacks no_more parent w =
            let here = field_same lacks.bases now last None lacks.rises (nothing_above last o lacks.none no_more parent) in
            let all = visited from now met None w here in
            record { is = all.is; each = marks_on (λ (s : R). IsFieldIn shape base field s None) now met after fresh all.each here }

        climbs_on : (from now last parent : R) (met after : List R) (o : Option R) → IsVisited now met after → Lacks shape base field now last → o ≡ Some parent → IsParent shape base last o → Climbs from now met → Climbs from parent after
        climbs_on from now last parent met after o fresh lacks is_some ups w =
            let e : Extends shape base last parent = subst (λ (v : Option R). IfSome v (Extends shape base last)) is_some ups.some in
            let on : (r : R) (k : ℕ) → Rises shape base field k r now → (j : ℕ) × Rises shape base field (suc j) r parent = λ r k p. (let up = rises_on k lacks.bases r now last p lacks.rises in (up.0, higher up.1 lacks.none e)) in
            let all = on from w.steps w.rises in
            record {
              steps = suc all.0;
              rises = all.1;
              each = marks_on (λ (r : R). (j : ℕ) × Rises shape base field (suc j) r parent) now met after fresh (λ k d l. (let p = w.each k d l in on _ (suc p.0) p.1)) (on now zero nowhere);
            }

        -- a search whose next record is none has come to its end
        pub ends_here : (from now : R) (met after : List R) (o : Option R) → o ≡ None → IsNextParent shape base field same now met after o → Climbs from now met → AreFieldsOf shape base field from after None
        ends_here from now met after o is (risen {last = last} fresh lacks parent) w = none_left from now last met after o fresh lacks is parent w
        ends_here from now met after o is (revisited again e) w = met_again from now met after again w

        -- a search continues if there is a parent
        pub progresses : (from now parent : R) (met after : List R) (o : Option R) → o ≡ Some parent → IsNextParent shape base field same now met after o → Climbs from now met → Climbs from parent after
        progresses from now parent met after o is (risen {last = last} fresh lacks ups) w = climbs_on from now last parent met after o fresh lacks is ups w
        progresses from now parent met after o is (revisited again e) w = absurd (let f : Some parent ≡ None = sym is ∙ e in cc)

        -- the result that is memoized for the record at which a search has arrived
        pub known_here : (from now : R) (met : List R) (v : Option (Option F)) (o : Option F) → v ≡ Some o → IfSome v (IsFieldIn shape base field now) → Climbs from now met → AreFieldsOf shape base field from met o
        known_here from now met v o known listed w = visited from now met o w (subst (λ (x : Option (Option F)). IfSome x (IsFieldIn shape base field now)) known listed)

        -- a record is visited, and a jump skips ancestors
        pub passed_anew : (now last : R) (met after : List R) (o : Option R) → IsVisited now met after → Lacks shape base field now last → IsParent shape base last o → IsNextParent shape base field same now met after o
        passed_anew now last met after o passes lacks parent = risen passes lacks parent

        pub marked_before : (now : R) (met : List R) (b : Bool) → b ≡ true → (b ≡ true → list_any (same now) met ≡ true) → IsNextParent shape base field same now met met None
        marked_before now met b is among = revisited (record { among = among is; unchanged = refl }) refl

      -- a jump that arrives at a record
      pub onto_above : (last parent : R) → Extends shape base last parent → IsParent shape base last (Some parent)
      onto_above last parent e = record { some = e; none = tt }

      pub lacks_itself : (r : R) → field r ≡ None → Lacks shape base field r r
      lacks_itself r none = record { bases = zero; rises = nowhere; none = none }

  -- ---- memoized results

  module _ (base : R → Option N) (same : R → R → Bool) (apart : (r s : R) → same r s ≡ true → r ≡ s) where
    pub above_more : (old new : MemoTable R (Option R)) (r : R) (o : Option R) → AreParents shape base same old → Adds same r o old new → IsParent shape base r o → AreParents shape base same new
    above_more old new r o are adds is = record { each = λ s v listed. at s v (adds s v listed) }
      where
        at : (s : R) (v : Option R) → IsMemoized same old s v ⊎ ((same r s ≡ true) × (o ≡ v)) → IsParent shape base s v
        at s v (inl listed) = are.each s v listed
        at s v (inr one) =
            subst (λ (x : Option R). IsParent shape base s x) one.1 (subst (λ (x : R). IsParent shape base x o) (apart r s one.0) is)

    pub above_none : (memo : MemoTable R (Option R)) → ((r : R) (o : Option R) → IsMemoized same memo r o → ⊥) → AreParents shape base same memo
    above_none memo empty = record { each = λ r o listed. absurd (empty r o listed) }

    -- the memoized parent of a record
    pub above_is : (memo : MemoTable R (Option R)) (r : R) (v : Option (Option R)) (o : Option R) → AreParents shape base same memo → IfSome v (IsMemoized same memo r) → v ≡ Some o → IsParent shape base r o
    above_is memo r v o are listed is = are.each r o (subst (λ (x : Option (Option R)). IfSome x (IsMemoized same memo r)) is listed)

  module _ (base : R → Option N) {F S : Type 0} (field : R → List ℕ → Option F) (same : R → R → Bool) (apart : (r s : R) → same r s ≡ true → r ≡ s) where
    pub found_more : (old new : IndexMap (Use shape base) (Option F) S) (r : R) (name : Name) (o : Option F) → AreFieldsMemoized shape base field same old →
        ((u : Use shape base) → get (same_use shape base same) new u ≡ cond (same_use shape base same (r, name) u) (Some o) (get (same_use shape base same) old u)) →
        IsFieldIn shape base (λ (s : R). field s name.bytes.now) r o → AreFieldsMemoized shape base field same new
    found_more old new r name o are adds is = record { each = λ u v e. at u v (same_use shape base same (r, name) u) refl (sym (adds u) ∙ e) }
      where
        at : (u : Use shape base) (v : Option F) (b : Bool) → same_use shape base same (r, name) u ≡ b → cond b (Some o) (get (same_use shape base same) old u) ≡ Some v → IsFieldIn shape base (λ (s : R). field s u.1.bytes.now) u.0 v
        at u v false s e = are.each u v e
        at u v true s e =
            let both = both_true (same r u.0) (bytes_eq name.bytes.now u.1.bytes.now) s in
            let one_record : r ≡ u.0 = apart r u.0 both.0 in
            let one_name : name.bytes.now ≡ u.1.bytes.now = (bytes_eq-Decides name.bytes.now u.1.bytes.now).0 both.1 in
            let one : o ≡ v = cc in
            subst (λ (x : Option F). IsFieldIn shape base (λ (t : R). field t u.1.bytes.now) u.0 x) one
            (subst (λ (x : R). IsFieldIn shape base (λ (t : R). field t u.1.bytes.now) x o) one_record
            (subst (λ (x : List ℕ). IsFieldIn shape base (λ (t : R). field t x) r o) one_name is))

    pub found_all : (old new : IndexMap (Use shape base) (Option F) S) → new.entries ≡ old.entries → AreFieldsMemoized shape base field same old → AreFieldsMemoized shape base field same new
    found_all old new e are = record { each = λ u o is. are.each u o (sym (ap (lookup (same_use shape base same u)) e) ∙ is) }

    pub found_none : (found : IndexMap (Use shape base) (Option F) S) → found.entries ≡ [] → AreFieldsMemoized shape base field same found
    found_none found e = record { each = λ u o is. absurd (let f : None ≡ Some o = sym (ap (lookup (same_use shape base same u)) e) ∙ is in cc) }

    -- the memoized field of a record
    pub kept_is : (found : IndexMap (Use shape base) (Option F) S) (now : R) (name : Name) (v : Option (Bor (Option F))) → AreFieldsMemoized shape base field same found → option_copied v ≡ get (same_use shape base same) found (now, name) →
        IfSome (option_copied v) (IsFieldIn shape base (λ (r : R). field r name.bytes.now) now)
    kept_is found now name None are e = tt
    kept_is found now name (Some o) are e = are.each (now, name) o.now (sym e)
