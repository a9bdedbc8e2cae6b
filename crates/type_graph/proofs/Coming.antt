-- Searches that note what they meet come to what types and records lead to.
use Rattle.std.proofs.Common.{◌≡◌, ℕ, zero, suc, ◌≤◌, List, [], ◌∷◌, ◌++◌, Bool, true, false, Option, Some, None, refl, sym, ap, ◌∙◌, subst, arith, ◌⊎◌, inl, inr}
use Rattle.std.specs.Prelude.{IfNone, IfSome}
use Rattle.std.specs.List.{list_any, All}
use Rattle.std.proofs.lemmas.List.Elements.{All-push}
use Rattle.std.proofs.lemmas.List.Folds.{Any-from_list_any}
use Rattle.type_graph.specs.declared.shape.Shape.{Shape}
use Rattle.type_graph.specs.declared.shape.Shape.TheVariants as shapes
use Rattle.type_graph.specs.Searches.{element_of, target_of, HasElement, HasTarget, IsUnnamed, Opens, OpensTo, plain, through, DenotesField, own, pointed, inherited}
use Rattle.type_graph.specs.Link.{successor, ends, on, IsTypeEnd, TypeLeads, TypeLeadsTo}
use Rattle.type_graph.specs.Extending.{shape_record, LeadsToRecord, Has, own_field, base_field, HasField, IsFieldIn, IsRecordOf}
use Rattle.type_graph.proofs.Extending.{of_once}
use Rattle.type_graph.proofs.Link.{leads_once, leads_to_once}
use Rattle.type_graph.proofs.Opening.{field_found, opens_leads, IsFieldAt}

bool_cases : (b : Bool) → (b ≡ true) ⊎ (b ≡ false)
bool_cases true = inl refl
bool_cases false = inr refl

module _ {N D R : Type 0} (same : D → D → Bool) (shape : N → Shape N D R) (named : (n m x y : N) (c d : D) → shape n ≡ shapes.Named c x → shape m ≡ shapes.Named d y → same c d ≡ true → x ≡ y) where
  -- a visited declaration gives a type from which at least as many steps remain
  module _ (Left : ℕ → N → Type 0) where
    pub record IsBehind (k : ℕ) (d : D) : Type 0 where
      pub of : N
      pub next : N
      pub is : shape of ≡ shapes.Named d next
      pub steps : ℕ
      pub left : Left steps next
      pub further : k ≤ steps

    pub later : (k : ℕ) (met : List D) → All (IsBehind (suc k)) met → All (IsBehind k) met
    later k met all i d l = (let b = all i d l in let f : suc k ≤ b.steps = b.further in record { of = b.of; next = b.next; is = b.is; steps = b.steps; left = b.left; further = omega (arith, f) })

    -- so the declaration of the next name hasn't been visited
    pub fresh : (once : (j k : ℕ) (n : N) → Left j n → Left k n → j ≡ k) (k : ℕ) (n m : N) (d : D) (met : List D) → shape n ≡ shapes.Named d m → Left k m → All (IsBehind (suc k)) met → list_any (same d) met ≡ false
    fresh once k n m d met e l all = elim (bool_cases (list_any (same d) met)) [
      | inl old ↦ absurd (
          let a = Any-from_list_any (same d) met old in
          let b : IsBehind (suc k) a.1 = subst (IsBehind (suc k)) a.3 (all a.0 a.1 a.2) in
          let one : m ≡ b.next = named n b.of m b.next d a.1 e b.is a.4 in
          let count : k ≡ b.steps = once k b.steps b.next (subst (Left k) one l) b.left in
          let f : suc k ≤ b.steps = b.further in
          omega (arith, count, f))
      | inr new ↦ new
    ]

    pub with_next : (k : ℕ) (n m : N) (d : D) (met : List D) → shape n ≡ shapes.Named d m → Left k m → All (IsBehind (suc k)) met → All (IsBehind k) (met ++ d ∷ [])
    with_next k n m d met e l all = All-push (IsBehind k) met d (later k met all) (record { of = n; next = m; is = e; steps = k; left = l; further = omega arith })

  none_behind : (Left : ℕ → N → Type 0) (k : ℕ) → All (IsBehind Left k) []
  none_behind Left k i d l = absurd (omega (arith, l))

  -- ---- types that open to others

  record OpensFrom (met : List D) (n m : N) : Type 0 where
    after : List D
    opens : Opens same shape met n after m

  -- a type that leads by a name
  record IsName (s : Shape N D R) (m : N) : Type 0 where
    declaration : D
    is : s ≡ shapes.Named declaration m

  by_name : (s : Shape N D R) (m : N) → successor false s ≡ Some m → IsName s m
  by_name (shapes.Array n) m e = cc
  by_name (shapes.Pointer n) m e = cc
  by_name (shapes.Record r) m e = cc
  by_name shapes.Procedure m e = cc
  by_name (shapes.Named d n) m e = record { declaration = d; is = ap (λ (v : N). shapes.Named d v) (let f : n ≡ m = cc in f) }
  by_name shapes.Unknown m e = cc

  leads_opens : (met : List D) (k : ℕ) (n m : N) → TypeLeads shape false k n m → IsUnnamed (shape m) → All (IsBehind (λ j x. TypeLeads shape false j x m) k) met → OpensFrom met n m
  leads_opens met k n m (ends e) p all = record { after = met; opens = plain p }
  leads_opens met k n m (on {k = j} {m = x} e rest) p all =
      let name = by_name (shape n) x e in
      let Left : ℕ → N → Type 0 = λ i y. TypeLeads shape false i y m in
      let new = fresh Left (λ a b y u v. (leads_once shape false a b y m m u v).0) j n x name.declaration met name.is rest all in
      let r = leads_opens (met ++ name.declaration ∷ []) j x m rest p (with_next Left j n x name.declaration met name.is rest all) in
      record { after = r.after; opens = through name.is new r.opens }

  pub opens_to : (n m : N) → TypeLeadsTo shape false n m → IsUnnamed (shape m) → OpensTo same shape n m
  opens_to n m l p = let r = leads_opens [] l.steps n m l.leads p (none_behind (λ j x. TypeLeads shape false j x m) l.steps) in record { met = r.after; opens = r.opens }

  -- ---- fields

  module _ {F : Type 0} (field : R → Option F) (base : R → Option N) where
    -- names, pointers and bases from a type to a field, n in all
    data Comes : ℕ → N → F → Type 0 where
      here : {n : N} {r : R} {f : F} → shape n ≡ shapes.Record r → field r ≡ Some f → Comes zero n f
      along : {k : ℕ} {n m : N} {f : F} → successor true (shape n) ≡ Some m → Comes k m f → Comes (suc k) n f
      up : {k : ℕ} {n m : N} {r : R} {f : F} → shape n ≡ shapes.Record r → field r ≡ None → base r ≡ Some m → Comes k m f → Comes (suc k) n f

    no_next : {X : Type 0} (n m : N) (r : R) → shape n ≡ shapes.Record r → successor true (shape n) ≡ Some m → X
    no_next n m r e f = absurd (let g : None ≡ Some m = sym (ap (successor true) e) ∙ f in cc)

    one_record : (n : N) (r s : R) → shape n ≡ shapes.Record r → shape n ≡ shapes.Record s → r ≡ s
    one_record n r s e f = let g : shapes.Record r ≡ shapes.Record s = sym e ∙ f in cc

    comes_once : (j k : ℕ) (n : N) (f h : F) → Comes j n f → Comes k n h → j ≡ k
    comes_once j k n f h (here e p) (here e' q) = refl
    comes_once j k n f h (here {r = r} e p) (along {m = m} q rest) = no_next n m r e q
    comes_once j k n f h (here {r = r} {f = v} e p) (up {r = s} e' q b rest) = absurd (let one = one_record n r s e e' in let g : Some v ≡ None = sym p ∙ ap field one ∙ q in cc)
    comes_once j k n f h (along {m = m} q rest) (here {r = r} e p) = no_next n m r e q
    comes_once j k n f h (along {k = i} {m = x} p rest) (along {k = l} {m = y} q other) =
        let g : Some x ≡ Some y = sym p ∙ q in
        let one : x ≡ y = cc in
        ap suc (comes_once i l x f h rest (subst (λ (v : N). Comes l v h) (sym one) other))
    comes_once j k n f h (along {m = m} q rest) (up {r = r} e p b other) = no_next n m r e q
    comes_once j k n f h (up {r = s} e' q b rest) (here {r = r} {f = v} e p) = absurd (let one = one_record n r s e e' in let g : Some v ≡ None = sym p ∙ ap field one ∙ q in cc)
    comes_once j k n f h (up {r = r} e p b other) (along {m = m} q rest) = no_next n m r e q
    comes_once j k n f h (up {k = i} {m = x} {r = r} e p b rest) (up {k = l} {m = y} {r = s} e' q c other) =
        let one = one_record n r s e e' in
        let g : Some x ≡ Some y = sym b ∙ ap base one ∙ c in
        let same_next : x ≡ y = cc in
        ap suc (comes_once i l x f h rest (subst (λ (v : N). Comes l v h) (sym same_next) other))

    finds_through : (met : List D) (n m : N) (d : D) (f : F) → shape n ≡ shapes.Named d m → list_any (same d) met ≡ false → DenotesField same shape field base (met ++ d ∷ []) m f → DenotesField same shape field base met n f
    finds_through met n m d f e new (own o is has) = own (through e new o) is has
    finds_through met n m d f e new (pointed o is rest) = pointed (through e new o) is rest
    finds_through met n m d f e new (inherited o is has b rest) = inherited (through e new o) is has b rest

    is_plain : (s : Shape N D R) (r : R) → s ≡ shapes.Record r → IsUnnamed s
    is_plain s r e = let P : Shape N D R → Type 0 = λ v. IsUnnamed v in subst P (sym e) tt

    is_pointer : (s : Shape N D R) (m : N) → s ≡ shapes.Pointer m → IsUnnamed s
    is_pointer s m e = let P : Shape N D R → Type 0 = λ v. IsUnnamed v in subst P (sym e) tt

    abbrev AreBehind : ℕ → F → List D → Type 0
    AreBehind k f met = All (IsBehind (λ j x. Comes j x f) k) met

    finds_along : (met : List D) (k : ℕ) (n m : N) (f : F) (s : Shape N D R) → shape n ≡ s → successor true s ≡ Some m → Comes k m f → AreBehind (suc k) f met → ((after : List D) → AreBehind k f after → DenotesField same shape field base after m f) →
        DenotesField same shape field base met n f
    finds_along met k n m f (shapes.Pointer x) is e rest all then =
        let one : x ≡ m = cc in
        let point : shape n ≡ shapes.Pointer m = is ∙ ap (λ (v : N). shapes.Pointer v) one in
        pointed (plain (is_pointer (shape n) m point)) point (then met (later (λ j y. Comes j y f) k met all))
    finds_along met k n m f (shapes.Named d x) is e rest all then =
        let one : x ≡ m = cc in
        let name : shape n ≡ shapes.Named d m = is ∙ ap (λ (v : N). shapes.Named d v) one in
        let Left : ℕ → N → Type 0 = λ j y. Comes j y f in
        finds_through met n m d f name (fresh Left (λ a b y u v. comes_once a b y f f u v) k n m d met name rest all) (then (met ++ d ∷ []) (with_next Left k n m d met name rest all))
    finds_along met k n m f (shapes.Array x) is e rest all then = cc
    finds_along met k n m f (shapes.Record r) is e rest all then = cc
    finds_along met k n m f shapes.Procedure is e rest all then = cc
    finds_along met k n m f shapes.Unknown is e rest all then = cc

    comes_finds : (met : List D) (k : ℕ) (n : N) (f : F) → Comes k n f → AreBehind k f met → DenotesField same shape field base met n f
    comes_finds met k n f (here {r = r} e p) all = own (plain (is_plain (shape n) r e)) e p
    comes_finds met k n f (along {k = j} {m = m} e rest) all = finds_along met j n m f (shape n) refl e rest all (λ after behind. comes_finds after j m f rest behind)
    comes_finds met k n f (up {k = j} {m = m} {r = r} e p b rest) all =
        inherited (plain (is_plain (shape n) r e)) e p b (comes_finds met j m f rest (later (λ i y. Comes i y f) j met all))

    -- ---- fields of records

    record ComesTo (n : N) (f : F) : Type 0 where
      steps : ℕ
      comes : Comes steps n f

    record_is : (s : Shape N D R) (r : R) → shape_record s ≡ Some r → s ≡ shapes.Record r
    record_is (shapes.Array n) r e = cc
    record_is (shapes.Pointer n) r e = cc
    record_is (shapes.Record t) r e = ap (λ (v : R). shapes.Record v) (let f : t ≡ r = cc in f)
    record_is shapes.Procedure r e = cc
    record_is (shapes.Named d n) r e = cc
    record_is shapes.Unknown r e = cc

    leads_comes : (k j : ℕ) (n m : N) (f : F) → TypeLeads shape true k n m → Comes j m f → ComesTo n f
    leads_comes k j n m f (ends e) c = record { steps = j; comes = c }
    leads_comes k j n m f (on {k = i} {m = x} e rest) c = let r = leads_comes i j x m f rest c in record { steps = suc r.steps; comes = along e r.comes }

    has_comes : (k : ℕ) (n : N) (r : R) (f : F) → shape n ≡ shapes.Record r → Has shape base field k r f → ComesTo n f
    has_comes k n r f e (own_field p) = record { steps = zero; comes = here e p }
    has_comes k n r f e (base_field {k = j} {parent = s} p x h) =
        let there = has_comes j x.is_of.at s f (record_is (shape x.is_of.at) s x.is_of.is) h in
        let l = leads_comes x.is_of.leads.steps there.steps x.by x.is_of.at f x.is_of.leads.leads there.comes in
        record { steps = suc l.steps; comes = up e p x.is_base l.comes }

    pub finds_field : (n : N) (f : F) → IsFieldAt same shape field base n f → DenotesField same shape field base [] n f
    finds_field n f h =
        let there = has_comes h.has.bases h.is_of.at h.of f (record_is (shape h.is_of.at) h.of h.is_of.is) h.has.has in
        let l = leads_comes h.is_of.leads.steps there.steps n h.is_of.at f h.is_of.leads.leads there.comes in
        comes_finds [] l.steps n f l.comes (none_behind (λ j x. Comes j x f) l.steps)

    -- ---- look-up of a field

    pub field_told : (n : N) (r : R) (of : Option R) (o : Option F) → of ≡ Some r → IsRecordOf shape n of → IsFieldIn shape base field r o →
        IfSome o (λ f. DenotesField same shape field base [] n f) × IfNone o ((f : F) → DenotesField same shape field base [] n f → ⊥)
    field_told n r of (Some f) is at h = (finds_field n f (record { of = r; is_of = subst (λ (v : Option R). IfSome v (LeadsToRecord shape n)) is at.some; has = h.some }), tt)
    field_told n r of None is at h = (
      tt,
      λ f g. (
          let a = field_found same shape field base [] n f g in
          let there : LeadsToRecord shape n r = subst (λ (v : Option R). IfSome v (LeadsToRecord shape n)) is at.some in
          h.none f (subst (λ (x : R). HasField shape base field x f) (of_once shape n a.of r a.is_of there) a.has)),
    )

    pub no_field_told : (n : N) (of : Option R) → of ≡ None → IsRecordOf shape n of → (f : F) → DenotesField same shape field base [] n f → ⊥
    no_field_told n of is at f g =
        let a = field_found same shape field base [] n f g in
        subst (λ (v : Option R). IfNone v ((r : R) → LeadsToRecord shape n r → ⊥)) is at.none a.of a.is_of

  -- ---- look-up of a component

  element_plain : (s : Shape N D R) (m : N) → element_of s ≡ Some m → IsUnnamed s
  element_plain (shapes.Array n) m e = tt
  element_plain (shapes.Pointer n) m e = tt
  element_plain (shapes.Record r) m e = tt
  element_plain shapes.Procedure m e = tt
  element_plain (shapes.Named d n) m e = absurd (cc)
  element_plain shapes.Unknown m e = absurd (cc)

  target_plain : (s : Shape N D R) (m : N) → target_of s ≡ Some m → IsUnnamed s
  target_plain (shapes.Array n) m e = tt
  target_plain (shapes.Pointer n) m e = tt
  target_plain (shapes.Record r) m e = tt
  target_plain shapes.Procedure m e = tt
  target_plain (shapes.Named d n) m e = absurd (cc)
  target_plain shapes.Unknown m e = absurd (cc)

  end_is : (n m : N) (end : Option N) → end ≡ Some m → IsTypeEnd shape false n end → TypeLeadsTo shape false n m
  end_is n m end is e = subst (λ (v : Option N). IfSome v (TypeLeadsTo shape false n)) is e.some

  -- all types that a type opens to have equal components
  same_part : (part : Shape N D R → Option N) (n a b x : N) → OpensTo same shape n a → part (shape a) ≡ Some x → TypeLeadsTo shape false n b → part (shape b) ≡ Some x
  same_part part n a b x o is l =
      let one : a ≡ b = leads_to_once shape false n a b (opens_leads same shape [] o.met n a o.opens) l in
      subst (λ (v : N). part (shape v) ≡ Some x) one is

  pub element_told : (n m : N) (end o : Option N) → end ≡ Some m → IsTypeEnd shape false n end → o ≡ element_of (shape m) → IfSome o (HasElement same shape n) × IfNone o ((x : N) → HasElement same shape n x → ⊥)
  element_told n m end (Some x) is e listed = (record { array = m; opens = opens_to n m (end_is n m end is e) (element_plain (shape m) x (sym listed)); is = sym listed }, tt)
  element_told n m end None is e listed = (tt, λ x h. (let f : None ≡ Some x = listed ∙ same_part element_of n h.array m x h.opens h.is (end_is n m end is e) in cc))

  pub target_told : (n m : N) (end o : Option N) → end ≡ Some m → IsTypeEnd shape false n end → o ≡ target_of (shape m) → IfSome o (HasTarget same shape n) × IfNone o ((x : N) → HasTarget same shape n x → ⊥)
  target_told n m end (Some x) is e listed = (record { pointer = m; opens = opens_to n m (end_is n m end is e) (target_plain (shape m) x (sym listed)); is = sym listed }, tt)
  target_told n m end None is e listed = (tt, λ x h. (let f : None ≡ Some x = listed ∙ same_part target_of n h.pointer m x h.opens h.is (end_is n m end is e) in cc))

  closed : (n m : N) (end : Option N) → end ≡ None → IsTypeEnd shape false n end → OpensTo same shape n m → ⊥
  closed n m end is e o = subst (λ (v : Option N). IfNone v ((last : N) → TypeLeadsTo shape false n last → ⊥)) is e.none m (opens_leads same shape [] o.met n m o.opens)

  pub no_element : (n : N) (end : Option N) → end ≡ None → IsTypeEnd shape false n end → (m : N) → HasElement same shape n m → ⊥
  no_element n end is e m h = closed n h.array end is e h.opens

  pub no_target : (n : N) (end : Option N) → end ≡ None → IsTypeEnd shape false n end → (m : N) → HasTarget same shape n m → ⊥
  no_target n end is e m h = closed n h.pointer end is e h.opens
