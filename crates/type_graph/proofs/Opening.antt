-- What searches that note what they meet come to.
use Rattle.std.proofs.Common.{◌≡◌, zero, suc, List, [], ◌∷◌, ◌++◌, Bool, true, false, Option, Some, None, refl, sym, ap, ◌∙◌}
use Rattle.type_graph.specs.declared.shape.Shape.{Shape}
use Rattle.type_graph.specs.declared.shape.Shape.TheVariants as shapes
use Rattle.type_graph.specs.Searches.{element_of, target_of, HasElement, HasTarget, IsUnnamed, Opens, OpensTo, plain, through, DenotesField, own, pointed, inherited}
use Rattle.type_graph.specs.Link.{successor, ends, on, TypeLeadsTo}
use Rattle.type_graph.specs.Extending.{shape_record, LeadsToRecord, own_field, base_field, HasField}
use Rattle.type_graph.proofs.Link.{leads_to_once}

module _ {N D R : Type 0} (same : D → D → Bool) (shape : N → Shape N D R) where
  leads_plain : (pointers : Bool) (s : Shape N D R) → pointers ≡ false → IsUnnamed s → successor pointers s ≡ None
  leads_plain true s e p = cc
  leads_plain false (shapes.Array n) e p = refl
  leads_plain false (shapes.Pointer n) e p = refl
  leads_plain false (shapes.Record r) e p = refl
  leads_plain false shapes.Procedure e p = refl
  leads_plain false (shapes.Named d n) e p = absurd p
  leads_plain false shapes.Unknown e p = absurd p

  pub opens_leads : (met after : List D) (n m : N) → Opens same shape met n after m → TypeLeadsTo shape false n m
  opens_leads met after n m (plain p) = record { steps = zero; leads = ends (leads_plain false (shape n) refl p) }
  opens_leads met after n m (through {m = x} {d = d} e new rest) =
      let r = opens_leads (met ++ d ∷ []) after x m rest in
      record { steps = suc r.steps; leads = on (ap (successor false) e) r.leads }

  pub opens_plain : (met after : List D) (n m : N) → Opens same shape met n after m → IsUnnamed (shape m)
  opens_plain met after n m (plain p) = p
  opens_plain met after n m (through {m = x} {d = d} e new rest) = opens_plain (met ++ d ∷ []) after x m rest

  -- a type opens to one type
  pub opens_to_once : (n x y : N) → OpensTo same shape n x → OpensTo same shape n y → x ≡ y
  opens_to_once n x y p q = leads_to_once shape false n x y (opens_leads [] p.met n x p.opens) (opens_leads [] q.met n y q.opens)

  -- so all types that a type opens to have equal components
  one_part : (part : Shape N D R → Option N) (n a b x y : N) → OpensTo same shape n a → OpensTo same shape n b → part (shape a) ≡ Some x → part (shape b) ≡ Some y → x ≡ y
  one_part part n a b x y p q e f =
      let g : part (shape a) ≡ part (shape b) = ap (λ (v : N). part (shape v)) (opens_to_once n a b p q) in
      let h : Some x ≡ Some y = sym e ∙ g ∙ f in
      cc

  pub element_once : (n x y : N) → HasElement same shape n x → HasElement same shape n y → x ≡ y
  element_once n x y p q = one_part element_of n p.array q.array x y p.opens q.opens p.is q.is

  pub target_once : (n x y : N) → HasTarget same shape n x → HasTarget same shape n y → x ≡ y
  target_once n x y p q = one_part target_of n p.pointer q.pointer x y p.opens q.opens p.is q.is

  -- ---- fields

  module _ {F : Type 0} (field : R → Option F) (base : R → Option N) where
    -- a type leads to a record that has the field
    pub record IsFieldAt (n : N) (f : F) : Type 0 where
      pub of : R
      pub is_of : LeadsToRecord shape n of
      pub has : HasField shape base field of f

    opens_of : (met after : List D) (n m : N) (r : R) → Opens same shape met n after m → LeadsToRecord shape m r → LeadsToRecord shape n r
    opens_of met after n m r (plain p) h = h
    opens_of met after n m r (through {m = x} {d = d} e new rest) h =
        let t = opens_of (met ++ d ∷ []) after x m r rest h in
        record { at = t.at; leads = record { steps = suc t.leads.steps; leads = on (ap (successor true) e) t.leads.leads }; is = t.is }

    record_of_itself : (m : N) (r : R) → shape m ≡ shapes.Record r → LeadsToRecord shape m r
    record_of_itself m r e = record { at = m; leads = record { steps = zero; leads = ends (ap (successor true) e) }; is = ap shape_record e }

    pub field_found : (met : List D) (n : N) (f : F) → DenotesField same shape field base met n f → IsFieldAt n f
    field_found met n f (own {after = a} {m = m} {r = r} o e p) = record { of = r; is_of = opens_of met a n m r o (record_of_itself m r e); has = record { bases = zero; has = own_field p } }
    field_found met n f (pointed {after = a} {m = m} {next = x} o e rest) =
        let h = field_found a x f rest in
        let at_pointer : LeadsToRecord shape m h.of = record { at = h.is_of.at; leads = record { steps = suc h.is_of.leads.steps; leads = on (ap (successor true) e) h.is_of.leads.leads }; is = h.is_of.is } in
        record { of = h.of; is_of = opens_of met a n m h.of o at_pointer; has = h.has }
    field_found met n f (inherited {after = a} {m = m} {next = x} {r = r} o e p b rest) =
        let h = field_found a x f rest in
        record {
          of = r;
          is_of = opens_of met a n m r o (record_of_itself m r e);
          has = record { bases = suc h.has.bases; has = base_field p (record { by = x; is_base = b; is_of = h.is_of }) h.has.has };
        }
