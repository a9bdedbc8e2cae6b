-- A symbol has one outcome of writing.
use Rattle.std.proofs.Common.{◌≡◌, ◌≢◌, ℕ, ◌+◌, true, false, List, [], ◌∷◌, codes, Some, None, Result, Ok, Err, refl, sym, ap, ◌∙◌}
use Rattle.std.specs.List.{list_any, position_from}
use Rattle.std.proofs.lemmas.Bool.{ne_eqb, both_ways}
use Rattle.std.proofs.lemmas.Option.{none-some, same_Some}
use Rattle.scip_symbol.specs.declared.fault.SymbolFault.{SymbolFault}
use Rattle.scip_symbol.specs.declared.fault.SymbolFault.TheVariants as faults
use Rattle.scip_symbol.specs.Bytes.{IsNotFirst}
use Rattle.scip_symbol.specs.SymbolTexts.{DescriptorModel, SymbolModel, Local, Global, DescriptorTexts, IsPackagePart, IsOptionalPart, SymbolText}
use Rattle.scip_symbol.specs.Outcomes.{is_empty, has_empty, HasLocalScheme, begins_with_space, is_stop, is_wrong_part, wrong_part_of, is_wrong_descriptor, IsWritable, IsWriteError, IsWriteOutcome}

-- ---- a symbol that has a string can be written

not_empty : {X : Type 0} (xs : List X) → xs ≢ [] → is_empty xs ≡ false
not_empty [] h = absurd (h refl)
not_empty (x ∷ xs) h = refl

part_not_empty : (part : List ℕ) → IsPackagePart part → is_empty part ≡ false
part_not_empty [] h = absurd h
part_not_empty (b ∷ part) h = refl

no_space_first : (part : List ℕ) → IsNotFirst 32 part → begins_with_space part ≡ false
no_space_first [] h = refl
no_space_first (b ∷ part) h = ne_eqb b 32 h

part_no_space : (part : List ℕ) → IsPackagePart part → begins_with_space part ≡ false
part_no_space [] h = absurd h
part_no_space (b ∷ part) h = ne_eqb b 32 h

not_stop : (part : List ℕ) → part ≢ codes "." → is_stop part ≡ false
not_stop [] h = refl
not_stop (b ∷ []) h = ne_eqb b 46 (λ e. h (ap (λ (x : ℕ). x ∷ []) e))
not_stop (b ∷ c ∷ part) h = refl

not_wrong_part : (part : List ℕ) → IsOptionalPart part → is_wrong_part part ≡ false
not_wrong_part part h = rw (no_space_first part h.next, not_stop part h.no_stop) refl

names_some : (ds : List DescriptorModel) (text : List ℕ) → DescriptorTexts ds text → list_any (λ d. is_empty d.name) ds ≡ false
names_some [] text t = refl
names_some (d ∷ ds) text t = rw (not_empty d.name t.2.name_is.some, names_some ds t.1 t.3) refl

none_wrong : (ds : List DescriptorModel) (i : ℕ) (text : List ℕ) → DescriptorTexts ds text → position_from is_wrong_descriptor i ds ≡ None
none_wrong [] i text t = refl
none_wrong (d ∷ ds) i text t = rw t.2.simple (none_wrong ds (i + 1) t.1 t.3)

pub text_writable : (s : SymbolModel) (text : List ℕ) → SymbolText s text → IsWritable s
text_writable (Local id) text t = record {
  no_empty = not_empty id t.0.some;
  not_local = λ h. h;
  parts = refl;
  descriptors = rw t.0.simple refl;
}
text_writable (Global scheme m p v ds) text t = record {
  no_empty = rw (part_not_empty scheme t.scheme_is, not_empty ds t.some, names_some ds t.rest t.rest_is) refl;
  not_local = t.not_local;
  parts = rw (part_no_space scheme t.scheme_is, not_wrong_part m t.manager_is, not_wrong_part p t.package_is, not_wrong_part v t.version_is) refl;
  descriptors = none_wrong ds 0 t.rest t.rest_is;
}

-- ---- the outcome is unique

never_refused : (s : SymbolModel) (fault : SymbolFault) → IsWritable s → IsWriteError s fault → ⊥
never_refused s faults.Empty w r = both_ways (has_empty s) w.no_empty r
never_refused s (faults.BadDescriptor at) w r = none-some at (sym w.descriptors ∙ r.3)
never_refused s faults.LocalScheme w r = w.not_local r.1
never_refused s faults.OpenQuote w r = r
never_refused s faults.Memory w r = r
never_refused s (faults.BadPart part) w r = none-some part (sym w.parts ∙ r.2)

empty_once : (s : SymbolModel) (f : SymbolFault) → has_empty s ≡ true → IsWriteError s f → faults.Empty ≡ f
empty_once s faults.Empty e r = refl
empty_once s (faults.BadDescriptor at) e r = absurd (both_ways (has_empty s) r.0 e)
empty_once s faults.LocalScheme e r = absurd (both_ways (has_empty s) r.0 e)
empty_once s faults.OpenQuote e r = absurd r
empty_once s faults.Memory e r = absurd r
empty_once s (faults.BadPart part) e r = absurd (both_ways (has_empty s) r.0 e)

local_once : (s : SymbolModel) (f : SymbolFault) → has_empty s ≡ false → HasLocalScheme s → IsWriteError s f → faults.LocalScheme ≡ f
local_once s faults.Empty e l r = absurd (both_ways (has_empty s) e r)
local_once s (faults.BadDescriptor at) e l r = absurd (r.1 l)
local_once s faults.LocalScheme e l r = refl
local_once s faults.OpenQuote e l r = absurd r
local_once s faults.Memory e l r = absurd r
local_once s (faults.BadPart part) e l r = absurd (r.1 l)

part_once : (s : SymbolModel) (part : ℕ) (f : SymbolFault) → has_empty s ≡ false → (HasLocalScheme s → ⊥) → wrong_part_of s ≡ Some part → IsWriteError s f → faults.BadPart part ≡ f
part_once s part faults.Empty e l p r = absurd (both_ways (has_empty s) e r)
part_once s part (faults.BadDescriptor at) e l p r = absurd (none-some part (sym r.2 ∙ p))
part_once s part faults.LocalScheme e l p r = absurd (l r.1)
part_once s part faults.OpenQuote e l p r = absurd r
part_once s part faults.Memory e l p r = absurd r
part_once s part (faults.BadPart other) e l p r = ap (λ (n : ℕ). faults.BadPart n) (same_Some part other (sym p ∙ r.2))

descriptor_once : (s : SymbolModel) (at : ℕ) (f : SymbolFault) → IsWriteError s (faults.BadDescriptor at) → IsWriteError s f → faults.BadDescriptor at ≡ f
descriptor_once s at faults.Empty d r = absurd (both_ways (has_empty s) d.0 r)
descriptor_once s at (faults.BadDescriptor other) d r = ap (λ (n : ℕ). faults.BadDescriptor n) (same_Some at other (sym d.3 ∙ r.3))
descriptor_once s at faults.LocalScheme d r = absurd (d.1 r.1)
descriptor_once s at faults.OpenQuote d r = absurd r
descriptor_once s at faults.Memory d r = absurd r
descriptor_once s at (faults.BadPart part) d r = absurd (none-some part (sym d.2 ∙ r.2))

refused_once : (s : SymbolModel) (e f : SymbolFault) → IsWriteError s e → IsWriteError s f → e ≡ f
refused_once s faults.Empty f d r = empty_once s f d r
refused_once s (faults.BadDescriptor at) f d r = descriptor_once s at f d r
refused_once s faults.LocalScheme f d r = local_once s f d.0 d.1 r
refused_once s faults.OpenQuote f d r = absurd d
refused_once s faults.Memory f d r = absurd d
refused_once s (faults.BadPart part) f d r = part_once s part f d.0 d.1 d.2 r

pub written_once : (s : SymbolModel) (o p : Result (List ℕ) SymbolFault) → IsWriteOutcome s o → IsWriteOutcome s p → o ≡ p
written_once s (Ok x) (Ok y) i k = ap (λ (t : List ℕ). Ok t) (i.1 ∙ sym k.1)
written_once s (Ok x) (Err f) i k = absurd (never_refused s f (text_writable s x i.0) k)
written_once s (Err e) (Ok y) i k = absurd (never_refused s e (text_writable s y k.0) i)
written_once s (Err e) (Err f) i k = ap (λ (t : SymbolFault). Err t) (refused_once s e f i k)
