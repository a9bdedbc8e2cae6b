-- The outcomes of reading a string with four parts.
use Rattle.std.proofs.Common.{◌≡◌, ◌≢◌, ℕ, ◌-◌, ◌≤◌, List, [], ◌∷◌, ◌++◌, length, Result, Ok, Err, refl, sym, ap, subst, ◌∙◌, inl, inr, arith, length-append}
use Rattle.std.specs.List.{flat_map}
use Rattle.scip_symbol.specs.declared.fault.SymbolFault.{SymbolFault}
use Rattle.scip_symbol.specs.declared.fault.SymbolFault.TheVariants as faults
use Rattle.scip_symbol.specs.Bytes.{doubled}
use Rattle.scip_symbol.specs.SymbolTexts.{DescriptorModel, SymbolModel, Global, DescriptorTexts, part_shown, ended_part, shown_parts, parts_text, BeginsLocal, SymbolText}
use Rattle.scip_symbol.specs.Outcomes.{BeginsWithParts, HasDescriptorPrefix, HasOpenQuote, HasNoDescriptor, IsReadError}
use Rattle.scip_symbol.specs.Reading.{PartsModel, descriptor_at, IsFirstWrong}
use Rattle.scip_symbol.proofs.PartLaws.{ArePartsRead}
use Rattle.scip_symbol.proofs.DescriptorLaws.{IsWrong, descriptor_again, descriptor_open, descriptor_fails}

-- a string begins with `local` exactly if its scheme does
local_scheme : (scheme manager package_name version rest : List ℕ) → BeginsLocal scheme → BeginsLocal (parts_text scheme manager package_name version ++ rest)
local_scheme scheme m p v rest b = (
  doubled 32 b.0 ++ (32 ∷ []) ++ flat_map ended_part (part_shown m ∷ part_shown p ∷ part_shown v ∷ []) ++ rest,
  ap (λ (s : List ℕ). parts_text s m p v ++ rest) b.1,
)

-- if no name has an open backtick there, only a wrong descriptor can be the error
pub no_descriptor : (at : ℕ) (rest : List ℕ) (fault : SymbolFault) → descriptor_at at rest ≡ Err fault → HasNoDescriptor rest
no_descriptor at rest fault e d first others t s =
    let again : descriptor_at at rest ≡ Ok (d, others) = ap (descriptor_at at) s ∙ descriptor_again at d first others t in
    err_ok fault (d, others) (sym e ∙ again)
  where
    err_ok : (fault : SymbolFault) (x : DescriptorModel × List ℕ) → ◌≡◌ {A = Result (DescriptorModel × List ℕ) SymbolFault} (Err fault) (Ok x) → ⊥
    err_ok fault x e = absurd cc

not_open : (at : ℕ) (rest : List ℕ) → descriptor_at at rest ≡ Err (faults.BadDescriptor at) → HasOpenQuote rest → ⊥
not_open at rest e q = differ at (sym e ∙ descriptor_open at rest q)
  where
    differ : (at : ℕ) → ◌≡◌ {A = Result (DescriptorModel × List ℕ) SymbolFault} (Err (faults.BadDescriptor at)) (Err faults.OpenQuote) → ⊥
    differ at e = absurd cc

front_of : (text : List ℕ) (x : PartsModel × List ℕ) (fault : SymbolFault) → ArePartsRead text x → (w : IsFirstWrong (length text) x.1 fault) → HasDescriptorPrefix text (length text - length w.rest) w.rest
front_of text x fault r w =
    let whole : length text ≡ length (parts_text x.0.scheme x.0.manager x.0.package_name x.0.version ++ x.1) = ap length r.has_parts.whole in
    let split : length x.1 ≡ length (w.front ++ w.rest) = ap length w.split in
    record {
      parts = shown_parts x.0.scheme x.0.manager x.0.package_name x.0.version;
      descriptors = w.descriptors;
      front = w.front;
      has_parts = subst (λ (t : List ℕ). BeginsWithParts text (shown_parts x.0.scheme x.0.manager x.0.package_name x.0.version) t) w.split r.has_parts;
      four = refl;
      front_is = w.front_is;
      offset = omega (arith, length-append (parts_text x.0.scheme x.0.manager x.0.package_name x.0.version) x.1, length-append w.front w.rest);
    }

-- the first wrong descriptor is the error
pub wrong_refused : (text : List ℕ) (x : PartsModel × List ℕ) (fault : SymbolFault) → ArePartsRead text x → IsFirstWrong (length text) x.1 fault → IsReadError text fault
wrong_refused text x fault r w = by_wrong (descriptor_fails (length text - length w.rest) w.rest fault w.answer)
  where
    by_wrong : IsWrong (length text - length w.rest) w.rest fault → IsReadError text fault
    by_wrong (inl e) =
        let answer = subst (λ (f : SymbolFault). descriptor_at (length text - length w.rest) w.rest ≡ Err f) e w.answer in
        subst (λ (f : SymbolFault). IsReadError text f) (sym e)
        (inr (record { rest = w.rest; front = front_of text x fault r w; some = w.some; none = no_descriptor (length text - length w.rest) w.rest fault w.answer; no_quote = not_open (length text - length w.rest) w.rest answer }))
    by_wrong (inr q) = subst (λ (f : SymbolFault). IsReadError text f) (sym q.0) (length text - length w.rest, w.rest, front_of text x fault r w, q.1)

abbrev pub global_of : PartsModel → List DescriptorModel → SymbolModel
global_of x ds = Global x.scheme x.manager x.package_name x.version ds

-- the four parts and the descriptors after them are a symbol
pub global_text : (text : List ℕ) (x : PartsModel × List ℕ) (ds : List DescriptorModel) → ArePartsRead text x → x.1 ≢ [] → DescriptorTexts ds x.1 → SymbolText (global_of x.0 ds) text
global_text text x ds r some t = record {
  scheme_is = r.scheme_is;
  not_local = λ b. r.has_parts.not_local (subst BeginsLocal (sym r.has_parts.whole) (local_scheme x.0.scheme x.0.manager x.0.package_name x.0.version x.1 b));
  manager_is = r.manager_is;
  package_is = r.package_is;
  version_is = r.version_is;
  some = ds_some ds t;
  rest = x.1;
  rest_is = t;
  whole = r.has_parts.whole;
}
  where
    ds_some : (ds : List DescriptorModel) → DescriptorTexts ds x.1 → ds ≢ []
    ds_some [] t = absurd (some t)
    ds_some (d ∷ ds) t = λ e. absurd cc

pub nothing_behind : (text : List ℕ) (x : PartsModel × List ℕ) → ArePartsRead text x → x.1 ≡ [] → IsReadError text faults.Empty
nothing_behind text x r e =
    inr (inr (shown_parts x.0.scheme x.0.manager x.0.package_name x.0.version, subst (λ (t : List ℕ). BeginsWithParts text (shown_parts x.0.scheme x.0.manager x.0.package_name x.0.version) t) e r.has_parts, refl))

-- what follows the parts is no longer than the text
pub rest_within : (text : List ℕ) (x : PartsModel × List ℕ) → ArePartsRead text x → length x.1 ≤ length text
rest_within text x r =
    omega (arith, ap length r.has_parts.whole, length-append (parts_text x.0.scheme x.0.manager x.0.package_name x.0.version) x.1)
