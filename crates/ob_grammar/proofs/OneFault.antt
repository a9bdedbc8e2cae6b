-- A text has at most one error.
use Rattle.std.proofs.Common.{◌≡◌, ◌≢◌, ℕ, ◌<◌, ◌-◌, suc, List, [], ◌∷◌, Option, None, Some, Err, length, drop, get_or, refl, sym, ap, ◌∙◌, subst, slice_get, inl, inr, arith}
use Rattle.std.proofs.Math.Seq.{get_or-append_seam}
use Rattle.std.proofs.lemmas.Bool.{cases_order, cases_lt}
use Rattle.std.proofs.lemmas.List.{get_or_append_left, length-drop, length-map}
use Rattle.std.proofs.lemmas.Option.{slice_get_past}
use Rattle.ob_scan.specs.declared.token.Token.{Token}
use Rattle.ob_tree.specs.Declaring.{module_events}
use Rattle.ob_tree.specs.Derives.{end_names_in}
use Rattle.ob_tree.specs.declared.token.Leaf.{Leaf}
use Rattle.ob_tree.specs.Leaves.{leaves_from}
use Rattle.ob_tree.specs.TreeEvents.{Events}
use Rattle.ob_grammar.specs.declared.fault.ParseFault.{ParseFault}
use Rattle.ob_grammar.specs.declared.fault.ParseFault.TheVariants as faults
use Rattle.ob_grammar.specs.Lookahead.{uncons}
use Rattle.ob_grammar.specs.Parsed.{IsEndFault, IsFaultOf, IsFirstWrong, IsRightEnd, IsStartOrEnd, IsTokenStart, IsWrongEnd, remaining_from, kinds_of, start_or}
use Rattle.ob_grammar.specs.Combinators.{ReadError, Unexpected, TooDeep}
use Rattle.std.specs.Prelude.{Result}
use Rattle.ob_grammar.proofs.Remaining.{leaves_length}
use Rattle.ob_grammar.proofs.OneTree.{not_wrong, some_is}
use Rattle.ob_grammar.proofs.Whole.{never_deep}

-- ---- where reading stops

-- the number of tokens
abbrev count : Option (Leaf × List Leaf) → ℕ
count None = 0
count (Some x) = suc (length x.1)

counted : (ls : List Leaf) → count (uncons ls) ≡ length ls
counted [] = refl
counted (l ∷ ls) = refl

from_count : (ts : List Token) (n : ℕ) → count (remaining_from ts n) ≡ length ts - n
from_count ts n = counted (leaves_from n (kinds_of (drop n ts))) ∙ leaves_length n (kinds_of (drop n ts)) ∙ length-map (drop n ts) (λ (t : Token). t.kind) ∙ length-drop n ts

-- the tokens from an index on determine where the first of them begins
one_start : (ts : List Token) (m n end : ℕ) → remaining_from ts m ≡ remaining_from ts n → start_or end (slice_get ts m) ≡ start_or end (slice_get ts n)
one_start ts m n end e =
    let same : length ts - m ≡ length ts - n = sym (from_count ts m) ∙ ap count e ∙ from_count ts n in
    elim (cases_lt m (length ts)) [
      | inl less ↦ let is : m ≡ n = omega (arith, same, less) in ap (λ (i : ℕ). start_or end (slice_get ts i)) is
      | inr past ↦ rw (slice_get_past ts m past, slice_get_past ts n (omega (arith, same, past))) refl
    ]

wrong_is : (r : Result Events ReadError) (o p : Option (Leaf × List Leaf)) → r ≡ Err (Unexpected o) → r ≡ Err (Unexpected p) → o ≡ p
wrong_is r o p e f = cc

deep_is : (r : Result Events ReadError) (x y : Leaf × List Leaf) → r ≡ Err (TooDeep x) → r ≡ Err (TooDeep y) → x ≡ y
deep_is r x y e f = cc

-- ---- the first wrong name after END

begins_once : (bytes : List ℕ) (ts : List Token) (m n : ℕ) (e d : ℕ × ℕ) → e ≡ d → IsWrongEnd bytes ts m e → IsWrongEnd bytes ts n d → m ≡ n
begins_once bytes ts m n e d same a b =
    let c : IsWrongEnd bytes ts m d = subst (IsWrongEnd bytes ts m) same a in
    let end : c.pair.end ≡ b.pair.end = some_is c.pair.end b.pair.end (sym c.pair.is_end ∙ b.pair.is_end) in
    sym c.begins ∙ ap (λ (t : Token). t.start) end ∙ b.begins

-- no name before the first wrong one is wrong
not_before : (bytes : List ℕ) (ts : List Token) (es : List (ℕ × ℕ)) (m n : ℕ) (f : IsFirstWrong bytes ts es m) (g : IsFirstWrong bytes ts es n) → length f.before < length g.before → ⊥
not_before bytes ts es m n f g less =
    let right = g.right_before (length f.before) f.wrong less in
    let here : get_or es (length f.before) f.wrong ≡ f.wrong = ap (λ (xs : List (ℕ × ℕ)). get_or xs (length f.before) f.wrong) f.split ∙ get_or-append_seam f.before f.wrong f.after f.wrong in
    let is_token : get_or es (length f.before) f.wrong ≡ get_or g.before (length f.before) f.wrong =
    ap (λ (xs : List (ℕ × ℕ)). get_or xs (length f.before) f.wrong) g.split ∙ get_or_append_left g.before (g.wrong ∷ g.after) f.wrong (length f.before) less in
    not_wrong bytes ts m f.wrong (subst (IsRightEnd bytes ts) (sym is_token ∙ here) right) f.is_wrong

first_once : (bytes : List ℕ) (ts : List Token) (es : List (ℕ × ℕ)) (m n : ℕ) → IsFirstWrong bytes ts es m → IsFirstWrong bytes ts es n → m ≡ n
first_once bytes ts es m n f g = elim (cases_order (length f.before) (length g.before)) [
  | inl same ↦
      let here : get_or es (length f.before) f.wrong ≡ f.wrong = ap (λ (xs : List (ℕ × ℕ)). get_or xs (length f.before) f.wrong) f.split ∙ get_or-append_seam f.before f.wrong f.after f.wrong in
      let is_token : get_or es (length g.before) f.wrong ≡ g.wrong = ap (λ (xs : List (ℕ × ℕ)). get_or xs (length g.before) f.wrong) g.split ∙ get_or-append_seam g.before g.wrong g.after f.wrong in
      begins_once bytes ts m n f.wrong g.wrong (sym here ∙ ap (λ (i : ℕ). get_or es i f.wrong) same ∙ is_token) f.is_wrong g.is_wrong
  | inr (inl less) ↦ absurd (not_before bytes ts es m n f g less)
  | inr (inr less) ↦ absurd (not_before bytes ts es n m g f less)
]

one_end_fault : (bytes : List ℕ) (ts : List Token) (m n : ℕ) → IsEndFault bytes ts m → IsEndFault bytes ts n → m ≡ n
one_end_fault bytes ts m n f g =
    let ends : end_names_in (module_events g.of) ≡ end_names_in (module_events f.of) = ap end_names_in (f.tree.only g.of g.tree.derived) in
    first_once bytes ts (end_names_in (module_events f.of)) m n f.first (subst (λ (es : List (ℕ × ℕ)). IsFirstWrong bytes ts es n) ends g.first)

---- all errors

pub fault_is_unique : (bytes : List ℕ) (ts : List Token) (f g : ParseFault) → IsFaultOf bytes ts f → IsFaultOf bytes ts g → (f ≢ faults.Memory) → (g ≢ faults.Memory) → f ≡ g
fault_is_unique bytes ts (faults.Syntax at) (faults.Syntax to) h k some other =
    let same = wrong_is _ (remaining_from ts h.0.number) (remaining_from ts k.0.number) h.0.stops k.0.stops in
    ap faults.Syntax (sym h.0.begins ∙ one_start ts h.0.number k.0.number (length bytes) same ∙ k.0.begins)
fault_is_unique bytes ts (faults.Syntax at) (faults.EndName to) h k some other = absurd (h.1 k.of k.tree.derived)
fault_is_unique bytes ts (faults.Syntax at) (faults.TooDeep to) h k some other = absurd (never_deep _ k.0.remaining (remaining_from ts h.0.number) k.0.stops h.0.stops)
fault_is_unique bytes ts (faults.EndName at) (faults.Syntax to) h k some other = absurd (k.1 h.of h.tree.derived)
fault_is_unique bytes ts (faults.EndName at) (faults.EndName to) h k some other = ap faults.EndName (one_end_fault bytes ts at to h k)
fault_is_unique bytes ts (faults.EndName at) (faults.TooDeep to) h k some other = let deep = k.1 h.of h.tree.derived in let shallow = h.tree.shallow in absurd (omega arith)
fault_is_unique bytes ts (faults.TooDeep at) (faults.Syntax to) h k some other = absurd (never_deep _ h.0.remaining (remaining_from ts k.0.number) h.0.stops k.0.stops)
fault_is_unique bytes ts (faults.TooDeep at) (faults.EndName to) h k some other = let deep = h.1 k.of k.tree.derived in let shallow = k.tree.shallow in absurd (omega arith)
fault_is_unique bytes ts (faults.TooDeep at) (faults.TooDeep to) h k some other =
    let same = deep_is _ h.0.remaining k.0.remaining h.0.stops k.0.stops in
    let from : remaining_from ts h.0.number ≡ remaining_from ts k.0.number = h.0.is_remaining ∙ ap Some same ∙ sym k.0.is_remaining in
    let start : start_or 0 (slice_get ts h.0.number) ≡ start_or 0 (slice_get ts k.0.number) = one_start ts h.0.number k.0.number 0 from in
    ap faults.TooDeep (sym h.0.begins ∙ ap (start_or 0) (sym h.0.is_token) ∙ start ∙ ap (start_or 0) k.0.is_token ∙ k.0.begins)
fault_is_unique bytes ts f faults.Memory h k some other = absurd (other refl)
fault_is_unique bytes ts faults.Memory g h k some other = absurd (some refl)

---- offsets

offset_at : (bytes : List ℕ) (ts : List Token) (n : ℕ) (o : Option Token) (at : ℕ) → slice_get ts n ≡ o → start_or (length bytes) o ≡ at → IsStartOrEnd bytes ts at
offset_at bytes ts n None at e is = inr (sym is)
offset_at bytes ts n (Some t) at e is = inl (record { number = n; token = t; is_token = e; begins = is })

pub syntax_place : (bytes : List ℕ) (ts : List Token) (at : ℕ) → IsFaultOf bytes ts (faults.Syntax at) → IsStartOrEnd bytes ts at
syntax_place bytes ts at h = offset_at bytes ts h.0.number (slice_get ts h.0.number) at refl h.0.begins

pub deep_start : (bytes : List ℕ) (ts : List Token) (at : ℕ) → IsFaultOf bytes ts (faults.TooDeep at) → IsTokenStart ts at
deep_start bytes ts at h = record { number = h.0.number; token = h.0.token; is_token = h.0.is_token; begins = h.0.begins }
