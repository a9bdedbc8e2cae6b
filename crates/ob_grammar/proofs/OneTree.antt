-- The whole text has one tree, or none.
use Rattle.std.proofs.Common.{◌≡◌, ℕ, ◌+◌, ◌<◌, ◌≤◌, List, ◌∷◌, ◌^◌, ◌++◌, Option, None, Some, slice_get, get_or, drop, Result, Ok, Err, length, refl, sym, ap, ◌∙◌, subst, arith, length-append, inl, inr}
use Rattle.std.proofs.Math.Seq.{get_or-append_seam}
use Rattle.std.proofs.lemmas.Option.{slice_get_cases}
use Rattle.std.proofs.lemmas.Bool.{cases_lt}
use Rattle.std.proofs.lemmas.List.{drop_all, drop_more, length-map, take_all}
use Rattle.std.specs.Prelude.{All}
use Rattle.ob_scan.proofs.InText.{found_in_text}
use Rattle.ob_scan.specs.declared.kind.Kind.{Kind}
use Rattle.ob_scan.specs.declared.token.Token.{Token}
use Rattle.ob_scan.specs.Spelling.{AreInText}
use Rattle.ob_scan.specs.Texts.{bytes_of}
use Rattle.ob_tree.specs.declared.declaration.Module.{Module}
use Rattle.ob_tree.specs.Declaring.{module_events}
use Rattle.ob_tree.specs.Derives.{Derives, depth, end_names_in, spelling}
use Rattle.ob_tree.specs.declared.token.Leaf.{Leaf}
use Rattle.ob_tree.specs.Leaves.{leaf_of, leaves_from}
use Rattle.ob_tree.specs.TreeEvents.{Events}
use Rattle.ob_grammar.specs.declared.fault.ParseFault.{ParseFault}
use Rattle.ob_grammar.specs.declared.fault.ParseFault.TheVariants as faults
use Rattle.ob_grammar.specs.Lookahead.{uncons}
use Rattle.ob_grammar.specs.Combinators.{ReadError, Unexpected, TooDeep, too_deep_error}
use Rattle.ob_grammar.specs.ParsesAs.{Fails, remaining}
use Rattle.ob_grammar.specs.declared.cursor.Cursor.{Cursor}
use Rattle.ob_grammar.specs.declared.stop.Stop.{Stop}
use Rattle.ob_grammar.specs.declared.stop.Stop.TheVariants as stops
use Rattle.ob_grammar.specs.Ends.{AreTokenNumbers, IsInText, too_deep_fault, fault_of_stop}
use Rattle.ob_grammar.specs.Parsed.{EndPair, IsOneTree, IsTheTree, IsRightEnd, IsWrongEnd, IsEndFault, IsFaultOf, IsStartOrEnd, kinds_of, remaining_from, read_as_module, start_or}
use Rattle.ob_grammar.specs.ReadModules.{read_all}
use Rattle.ob_grammar.proofs.Remaining.{leaves_length}
use Rattle.ob_grammar.proofs.Sound.{all_sound}
use Rattle.ob_grammar.proofs.Whole.{still_wrong, still_ok}
use Rattle.ob_grammar.proofs.CompleteModules.{all_again}
use Rattle.ob_grammar.proofs.Endings.{endings_known, leaves_below}

abbrev refused : ReadError → Result Events ReadError
refused r = Err r

ok_same : (x y : Events) (r : Result Events ReadError) → r ≡ Ok x → r ≡ Ok y → x ≡ y
ok_same x y r e f = cc

never : (r : Result Events ReadError) (o : Events) (x : ReadError) → r ≡ Ok o → r ≡ Err x → ⊥
never r o x e f = cc

-- a tree that derives the tokens is read if it isn't too deep
again : (kinds : List Kind) (d : ℕ) (m : Module) → Derives kinds m → depth m ≤ d → read_all d (leaves_from 0 kinds) ≡ Ok (module_events m)
again kinds d m h le = ap (read_all d) h ∙ all_again d m le

pub tree_is_unique : (ts : List Token) (m : Module) → read_all 200 (leaves_from 0 (kinds_of ts)) ≡ Ok (module_events m) → IsOneTree ts m
tree_is_unique ts m e =
    let read = all_sound 200 (leaves_from 0 (kinds_of ts)) (module_events m) e in
    record {
      derived = read.0;
      shallow = read.1;
      only = λ other h. ok_same (module_events other) (module_events m) (read_all (200 + depth other) (leaves_from 0 (kinds_of ts))) (again (kinds_of ts) (200 + depth other) other h (omega arith)) (still_ok 200 (200 + depth other) (leaves_from 0 (kinds_of ts)) (module_events m) (omega arith) e);
    }

no_tree : (ts : List Token) (o : Option (Leaf × List Leaf)) → read_as_module ts ≡ Err (Unexpected o) → (other : Module) → Derives (kinds_of ts) other → ⊥
no_tree ts o e other h = never (read_all (200 + depth other) (leaves_from 0 (kinds_of ts))) (module_events other) (Unexpected o) (again (kinds_of ts) (200 + depth other) other h (omega arith)) (still_wrong 200 (200 + depth other) (leaves_from 0 (kinds_of ts)) o (omega arith) e)

no_low_tree : (ts : List Token) (x : Leaf × List Leaf) → read_as_module ts ≡ Err (TooDeep x) → (other : Module) → Derives (kinds_of ts) other → 200 < depth other
no_low_tree ts x e other h = elim (cases_lt 200 (depth other)) [
  | inl lt ↦ lt
  | inr le ↦ absurd (never (read_as_module ts) (module_events other) (TooDeep x) (again (kinds_of ts) 200 other h le) e)
]

-- ---- where the parser stops

-- the remaining tokens are those from the token with this index on
ahead_is : (ts : List Token) (i : Cursor) → length ts < 2 ^ 32 → uncons (remaining ts i) ≡ remaining_from ts i.at
unfolding remaining
ahead_is ts i few = ap (λ (us : List Token). uncons (leaves_from i.at (kinds_of (drop i.at us)))) (take_all 4294967295 ts (omega (arith, few)))

nothing_from : (ts : List Token) (n : ℕ) → length ts ≤ n → remaining_from ts n ≡ None
nothing_from ts n h = ap (λ (us : List Token). uncons (leaves_from n (kinds_of us))) (drop_all n ts h)

token_from : (ts : List Token) (n : ℕ) (t : Token) → n < length ts → get_or ts n t ≡ t → remaining_from ts n ≡ Some (leaf_of n t.kind, leaves_from (n + 1) (kinds_of (drop (n + 1) ts)))
token_from ts n t h e = ap (λ (us : List Token). uncons (leaves_from n (kinds_of us))) (drop_more ts n t h ∙ ap (λ (u : Token). u ∷ drop (n + 1) ts) e)

wrong_fault : (bytes : List ℕ) (ts : List Token) (n : ℕ) → read_as_module ts ≡ Err (Unexpected (remaining_from ts n)) → IsFaultOf bytes ts (faults.Syntax (start_or (length bytes) (slice_get ts n)))
wrong_fault bytes ts n e = (record { number = n; begins = refl; stops = e }, no_tree ts (remaining_from ts n) e)

deep_fault : (bytes : List ℕ) (ts : List Token) (n : ℕ) → read_as_module ts ≡ Err (too_deep_error (remaining_from ts n)) → IsFaultOf bytes ts (too_deep_fault (length bytes) (slice_get ts n))
deep_fault bytes ts n e = elim (slice_get_cases ts n).1 [
  | inl (t, within, is_token, at) ↦
      let is_remaining = token_from ts n t within at in
      let stops : read_as_module ts ≡ Err (TooDeep (leaf_of n t.kind, leaves_from (n + 1) (kinds_of (drop (n + 1) ts)))) = e ∙ ap (λ (o : Option (Leaf × List Leaf)). refused (too_deep_error o)) is_remaining in
      subst (λ (o : Option Token). IsFaultOf bytes ts (too_deep_fault (length bytes) o)) (sym is_token)
      (record { number = n; token = t; is_token = is_token; begins = refl; remaining = (leaf_of n t.kind, leaves_from (n + 1) (kinds_of (drop (n + 1) ts))); is_remaining = is_remaining; stops = stops }, no_low_tree ts _ stops)
  | inr (past, none) ↦
      let stops : read_as_module ts ≡ Err (Unexpected (remaining_from ts n)) = e ∙ ap (λ (o : Option (Leaf × List Leaf)). refused (too_deep_error o)) (nothing_from ts n past) ∙ ap (λ (o : Option (Leaf × List Leaf)). refused (Unexpected o)) (sym (nothing_from ts n past)) in
      subst (λ (o : Option Token). IsFaultOf bytes ts (too_deep_fault (length bytes) o)) (sym none)
      (subst (λ (o : Option Token). IsFaultOf bytes ts (faults.Syntax (start_or (length bytes) o))) none (wrong_fault bytes ts n stops))
]

pub why_none : (bytes : List ℕ) (ts : List Token) (stop : Stop) → length ts < 2 ^ 32 → Fails {Y = Events} ts stop (read_as_module ts) → IsFaultOf bytes ts (fault_of_stop (length bytes) ts stop)
why_none bytes ts stops.Memory few e = tt
why_none bytes ts (stops.Unexpected i) few e = wrong_fault bytes ts i.at (e ∙ ap (λ (o : Option (Leaf × List Leaf)). refused (Unexpected o)) (ahead_is ts i few))
why_none bytes ts (stops.TooDeep i) few e = deep_fault bytes ts i.at (e ∙ ap (λ (o : Option (Leaf × List Leaf)). refused (too_deep_error o)) (ahead_is ts i few))

-- both indices of each name after END are indices of tokens
pub endings_are_known : (ts : List Token) (o : Events) → read_all 200 (leaves_from 0 (kinds_of ts)) ≡ Ok o → All (AreTokenNumbers ts) (end_names_in o)
endings_are_known ts o e =
    subst (λ (n : ℕ). All (λ (p : ℕ × ℕ). (p.0 < n) × (p.1 < n)) (end_names_in o)) (length-map ts (λ (t : Token). t.kind)) (endings_known (length (kinds_of ts)) 200 (leaves_from 0 (kinds_of ts)) o (leaves_below (kinds_of ts)) e)

pub tokens_placed : (bytes : List ℕ) (ts : List Token) → AreInText bytes ts → All (IsInText bytes) ts
tokens_placed bytes ts h = λ i d in_i. let a = h.some i d in_i in (omega arith, h.within i d in_i)

pub trees_same : (kinds : List Kind) (m n : Module) → Derives kinds m → Derives kinds n → module_events m ≡ module_events n
trees_same kinds m n h k = ok_same (module_events m) (module_events n) (read_all (depth m + depth n) (leaves_from 0 kinds)) (again kinds (depth m + depth n) m h (omega arith)) (again kinds (depth m + depth n) n k (omega arith))

pub some_is : {X : Type 0} (x y : X) → Some x ≡ Some y → x ≡ y
some_is x y e = cc

-- the bytes of a pair are those of its tokens
pair_texts : (bytes : List ℕ) (ts : List Token) (e : ℕ × ℕ) (p q : EndPair ts e) → bytes_of bytes p.name ≡ bytes_of bytes p.end → bytes_of bytes q.name ≡ bytes_of bytes q.end
pair_texts bytes ts e p q same =
    let name : p.name ≡ q.name = some_is p.name q.name (sym p.is_name ∙ q.is_name) in
    let end : p.end ≡ q.end = some_is p.end q.end (sym p.is_end ∙ q.is_end) in
    rw (sym name, sym end) same

pub not_wrong : (bytes : List ℕ) (ts : List Token) (at : ℕ) (e : ℕ × ℕ) → IsRightEnd bytes ts e → IsWrongEnd bytes ts at e → ⊥
not_wrong bytes ts at e r w = w.differ (pair_texts bytes ts e r.pair w.pair r.same)

pub no_end_fault : (bytes : List ℕ) (ts : List Token) (m : Module) (at : ℕ) → IsTheTree bytes ts m → IsEndFault bytes ts at → ⊥
no_end_fault bytes ts m at t f =
    let same : module_events f.of ≡ module_events m = t.tree.only f.of f.tree.derived in
    let split : end_names_in (module_events m) ≡ f.first.before ++ f.first.wrong ∷ f.first.after = ap end_names_in (sym same) ∙ f.first.split in
    let all : All (IsRightEnd bytes ts) (f.first.before ++ f.first.wrong ∷ f.first.after) = subst (All (IsRightEnd bytes ts)) split t.ended in
    let here : get_or (f.first.before ++ f.first.wrong ∷ f.first.after) (length f.first.before) f.first.wrong ≡ f.first.wrong = get_or-append_seam f.first.before f.first.wrong f.first.after f.first.wrong in
    not_wrong bytes ts at f.first.wrong (subst (IsRightEnd bytes ts) here (all (length f.first.before) f.first.wrong (omega (arith, length-append f.first.before (f.first.wrong ∷ f.first.after))))) f.first.is_wrong

pub no_fault : (bytes : List ℕ) (ts : List Token) (m : Module) (fault : ParseFault) → IsTheTree bytes ts m → IsFaultOf bytes ts fault → fault ≡ faults.Memory
no_fault bytes ts m (faults.Syntax at) t f = absurd (f.1 m t.tree.derived)
no_fault bytes ts m (faults.EndName at) t f = absurd (no_end_fault bytes ts m at t f)
no_fault bytes ts m (faults.TooDeep at) t f =
    let deep = f.1 m t.tree.derived in
    absurd (omega (arith, t.tree.shallow))
no_fault bytes ts m faults.Memory t f = refl

pub place_in_text : (bytes : List ℕ) (ts : List Token) (at : ℕ) → AreInText bytes ts → IsStartOrEnd bytes ts at → at ≤ length bytes
place_in_text bytes ts at h (inr end) = omega (arith, end)
place_in_text bytes ts at h (inl s) = omega (arith, found_in_text bytes ts s.number s.token h s.is_token, s.begins)

-- a tree of a text has no more tokens than the text has bytes
pub few_tokens : (bytes : List ℕ) (ts : List Token) (m : Module) → AreInText bytes ts → length bytes ≤ 16777216 → Derives (kinds_of ts) m → length (spelling m) < 2 ^ 32
few_tokens bytes ts m h short derived = omega (arith, h.few, ap length derived, leaves_length 0 (kinds_of ts), length-map ts (λ (t : Token). t.kind))
