-- Names after END, compared one by one.
use Rattle.std.proofs.Common.{◌≡◌, ℕ, ◌+◌, ◌<◌, ◌≤◌, Bool, true, false, List, ◌++◌, length, get_or, take, drop, sym, subst, ap, ◌∙◌}
use Rattle.std.specs.Prelude.{All}
use Rattle.std.specs.Str.{bytes_eq}
use Rattle.std.proofs.lemmas.Slice.Eq.{bytes_eq-Decides}
use Rattle.std.proofs.lemmas.Option.{slice_get-get_or, get_or_from_slice_get}
use Rattle.std.proofs.lemmas.Bool.Decides.{not_from_Decides}
use Rattle.std.proofs.lemmas.List.{take_more, take_all, take-append-drop, drop_more}
use Rattle.std.proofs.lemmas.List.Elements.{All-push}
use Rattle.ob_scan.specs.declared.kind.Kind.TheVariants as kinds
use Rattle.ob_scan.specs.declared.token.Token.{Token}
use Rattle.ob_scan.specs.Texts.{bytes_of}
use Rattle.ob_grammar.specs.Ends.{IsEnd}
use Rattle.ob_grammar.specs.Parsed.{EndPair, IsRightEnd, IsFirstWrong}

-- a token after the end of the list
abbrev pub any_token : Token
any_token = record { kind = kinds.Ident; start = 0; end = 0 }

abbrev pair_at : (ts : List Token) (n k : ℕ) (d : Token) → n < length ts → k < length ts → EndPair ts (n, k)
pair_at ts n k d a b = record {
  name = get_or ts n d;
  end = get_or ts k d;
  is_name = slice_get-get_or ts n d a;
  is_end = slice_get-get_or ts k d b;
}

pub end_is : (bytes : List ℕ) (ts : List Token) (n k : ℕ) (d : Token) (b : Bool) → n < length ts → k < length ts → b ≡ bytes_eq (bytes_of bytes (get_or ts n d)) (bytes_of bytes (get_or ts k d)) → IsEnd bytes ts b (n, k)
end_is bytes ts n k d true a b e =
    let same = bytes_eq-Decides (bytes_of bytes (get_or ts n d)) (bytes_of bytes (get_or ts k d)) in
    record { pair = pair_at ts n k d a b; same = same.0 (sym e) }
end_is bytes ts n k d false a b e =
    let same = bytes_eq-Decides (bytes_of bytes (get_or ts n d)) (bytes_of bytes (get_or ts k d)) in
    (pair_at ts n k d a b, not_from_Decides _ same (sym e))

-- one more right name
pub right_more : (bytes : List ℕ) (ts : List Token) (ends : List (ℕ × ℕ)) (i : ℕ) (d : ℕ × ℕ) → i < length ends → All (IsRightEnd bytes ts) (take i ends) → IsRightEnd bytes ts (get_or ends i d) → All (IsRightEnd bytes ts) (take (i + 1) ends)
right_more bytes ts ends i d in_i all one = subst (All (IsRightEnd bytes ts)) (sym (take_more ends i d in_i)) (All-push (IsRightEnd bytes ts) (take i ends) (get_or ends i d) all one)

pub all_right : (bytes : List ℕ) (ts : List Token) (ends : List (ℕ × ℕ)) (i : ℕ) → length ends ≤ i → All (IsRightEnd bytes ts) (take i ends) → All (IsRightEnd bytes ts) ends
all_right bytes ts ends i le all = subst (All (IsRightEnd bytes ts)) (take_all i ends le) all

-- the first wrong name
pub first_wrong : (bytes : List ℕ) (ts : List Token) (ends : List (ℕ × ℕ)) (i : ℕ) (d : ℕ × ℕ) (t : Token) → i < length ends → All (IsRightEnd bytes ts) (take i ends) → (get_or ends i d).1 < length ts → IsEnd bytes ts false (get_or ends i d) → IsFirstWrong bytes ts ends (get_or ts (get_or ends i d).1 t).start
first_wrong bytes ts ends i d t in_i all in_range e = record {
  before = take i ends;
  wrong = get_or ends i d;
  after = drop (i + 1) ends;
  split = sym (take-append-drop i ends) ∙ ap (λ (z : List (ℕ × ℕ)). take i ends ++ z) (drop_more ends i d in_i);
  right_before = all;
  is_wrong = record { pair = e.0; differ = e.1; begins = ap (λ (u : Token). u.start) (sym (get_or_from_slice_get ts (get_or ends i d).1 e.0.end t e.0.is_end)) };
}
