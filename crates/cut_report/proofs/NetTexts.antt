-- The text that is written for a network is a text of it.
use Rattle.std.proofs.Common.{◌≡◌, ℕ, ◌<◌, ◌^◌, true, eqb, List, [], ◌∷◌, ◌++◌, length, map, get_or, refl, sym, ap, ◌∙◌, subst, append_assoc, arith, inl, inr}
use Rattle.std.specs.Prelude.{Contains, filter}
use Rattle.std.specs.Str.{bytes_eq}
use Rattle.std.proofs.lemmas.Bool.{false_from_ne_true}
use Rattle.std.proofs.lemmas.List.{get_or_default}
use Rattle.std.proofs.lemmas.List.Elements.{All-contains, Contains-append_cases, Contains-append_left, Contains-get_or}
use Rattle.std.proofs.lemmas.List.Sorted.{IsPermutation-refl}
use Rattle.std.proofs.lemmas.List.Sums.{get_or-le-sum_by}
use Rattle.std.proofs.lemmas.List.Splits.{slice_split_at}
use Rattle.std.proofs.lemmas.Map.Keys.{IsDistinct-from_apart}
use Rattle.std.proofs.lemmas.Slice.Eq.{bytes_eq-Decides}
use Rattle.digraph.proofs.Members.{first_member, from_map, in_map, later_member}
use Rattle.texts.specs.Fields.{ended, is_name}
use Rattle.texts.proofs.FieldCuts.{without}
use Rattle.texts.proofs.FieldNames.{decimal_without, name_without, without-append}
use Rattle.cut_net.specs.declared.priced.Priced.{Priced}
use Rattle.cut_net.specs.NetList.{AreListed}
use Rattle.cut_net.specs.NetReading.{import_line}
use Rattle.cut_net.specs.NetText.{NetLine, Module, Import, net_line, is_import, is_nonempty, pieces_of, AreMentioning, IsNetLine, Mentions, NetText, Spell}
use Rattle.cut_net.specs.Network.{Network, unpinned}
use Rattle.cut_net.specs.WellFormed.{IsNetwork}
use Rattle.cut_net.proofs.Listed.{listed_text}
use Rattle.cut_report.specs.NetLines.{net_lines, ended_lines, net_text}
use Rattle.cut_report.proofs.ImportLines.{name_is}
use Rattle.cut_report.proofs.NameOrder.{apart, name_known}
use Rattle.cut_report.proofs.Words.{none_is}

-- ---- the lines are those that the text has

line_without : (line : NetLine) → IsNetLine line → without 10 (net_line line) ≡ true
line_without (Module m) form = name_without 10 m refl form
line_without (Import m n w) form = without-append 10 m _ (name_without 10 m refl form.0) (without-append 10 n _ (name_without 10 n refl form.1) (decimal_without 10 w refl form.2))

kept_line : (line : NetLine) (pieces : List (List ℕ)) → filter is_nonempty (net_line line ∷ pieces) ≡ net_line line ∷ filter is_nonempty pieces
kept_line (Module m) pieces = refl
kept_line (Import m n w) pieces = refl

rows_spell : (lines : List NetLine) → ((line : NetLine) → Contains lines line → IsNetLine line) → Spell (pieces_of (ended_lines lines)) lines
rows_spell [] forms = refl
rows_spell (line ∷ lines) forms =
    let rest = ended_lines lines in
    let none = none_is 10 (net_line line) (line_without line (forms line (first_member line lines line refl))) in
    let cut : pieces_of (ended (net_line line) ++ rest) ≡ net_line line ∷ pieces_of rest =
    ap pieces_of (append_assoc (net_line line) (10 ∷ []) rest) ∙ slice_split_at (λ b. eqb b 10) (net_line line) 10 rest none refl in
    ap (filter is_nonempty) cut ∙ kept_line line (pieces_of rest)
    ∙ ap (λ (t : List (List ℕ)). net_line line ∷ t) (rows_spell lines (λ other present. forms other (later_member line lines other present)))

-- ---- the lines are those of the network

no_modules : (names : List (List ℕ)) (lines : List NetLine) → filter is_import (map Module names ++ lines) ≡ filter is_import lines
no_modules [] lines = refl
no_modules (name ∷ names) lines = no_modules names lines

all_imports : (names : List (List ℕ)) (imports : List Priced) → filter is_import (map (import_line names) imports) ≡ map (import_line names) imports
all_imports names [] = refl
all_imports names (i ∷ imports) = ap (λ (t : List NetLine). import_line names i ∷ t) (all_imports names imports)

module _ (net : Network) (is : IsNetwork net) where
  -- a weight fits 64 bits, since their sum does
  fits : (i : Priced) → Contains net.imports i → i.amount < 2 ^ 64
  fits i (k, within, at) =
      let low = get_or-le-sum_by (λ (j : Priced). j.amount) net.imports k i within in
      let same : (get_or net.imports k i).amount ≡ i.amount = ap (λ (j : Priced). j.amount) at in
      let sum = is.fits in
      omega arith

  form : (line : NetLine) → Contains (net_lines net) line → IsNetLine line
  form line present = elim (Contains-append_cases (map Module net.names) (map (import_line net.names) net.imports) line present) [
    | inl of_module ↦
        let (name, known, same) = from_map Module net.names line of_module in
        subst IsNetLine same (All-contains (λ n. is_name n ≡ true) net.names name is.named known)
    | inr of_import ↦
        let (i, known, same) = from_map (import_line net.names) net.imports line of_import in
        let ends = is.between i known in
        subst IsNetLine same (name_is net i.from is ends.0, name_is net i.to is ends.1, fits i known)
  ]

  -- the modules have lines, and the lines have no other names
  mentioned : (name : List ℕ) → Contains net.names name → AreMentioning (net_lines net) name
  mentioned name known = (Module name, Contains-append_left (map Module net.names) _ (Module name) (in_map Module net.names name known), refl)

  named_by : (m : ℕ) (name : List ℕ) → m < length net.names → get_or net.names m [] ≡ name → Contains net.names name
  named_by m name lt same = subst (λ (n : List ℕ). Contains net.names n) same (name_known net m lt)

  known : (name : List ℕ) → AreMentioning (net_lines net) name → Contains net.names name
  known name (line, present, has) = elim (Contains-append_cases (map Module net.names) (map (import_line net.names) net.imports) line present) [
    | inl of_module ↦
        let (other, is_known, same) = from_map Module net.names line of_module in
        let own : Mentions name (Module other) = subst (λ (l : NetLine). Mentions name l) (sym same) has in
        subst (λ (n : List ℕ). Contains net.names n) own is_known
    | inr of_import ↦
        let (i, listed, same) = from_map (import_line net.names) net.imports line of_import in
        let ends = is.between i listed in
        let own : Mentions name (import_line net.names i) = subst (λ (l : NetLine). Mentions name l) (sym same) has in
        elim own [
          | inl from ↦ named_by i.from name ends.0 from
          | inr to ↦ named_by i.to name ends.1 to
        ]
  ]

  are_listed : AreListed (net_lines net) net.names net.imports
  are_listed = record {
    each = λ k d lt. form (get_or (net_lines net) k d) (Contains-get_or (net_lines net) k d lt);
    are_names = record {
      once = IsDistinct-from_apart bytes_eq net.names (λ i j d less within.
          false_from_ne_true _ (λ e. apart net.names is.names_ascend i j less within (same_at i j d (omega arith) within ((bytes_eq-Decides _ _).0 e))));
      named = λ name. (mentioned name, known name);
    };
    few_names = is.few_names;
    few_imports = is.few_imports;
    placed = is.between;
    listed = no_modules net.names (map (import_line net.names) net.imports) ∙ all_imports net.names net.imports;
  }
    where
      same_at : (i j : ℕ) (d : List ℕ) → i < length net.names → j < length net.names → get_or net.names i d ≡ get_or net.names j d → get_or net.names i [] ≡ get_or net.names j []
      same_at i j d a b e = get_or_default net.names i [] d a ∙ e ∙ sym (get_or_default net.names j [] d b)

  pub text_is : net.pins ≡ [] → NetText (net_text net) net
  text_is none =
      let named = IsPermutation-refl net.names in
      let text = listed_text (net_lines net) net.names net.names net.imports net.imports net.imports are_listed named refl is.between (IsPermutation-refl net.imports) is.imports_ascend
      (net_text net) is.names_ascend (rows_spell (net_lines net) form) in
      let whole : unpinned net.names net.imports ≡ net = ap (λ (pins : List Priced). record { names = net.names; imports = net.imports; pins = pins }) (sym none) in
      subst (NetText (net_text net)) whole text
