-- A rejected tree has one error.
use Rattle.std.proofs.Common.{◌≡◌, ◌≢◌, ℕ, ◌<◌, false, List, [], ◌∷◌, ◌++◌, length, Some, Result, Ok, Err, refl, sym, ap, ap₂, ◌∙◌, subst, inl, inr, arith}
use Rattle.std.specs.Prelude.{codes, slice_get}
use Rattle.std.specs.List.{flat_map}
use Rattle.std.specs.String.{string_bytes}
use Rattle.std.proofs.lemmas.Bool.{cases_order, false≢true}
use Rattle.std.proofs.lemmas.Option.{slice_get_within}
use Rattle.texts.specs.Places.{position_text, Style}
use Rattle.ob_imports.specs.declared.fault.GraphFault.{GraphFault}
use Rattle.ob_imports.specs.declared.fault.GraphFault.TheVariants as graphs
use Rattle.ob_imports.specs.Files.{File}
use Rattle.ob_imports.specs.Graphs.{ImportGraph}
use Rattle.ob_imports.specs.Outcomes.{Cycle, GraphError, IsGraphOutcome, IsErrorOf, TooMany, TwoModules}
use Rattle.ob_imports.proofs.OneOutcome.{outcome_is_unique}
use Rattle.ob_scan.specs.declared.fault.ScanFault.{ScanFault}
use Rattle.ob_scan.specs.declared.fault.ScanFault.TheVariants as scans
use Rattle.ob_scan.specs.declared.line_column.Position.{Position}
use Rattle.ob_scan.specs.declared.token.Token.{Token}
use Rattle.ob_scan.specs.Position.{IsPosition}
use Rattle.ob_scan.specs.Spelling.{IsOutcome}
use Rattle.ob_scan.proofs.Outcomes.{outcome_once, spelled_once}
use Rattle.ob_scan.specs.Texts.{text_at, token_at}
use Rattle.ob_grammar.specs.declared.fault.ParseFault.{ParseFault}
use Rattle.ob_grammar.specs.declared.fault.ParseFault.TheVariants as parses
use Rattle.ob_grammar.specs.Parsed.{IsFaultOf}
use Rattle.ob_grammar.proofs.OneFault.{fault_is_unique}
use Rattle.ob_scope.specs.declared.fault.ScopeFault.{ScopeFault}
use Rattle.ob_scope.specs.declared.fault.ScopeFault.TheVariants as scopes
use Rattle.table_rules.specs.Declaring.{rows_of}
use Rattle.module_table.specs.Parts.{Rows}
use Rattle.scopes.specs.declared.members.Member.{Member}
use Rattle.scopes.specs.declared.members.Scope.{Scope}
use Rattle.scopes.specs.declared.members.Scope.TheVariants.{Block, Record}
use Rattle.scopes.specs.Members.{members_of}
use Rattle.scopes.specs.Scope.{IsFirstDuplicate}
use Rattle.ob_scope.specs.Faults.{IsScopeFault}
use Rattle.scopes.proofs.Meanings.{first_once}
use Rattle.source_tree.specs.FileFaults.{IsAcceptedSource}
use Rattle.source_tree.specs.TreeFaults.{after_space, graph_fault_text, parse_fault_text, located_text, scan_fault_text, scope_fault_text, tree_fault_text, two_modules_text, is_out_of_memory}
use Rattle.source_tree.specs.Trees.{files_of, parse_offset, scan_offset, scope_offset, HasParseFault, HasScanFault, HasScopeFault, IsFault, IsFileFault, IsFirstFault, IsGraphFault, IsTreeFault}
use Rattle.source_tree.specs.declared.source.Source.{Source}
use Rattle.source_tree.specs.declared.tree_fault.TreeFault.{TreeFault}
use Rattle.source_tree.specs.declared.tree_fault.TreeFault.TheVariants as faults
use Rattle.source_tree.proofs.NoTreeFault.{at_seam, no_file_fault, no_first_fault, no_parse_fault, no_scan_fault, scope_fault_of}
use Rattle.source_tree.proofs.SameFiles.{same_files}
use Rattle.source_tree.proofs.TreeFiles.{there}
use Rattle.source_tree.proofs.TreeNet.{at_left, same_at}

-- ---- the first of a list without a property

module _ {X : Type 0} (P : X → Type 0) (xs : List X) where
  -- an index of the list at which the property fails, while it holds at all indices before
  pub record IsFirstWithout (before : List X) (x : X) (after : List X) : Type 0 where
    pub split : xs ≡ before ++ x ∷ after
    pub have : (i : ℕ) (y : X) → slice_get before i ≡ Some y → P y
    pub lacks : P x → ⊥

  stands : (before after : List X) (x : X) → IsFirstWithout before x after → slice_get xs (length before) ≡ Some x
  stands before after x h = subst (λ (ys : List X). slice_get ys (length before) ≡ Some x) (sym h.split) (at_seam before after x)

  not_before : (before after others rest : List X) (x y : X) → IsFirstWithout before x after → IsFirstWithout others y rest → length before < length others → ⊥
  not_before before after others rest x y h k less =
      let (z, at) = there others (length before) less in
      let whole : slice_get xs (length before) ≡ Some z = subst (λ (ys : List X). slice_get ys (length before) ≡ Some z) (sym k.split) (at_left others (y ∷ rest) (length before) z at) in
      h.lacks (subst P (same_at xs (length before) z x whole (stands before after x h)) (k.have (length before) z at))

  pub one_first : (before after others rest : List X) (x y : X) → IsFirstWithout before x after → IsFirstWithout others y rest → x ≡ y
  one_first before after others rest x y h k = elim (cases_order (length before) (length others)) [
    | inl same ↦ same_at xs (length others) x y (subst (λ (i : ℕ). slice_get xs i ≡ Some x) same (stands before after x h)) (stands others rest y k)
    | inr (inl less) ↦ absurd (not_before before after others rest x y h k less)
    | inr (inr less) ↦ absurd (not_before others rest before after y x k h less)
  ]

---- positions in a text

-- two lines that contain one offset begin at one offset, as otherwise a line end would be between them
no_earlier : (bytes : List ℕ) (offset line column row place : ℕ) (p : IsPosition bytes offset line column) (q : IsPosition bytes offset row place) → p.first < q.first → ⊥
no_earlier bytes offset line column row place p q less = elim q.begins [
  | inl none ↦ absurd (omega arith)
  | inr (last, next, ends) ↦
      let whole = q.column_is in
      false≢true (sym (p.whole last (omega arith) (omega arith)) ∙ ends)
]

one_column : (bytes : List ℕ) (offset line column row place : ℕ) → IsPosition bytes offset line column → IsPosition bytes offset row place → column ≡ place
one_column bytes offset line column row place p q =
    let a = p.column_is in
    let b = q.column_is in
    elim (cases_order p.first q.first) [
      | inl same ↦ omega arith
      | inr (inl less) ↦ absurd (no_earlier bytes offset line column row place p q less)
      | inr (inr less) ↦ absurd (no_earlier bytes offset row place line column q p less)
    ]

-- two errors of one file have equal messages
one_text : (style : Style) (s : Source) (path other : List ℕ) (at to : Position) (m n : ℕ) (message says : List ℕ) (H G : List ℕ → Type 0) → IsFault s path at m H → IsFault s other to n G →
    m ≡ n → message ≡ says → located_text style path at message ≡ located_text style other to says
one_text style s path other at to m n message says H G h k same e = λ i. style.prefix ++ same_path i ++ codes ":" ++ position_text style (line i) (column i) ++ codes ": " ++ e i
  where
    same_path : path ≡ other
    same_path = h.path_is ∙ sym k.path_is

    position : IsPosition s.bytes.items n at.line at.column
    position = subst (λ (j : ℕ). IsPosition s.bytes.items j at.line at.column) same h.position

    line : at.line ≡ to.line
    line = position.line_is ∙ sym k.position.line_is

    column : at.column ≡ to.column
    column = one_column s.bytes.items n at.line at.column to.line to.column position k.position

-- ---- the tokens

scan_fault_said : (bytes : List ℕ) (fault : ScanFault) → (fault ≢ scans.Memory) → HasScanFault fault bytes → IsOutcome bytes (Err fault)
scan_fault_said bytes (scans.BadByte at) known h = h
scan_fault_said bytes (scans.BadNumber at) known h = h
scan_fault_said bytes (scans.OpenString at) known h = h
scan_fault_said bytes (scans.OpenComment at) known h = h
scan_fault_said bytes scans.TooLong known h = h
scan_fault_said bytes scans.Memory known h = absurd (known refl)

one_scan_fault : (bytes : List ℕ) (f g : ScanFault) → (f ≢ scans.Memory) → (g ≢ scans.Memory) → HasScanFault f bytes → HasScanFault g bytes → f ≡ g
one_scan_fault bytes f g known_f known_g h k =
    let e = outcome_once bytes (Err f) (Err g) (scan_fault_said bytes f known_f h) (scan_fault_said bytes g known_g k) in cc

-- ---- the tree

one_parse_fault : (bytes : List ℕ) (f g : ParseFault) → (f ≢ parses.Memory) → (g ≢ parses.Memory) → HasParseFault f bytes → HasParseFault g bytes → f ≡ g
one_parse_fault bytes f g some other (ts, reads, h) (us, spells, k) =
    fault_is_unique bytes ts f g h (subst (λ (vs : List Token). IsFaultOf bytes vs g) (spelled_once bytes us ts spells.1 reads.1) k) some other

-- ---- the names

-- the message for a name that is declared twice in one scope
abbrev told_of : Scope → List ℕ → List ℕ
told_of (Block block) name = codes "Twice " ++ name
told_of (Record token) name = codes "TwiceField " ++ name

-- the first pair, and that the error has it
record ToldPair (bytes : List ℕ) (ts : List Token) (r : Rows) (fault : ScopeFault) : Type 0 where
  d : Member
  e : Member
  is_first : IsFirstDuplicate (text_at bytes ts) (members_of r) d e
  offset : scope_offset fault ≡ (token_at ts e.number).start
  text : scope_fault_text fault ≡ told_of e.place (text_at bytes ts d.number)

told_pair : (bytes : List ℕ) (ts : List Token) (r : Rows) (fault : ScopeFault) → (fault ≢ scopes.Memory) → IsScopeFault bytes ts r fault → ToldPair bytes ts r fault
told_pair bytes ts r (scopes.Twice name first second) known (d, e, block, located_message, h) = record {
  d = d;
  e = e;
  is_first = h.is_first;
  offset = h.second_at;
  text = ap (λ (n : List ℕ). codes "Twice " ++ n) h.named ∙ ap (λ (p : Scope). told_of p (text_at bytes ts d.number)) (sym located_message);
}
told_pair bytes ts r (scopes.TwiceField name first second) known (d, e, token, located_message, h) = record {
  d = d;
  e = e;
  is_first = h.is_first;
  offset = h.second_at;
  text = ap (λ (n : List ℕ). codes "TwiceField " ++ n) h.named ∙ ap (λ (p : Scope). told_of p (text_at bytes ts d.number)) (sym located_message);
}
told_pair bytes ts r scopes.Memory known h = absurd (known refl)

one_pair : (bytes : List ℕ) (ts : List Token) (r : Rows) (f g : ScopeFault) → ToldPair bytes ts r f → ToldPair bytes ts r g → (scope_offset f ≡ scope_offset g) × (scope_fault_text f ≡ scope_fault_text g)
one_pair bytes ts r f g p q =
    let (same_d, same_e) = first_once (text_at bytes ts) (members_of r) p.d p.e q.d q.e p.is_first q.is_first in (
      p.offset ∙ ap (λ (x : Member). (token_at ts x.number).start) same_e ∙ sym q.offset,
      p.text ∙ ap₂ (λ (x y : Member). told_of y.place (text_at bytes ts x.number)) same_d same_e ∙ sym q.text,
    )

one_scope_fault : (bytes : List ℕ) (f g : ScopeFault) → (f ≢ scopes.Memory) → (g ≢ scopes.Memory) → HasScopeFault f bytes → HasScopeFault g bytes → (scope_offset f ≡ scope_offset g) × (scope_fault_text f ≡ scope_fault_text g)
one_scope_fault bytes f g some other (ts, m, reads, tree, h) k =
    one_pair bytes ts (rows_of m) f g (told_pair bytes ts (rows_of m) f some h) (told_pair bytes ts (rows_of m) g other (scope_fault_of bytes ts m g reads tree k))

-- ---- one file

-- a file has an error of its tokens, or else of its syntax tree, or else of its names
pub one_file_fault : (style : Style) (s : Source) (f g : TreeFault) → is_out_of_memory f ≡ false → is_out_of_memory g ≡ false → IsFileFault s f → IsFileFault s g → tree_fault_text style f ≡ tree_fault_text style g
one_file_fault style s (faults.Scan path at f) (faults.Scan other to g) some more (known, h) (sure, k) =
    let same : f ≡ g = one_scan_fault s.bytes.items f g known sure h.has_fault k.has_fault in
    one_text style s (string_bytes path) (string_bytes other) at to (scan_offset f) (scan_offset g) (scan_fault_text f) (scan_fault_text g) (HasScanFault f) (HasScanFault g) h k (ap scan_offset same) (ap scan_fault_text same)
one_file_fault style s (faults.Scan path at f) (faults.Parse other to g) some more (known, h) (sure, k) =
    let (ts, reads, _) = k.has_fault in absurd (known (no_scan_fault s.bytes.items ts f reads h.has_fault))
one_file_fault style s (faults.Scan path at f) (faults.Scope other to g) some more (known, h) (sure, k) =
    let (ts, m, reads, _, _) = k.has_fault in absurd (known (no_scan_fault s.bytes.items ts f reads h.has_fault))
one_file_fault style s (faults.Parse path at f) (faults.Scan other to g) some more (known, h) (sure, k) =
    let (ts, reads, _) = h.has_fault in absurd (sure (no_scan_fault s.bytes.items ts g reads k.has_fault))
one_file_fault style s (faults.Parse path at f) (faults.Parse other to g) some more (known, h) (sure, k) =
    let same : f ≡ g = one_parse_fault s.bytes.items f g known sure h.has_fault k.has_fault in
    one_text style s (string_bytes path) (string_bytes other) at to (parse_offset f) (parse_offset g) (parse_fault_text f) (parse_fault_text g) (HasParseFault f) (HasParseFault g) h k (ap parse_offset same) (ap parse_fault_text same)
one_file_fault style s (faults.Parse path at f) (faults.Scope other to g) some more (known, h) (sure, k) =
    let (ts, m, reads, tree, _) = k.has_fault in absurd (known (no_parse_fault s.bytes.items ts m f reads tree h.has_fault))
one_file_fault style s (faults.Scope path at f) (faults.Scan other to g) some more (known, h) (sure, k) =
    let (ts, m, reads, _, _) = h.has_fault in absurd (sure (no_scan_fault s.bytes.items ts g reads k.has_fault))
one_file_fault style s (faults.Scope path at f) (faults.Parse other to g) some more (known, h) (sure, k) =
    let (ts, m, reads, tree, _) = h.has_fault in absurd (sure (no_parse_fault s.bytes.items ts m g reads tree k.has_fault))
one_file_fault style s (faults.Scope path at f) (faults.Scope other to g) some more (known, h) (sure, k) =
    let same = one_scope_fault s.bytes.items f g known sure h.has_fault k.has_fault in
    one_text style s (string_bytes path) (string_bytes other) at to (scope_offset f) (scope_offset g) (scope_fault_text f) (scope_fault_text g) (HasScopeFault f) (HasScopeFault g) h k same.0 same.1
one_file_fault style s f (faults.Graph g) some more h k = absurd k
one_file_fault style s f faults.Memory some more h k = absurd (false≢true (sym more))
one_file_fault style s (faults.Graph f) g some more h k = absurd h
one_file_fault style s faults.Memory g some more h k = absurd (false≢true (sym some))

-- ---- all files

first_faulty : (sources : List Source) (fault : TreeFault) (f : IsFirstFault sources fault) → is_out_of_memory fault ≡ false → IsFirstWithout IsAcceptedSource sources f.before f.source f.after
first_faulty sources fault f known = record {
  split = f.split;
  have = λ i s at.
      let within = slice_get_within f.before i s at in
      let many = f.accepted_before.as_many in
      let (file, at_file) = there f.files_before i (omega arith) in
      (file, f.accepted_before.each i s file at at_file);
  lacks = λ (file, ok). false≢true (sym known ∙ no_file_fault f.source file fault ok f.has_fault);
}

one_first_fault : (style : Style) (sources : List Source) (f g : TreeFault) → is_out_of_memory f ≡ false → is_out_of_memory g ≡ false → IsFirstFault sources f → IsFirstFault sources g → tree_fault_text style f ≡ tree_fault_text style g
one_first_fault style sources f g some more h k =
    let same : h.source ≡ k.source = one_first IsAcceptedSource sources h.before h.after k.before k.after h.source k.source (first_faulty sources f h some) (first_faulty sources g k more) in
    one_file_fault style k.source f g some more (subst (λ (s : Source). IsFileFault s f) same h.has_fault) k.has_fault

-- ---- the imports

-- the message for an error of the import graph, and the error that the files determine
abbrev outcome_text : Style → Result ImportGraph GraphError → List ℕ
outcome_text style (Ok g) = []
outcome_text style (Err (TwoModules name first second)) = two_modules_text style name first second
outcome_text style (Err (Cycle names)) = codes "Cycle" ++ flat_map after_space names
outcome_text style (Err TooMany) = codes "TooMany"

told_refusal : (style : Style) (fault : GraphFault) (refusal : GraphError) → IsErrorOf fault refusal → graph_fault_text style fault ≡ outcome_text style (Err refusal)
told_refusal style graphs.Memory refusal said = absurd said
told_refusal style fault refusal said = ap (λ (r : GraphError). outcome_text style (Err r)) (sym said)

pub one_graph_fault : (style : Style) (sources : List Source) (f g : GraphFault) → IsGraphFault sources f → IsGraphFault sources g → graph_fault_text style f ≡ graph_fault_text style g
one_graph_fault style sources f g h k =
    let files : files_of k.files ≡ files_of h.files = same_files sources k.files h.files k.accepted h.accepted in
    let outcome : IsGraphOutcome (files_of h.files) (Err k.refusal) = subst (λ (fs : List File). IsGraphOutcome fs (Err k.refusal)) files k.is_outcome in
    told_refusal style f h.refusal h.said ∙ ap (outcome_text style) (outcome_is_unique (files_of h.files) (Err h.refusal) (Err k.refusal) h.is_outcome outcome) ∙ sym (told_refusal style g k.refusal k.said)

-- ---- the tree

-- the error of a tree is the error of a file, or else of the imports
data IsOfTree (sources : List Source) (fault : TreeFault) : Type 0 where
  from_source : IsFirstFault sources fault → IsOfTree sources fault
  of_imports : (g : GraphFault) → fault ≡ faults.Graph g → IsGraphFault sources g → IsOfTree sources fault

which : (sources : List Source) (fault : TreeFault) → is_out_of_memory fault ≡ false → IsTreeFault sources fault → IsOfTree sources fault
which sources (faults.Scan path at fault) known h = from_source h
which sources (faults.Parse path at fault) known h = from_source h
which sources (faults.Scope path at fault) known h = from_source h
which sources (faults.Graph fault) known h = of_imports fault refl h
which sources faults.Memory known h = absurd (false≢true (sym known))

-- if the imports are rejected, no file has an error
apart : (sources : List Source) (fault : TreeFault) (g : GraphFault) → is_out_of_memory fault ≡ false → IsFirstFault sources fault → IsGraphFault sources g → ⊥
apart sources fault g known h k = false≢true (sym known ∙ no_first_fault sources k.files fault k.accepted h)

pub one_tree_fault : (style : Style) (sources : List Source) (fault other : TreeFault) → IsTreeFault sources fault → IsTreeFault sources other → is_out_of_memory fault ≡ false → is_out_of_memory other ≡ false → tree_fault_text style fault ≡ tree_fault_text style other
one_tree_fault style sources fault other h k some more = go (which sources fault some h) (which sources other more k)
  where
    go : IsOfTree sources fault → IsOfTree sources other → tree_fault_text style fault ≡ tree_fault_text style other
    go (from_source a) (from_source b) = one_first_fault style sources fault other some more a b
    go (from_source a) (of_imports g e b) = absurd (apart sources fault g some a b)
    go (of_imports f e a) (from_source b) = absurd (apart sources other f more b a)
    go (of_imports f e a) (of_imports g d b) = ap (tree_fault_text style) e ∙ one_graph_fault style sources f g a b ∙ sym (ap (tree_fault_text style) d)
