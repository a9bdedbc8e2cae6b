-- The output for an import, and for the rules one after another.
use Rattle.std.proofs.Common.{◌≡◌, ◌∙◌, ◌+◌, ◌<◌, ℕ, Bool, true, false, List, [], ◌∷◌, ◌++◌, Option, Some, Result, Ok, Err, length, get_or, map, take, drop, sym, ap, subst, codes, append_assoc, append-nil}
use Rattle.std.specs.Prelude.{OnOk, if◌then◌else◌, slice_get}
use Rattle.std.specs.Result.{is_err, is_ok}
use Rattle.std.specs.Fmt.{decimal}
use Rattle.std.specs.List.{flat_map}
use Rattle.std.proofs.KnownBytes.{Appends-nil}
use Rattle.std.proofs.lemmas.Grind.{flat_map-append}
use Rattle.std.proofs.lemmas.List.{get_or_default, map-append}
use Rattle.std.proofs.lemmas.List.Elements.{Contains-get_or}
use Rattle.byte_sink.specs.Sinks.{AppendsPrefix}
use Rattle.texts.specs.Places.{Style, location_text}
use Rattle.byte_sink.specs.Pieces.{WritesAllBut}
use Rattle.byte_sink.proofs.Joining.{front_joined, front_more, joined, lines, lines_around, lines_more}
use Rattle.digraph.specs.Edges.{Leads}
use Rattle.digraph.specs.Marks.{marked}
use Rattle.digraph.specs.ShortestPaths.{IsPathAround, IsShortestPath}
use Rattle.cut_net.specs.Network.{Network, name_of, missing_item}
use Rattle.cut_net.specs.WellFormed.{IsNetwork}
use Rattle.cut_rules.specs.declared.file.File.{File}
use Rattle.cut_rules.specs.declared.reading.Rules.{Rules}
use Rattle.cut_rules.specs.declared.rule_search.RuleSearch.{RuleSearch}
use Rattle.cut_rules.specs.declared.rule.StaleAllow.{StaleAllow}
use Rattle.cut_rules.specs.declared.site.Site.{Site}
use Rattle.cut_rules.specs.Judged.{AreRuleViolations, IsSearchFor}
use Rattle.cut_rules.specs.Outcomes.{AreRulesOf}
use Rattle.cut_rules.specs.Verdicts.{import_at, site_text, names_after_spaces, stale_line, stale_of, violation_line, Breaks, Violation}
use Rattle.cut_rules.proofs.Pieces.{says_low}
use Rattle.cut_rules.proofs.Violations.{least_as, one_here}

-- ---- one line

regroup : (a b c d e f g : List ℕ) → ((((a ++ b) ++ (c ++ d)) ++ e) ++ f) ++ g ≡ a ++ (b ++ (c ++ (d ++ ((e ++ f) ++ g))))
regroup a b c d e f g = simp append_assoc

names_more : (f : ℕ → List ℕ) (path : List ℕ) (n : ℕ) → names_after_spaces (map f (path ++ n ∷ [])) ≡ names_after_spaces (map f path) ++ 32 ∷ f n
names_more f path n = ap names_after_spaces (map-append f path (n ∷ [])) ∙ flat_map-append (λ (name : List ℕ). 32 ∷ name) (map f path) (f n ∷ []) ∙ ap (λ (t : List ℕ). names_after_spaces (map f path) ++ t) (append-nil (32 ∷ f n))

pub violation_appended : (style : Style) (net : Network) (sites : List Site) (v : Violation) (site : Site) (t0 t1 t2 t3 t4 t5 : List ℕ) → slice_get sites v.import_number ≡ Some site → t1 ≡ t0 ++ location_text style site.path.now site.line site.column
    → t2 ≡ t1 ++ (codes ": no " ++ decimal v.line) → t3 ≡ t2 ++ names_after_spaces (map (name_of net) v.path) → t4 ≡ t3 ++ 32 ∷ name_of net (import_at net v.import_number).to → t5 ≡ t4 ++ 10 ∷ [] → t5 ≡ t0 ++ violation_line style net sites v
violation_appended style net sites v site t0 t1 t2 t3 t4 t5 at e1 e2 e3 e4 e5 =
    let loc = location_text style site.path.now site.line site.column in
    let names = names_after_spaces (map (name_of net) v.path) in
    let last : List ℕ = 32 ∷ name_of net (import_at net v.import_number).to in
    let all : t5 ≡ ((((t0 ++ loc) ++ (codes ": no " ++ decimal v.line)) ++ names) ++ last) ++ 10 ∷ [] =
    e5 ∙ ap (λ (t : List ℕ). t ++ 10 ∷ []) (e4 ∙ ap (λ (t : List ℕ). t ++ last) (e3 ∙ ap (λ (t : List ℕ). t ++ names) (e2 ∙ ap (λ (t : List ℕ). t ++ (codes ": no " ++ decimal v.line)) e1))) in
    all ∙ regroup t0 loc (codes ": no ") (decimal v.line) names last (10 ∷ [])
    ∙ ap (λ (t : List ℕ). t0 ++ (t ++ (codes ": no " ++ (decimal v.line ++ ((names ++ last) ++ 10 ∷ []))))) (sym (ap (site_text style) at))
    ∙ ap (λ (t : List ℕ). t0 ++ (site_text style (slice_get sites v.import_number) ++ (codes ": no " ++ (decimal v.line ++ (t ++ 10 ∷ []))))) (sym (names_more (name_of net) v.path (import_at net v.import_number).to))

-- ---- one import

module _ (net : Network) (network : IsNetwork net) (files : List File) (pieces : List (List ℕ)) (rules : Rules) (elements : AreRulesOf net files pieces rules) (line : ℕ) (found : RuleSearch) (for : IsSearchFor net files pieces line found) (k : ℕ) (lt : k < length net.imports) where
  low_from : (import_at net k).from < length net.names
  low_from = (network.between (import_at net k) (Contains-get_or net.imports k missing_item lt)).0

  pub low_to : (import_at net k).to < length net.names
  low_to = (network.between (import_at net k) (Contains-get_or net.imports k missing_item lt)).1

  pub none_allowed : marked rules.allowed.items k ≡ true → (path : List ℕ) → Breaks net files pieces line k path → ⊥
  none_allowed taken path breaks = let (l, le, says) = (elements.allowed.elements k lt).0 taken in breaks.counted (l, says)

  pub none_target : marked found.targets.items (import_at net k).to ≡ false → (path : List ℕ) → Breaks net files pieces line k path → ⊥
  none_target none path breaks =
      let both = (for.forbidden (import_at net k).from (import_at net k).to path low_from low_to).1 breaks.forbidden in
      let e : true ≡ false = sym both.1 ∙ none in
      cc

  pub none_reached : ((path : List ℕ) → IsPathAround (Leads for.edges) for.starts for.barrier (import_at net k).from path → ⊥) → (path : List ℕ) → Breaks net files pieces line k path → ⊥
  none_reached none path breaks = none path ((for.forbidden (import_at net k).from (import_at net k).to path low_from low_to).1 breaks.forbidden).0

  pub violation : marked rules.allowed.items k ≡ false → marked found.targets.items (import_at net k).to ≡ true → (path : List ℕ) → IsShortestPath (Leads for.edges) for.starts for.barrier (import_at net k).from path
      → AreRuleViolations net files pieces line k (k + 1) (record { line = line; import_number = k; path = path } ∷ [])
  violation free target path shortest =
      one_here net files pieces (record { line = line; import_number = k; path = path })
      (least_as (IsPathAround (Leads for.edges) for.starts for.barrier (import_at net k).from) (Breaks net files pieces line k)
      (λ other around. record {
        within = lt;
        counted = λ (l, says). (let e : true ≡ false = sym ((elements.allowed.elements k lt).1 (l, (says_low pieces l _ says).1, says)) ∙ free in cc);
        forbidden = (for.forbidden (import_at net k).from (import_at net k).to other low_from low_to).0 (around, target);
      })
      (λ other breaks. ((for.forbidden (import_at net k).from (import_at net k).to other low_from low_to).1 breaks.forbidden).0) path shortest)

-- ---- texts of lists

module _ {X : Type 0} (line : X → List ℕ) (text : List ℕ) where
  pub puts_none : (known : Option (List ℕ)) → WritesAllBut known known (text ++ flat_map line []) text
  puts_none known = ([], append-nil text, Appends-nil known)

  pub puts_one : (old new : Option (List ℕ)) (x : X) (rest whole : List ℕ) → whole ≡ text ++ line x → WritesAllBut old new whole rest → WritesAllBut old new (text ++ flat_map line (x ∷ [])) rest
  puts_one old new x rest whole e p = subst (λ (t : List ℕ). WritesAllBut old new t rest) (e ∙ ap (λ (t : List ℕ). text ++ t) (sym (append-nil (line x)))) p

  pub front_one : (old new : Option (List ℕ)) (x : X) (whole : List ℕ) → whole ≡ text ++ line x → AppendsPrefix old new whole → AppendsPrefix old new (text ++ flat_map line (x ∷ []))
  front_one old new x whole e p = subst (AppendsPrefix old new) (e ∙ ap (λ (t : List ℕ). text ++ t) (sym (append-nil (line x)))) p

  pub puts_both : (old now new : Option (List ℕ)) (first more : List X) (rest last : List ℕ) → WritesAllBut old now (text ++ flat_map line first) rest → WritesAllBut now new (rest ++ flat_map line more) last → WritesAllBut old new (text ++ flat_map line (first ++ more)) last
  puts_both old now new first more rest last p q = joined old now new text (flat_map line first) (flat_map line more) rest last (flat_map line (first ++ more)) (flat_map-append line first more) p q

  pub front_both : (old now new : Option (List ℕ)) (first more : List X) (rest : List ℕ) → WritesAllBut old now (text ++ flat_map line first) rest → AppendsPrefix now new (rest ++ flat_map line more) → AppendsPrefix old new (text ++ flat_map line (first ++ more))
  front_both old now new first more rest p q =
      front_joined old now new text (flat_map line first) (flat_map line more) rest [] (flat_map line (first ++ more)) (flat_map-append line first more ∙ sym (append-nil (flat_map line first ++ flat_map line more))) p q

  -- of the first of a list, and so of all of it
  pub front_of_list : (old new : Option (List ℕ)) (first rest whole : List X) → whole ≡ first ++ rest → AppendsPrefix old new (text ++ flat_map line first) → AppendsPrefix old new (text ++ flat_map line whole)
  front_of_list old new first rest whole e p = front_more old new text (flat_map line first) (flat_map line rest) (flat_map line whole) (ap (flat_map line) e ∙ flat_map-append line first rest) p

-- ---- texts of violations, in one style under two names

module _ (net : Network) (sites : List Site) (style other : Style) (same : other ≡ style) (text : List ℕ) (old now new : Option (List ℕ)) (first more : List Violation) (rest : List ℕ) where
  pub puts_more : (last : List ℕ) → WritesAllBut old now (text ++ flat_map (violation_line style net sites) first) rest → WritesAllBut now new (rest ++ flat_map (violation_line other net sites) more) last
      → WritesAllBut old new (text ++ flat_map (violation_line style net sites) (first ++ more)) last
  puts_more last p q = puts_both (violation_line style net sites) text old now new first more rest last p (subst (λ (s : Style). WritesAllBut now new (rest ++ flat_map (violation_line s net sites) more) last) same q)

  pub front_more_of : WritesAllBut old now (text ++ flat_map (violation_line style net sites) first) rest → AppendsPrefix now new (rest ++ flat_map (violation_line other net sites) more)
      → AppendsPrefix old new (text ++ flat_map (violation_line style net sites) (first ++ more))
  front_more_of p q = front_both (violation_line style net sites) text old now new first more rest p (subst (λ (s : Style). AppendsPrefix now new (rest ++ flat_map (violation_line s net sites) more)) same q)

-- ---- stale lines

module _ (list items : List StaleAllow) (same : items ≡ list) (k : ℕ) (d : StaleAllow) (lt : k < length items) (text before after : List ℕ) (added : after ≡ before ++ stale_line (stale_of (get_or items k d))) (old now new : Option (List ℕ))
    (so_far : WritesAllBut old now (text ++ lines stale_of stale_line (take k list)) before) where
  within : k < length list
  within = subst (λ (l : List StaleAllow). k < length l) same lt

  here : after ≡ before ++ stale_line (stale_of (get_or list k d))
  here = added ∙ ap (λ (l : List StaleAllow). before ++ stale_line (stale_of (get_or l k d))) same

  pub stale_next : (rest : List ℕ) → WritesAllBut now new after rest → WritesAllBut old new (text ++ lines stale_of stale_line (take (k + 1) list)) rest
  stale_next rest q =
      joined old now new text (lines stale_of stale_line (take k list)) (stale_line (stale_of (get_or list k d))) before rest (lines stale_of stale_line (take (k + 1) list)) (lines_more stale_of stale_line list k d within) so_far
      (subst (λ (t : List ℕ). WritesAllBut now new t rest) here q)

  pub stale_front : AppendsPrefix now new after → AppendsPrefix old new (text ++ lines stale_of stale_line list)
  stale_front q =
      front_joined old now new text (lines stale_of stale_line (take k list)) (stale_line (stale_of (get_or list k d))) before (lines stale_of stale_line (drop (k + 1) list)) (lines stale_of stale_line list) (lines_around stale_of stale_line list k d within) so_far
      (subst (λ (t : List ℕ). AppendsPrefix now new t) here q)

-- ---- reads

pub read : (xs : List Bool) (k : ℕ) (b c : Bool) → k < length xs → b ≡ get_or xs k b → b ≡ c → marked xs k ≡ c
read xs k b c lt is same = get_or_default xs k false b lt ∙ sym is ∙ same

pub on_ok : {T E P : Type 0} (r : Result T E) → false ≡ is_err r → OnOk r P → P
on_ok (Ok x) e p = p
on_ok (Err x) e p = absurd cc

pub on_ok_made : {T E P : Type 0} (r : Result T E) (new a b : List ℕ) → new ≡ (if is_ok r then a else b) → (new ≡ a → P) → OnOk r P
on_ok_made (Ok x) new a b e f = f e
on_ok_made (Err x) new a b e f = tt
