-- The final bytes of a verdict.
use Rattle.std.proofs.Common.{◌≡◌, ◌∙◌, ◌<◌, ℕ, Bool, true, false, List, [], ◌∷◌, ◌++◌, Option, Result, Ok, Err, Vec, vec_len, length, map, refl, sym, ap, subst, codes, append-nil, arith}
use Rattle.std.specs.Prelude.{◌==◌, AllPairs, Contains, if◌then◌else◌, not}
use Rattle.std.specs.declared.alloc.Global.{Global}
use Rattle.std.specs.List.{flat_map}
use Rattle.std.specs.Io.KnownBytes.{Appends}
use Rattle.std.proofs.KnownBytes.{Appends-trans}
use Rattle.std.proofs.lemmas.Bool.Decides.{nat_tests}
use Rattle.std.proofs.lemmas.List.{get_or-map, length-map}
use Rattle.byte_sink.specs.declared.sink.SinkFault.{SinkFault}
use Rattle.byte_sink.specs.declared.sink.SinkFault.TheVariants as sink_faults
use Rattle.byte_sink.specs.Sinks.{AppendsPrefix, Writes}
use Rattle.texts.specs.Places.{Style}
use Rattle.byte_sink.specs.Pieces.{WritesAllBut}
use Rattle.byte_sink.proofs.Joining.{front_joined, front_more, joined, puts_then}
use Rattle.digraph.proofs.Members.{from_map, in_map}
use Rattle.cut_net.specs.Network.{Network}
use Rattle.cut_rules.specs.declared.file.File.{File}
use Rattle.cut_rules.specs.declared.reading.Rules.{Rules}
use Rattle.cut_rules.specs.declared.rule.StaleAllow.{StaleAllow}
use Rattle.cut_rules.specs.declared.site.Site.{Site}
use Rattle.cut_rules.specs.RuleLines.{Allow, States}
use Rattle.cut_rules.specs.Rules.{IsStale}
use Rattle.cut_rules.specs.Outcomes.{AreRulesOf}
use Rattle.cut_rules.specs.Verdicts.{is_clean, is_none, lines_text, stale_line, stale_of, verdict_text, violation_line, AreStaleLines, AreViolations, Stale, Violation}
use Rattle.cut_rules.proofs.Fronts.{one_list}
use Rattle.cut_rules.proofs.Pieces.{says_low}
use Rattle.cut_rules.proofs.LineLaws.{says_one}
use Rattle.cut_rules.proofs.Violations.{violations_are_unique}

-- ---- stale lines

module _ (net : Network) (pieces : List (List ℕ)) where
  one_stale : (s t : Stale) → IsStale net pieces s.line s.importer s.imported → IsStale net pieces t.line t.importer t.imported → s.line ≡ t.line → s ≡ t
  one_stale s t first second line =
      let same : Allow s.importer s.imported ≡ Allow t.importer t.imported = says_one pieces t.line (Allow s.importer s.imported) (Allow t.importer t.imported) (subst (λ (l : ℕ). States pieces l (Allow s.importer s.imported)) line first.0) second.0 in
      let importer : s.importer ≡ t.importer = cc in
      let imported : s.imported ≡ t.imported = cc in
      λ i. record { line = line i; importer = importer i; imported = imported i }

  pub one_stale_list : (a b : List Stale) → AreStaleLines net pieces a → AreStaleLines net pieces b → a ≡ b
  one_stale_list a b first second =
      one_list (λ (s t : Stale). s.line < t.line) (λ s t less more. omega arith) a b first.ascending second.ascending (λ s has. within b second s (first.each s has)) (λ s has. within a first s (second.each s has))
    where
      within : (list : List Stale) → AreStaleLines net pieces list → (s : Stale) → IsStale net pieces s.line s.importer s.imported → Contains list s
      within list elements s is =
          let (t, has, line) = elements.all s.line s.importer s.imported is in
          subst (Contains list) (one_stale t s (elements.each t has) is line) has

-- those of rules
pub stale_lines : (net : Network) (files : List File) (pieces : List (List ℕ)) (rules : Rules) → AreRulesOf net files pieces rules → AreStaleLines net pieces (map stale_of rules.stale.items)
stale_lines net files pieces rules elements = record {
  each = λ s has.
      let (own, present, same) = from_map stale_of rules.stale.items s has in
      subst (λ (t : Stale). IsStale net pieces t.line t.importer t.imported) same (elements.stale.each own present).1;
  all = λ line m n is.
      let (own, present, same) = elements.stale.all line m n (says_low pieces line _ is.0).1 is in
      (stale_of own, in_map stale_of rules.stale.items own present, same);
  ascending = λ i j d lt l. by rules.stale.items elements.stale.ascending i j d lt l;
}
  where
    by : (xs : List StaleAllow) → AllPairs (λ (s t : StaleAllow). s.line < t.line) xs → AllPairs (λ (s t : Stale). s.line < t.line) (map stale_of xs)
    by [] up i j d lt l = absurd (omega arith)
    by (x ∷ xs) up i j d lt l =
        let long = length-map (x ∷ xs) stale_of in
        let first = get_or-map stale_of (x ∷ xs) i x d (omega arith) in
        let second = get_or-map stale_of (x ∷ xs) j x d (omega arith) in
        rw (first, second) (up i j x lt (omega arith))

-- ---- the text

not_zero : (n : ℕ) → 0 < n → (n == 0) ≡ false
not_zero n some = grind (arith, nat_tests)

-- whether there is none, of a list that is mapped
none_map : {X Y : Type 0} (f : X → Y) (xs : List X) → is_none (map f xs) ≡ (length xs == 0)
none_map f [] = refl
none_map f (x ∷ xs) = sym (not_zero (length (x ∷ xs)) (omega arith))

-- whether nothing is written
pub clean_is : (vs : List Violation) (stale : List StaleAllow) (is_broken empty clean : Bool) → is_broken ≡ not (is_none vs) → empty ≡ (length stale == 0) → clean ≡ (if is_broken then false else empty) → clean ≡ is_clean vs (map stale_of stale)
clean_is [] stale is_broken empty clean b e c = c ∙ rw b (e ∙ sym (none_map stale_of stale))
clean_is (v ∷ vs) stale is_broken empty clean b e c = c ∙ rw b refl

module _ (style : Style) (net : Network) (sites : List Site) (old now new : Option (List ℕ)) where
  -- nothing was gathered, and nothing put
  clean_text : (vs : List Violation) (stale : List Stale) → is_clean vs stale ≡ true → lines_text style net sites vs stale ≡ []
  clean_text [] [] e = refl
  clean_text [] (s ∷ stale) e = absurd cc
  clean_text (v ∷ vs) stale e = absurd cc

  no_parts : (front rest : List ℕ) → [] ≡ front ++ rest → front ≡ []
  no_parts [] rest e = refl
  no_parts (b ∷ front) rest e = absurd cc

  -- what is put at the end
  pub verdict_put : (vs : List Violation) (stale : List Stale) (clean : Bool) (rest : List ℕ) (result : Result (Unit {0}) SinkFault) → clean ≡ is_clean vs stale → WritesAllBut old now (lines_text style net sites vs stale) rest
      → Writes now new result (if clean then codes "yes" ++ 10 ∷ [] else rest) → Writes old new result (verdict_text style net sites vs stale)
  verdict_put vs stale false rest result e p q =
      subst (λ (b : Bool). Writes old new result (if b then codes "yes" ++ 10 ∷ [] else lines_text style net sites vs stale)) e (puts_then old now new (lines_text style net sites vs stale) rest result p q)
  verdict_put vs stale true rest result e p q =
      subst (λ (b : Bool). Writes old new result (if b then codes "yes" ++ 10 ∷ [] else lines_text style net sites vs stale)) e (whole result q)
    where
      first : Appends old now []
      first = subst (Appends old now) (no_parts p.0 rest (sym (clean_text vs stale (sym e)) ∙ p.1)) p.2

      whole : (result : Result (Unit {0}) SinkFault) → Writes now new result (codes "yes" ++ 10 ∷ []) → Writes old new result (codes "yes" ++ 10 ∷ [])
      whole (Ok x) q = Appends-trans old now new [] (codes "yes" ++ 10 ∷ []) first q
      whole (Err fault) q = (q.0, q.1, q.2, Appends-trans old now new [] q.0 first q.3)

  -- the violations are a prefix of the text
  pub violations_front : (vs : List Violation) (stale : List Stale) → AppendsPrefix old new (flat_map (violation_line style net sites) vs) → AppendsPrefix old new (verdict_text style net sites vs stale)
  violations_front [] [] p = front_more old new [] [] (codes "yes" ++ 10 ∷ []) (codes "yes" ++ 10 ∷ []) refl p
  violations_front [] (s ∷ stale) p = front_more old new [] [] (flat_map stale_line (s ∷ stale)) (flat_map stale_line (s ∷ stale)) refl p
  violations_front (v ∷ vs) stale p = front_more old new [] (flat_map (violation_line style net sites) (v ∷ vs)) (flat_map stale_line stale) (lines_text style net sites (v ∷ vs) stale) refl p

  -- and so are the lines
  pub lines_front : (vs : List Violation) (stale : List Stale) → AppendsPrefix old new (lines_text style net sites vs stale) → AppendsPrefix old new (verdict_text style net sites vs stale)
  lines_front [] [] p = front_more old new [] [] (codes "yes" ++ 10 ∷ []) (codes "yes" ++ 10 ∷ []) refl p
  lines_front [] (s ∷ stale) p = p
  lines_front (v ∷ vs) stale p = p

  -- a sink that stopped among the stale lines
  pub stale_stopped : (vs : List Violation) (stale : List Stale) (rest : List ℕ) → WritesAllBut old now (flat_map (violation_line style net sites) vs) rest → AppendsPrefix now new (rest ++ flat_map stale_line stale) → AppendsPrefix old new (verdict_text style net sites vs stale)
  stale_stopped vs stale rest p q =
      lines_front vs stale (front_joined old now new [] (flat_map (violation_line style net sites) vs) (flat_map stale_line stale) rest [] (lines_text style net sites vs stale) (sym (append-nil (flat_map (violation_line style net sites) vs ++ flat_map stale_line stale))) p q)

  -- all lines are gathered
  pub all_gathered : (vs : List Violation) (stale : List Stale) (rest last : List ℕ) → WritesAllBut old now (flat_map (violation_line style net sites) vs) rest → WritesAllBut now new (rest ++ flat_map stale_line stale) last → WritesAllBut old new (lines_text style net sites vs stale) last
  all_gathered vs stale rest last p q = joined old now new [] (flat_map (violation_line style net sites) vs) (flat_map stale_line stale) rest last (lines_text style net sites vs stale) refl p q

pub empty_is : (v : Vec StaleAllow Global) (b : Bool) → b ≡ (vec_len v == 0) → b ≡ (length v.items == 0)
empty_is v b e = let ok = v.ok in let size : vec_len v ≡ length v.items = omega arith in e ∙ ap (λ (n : ℕ). n == 0) size

-- ---- after the violations are gathered, into a text that was empty

module _ (style other : Style) (same : other ≡ style) (net : Network) (sites : List Site) (files : List File) (pieces : List (List ℕ)) (rules : Rules) (elements : AreRulesOf net files pieces rules) (text : List ℕ) (empty : text ≡ []) (is_broken : Bool) (old now : Option (List ℕ)) (rest : List ℕ) where
  abbrev pub Written : Type 0
  Written = (vs : List Violation) × AreViolations net files pieces vs × (is_broken ≡ not (is_none vs)) × WritesAllBut old now (text ++ flat_map (violation_line other net sites) vs) rest

  abbrev pub mine : List Stale
  mine = map stale_of rules.stale.items

  own_puts : (w : Written) → WritesAllBut old now (flat_map (violation_line style net sites) w.0) rest
  own_puts w =
      subst (λ (s : Style). WritesAllBut old now (flat_map (violation_line s net sites) w.0) rest) same
      (subst (λ (t : List ℕ). WritesAllBut old now (t ++ flat_map (violation_line other net sites) w.0) rest) empty w.3)

  -- of any lists that are those of the rules
  as_any : (w : Written) (new : Option (List ℕ)) (vs : List Violation) (stale : List Stale) → AreViolations net files pieces vs → AreStaleLines net pieces stale → AppendsPrefix old new (verdict_text style net sites w.0 mine) → AppendsPrefix old new (verdict_text style net sites vs stale)
  as_any w new vs stale are_vs are_stale front =
      subst (λ (ss : List Stale). AppendsPrefix old new (verdict_text style net sites vs ss)) (one_stale_list net pieces mine stale (stale_lines net files pieces rules elements) are_stale)
      (subst (λ (ws : List Violation). AppendsPrefix old new (verdict_text style net sites ws mine)) (violations_are_unique net files pieces w.0 vs w.1 are_vs) front)

  pub stopped_at_stale : Written → (new : Option (List ℕ)) → AppendsPrefix now new (rest ++ flat_map stale_line mine) → (vs : List Violation) (stale : List Stale) → AreViolations net files pieces vs → AreStaleLines net pieces stale → AppendsPrefix old new (verdict_text style net sites vs stale)
  stopped_at_stale w new q vs stale are_vs are_stale = as_any w new vs stale are_vs are_stale (stale_stopped style net sites old now new w.0 mine rest (own_puts w) q)

  pub ended : (w : Written) (mid new : Option (List ℕ)) (last : List ℕ) → WritesAllBut now mid (rest ++ flat_map stale_line mine) last → (clean : Bool) → clean ≡ is_clean w.0 mine → (result : Result (Unit {0}) SinkFault) (put : List ℕ)
      → put ≡ (if clean then codes "yes" ++ 10 ∷ [] else last) → Writes mid new result put → Writes old new result (verdict_text style net sites w.0 mine)
  ended w mid new last q clean e result put put_is writes =
      verdict_put style net sites old mid new w.0 mine clean last result e (all_gathered style net sites old now mid w.0 mine rest last (own_puts w) q) (subst (Writes mid new result) put_is writes)

  pub stopped_at_end : (w : Written) (mid new : Option (List ℕ)) (last : List ℕ) → WritesAllBut now mid (rest ++ flat_map stale_line mine) last → (clean : Bool) → clean ≡ is_clean w.0 mine → (put : List ℕ)
      → put ≡ (if clean then codes "yes" ++ 10 ∷ [] else last) → AppendsPrefix mid new put → (vs : List Violation) (stale : List Stale) → AreViolations net files pieces vs → AreStaleLines net pieces stale → AppendsPrefix old new (verdict_text style net sites vs stale)
  stopped_at_end w mid new last q clean e put put_is writes vs stale are_vs are_stale = as_any w new vs stale are_vs are_stale (ended w mid new last q clean e (Err sink_faults.Memory) put put_is writes)
