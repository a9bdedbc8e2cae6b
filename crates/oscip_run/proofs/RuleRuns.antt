-- Rules and their verdict imply the definition of a run that checks them.
use Rattle.std.proofs.Common.{◌≡◌, ◌∙◌, ◌+◌, ◌<◌, ℕ, zero, suc, Bool, List, [], ◌∷◌, ◌++◌, length, length-append, get_or, map, take, Option, Some, Result, Ok, Err, refl, ap, subst, sym, inl, inr, arith}
use Rattle.std.specs.Prelude.{slice_get}
use Rattle.std.specs.Cmp.Lexicographic.{slice_cmp, nat_list_cmp_total}
use Rattle.std.specs.List.Sorted.{IsSorted, IsStrictlySortedBy}
use Rattle.std.specs.Ordering.{is_lt, nat_cmp, ordering_reverse}
use Rattle.std.specs.String.{string_bytes}
use Rattle.std.specs.declared.cmp.Ordering.TheVariants.{Less}
use Rattle.std.proofs.lemmas.List.{get_or-map, length-map, take_more}
use Rattle.std.proofs.lemmas.Option.{same_Some}
use Rattle.std.proofs.lemmas.Map.Keys.{Less-from_sorted}
use Rattle.std.specs.Io.KnownBytes.{Appends}
use Rattle.byte_sink.specs.Sinks.{AppendsPrefix}
use Rattle.byte_sink.specs.declared.sink.SinkFault.{SinkFault}
use Rattle.byte_sink.specs.declared.sink.SinkFault.TheVariants as sink
use Rattle.texts.specs.Places.{Style}
use Rattle.cut_net.specs.Network.{Network}
use Rattle.cut_rules.specs.Faults.{IsRefusal, UnlessMemory}
use Rattle.cut_rules.specs.Folders.{path_cmp}
use Rattle.cut_rules.specs.Outcomes.{AreRulesOf}
use Rattle.cut_rules.specs.RuleLines.{pieces_of}
use Rattle.cut_rules.specs.Verdicts.{is_clean, verdict_text, AreStaleLines, AreViolations, Stale, Violation}
use Rattle.cut_rules.specs.declared.fault.RulesFault.{RulesFault}
use Rattle.cut_rules.specs.declared.fault.RulesFault.TheVariants as rules
use Rattle.cut_rules.specs.declared.file.File.{File}
use Rattle.cut_rules.specs.declared.reading.Rules.{Rules}
use Rattle.cut_rules.specs.declared.site.Site.{Site}
use Rattle.oscip_run.specs.Faults.{of_rules, of_sink}
use Rattle.oscip_run.specs.Readings.{FileOf, Reading}
use Rattle.oscip_run.specs.RuleRuns.{AreSitesIn, AreThese, IsRuledTree, IsSiteIn, IsRulesRun, WritesRulesPrefix}
use Rattle.oscip_run.specs.Runs.{IsNeverRejected, IsRejectedTree}
use Rattle.oscip_run.specs.TreeQuestionRuns.{IsRulesFileRun}
use Rattle.source_tree.proofs.TreeFiles.{each_joined}
use Rattle.source_tree.specs.Sources.{ArePathsInOrder}
use Rattle.source_tree.specs.declared.import_sites.ImportSite.{ImportSite}
use Rattle.source_tree.specs.declared.source.Source.{Source}
use Rattle.oscip_run.specs.declared.fault.RunFault.{RunFault}
use Rattle.oscip_run.specs.declared.fault.RunFault.TheVariants as run
use Rattle.oscip_run.proofs.CheckRuns.{Keeps-same}

module _ (IsOf : Network → List File → List Site → Type 0) (IsRefused : RunFault → Type 0) (style : Style) (text : List ℕ) (net : Network) (files : List File) (sites : List Site) (of : IsOf net files sites) where
  -- rules that are rejected
  pub refused_rules : (known : Option (List ℕ)) (fault : RulesFault) → UnlessMemory fault (IsRefusal net files (pieces_of text) fault) → IsRulesRun IsOf IsRefused style text known known (Err (of_rules fault))
  refused_rules known (rules.BadLine line) h = ((net, files, sites, of, h), Keeps-same known)
  refused_rules known (rules.SetIsModule line name) h = ((net, files, sites, of, h), Keeps-same known)
  refused_rules known (rules.NoSuchModule line name) h = ((net, files, sites, of, h), Keeps-same known)
  refused_rules known (rules.TwiceAllowed line importer imported) h = ((net, files, sites, of, h), Keeps-same known)
  refused_rules known (rules.EmptySet line name) h = ((net, files, sites, of, h), Keeps-same known)
  refused_rules known (rules.TooMany line) h = ((net, files, sites, of, h), Keeps-same known)
  refused_rules known rules.Memory h = inl (Keeps-same known)

  sound : (all : Rules) → AreRulesOf net files (pieces_of text) all → (fault : RulesFault) → IsRefusal net files (pieces_of text) fault → ⊥
  sound all are fault (line, of_line, first, is) = are.sound line of_line first.has

  -- the verdict of rules
  pub written : (old new : Option (List ℕ)) (all : Rules) (clean : Bool) → AreRulesOf net files (pieces_of text) all
      → (violations : List Violation) × (stale : List Stale) × AreViolations net files (pieces_of text) violations × AreStaleLines net (pieces_of text) stale × (clean ≡ is_clean violations stale) × Appends old new (verdict_text style net sites violations stale)
      → IsRulesRun IsOf IsRefused style text old new (Ok clean)
  written old new all clean are (violations, stale, are_violations, are_stale, is, appends) = (
    verdict_text style net sites violations stale,
    record { net = net; files = files; sites = sites; reads = of; sound = sound all are; violations = violations; are_violations = are_violations; stale = stale; are_stale = are_stale; text_is = refl; clean_is = is },
    appends,
  )

  -- what was written is a prefix of the text
  abbrev pub IsPrefix : Option (List ℕ) → Option (List ℕ) → Type 0
  IsPrefix old new = (violations : List Violation) (stale : List Stale) → AreViolations net files (pieces_of text) violations → AreStaleLines net (pieces_of text) stale → AppendsPrefix old new (verdict_text style net sites violations stale)

  front : (old new : Option (List ℕ)) (all : Rules) → AreRulesOf net files (pieces_of text) all → IsPrefix old new → WritesRulesPrefix IsOf style text old new
  front old new all are prefix = record { net = net; files = files; sites = sites; reads = of; sound = sound all are; prefix = prefix }

  -- a sink that stopped
  pub stopped : (old new : Option (List ℕ)) (all : Rules) (fault : SinkFault) → AreRulesOf net files (pieces_of text) all → IsPrefix old new → IsRulesRun IsOf IsRefused style text old new (Err (of_sink fault))
  stopped old new all sink.Memory are prefix = inr (front old new all are prefix)
  stopped old new all sink.Device are prefix = front old new all are prefix

-- what is so of a network, files and sites is so of those of an input that are these
module _ (IsOf : Network → List File → List Site → Type 0) (IsRefused : RunFault → Type 0) (style : Style) (n : Network) (fs : List File) (ss : List Site) (of : IsOf n fs ss) (text : List ℕ) (old new : Option (List ℕ)) where
  moved : (net : Network) (files : List File) (sites : List Site) → AreThese n fs ss net files sites → IsOf net files sites
  moved net files sites these = subst (λ (x : Network). IsOf x files sites) (sym these.0) (subst (λ (x : List File). IsOf n x sites) (sym these.1) (subst (IsOf n fs) (sym these.2) of))

  front_of : WritesRulesPrefix (AreThese n fs ss) style text old new → WritesRulesPrefix IsOf style text old new
  front_of h = record { net = h.net; files = h.files; sites = h.sites; reads = moved h.net h.files h.sites h.reads; sound = h.sound; prefix = h.prefix }

  pub run_of : (result : Result Bool RunFault) → IsRulesRun (AreThese n fs ss) IsNeverRejected style text old new result → IsRulesRun IsOf IsRefused style text old new result
  run_of (Ok agrees) (claim, is, writes) = (
    claim,
    record {
      net = is.net;
      files = is.files;
      sites = is.sites;
      reads = moved is.net is.files is.sites is.reads;
      sound = is.sound;
      violations = is.violations;
      are_violations = is.are_violations;
      stale = is.stale;
      are_stale = is.are_stale;
      text_is = is.text_is;
      clean_is = is.clean_is;
    },
    writes,
  )
  run_of (Err (run.CannotRead path)) h = absurd h
  run_of (Err (run.CannotWrite path)) h = absurd h
  run_of (Err (run.Tree fault)) h = absurd h.0
  run_of (Err (run.Net fault)) h = absurd h
  run_of (Err (run.Price fault)) h = absurd h
  run_of (Err (run.Rules fault)) ((net, files, sites, reads, refusal), invariants) = ((net, files, sites, moved net files sites reads, refusal), invariants)
  run_of (Err (run.Report fault)) h = absurd h
  run_of (Err (run.Solve fault)) h = absurd h
  run_of (Err (run.Query fault)) h = absurd h
  run_of (Err run.Device) h = front_of h
  run_of (Err run.Memory) (inl h) = inl h
  run_of (Err run.Memory) (inr h) = inr (front_of h)

-- a run on the rules that were given
pub rules_run : (Answers : Reading → Type 0) (style : Style) (path : List ℕ) (sources : List Source) (text seen : List ℕ) (old new : Option (List ℕ)) (result : Result Bool RunFault) →
    Answers (FileOf path text) → seen ≡ text → IsRulesRun (IsRuledTree sources) (IsRejectedTree sources) style seen old new result → IsRulesFileRun Answers style sources path old new result
rules_run Answers style path sources text seen old new result read e run =
    inr (text, read, subst (λ (x : List ℕ). IsRulesRun (IsRuledTree sources) (IsRejectedTree sources) style x old new result) e run)

-- files with the paths of a tree's files are sorted by them
pub files_sorted : (sources : List Source) (files : List File) → map (λ (f : File). f.path.now) files ≡ map (λ (s : Source). string_bytes s.path) sources → ArePathsInOrder sources → IsSorted path_cmp files
files_sorted sources files same up k d low within =
    let path : File → List ℕ = λ f. f.path.now in
    let long = length-map files path in
    let sorted : IsStrictlySortedBy (slice_cmp nat_cmp) (map path files) = subst (IsStrictlySortedBy (slice_cmp nat_cmp)) (sym same) up in
    let less = Less-from_sorted (slice_cmp nat_cmp) (map path files) k (k + 1) [] sorted (omega arith) (omega arith) in
    let here : slice_cmp nat_cmp (path (get_or files k d)) (path (get_or files (k + 1) d)) ≡ Less = rw (← get_or-map path files k d [] (omega arith), ← get_or-map path files (k + 1) d [] within) less in
    ap is_lt (nat_list_cmp_total.antisymm (path (get_or files (k + 1) d)) (path (get_or files k d)) ∙ ap ordering_reverse here)

-- one more site, of the next import
pub sites_next : (sources : List Source) (imports : List ImportSite) (k : ℕ) (d : ImportSite) (site : Site) (sites : List Site) → k < length imports → IsSiteIn sources (get_or imports k d) site → AreSitesIn sources (take k imports) sites →
    AreSitesIn sources (take (k + 1) imports) (sites ++ site ∷ [])
sites_next sources imports k d site sites lt here so_far =
    subst (λ (l : List ImportSite). AreSitesIn sources l (sites ++ site ∷ [])) (sym (take_more imports k d lt)) (record {
      as_many = length-append sites (site ∷ []) ∙ ap (λ (n : ℕ). n + 1) so_far.as_many ∙ sym (length-append (take k imports) (get_or imports k d ∷ []));
      each = each_joined (IsSiteIn sources) (take k imports) (get_or imports k d ∷ []) sites (site ∷ []) so_far.as_many so_far.each one;
    })
  where
    one : (j : ℕ) (i : ImportSite) (s : Site) → slice_get (get_or imports k d ∷ []) j ≡ Some i → slice_get (site ∷ []) j ≡ Some s → IsSiteIn sources i s
    one zero i s e f = subst (λ (x : ImportSite). IsSiteIn sources x s) (same_Some (get_or imports k d) i e) (subst (IsSiteIn sources (get_or imports k d)) (same_Some site s f) here)
    one (suc j) i s e f = absurd cc
