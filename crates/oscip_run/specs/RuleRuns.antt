-- What a run that checks the rules of a tree reads and writes.
use Rattle.std.specs.Prelude.{◌≡◌, ◌⊎◌, ℕ, Bool, List, length, map, slice_get, Option, Some, Result, Ok, Err}
use Rattle.std.specs.Io.KnownBytes.{Appends, Keeps}
use Rattle.std.specs.String.{string_bytes}
use Rattle.byte_sink.specs.Sinks.{AppendsPrefix}
use Rattle.texts.specs.Places.{Style}
use Rattle.cut_net.specs.Network.{Network}
use Rattle.cut_rules.specs.Faults.{IsRefusal}
use Rattle.cut_rules.specs.RuleLines.{pieces_of}
use Rattle.cut_rules.specs.Verdicts.{is_clean, verdict_text, AreStaleLines, AreViolations, Stale, Violation}
use Rattle.cut_rules.specs.declared.fault.RulesFault.{RulesFault}
use Rattle.cut_rules.specs.declared.file.File.{File}
use Rattle.cut_rules.specs.declared.site.Site.{Site}
use Rattle.oscip_run.specs.Runs.{IsRejectedTree}
use Rattle.oscip_run.specs.declared.fault.RunFault.{RunFault}
use Rattle.oscip_run.specs.declared.fault.RunFault.TheVariants.{CannotRead, CannotWrite, Tree, Net, Price, Rules, Report, Solve, Query, Device, Memory}
use Rattle.source_tree.specs.Located.{AreModulesOf, AreSitesOf}
use Rattle.source_tree.specs.Trees.{IsNetOfTree}
use Rattle.source_tree.specs.declared.import_sites.ImportSite.{ImportSite}
use Rattle.source_tree.specs.declared.source.Source.{Source}

-- the site is the location of the import: the path of its file, and its line and column in the file
abbrev pub IsSiteIn : List Source → ImportSite → Site → Type 0
IsSiteIn sources i site = (source : Source) × (slice_get sources i.file ≡ Some source) × (site.path.now ≡ string_bytes source.path) × (site.line ≡ i.position.line) × (site.column ≡ i.position.column)

-- there is a site for each import, in the order of the imports: its location
pub record AreSitesIn (sources : List Source) (imports : List ImportSite) (sites : List Site) : Type 0 where
  pub as_many : length sites ≡ length imports
  pub each : (k : ℕ) (i : ImportSite) (site : Site) → slice_get imports k ≡ Some i → slice_get sites k ≡ Some site → IsSiteIn sources i site

-- the network of a tree; its files, each with its path and the number of its module; and the sites of its imports
pub record IsRuledTree (sources : List Source) (net : Network) (files : List File) (sites : List Site) : Type 0 where
  pub is_net : IsNetOfTree sources net
  pub paths : map (λ (f : File). f.path.now) files ≡ map (λ (s : Source). string_bytes s.path) sources
  pub modules : AreModulesOf sources net (map (λ (f : File). f.module) files)
  pub imports : List ImportSite
  pub are_imports : AreSitesOf sources net imports
  pub are_sites : AreSitesIn sources imports sites

-- the network other, the files others and the sites their equal net, files and sites
abbrev pub AreThese : Network → List File → List Site → Network → List File → List Site → Type 0
AreThese net files sites other others their = (other ≡ net) × (others ≡ files) × (their ≡ sites)

-- Below, IsOf states that a network, files and sites are those of the input.

-- no line of the rules has a fault
abbrev pub IsFaultless : Network → List File → List ℕ → Type 0
IsFaultless net files rules = (fault : RulesFault) → IsRefusal net files (pieces_of rules) fault → ⊥

module _ (IsOf : Network → List File → List Site → Type 0) (style : Style) (rules : List ℕ) where
  -- the text has a line for each import that breaks a rule and for each stale `allow` line, or is yes if there is neither. `clean` is
  -- whether there is neither
  pub record IsRulesText (text : List ℕ) (clean : Bool) : Type 0 where
    pub net : Network
    pub files : List File
    pub sites : List Site
    pub reads : IsOf net files sites
    pub sound : IsFaultless net files rules
    pub violations : List Violation
    pub are_violations : AreViolations net files (pieces_of rules) violations
    pub stale : List Stale
    pub are_stale : AreStaleLines net (pieces_of rules) stale
    pub text_is : text ≡ verdict_text style net sites violations stale
    pub clean_is : clean ≡ is_clean violations stale

  -- the sink took the whole verdict on the rules
  abbrev pub WritesRules : Option (List ℕ) → Option (List ℕ) → Bool → Type 0
  WritesRules old new clean = (text : List ℕ) × IsRulesText text clean × Appends old new text

  -- the sink took a prefix of the verdict on the rules
  pub record WritesRulesPrefix (old new : Option (List ℕ)) : Type 0 where
    pub net : Network
    pub files : List File
    pub sites : List Site
    pub reads : IsOf net files sites
    pub sound : IsFaultless net files rules
    pub prefix : (violations : List Violation) (stale : List Stale) → AreViolations net files (pieces_of rules) violations → AreStaleLines net (pieces_of rules) stale
        → AppendsPrefix old new (verdict_text style net sites violations stale)

  -- the input is accepted, and the rules are rejected with this fault, their first one
  abbrev pub IsRejectedRules : RulesFault → Type 0
  IsRejectedRules fault = (net : Network) × (files : List File) × (sites : List Site) × IsOf net files sites × IsRefusal net files (pieces_of rules) fault

-- a run that checks rules. Rejected input or rejected rules leave the sink unchanged; Device or Memory leave it with at most a prefix of
-- the verdict
abbrev pub IsRulesRun : (Network → List File → List Site → Type 0) → (RunFault → Type 0) → Style → List ℕ → Option (List ℕ) → Option (List ℕ) → Result Bool RunFault → Type 0
IsRulesRun IsOf IsRefused style rules old new (Ok clean) = WritesRules IsOf style rules old new clean
IsRulesRun IsOf IsRefused style rules old new (Err (CannotRead path)) = ⊥
IsRulesRun IsOf IsRefused style rules old new (Err (CannotWrite path)) = ⊥
IsRulesRun IsOf IsRefused style rules old new (Err (Tree fault)) = IsRefused (Tree fault) × Keeps old new
IsRulesRun IsOf IsRefused style rules old new (Err (Net fault)) = ⊥
IsRulesRun IsOf IsRefused style rules old new (Err (Price fault)) = ⊥
IsRulesRun IsOf IsRefused style rules old new (Err (Rules fault)) = IsRejectedRules IsOf style rules fault × Keeps old new
IsRulesRun IsOf IsRefused style rules old new (Err (Report fault)) = ⊥
IsRulesRun IsOf IsRefused style rules old new (Err (Solve fault)) = ⊥
IsRulesRun IsOf IsRefused style rules old new (Err (Query fault)) = ⊥
IsRulesRun IsOf IsRefused style rules old new (Err Device) = WritesRulesPrefix IsOf style rules old new
IsRulesRun IsOf IsRefused style rules old new (Err Memory) = Keeps old new ⊎ WritesRulesPrefix IsOf style rules old new
