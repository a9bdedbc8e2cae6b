-- The contracts of lower crates imply the definitions of the runs that list modules.
use Rattle.std.proofs.Common.{◌≡◌, ◌∙◌, ◌<◌, ◌+◌, ℕ, zero, suc, List, [], ◌∷◌, length, get_or, map, Option, Some, None, Result, Err, refl, sym, ap, subst, inl, inr, arith}
use Rattle.std.specs.Prelude.{◌↔◌, All, AllPairs, Contains, slice_get, slice_index}
use Rattle.std.specs.String.{string_bytes}
use Rattle.std.proofs.lemmas.Bool.{cases_eq}
use Rattle.std.proofs.lemmas.List.{get_or-map, length-map}
use Rattle.std.proofs.lemmas.List.Elements.{All-from_get_or}
use Rattle.std.proofs.lemmas.Option.{get_or_from_slice_get, slice_get-get_or, slice_get_cases, slice_get_within}
use Rattle.cut_net.specs.Network.{Network, index_of, name_of}
use Rattle.cut_net.proofs.Noting.{names_apart}
use Rattle.cut_net.proofs.Places.{index_again}
use Rattle.cut_solve.specs.Solving.{IsModuleLookup}
use Rattle.cut_solve.specs.declared.fault.SolveFault.{SolveFault}
use Rattle.cut_solve.specs.declared.fault.SolveFault.TheVariants as solve
use Rattle.oscip_job.specs.declared.job.Direction.{Direction}
use Rattle.oscip_run.specs.Faults.{of_solve}
use Rattle.oscip_run.specs.ModuleRuns.{entry_lines, IsModulesText, IsPathAt, IsPathOf, ModuleEntry}
use Rattle.oscip_run.specs.ReachRuns.{named_entry, IsReached, IsReachRejected, IsReachRun, IsReachText}
use Rattle.oscip_run.specs.Runs.{IsNeverRejected, IsThis}
use Rattle.oscip_run.specs.declared.fault.RunFault.{RunFault}
use Rattle.oscip_run.specs.declared.fault.RunFault.TheVariants as run
use Rattle.oscip_run.proofs.CheckRuns.{Keeps-same}
use Rattle.oscip_run.proofs.ImportRuns.{weaker}
use Rattle.source_tree.specs.Files.{AreAllOf}
use Rattle.source_tree.specs.Located.{AreModulesOf, IsModuleOf}
use Rattle.source_tree.specs.Trees.{IsNetOfTree, ModuleFile}
use Rattle.source_tree.specs.declared.source.Source.{Source}
use Rattle.texts.specs.Places.{plain_style, Style}

-- ---- what a module reaches

pub unknown_name : (name : List ℕ) (direction : Direction) (known : Option (List ℕ)) (n : Network) (fault : SolveFault) → IsModuleLookup n name (Err fault) →
    IsReachRun (IsThis n) IsNeverRejected name direction known known (Err (of_solve fault))
unknown_name name direction known n solve.SameModule h = absurd h
unknown_name name direction known n (solve.NoSuchModule own) h = ((n, refl, h), Keeps-same known)
unknown_name name direction known n solve.Memory h = inl (Keeps-same known)

pub reach_text : (name : List ℕ) (direction : Direction) (n : Network) (start : ℕ) (reached : List ℕ) → index_of n name ≡ Some start → AllPairs (λ i j. i < j) reached →
    ((m : ℕ) → Contains reached m ↔ IsReached n direction start m) → IsReachText (IsThis n) name direction (entry_lines plain_style (map (named_entry n) reached))
reach_text name direction n start reached is ascending exact = record {
  net = n;
  reads = refl;
  start = start;
  start_is = is;
  reached = reached;
  ascending = ascending;
  exact = exact;
  lines = refl;
}

-- a run on a network is one on the input that has it
module _ (IsOf : Network → Type 0) (IsRefused : RunFault → Type 0) (n : Network) (is : IsOf n) (name : List ℕ) (direction : Direction) where
  text_of : (text : List ℕ) → IsReachText (IsThis n) name direction text → IsReachText IsOf name direction text
  text_of text h = record {
    net = h.net;
    reads = subst IsOf (sym h.reads) is;
    start = h.start;
    start_is = h.start_is;
    reached = h.reached;
    ascending = h.ascending;
    exact = h.exact;
    lines = h.lines;
  }

  refusal_of : (fault : RunFault) → IsReachRejected (IsThis n) IsNeverRejected name fault → IsReachRejected IsOf IsRefused name fault
  refusal_of (run.CannotRead path) h = absurd h
  refusal_of (run.CannotWrite path) h = absurd h
  refusal_of (run.Tree fault) h = absurd h
  refusal_of (run.Net fault) h = absurd h
  refusal_of (run.Price fault) h = absurd h
  refusal_of (run.Report fault) h = absurd h
  refusal_of (run.Solve fault) h = (h.0, subst IsOf (sym h.1) is, h.2)
  refusal_of (run.Rules fault) h = absurd h
  refusal_of (run.Query fault) h = absurd h
  refusal_of run.Device h = absurd h
  refusal_of run.Memory h = absurd h

  pub reach_run_of : (old new : Option (List ℕ)) (result : Result (Unit {0}) RunFault) → IsReachRun (IsThis n) IsNeverRejected name direction old new result → IsReachRun IsOf IsRefused name direction old new result
  reach_run_of = weaker (IsReachText (IsThis n) name direction) (IsReachText IsOf name direction) (IsReachRejected (IsThis n) IsNeverRejected name) (IsReachRejected IsOf IsRefused name) text_of refusal_of

-- ---- the paths of the modules

pub mapped_at : {X Y : Type 0} (f : X → Y) (xs : List X) (k : ℕ) (d : X) → get_or (map f xs) k (f d) ≡ f (get_or xs k d)
mapped_at f [] k d = refl
mapped_at f (x ∷ xs) zero d = refl
mapped_at f (x ∷ xs) (suc k) d = mapped_at f xs k d

pub no_path : (sources : List Source) (modules : List ℕ) (m : ℕ) → IsPathAt sources modules 0 m None
no_path sources modules m i lt is = absurd (omega arith)

pub path_more : (sources : List Source) (modules : List ℕ) (count m : ℕ) (source : Source) (path : List ℕ) → slice_index modules count ≡ m → slice_get sources count ≡ Some source → path ≡ string_bytes source.path →
    IsPathAt sources modules (count + 1) m (Some path)
path_more sources modules count m source path is there spelled = (count, omega arith, is, source, there, spelled)

pub path_same : (sources : List Source) (modules : List ℕ) (count m : ℕ) (o : Option (List ℕ)) → (slice_index modules count ≡ m → ⊥) → IsPathAt sources modules count m o → IsPathAt sources modules (count + 1) m o
path_same sources modules count m (Some path) other (i, lt, is, source, there, spelled) = (i, omega arith, is, source, there, spelled)
path_same sources modules count m None other none = λ i lt is. elim (cases_eq i count) [
  | inl e ↦ other (ap (slice_index modules) (sym e) ∙ is)
  | inr ne ↦ none i (omega arith) is
]

module _ (sources : List Source) (net : Network) (modules : List ℕ) (files : List ModuleFile) (all : AreAllOf (IsModuleOf net) sources files modules) where
  -- a file of the tree has its module's name
  module_at : (i : ℕ) → i < length sources → (file : ModuleFile) × (slice_get files i ≡ Some file) × IsModuleOf net file (slice_index modules i)
  module_at i lt =
      let many = all.as_many in
      let accepted = all.accepted.as_many in
      elim (slice_get_cases files i).1 [
        | inl (file, within, at, is) ↦ (file, at, all.each i file (slice_index modules i) at (slice_get-get_or modules i 0 (omega arith)))
        | inr (past, none) ↦ absurd (omega arith)
      ]

  pub modules_within : All (λ m. m < length net.names) modules
  modules_within = All-from_get_or (λ (m : ℕ). m < length net.names) modules 0 (λ i lt.
      let many = all.as_many in
      let accepted = all.accepted.as_many in
      let (file, at, is) = module_at i (omega arith) in is.0)

  module _ (is_net : IsNetOfTree sources net) (m : ℕ) (low : m < length net.names) where
    same_module : (k : ℕ) → k < length net.names → name_of net k ≡ name_of net m → k ≡ m
    same_module k within same =
        let apart = names_apart net.names is_net.names_ascend in
        let e : Some k ≡ Some m = sym (index_again net k apart within) ∙ ap (index_of net) same ∙ index_again net m apart low in cc

    path_of : (o : Option (List ℕ)) → IsPathAt sources modules (length sources) m o → IsPathOf files (name_of net m) o
    path_of (Some path) (i, lt, number, source, there, spelled) =
        let (file, at, (within, named)) = module_at i lt in
        (file, Contains-at files i file at, sym named ∙ ap (name_of net) number, (all.accepted.each i source file there at).path_is ∙ sym spelled)
      where
        Contains-at : (xs : List ModuleFile) (i : ℕ) (x : ModuleFile) → slice_get xs i ≡ Some x → Contains xs x
        Contains-at xs i x at = (i, slice_get_within xs i x at, get_or_from_slice_get xs i x x at)
    path_of None none = λ path (file, (i, lt, is), named, spelled).
        let many = all.as_many in
        let accepted = all.accepted.as_many in
        let at : slice_get files i ≡ Some file = slice_get-get_or files i file lt ∙ ap (λ (f : ModuleFile). Some f) is in
        let own = all.each i file (slice_index modules i) at (slice_get-get_or modules i 0 (omega arith)) in
        none i (omega arith) (same_module (slice_index modules i) own.0 (own.1 ∙ named))

-- ---- the lines of a tree's modules

pub modules_text : (style : Style) (sources : List Source) (net : Network) (modules : List ℕ) (paths : List (Option (List ℕ))) (entries : List ModuleEntry) → IsNetOfTree sources net → AreModulesOf sources net modules →
    ((m : ℕ) → IsPathAt sources modules (length sources) m (get_or paths m None)) → map (λ (entry : ModuleEntry). entry.name) entries ≡ net.names → map (λ (entry : ModuleEntry). entry.path) entries ≡ paths →
    IsModulesText style sources (entry_lines style entries)
modules_text style sources net modules paths entries is_net (files, all) at named pathed = record {
  net = net;
  is_net = is_net;
  files = files;
  accepted = all.accepted;
  entries = entries;
  named = named;
  paths = λ entry (k, lt, is).
      let name : ModuleEntry → List ℕ = λ e. e.name in
      let path : ModuleEntry → Option (List ℕ) = λ e. e.path in
      let long = ap length named in
      let mapped = length-map entries name in
      let low : k < length net.names = omega arith in
      let own : name_of net k ≡ entry.name = ap (λ (ns : List (List ℕ)). get_or ns k []) (sym named) ∙ get_or-map name entries k entry [] lt ∙ ap name is in
      let here : get_or paths k None ≡ entry.path = ap (λ (ps : List (Option (List ℕ))). get_or ps k None) (sym pathed) ∙ get_or-map path entries k entry None lt ∙ ap path is in
      subst (λ (n : List ℕ). IsPathOf files n entry.path) own
      (subst (IsPathOf files (name_of net k)) here (path_of sources net modules files all is_net k low (get_or paths k None) (at k)));
  lines = refl;
}
