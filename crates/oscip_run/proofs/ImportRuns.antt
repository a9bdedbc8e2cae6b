-- The contracts of lower crates imply the definitions of the runs that write networks and paths.
use Rattle.std.proofs.Common.{◌≡◌, ◌≢◌, ◌∙◌, ℕ, Bool, true, false, List, [], ◌∷◌, ◌++◌, map, Option, Some, None, Result, Ok, Err, refl, subst, sym, inl, inr}
use Rattle.std.proofs.lemmas.List.{append-nil}
use Rattle.std.specs.Io.KnownBytes.{Appends}
use Rattle.byte_sink.specs.Sinks.{AppendsPrefix}
use Rattle.byte_sink.specs.declared.sink.SinkFault.{SinkFault}
use Rattle.byte_sink.specs.declared.sink.SinkFault.TheVariants as sink
use Rattle.digraph.specs.ShortestPaths.{AreChain, IsLeastChain}
use Rattle.cut_net.specs.Cuts.{Any, Chain, Imports}
use Rattle.cut_net.specs.NetReading.{import_line}
use Rattle.cut_net.specs.NetText.{net_line, IsNetOutcome, NetLine}
use Rattle.cut_net.specs.Network.{Network, index_of}
use Rattle.cut_report.specs.NetLines.{chain_text, ended_lines, import_between, imports_along, net_text}
use Rattle.cut_solve.specs.Faults.{UnlessMemory}
use Rattle.cut_solve.specs.Solving.{IsSolveOutcome}
use Rattle.cut_solve.specs.Solving as solving
use Rattle.cut_solve.specs.declared.fault.SolveFault.{SolveFault}
use Rattle.cut_solve.specs.declared.fault.SolveFault.TheVariants as solve
use Rattle.oscip_run.specs.Faults.{of_sink, of_solve}
use Rattle.oscip_run.specs.ImportRuns.{IsNetText, IsNetTextRun, IsWritingRun, IsWhyRejected, IsWhyRun, IsWhyText}
use Rattle.oscip_run.specs.Runs.{IsNeverRejected, IsThis}
use Rattle.oscip_run.specs.declared.fault.RunFault.{RunFault}
use Rattle.oscip_run.specs.declared.fault.RunFault.TheVariants as run
use Rattle.oscip_run.proofs.CheckRuns.{Keeps-same}

-- a sink that failed
pub error_prefix : (IsText : List ℕ → Type 0) (IsRefused : RunFault → Type 0) (old new : Option (List ℕ)) (text : List ℕ) (fault : SinkFault) → IsText text → AppendsPrefix old new text →
    IsWritingRun IsText IsRefused old new (Err (of_sink fault))
error_prefix IsText IsRefused old new text sink.Memory is front = inr (text, is, front)
error_prefix IsText IsRefused old new text sink.Device is front = (text, is, front)

-- a run that says more is one that says less
pub weaker : (IsText Other : List ℕ → Type 0) (IsRefused IsOther : RunFault → Type 0) → ((text : List ℕ) → IsText text → Other text) → ((fault : RunFault) → IsRefused fault → IsOther fault) →
    (old new : Option (List ℕ)) (result : Result (Unit {0}) RunFault) → IsWritingRun IsText IsRefused old new result → IsWritingRun Other IsOther old new result
weaker IsText Other IsRefused IsOther as_text as_fault old new (Ok _) h = (h.0, as_text h.0 h.1, h.2)
weaker IsText Other IsRefused IsOther as_text as_fault old new (Err (run.CannotRead path)) h = absurd h
weaker IsText Other IsRefused IsOther as_text as_fault old new (Err (run.CannotWrite path)) h = absurd h
weaker IsText Other IsRefused IsOther as_text as_fault old new (Err (run.Tree fault)) h = (as_fault (run.Tree fault) h.0, h.1)
weaker IsText Other IsRefused IsOther as_text as_fault old new (Err (run.Net fault)) h = (as_fault (run.Net fault) h.0, h.1)
weaker IsText Other IsRefused IsOther as_text as_fault old new (Err (run.Price fault)) h = (as_fault (run.Price fault) h.0, h.1)
weaker IsText Other IsRefused IsOther as_text as_fault old new (Err (run.Report fault)) h = absurd h
weaker IsText Other IsRefused IsOther as_text as_fault old new (Err (run.Solve fault)) h = (as_fault (run.Solve fault) h.0, h.1)
weaker IsText Other IsRefused IsOther as_text as_fault old new (Err (run.Rules fault)) h = absurd h
weaker IsText Other IsRefused IsOther as_text as_fault old new (Err (run.Query fault)) h = absurd h
weaker IsText Other IsRefused IsOther as_text as_fault old new (Err run.Device) h = (h.0, as_text h.0 h.1, h.2)
weaker IsText Other IsRefused IsOther as_text as_fault old new (Err run.Memory) (inl h) = inl h
weaker IsText Other IsRefused IsOther as_text as_fault old new (Err run.Memory) (inr h) = inr (h.0, as_text h.0 h.1, h.2)

-- the text of a network
pub net_text_of : (n : Network) → IsNetOutcome (net_text n) (Ok n) → IsNetText (IsThis n) (net_text n)
net_text_of n says = record { net = n; reads = refl; spelled = refl; says = says }

-- that on a network is that on the input that has it
pub net_run_of : (IsOf : Network → Type 0) (IsRefused : RunFault → Type 0) (n : Network) → IsOf n → (old new : Option (List ℕ)) (result : Result (Unit {0}) RunFault) →
    IsNetTextRun (IsThis n) IsNeverRejected old new result → IsNetTextRun IsOf IsRefused old new result
net_run_of IsOf IsRefused n is =
    weaker (IsNetText (IsThis n)) (IsNetText IsOf) IsNeverRejected IsRefused (λ text h. record { net = h.net; reads = subst IsOf (sym h.reads) is; spelled = h.spelled; says = h.says })
    (λ fault h. absurd h)

-- refused names
pub refused_names : (first second : List ℕ) (known : Option (List ℕ)) (n : Network) (fault : SolveFault) → UnlessMemory fault (λ refusal. IsSolveOutcome n first second (Err refusal)) →
    IsWhyRun (IsThis n) IsNeverRejected first second known known (Err (of_solve fault))
refused_names first second known n solve.SameModule h = ((n, refl, solving.SameModule, refl, h), Keeps-same known)
refused_names first second known n (solve.NoSuchModule name) h = ((n, refl, solving.NoSuchModule _, refl, h), Keeps-same known)
refused_names first second known n solve.Memory h = inl (Keeps-same known)

-- nothing is put
pub Appends-none : (known : Option (List ℕ)) → Appends known known []
Appends-none None = tt
Appends-none (Some bytes) = sym (append-nil bytes)

-- a line isn't empty
line_stands : (line more : List ℕ) → (line ++ (10 ∷ [])) ++ more ≢ []
line_stands [] more e = absurd cc
line_stands (b ∷ line) more e = absurd cc

rows_stand : (line : NetLine) (more : List NetLine) → ended_lines (line ∷ more) ≢ []
rows_stand line more = line_stands (net_line line) (ended_lines more)

-- a path between two modules has lines
has_lines : (n : Network) (a b : ℕ) (chain : List ℕ) → a ≢ b → AreChain (Imports n.imports Any) a b chain → chain_text n chain ≢ []
has_lines n a b [] apart is = absurd is
has_lines n a b (m ∷ []) apart is = absurd (apart (sym is.0 ∙ is.1))
has_lines n a b (m ∷ k ∷ more) apart is = rows_stand (import_line n.names (import_between n m k)) (map (import_line n.names) (imports_along n (k ∷ more)))

-- the lines of the least path
pub why_text : (first second : List ℕ) (n : Network) (a b : ℕ) (chain : List ℕ) → index_of n first ≡ Some a → index_of n second ≡ Some b → a ≢ b →
    IsLeastChain (Imports n.imports Any) a b chain → IsWhyText (IsThis n) first second true (chain_text n chain)
why_text first second n a b chain first_is second_is apart least = record {
  net = n;
  reads = refl;
  a = a;
  first_is = first_is;
  b = b;
  second_is = second_is;
  apart = apart;
  exact = (chain, least, refl, has_lines n a b chain apart least.is_chain);
}

-- and none, where no path leads there
pub no_chain : (first second : List ℕ) (n : Network) (a b : ℕ) → index_of n first ≡ Some a → index_of n second ≡ Some b → a ≢ b → (Chain n.imports Any a b → ⊥) →
    IsWhyText (IsThis n) first second false []
no_chain first second n a b first_is second_is apart none = record {
  net = n;
  reads = refl;
  a = a;
  first_is = first_is;
  b = b;
  second_is = second_is;
  apart = apart;
  exact = (none, refl);
}

-- those on a network are those on the input that has it
text_of : (IsOf : Network → Type 0) (n : Network) → IsOf n → (first second : List ℕ) (found : Bool) (text : List ℕ) → IsWhyText (IsThis n) first second found text → IsWhyText IsOf first second found text
text_of IsOf n is first second found text h = record {
  net = h.net;
  reads = subst IsOf (sym h.reads) is;
  a = h.a;
  first_is = h.first_is;
  b = h.b;
  second_is = h.second_is;
  apart = h.apart;
  exact = h.exact;
}

refusal_of : (IsOf : Network → Type 0) (IsRefused : RunFault → Type 0) (n : Network) → IsOf n → (first second : List ℕ) (fault : RunFault) →
    IsWhyRejected (IsThis n) IsNeverRejected first second fault → IsWhyRejected IsOf IsRefused first second fault
refusal_of IsOf IsRefused n is first second (run.CannotRead path) h = absurd h
refusal_of IsOf IsRefused n is first second (run.CannotWrite path) h = absurd h
refusal_of IsOf IsRefused n is first second (run.Tree fault) h = absurd h
refusal_of IsOf IsRefused n is first second (run.Net fault) h = absurd h
refusal_of IsOf IsRefused n is first second (run.Price fault) h = absurd h
refusal_of IsOf IsRefused n is first second (run.Report fault) h = absurd h
refusal_of IsOf IsRefused n is first second (run.Solve fault) h = (h.0, subst IsOf (sym h.1) is, h.2, h.3, h.4)
refusal_of IsOf IsRefused n is first second (run.Rules fault) h = absurd h
refusal_of IsOf IsRefused n is first second (run.Query fault) h = absurd h
refusal_of IsOf IsRefused n is first second run.Device h = absurd h
refusal_of IsOf IsRefused n is first second run.Memory h = absurd h

-- and so is a run
pub run_of : (IsOf : Network → Type 0) (IsRefused : RunFault → Type 0) (n : Network) → IsOf n → (first second : List ℕ) (old new : Option (List ℕ)) (result : Result Bool RunFault) →
    IsWhyRun (IsThis n) IsNeverRejected first second old new result → IsWhyRun IsOf IsRefused first second old new result
run_of IsOf IsRefused n is first second old new (Ok found) h = (h.0, text_of IsOf n is first second found h.0 h.1, h.2)
run_of IsOf IsRefused n is first second old new (Err fault) h =
    weaker (IsWhyText (IsThis n) first second true) (IsWhyText IsOf first second true) (IsWhyRejected (IsThis n) IsNeverRejected first second) (IsWhyRejected IsOf IsRefused first second)
    (text_of IsOf n is first second true) (refusal_of IsOf IsRefused n is first second) old new (Err fault) h
