-- The results of a reader and of an engine imply the definition of a run on files.
use Rattle.std.proofs.Common.{◌≡◌, ℕ, Bool, List, Option, Result, subst, inr}
use Rattle.oscip_job.specs.declared.job.NetQuestion.{NetQuestion}
use Rattle.texts.specs.Places.{Style}
use Rattle.oscip_run.specs.CrossingRuns.{IsCrossingsRun}
use Rattle.oscip_run.specs.FileRuns.{IsNetRun, IsTreeNetRun}
use Rattle.oscip_run.specs.JobRuns.{IsJobRun}
use Rattle.oscip_run.specs.PricedInputs.{IsNetOfPricedText, IsNetOfPricedTree, IsRejectedPricedText, IsRejectedPricedTree}
use Rattle.oscip_run.specs.Readings.{bytes_or_empty, question_paths, AreReturned, FileOf, Reading}
use Rattle.oscip_run.specs.declared.fault.RunFault.{RunFault}
use Rattle.source_tree.specs.declared.source.Source.{Source}

-- a run of the engine on a network, whose slices are what was given
pub net_run : (Answers : Reading → Type 0) (path : List ℕ) (question : NetQuestion) (network text seen : List ℕ) (report prices other : Option (List ℕ)) (old new : Option (List ℕ)) (result : Result Bool RunFault) →
    Answers (FileOf path network) → AreReturned Answers (question_paths question) report prices → text ≡ network → seen ≡ bytes_or_empty report → other ≡ prices →
    IsJobRun (IsNetOfPricedText text) (IsRejectedPricedText text) question seen other old new result → IsNetRun Answers path question old new result
net_run Answers path question network text seen report prices other old new result network_returned given e f d run =
    let on_network = subst (λ (x : List ℕ). IsJobRun (IsNetOfPricedText x) (IsRejectedPricedText x) question seen other old new result) e run in
    let on_report = subst (λ (x : List ℕ). IsJobRun (IsNetOfPricedText network) (IsRejectedPricedText network) question x other old new result) f on_network in
    inr (record {
      network = network;
      report = report;
      prices = prices;
      network_returned = network_returned;
      given = given;
      run = subst (λ (x : Option (List ℕ)). IsJobRun (IsNetOfPricedText network) (IsRejectedPricedText network) question (bytes_or_empty report) x old new result) d on_report;
    })

-- the same on the modules of a tree
pub tree_run : (Answers : Reading → Type 0) (question : NetQuestion) (sources : List Source) (seen : List ℕ) (report prices other : Option (List ℕ)) (old new : Option (List ℕ)) (result : Result Bool RunFault) →
    AreReturned Answers (question_paths question) report prices → seen ≡ bytes_or_empty report → other ≡ prices →
    IsJobRun (IsNetOfPricedTree sources) (IsRejectedPricedTree sources) question seen other old new result → IsTreeNetRun Answers sources question old new result
tree_run Answers question sources seen report prices other old new result given f d run =
    let on_report = subst (λ (x : List ℕ). IsJobRun (IsNetOfPricedTree sources) (IsRejectedPricedTree sources) question x other old new result) f run in
    inr (record {
      report = report;
      prices = prices;
      given = given;
      run = subst (λ (x : Option (List ℕ)). IsJobRun (IsNetOfPricedTree sources) (IsRejectedPricedTree sources) question (bytes_or_empty report) x old new result) d on_report;
    })

-- a search for uses between names that are the job's
pub uses_run : (style : Style) (sources : List Source) (a b first second : List ℕ) (old new : Option (List ℕ)) (result : Result (Unit {0}) RunFault) → a ≡ first → b ≡ second →
    IsCrossingsRun style sources a b old new result → IsCrossingsRun style sources first second old new result
uses_run style sources a b first second old new result e f run =
    let on_first = subst (λ (x : List ℕ). IsCrossingsRun style sources x b old new result) e run in
    subst (λ (x : List ℕ). IsCrossingsRun style sources first x old new result) f on_first
