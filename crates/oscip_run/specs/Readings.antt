-- What a reader of files and folders returns, and the paths that a question names.
use Rattle.std.specs.Prelude.{◌≡◌, ◌⊎◌, ℕ, [], List, Option, Some, None, option_map}
use Rattle.std.specs.Global.{Vec}
use Rattle.std.specs.String.{string_bytes}
use Rattle.oscip_job.specs.declared.job.NetQuestion.{NetQuestion}
use Rattle.oscip_job.specs.declared.job.NetQuestion.TheVariants.{Cut, Check, Dot, Why, Reach}
use Rattle.oscip_run.specs.Exclusions.{AreIncluded}
use Rattle.oscip_run.specs.Faults.{IsReadFault}
use Rattle.oscip_run.specs.Files.{AreModulePrefixes, IsFile}
use Rattle.oscip_run.specs.declared.fault.RunFault.{RunFault}
use Rattle.source_tree.specs.declared.source.Source.{Source}

-- what a reader returns for a path: the bytes of the file, the modules below the folder that no pattern excludes, or the fault of a path
-- that can't be read
pub data Reading : Type 0 where
  FileOf : List ℕ → List ℕ → Reading
  FolderOf : List ℕ → List (List ℕ) → List Source → Reading
  Refused : List ℕ → RunFault → Reading

-- what is proved of what SystemFiles returns: how long a file is at most, that no file is excluded, and that a fault is CannotRead or
-- Memory
abbrev pub IsOfSystem : Reading → Type 0
IsOfSystem (FileOf path bytes) = IsFile bytes
IsOfSystem (FolderOf path patterns sources) = AreModulePrefixes sources × AreIncluded patterns sources
IsOfSystem (Refused path fault) = IsReadFault fault

-- the paths that a question names besides its network: that of its report and that of its prices, if it has them
pub record QuestionPaths : Type 0 where
  pub report : Option (List ℕ)
  pub prices : Option (List ℕ)

-- the paths of a question's report and prices
abbrev pub question_paths : NetQuestion → QuestionPaths
question_paths (Cut cutting) = record { report = None; prices = option_map string_bytes cutting.prices }
question_paths (Check reported) = record { report = Some (string_bytes reported.report); prices = option_map string_bytes reported.prices }
question_paths (Dot drawing) = record { report = Some (string_bytes drawing.reported.report); prices = option_map string_bytes drawing.reported.prices }
question_paths (Why names) = record { report = None; prices = None }
question_paths (Reach reaching) = record { report = None; prices = None }

-- Below, Answers holds for the readings that a reader may return.

-- the bytes are those that the reader returned for the path; without a path there are no bytes
abbrev pub IsReturned : (Reading → Type 0) → Option (List ℕ) → Option (List ℕ) → Type 0
IsReturned Answers None given = given ≡ None
IsReturned Answers (Some path) given = (bytes : List ℕ) × (given ≡ Some bytes) × Answers (FileOf path bytes)

-- there is a path, and the reader returned this fault for it
abbrev pub IsUnreadable : (Reading → Type 0) → Option (List ℕ) → RunFault → Type 0
IsUnreadable Answers None fault = ⊥
IsUnreadable Answers (Some path) fault = Answers (Refused path fault)

-- the report and the prices are those that the reader returned for their paths, if the question names them
pub record AreReturned (Answers : Reading → Type 0) (paths : QuestionPaths) (report prices : Option (List ℕ)) : Type 0 where
  pub report_returned : IsReturned Answers paths.report report
  pub prices_returned : IsReturned Answers paths.prices prices

-- the reader returned the fault for the report, or it returned the report and the fault for the prices
abbrev pub AreUnreadable : (Reading → Type 0) → QuestionPaths → RunFault → Type 0
AreUnreadable Answers paths fault =
    IsUnreadable Answers paths.report fault ⊎ (((report : Option (List ℕ)) × IsReturned Answers paths.report report) × IsUnreadable Answers paths.prices fault)

-- the reader returned the fault for the network, or it returned the network, and the fault for the report or the prices
abbrev pub IsNetUnreadable : (Reading → Type 0) → List ℕ → QuestionPaths → RunFault → Type 0
IsNetUnreadable Answers path beside fault =
    Answers (Refused path fault) ⊎ (((network : List ℕ) × Answers (FileOf path network)) × AreUnreadable Answers beside fault)

-- ---- intermediate results

-- the bytes in a vector, or none if no file was read
abbrev pub returned_bytes : Option (Vec ℕ) → Option (List ℕ)
returned_bytes given = option_map (λ (bytes : Vec ℕ). bytes.items) given

-- the bytes of a file, or the empty list if no file was read
abbrev pub bytes_or_empty : Option (List ℕ) → List ℕ
bytes_or_empty None = []
bytes_or_empty (Some bytes) = bytes
