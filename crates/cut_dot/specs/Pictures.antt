-- The picture of an answer for two modules of a network: of imports to remove, and of a flow.
use Rattle.std.specs.Prelude.{◌≡◌, ◌⊎◌, ℕ, Bool, not, ◌||◌, ◌&&◌, ◌==◌, nat_lt, List, [], ◌∷◌, length, filter, Contains}
use Rattle.std.specs.List.{list_any, range_with_len}
use Rattle.digraph.specs.declared.edge.Edge.{Edge}
use Rattle.cut_net.specs.declared.priced.Priced.{Priced}
use Rattle.cut_net.specs.declared.answer.Answer.{Answer}
use Rattle.cut_net.specs.declared.answer.Answer.TheVariants as answers
use Rattle.cut_net.specs.Network.{Network}
use Rattle.cut_net.specs.Cuts.{IsSetOf, Chain, Outside}
use Rattle.cut_net.specs.Lines.{flow_by, removed_by}
use Rattle.cut_net.specs.AnswerClaim.{AnswerClaim, CutOf, BlockedBy}
use Rattle.cut_part.specs.Subnetworks.{are_ends_in, IsBetween}
use Rattle.cut_dot.specs.Ends.{is_chain_end}
use Rattle.cut_dot.specs.Texts.{picture_text}

-- the numbers of all modules of the network, in order
abbrev pub numbers : Network → List ℕ
numbers net = range_with_len 0 (length net.names)

-- whether the module is in the picture: `between` holds for it, or it is a or b
abbrev pub is_drawn : ℕ → ℕ → (ℕ → Bool) → ℕ → Bool
is_drawn a b between m = between m || is_chain_end a b m

-- the modules for which `between` holds, and a and b, in order
abbrev pub drawn_modules : Network → ℕ → ℕ → (ℕ → Bool) → List ℕ
drawn_modules net a b between = filter (is_drawn a b between) (numbers net)

-- the imports of the network for both of whose modules `between` holds, in order
abbrev pub drawn_imports : Network → (ℕ → Bool) → List Priced
drawn_imports net between = filter (are_ends_in between) net.imports

-- the imports that an answer removes; empty for an answer without a cut
abbrev pub answer_removed : Answer → List Priced
answer_removed (answers.Cut cut) = cut.imports.items
answer_removed (answers.Blocked chain) = []

-- the imports with flow of an answer; empty for an answer without a cut
abbrev pub answer_flow : Answer → List Priced
answer_flow (answers.Cut cut) = cut.flow.items
answer_flow (answers.Blocked chain) = []

-- whether the import isn't in the list of removed imports
abbrev pub is_not_removed : List Priced → Priced → Bool
is_not_removed printed i = not (removed_by printed i)

-- `reached` holds for exactly the modules that a reaches by imports that aren't removed
abbrev pub AreStillReached : Network → ℕ → List Priced → (ℕ → Bool) → Type 0
AreStillReached net a printed reached = IsSetOf reached (Chain net.imports (Outside (removed_by printed)) a)

-- the text is the picture: the modules on paths from a to b, with a and b themselves, and all imports between modules on paths, each once,
-- with attributes
pub record IsPicture (net : Network) (a b : ℕ) (printed flow : List Priced) (text : List ℕ) : Type 0 where
  -- the modules on paths from a to b
  pub between : ℕ → Bool
  pub are_between : IsSetOf between (IsBetween net a b)
  -- the modules that a still reaches
  pub reached : ℕ → Bool
  pub are_reached : AreStillReached net a printed reached
  -- the lines of these modules and imports
  pub text_is : text ≡ picture_text net a b printed flow reached (drawn_modules net a b between) (drawn_imports net between)

-- whether the import is in the list of removed imports, or its flow is above 0
abbrev pub is_reported : List Priced → List Priced → Priced → Bool
is_reported printed flow i = removed_by printed i || nat_lt 0 (flow_by flow i)

-- the imports of the network that the report removes or gives flow, in order
abbrev pub reported_imports : Network → List Priced → List Priced → List Priced
reported_imports net printed flow = filter (is_reported printed flow) net.imports

-- an import of the list leads from the module, or to it
abbrev pub IsImportEnd : List Priced → ℕ → Type 0
IsImportEnd imports m = (i : Priced) × Contains imports i × ((i.from ≡ m) ⊎ (i.to ≡ m))

-- the text is the picture of these imports of the network, each once, of the modules at their ends, and of a and b, with attributes
pub record IsPictureOfImports (net : Network) (a b : ℕ) (printed flow imports : List Priced) (text : List ℕ) : Type 0 where
  -- the modules at the ends of these imports
  pub at_end : ℕ → Bool
  pub are_at_ends : IsSetOf at_end (IsImportEnd imports)
  -- the modules that a still reaches
  pub reached : ℕ → Bool
  pub are_reached : AreStillReached net a printed reached
  -- the lines of these modules and imports
  pub text_is : text ≡ picture_text net a b printed flow reached (drawn_modules net a b at_end) imports

-- the text is the picture by flow: that of the imports that are removed or have flow
abbrev pub IsFlowPicture : Network → ℕ → ℕ → List Priced → List Priced → List ℕ → Type 0
IsFlowPicture net a b printed flow text = IsPictureOfImports net a b printed flow (reported_imports net printed flow) text

-- ---- a path

-- the edges from each module of a path to the next
abbrev pub steps : List ℕ → List Edge
steps [] = []
steps (m ∷ []) = []
steps (m ∷ n ∷ more) = record { from = m; to = n } ∷ steps (n ∷ more)

-- whether the import leads from the start of the edge to the end of the edge
abbrev pub has_ends : Priced → Edge → Bool
has_ends i step = (i.from == step.from) && (i.to == step.to)

-- whether the import leads from a module of the path to the next
abbrev pub is_step : List ℕ → Priced → Bool
is_step path i = list_any (has_ends i) (steps path)

-- the imports of the network that lead from a module of the path to the next, in order
abbrev pub path_imports : Network → List ℕ → List Priced
path_imports net path = filter (is_step path) net.imports

-- the text is the picture of a path of imports, in which no import is removed and none has flow
abbrev pub IsPathPicture : Network → ℕ → ℕ → List ℕ → List ℕ → Type 0
IsPathPicture net a b path text = IsPictureOfImports net a b [] [] (path_imports net path) text

-- the text is the picture by flow of an answer: of a cut, or of the path of pinned imports because of which there is none
abbrev pub IsPictureByFlow : Network → ℕ → ℕ → AnswerClaim → List ℕ → Type 0
IsPictureByFlow net a b (CutOf total printed flow) text = IsFlowPicture net a b printed flow text
IsPictureByFlow net a b (BlockedBy path) text = IsPathPicture net a b path text
