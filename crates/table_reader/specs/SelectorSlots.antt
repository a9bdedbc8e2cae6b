-- Reserved selector entries. Their number is an estimate, which is corrected while and after the selectors are parsed.
use Rattle.std.specs.Prelude.{◌≡◌, ℕ, zero, suc, ◌+◌, ◌<◌, ◌≤◌, ◌⊎◌, false, List, [], ◌∷◌, set}
use Rattle.std.specs.List.{insert, remove_range}
use Rattle.module_table.specs.declared.rows.Designator.{Designator as DesignatorRow}
use Rattle.module_table.specs.declared.rows.Selector.{Selector as SelectorRow}
use Rattle.module_table.specs.declared.rows.Step.TheVariants as steps
use Rattle.module_table.specs.declared.builder.TableBuilder.{TableBuilder}
use Rattle.module_table.specs.TableStages.{Stage, stage_of}

-- a reserved selector entry; `head` is the index of the designator's first identifier
abbrev pub placeholder : ℕ → SelectorRow
placeholder head = record { of = head; step = steps.Target }

-- n reserved selector entries of one designator
abbrev pub slots : ℕ → ℕ → List SelectorRow
slots head zero = []
slots head (suc n) = placeholder head ∷ slots head n

-- the stage with this selector entry inserted at index `at`
unfoldable pub inserted : ℕ → SelectorRow → Stage → Stage
inserted at row s = record { number = s.number; rows = record (s.rows) { selectors = insert s.rows.selectors at row } }

-- the stage without the selector entries from `from` to `end`
unfoldable pub removed : ℕ → ℕ → Stage → Stage
removed from end s = record { number = s.number; rows = record (s.rows) { selectors = remove_range s.rows.selectors from end } }

-- the stage with the designator entry at index `at` replaced
unfoldable pub written : ℕ → DesignatorRow → Stage → Stage
written at row s = record { number = s.number; rows = record (s.rows) { designators = set s.rows.designators at row } }

-- unless an allocation failed: `slot` is before `end`, the end of the reserved entries, and nothing has changed; or `slot` isn't, and one
-- entry was inserted at `end`; `now` is the new end
abbrev pub EnsuresSlot : ℕ → ℕ → ℕ → TableBuilder → TableBuilder → ℕ → Type 0
EnsuresSlot head slot end old new now = new.failed ≡ false → (old.failed ≡ false)
    × (((slot < end) × (stage_of new ≡ stage_of old) × (now ≡ end)) ⊎ ((end ≤ slot) × (stage_of new ≡ inserted end (placeholder head) (stage_of old)) × (now ≡ end + 1)))
