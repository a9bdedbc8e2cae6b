-- How the selectors of a designator get their entries: placeholders are appended first, and each is overwritten before the entries of the
-- expressions in its selector follow.
use Rattle.std.specs.Prelude.{ℕ, suc, List, [], ◌∷◌, map}
use Rattle.module_table.specs.declared.rows.Selector.{Selector as SelectorRow}
use Rattle.module_table.specs.declared.rows.Step.TheVariants as steps
use Rattle.module_table.specs.declared.builder.Context.{Context}
use Rattle.module_table.specs.TableStages.{Stage, after, with_selector}
use Rattle.table_rules.specs.Expressions.{SelectorPhrase}

-- the placeholder for a selector of the designator that begins at token `head`
abbrev pub placeholder : {X : Type 0} → ℕ → X → SelectorRow
placeholder head x = record { of = head; step = steps.Target }

-- a placeholder for each of these selectors
abbrev pub placeholders : {X : Type 0} → ℕ → List X → List SelectorRow
placeholders head xs = map (placeholder head) xs

-- the entry of a selector that begins at the next token
abbrev pub row_at : ℕ → SelectorPhrase → Stage → SelectorRow
row_at head x s = record { of = head; step = x.step s.number }

-- the stage after these selectors, whose placeholders begin at index `at`
unfoldable pub after_selectors : ℕ → ℕ → List SelectorPhrase → Context → Stage → Stage
after_selectors head at [] c s = s
after_selectors head at (x ∷ xs) c s = after_selectors head (suc at) xs c (after x.piece c (with_selector at (row_at head x s) s))
