-- Selectors and lists of expressions with a property that the contracts need besides their entries.
use Rattle.std.specs.Prelude.{◌≡◌, ℕ, suc, Bool, true, false, List, length, map, Option, Some, None, Result, Ok, Err}
use Rattle.std.specs.Global.{Vec}
use Rattle.ob_scan.specs.declared.kind.Kind.TheVariants as kinds
use Rattle.ob_scan.specs.declared.token.Token.{Token}
use Rattle.ob_tree.specs.declared.expression.Selector.{Selector}
use Rattle.ob_tree.specs.declared.expression.Expr.{Expr}
use Rattle.ob_tree.specs.declared.expression.ExprList.{ExprList}
use Rattle.ob_tree.specs.TreeEvents.{Events, each}
use Rattle.ob_tree.specs.Expressions.{selector_events, expr_list_events}
use Rattle.ob_grammar.specs.Lookahead.{uncons, head_is, is_word}
use Rattle.ob_grammar.specs.Combinators.{Read}
use Rattle.ob_grammar.specs.ParsesAs.{Fails, remaining}
use Rattle.ob_grammar.specs.declared.cursor.Cursor.{Cursor}
use Rattle.ob_grammar.specs.declared.stop.Stop.{Stop}
use Rattle.module_table.specs.declared.builder.Context.{Context}
use Rattle.module_table.specs.declared.builder.TableBuilder.{TableBuilder}
use Rattle.module_table.specs.TableStages.{Stage, added, after, with_selector}
use Rattle.module_table.specs.Parts.{these_selectors}
use Rattle.table_rules.specs.Expressions.{selected, first_name, list_phrase, expr_list_rows}
use Rattle.table_rules.specs.SelectorEntries.{row_at, after_selectors}
use Rattle.table_reader.specs.SelectorSlots.{slots}
use Rattle.table_reader.specs.Shapes.{exprs_events, exprs_rows}
use Rattle.table_reader.specs.Tabulating.{HasAppendedEntries}

-- the token at this cursor is a dot
abbrev pub dot_at : List Token → Cursor → Bool
dot_at ts i = head_is (is_word kinds.Dot) (uncons (remaining ts i))

-- the optional index is present
abbrev pub is_present : Option ℕ → Bool
is_present None = false
is_present (Some n) = true

-- a selector, which is a dot and a name if and only if `dot` is true
pub record SelectorShape (dot : Bool) : Type 0 where
  pub selector : Selector
  pub named : is_present (selected selector).name ≡ dot

-- the events of the selector
abbrev pub selector_shape_events : {dot : Bool} → SelectorShape dot → Events
selector_shape_events x = selector_events x.selector

-- the stage after this selector: its entry is set at index `at`, then the entries of the expressions in it are appended; `head` is the
-- index of the designator's first identifier
abbrev pub selector_stage : {dot : Bool} → ℕ → ℕ → Context → SelectorShape dot → Stage → Stage
selector_stage head at c x s = after (selected x.selector).piece c (with_selector at (row_at head (selected x.selector) s) s)

-- selectors; `dot` is true if and only if there are any and the first one is a dot and a name
pub record SelectorsShape (dot : Bool) : Type 0 where
  pub list : Vec Selector
  pub named : is_present (first_name (map selected list.items)) ≡ dot

-- the events of the selectors
abbrev pub selectors_shape_events : {dot : Bool} → SelectorsShape dot → Events
selectors_shape_events x = each selector_events x.list.items

-- the stage after these selectors: all their entries are appended, then the entries of the expressions in them
abbrev pub selectors_stage : {dot : Bool} → ℕ → Context → SelectorsShape dot → Stage → Stage
selectors_stage head c x s = after_selectors head (length s.rows.selectors) (map selected x.list.items) c (added (these_selectors (slots head (length x.list.items))) s)

-- a list of `count` expressions
pub record Counted (count : ℕ) : Type 0 where
  pub list : ExprList
  pub counted : (list_phrase list).count ≡ count

-- the events of the list
abbrev pub counted_events : {n : ℕ} → Counted n → Events
counted_events x = expr_list_events x.list

-- with `Ok` the reader reads a list of expressions; unless an allocation failed, its entries are appended, and the returned number is its
-- length. With `Err` the reader fails for the same reason, or an allocation failed
abbrev pub Counts : List Token → Context → TableBuilder → TableBuilder → Result (Cursor × ℕ) Stop → Read → Type 0
Counts ts c old new (Ok x) read = HasAppendedEntries {T = Counted x.1} ts counted_events (λ l. after (expr_list_rows l.list) c) old new x.0 read
Counts ts c old new (Err e) read = Fails ts e read

-- the expressions after the first one, in a list of `count` expressions
pub record MoreExprs (count : ℕ) : Type 0 where
  pub list : Vec Expr
  pub counted : suc (length list.items) ≡ count

-- the events of the expressions
abbrev pub more_events : {n : ℕ} → MoreExprs n → Events
more_events x = exprs_events x.list

-- with `Ok` the reader reads the expressions after the first one of a list; unless an allocation failed, their entries are appended, and
-- the returned number is the length of the whole list. With `Err` the reader fails for the same reason, or an allocation failed
abbrev pub CountsMore : List Token → Context → TableBuilder → TableBuilder → Result (Cursor × ℕ) Stop → Read → Type 0
CountsMore ts c old new (Ok x) read = HasAppendedEntries {T = MoreExprs x.1} ts more_events (λ l. after (exprs_rows l.list) c) old new x.0 read
CountsMore ts c old new (Err e) read = Fails ts e read
