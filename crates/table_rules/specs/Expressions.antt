-- The module-table entries of expressions and designators: a definition for each production (Oberon-07 report, section 8).
use Rattle.std.specs.Prelude.{ℕ, suc, ◌+◌, Bool, false, List, [], ◌∷◌, length, Option, Some, None}
use Rattle.std.specs.declared.boxed.Box.{Box}
use Rattle.std.specs.declared.alloc.Global.{Global}
use Rattle.ob_tree.specs.declared.expression.Factor.{Factor, Factor-F, fold-Factor}
use Rattle.ob_tree.specs.declared.expression.Factor.TheOpen as layers
use Rattle.ob_tree.specs.declared.expression.Selector.{Selector, Selector-F, fold-Selector}
use Rattle.ob_tree.specs.declared.expression.Designator.{Designator, Designator-F, fold-Designator}
use Rattle.ob_tree.specs.declared.expression.Element.{Element, Element-F, fold-Element}
use Rattle.ob_tree.specs.declared.expression.ElementList.{ElementList, ElementList-F, fold-ElementList}
use Rattle.ob_tree.specs.declared.expression.Expr.{Expr, Expr-F, fold-Expr}
use Rattle.ob_tree.specs.declared.expression.ExprList.{ExprList, ExprList-F, fold-ExprList}
use Rattle.ob_tree.specs.declared.expression.SimpleExpression.{SimpleExpression, SimpleExpression-F, fold-SimpleExpression}
use Rattle.ob_tree.specs.declared.expression.Term.{Term, Term-F, fold-Term}
use Rattle.module_table.specs.declared.rows.Selector.{Selector as SelectorRow}
use Rattle.module_table.specs.declared.rows.Step.{Step}
use Rattle.module_table.specs.declared.rows.Step.TheVariants as steps
use Rattle.module_table.specs.declared.rows.TypeName.{TypeName}
use Rattle.module_table.specs.declared.builder.Context.{Context}
use Rattle.module_table.specs.Parts.{Fragment, Rows, one_used, one_designator, these_selectors, token, both, with_rows, if_present, each}

-- the index of the name after the dot that follows token k, if there is one
abbrev pub after_dot : Option ℕ → ℕ → Option ℕ
after_dot None k = None
after_dot (Some m) k = Some (k + 2)

-- a use that is not the target of a pointer, with the name after its dot
abbrev pub use_row : Option ℕ → Context → ℕ → Rows
use_row member c k = one_used (record { number = k; block = c.block; is_target = false; member = after_dot member k })

-- an identifier that the scope rule looks up
abbrev pub used : Option ℕ → Fragment
used member = with_rows (use_row member) token

-- the fragments of all elements, each preceded by one token
abbrev pub each_after : {X : Type 0} → (X → Fragment) → List X → Fragment
each_after f = each (λ x. both token (f x))

-- Each `.._step` below gives the entries of a node from the entries of its children.

-- the name of an expression that is a single name, as a function of the index of its first token
abbrev pub SoleName : Type 0
SoleName = ℕ → Option TypeName

-- the expression is not a single name
abbrev pub no_name : SoleName
no_name k = None

-- an expression: its entries, and its name if it is a single name
pub record Phrase : Type 0 where
  pub piece : Fragment
  pub name : SoleName

-- a list of expressions: its entries, its length, and its name if it is a single name
pub record ListPhrase : Type 0 where
  pub piece : Fragment
  pub count : ℕ
  pub name : SoleName

-- a selector: the field name if it is a dot and a name, the step as a function of the index of its first token, and its entries
pub record SelectorPhrase : Type 0 where
  pub name : Option ℕ
  pub step : ℕ → Step
  pub piece : Fragment

-- a designator: its entries, which differ if it is assigned to, and its name if it is a single name
pub record DesignatorPhrase : Type 0 where
  pub piece : Bool → Fragment
  pub name : SoleName

-- the name, if the list is empty
abbrev pub if_single : {X : Type 0} → List X → SoleName → SoleName
if_single [] name = name
if_single (x ∷ xs) name = no_name

-- the name, if the optional part is absent
abbrev pub if_absent : {X : Type 0} → Option X → SoleName → SoleName
if_absent None name = name
if_absent (Some x) name = no_name

-- the name that the first selector selects, if it is a dot and a name
abbrev pub first_name : List SelectorPhrase → Option ℕ
first_name [] = None
first_name (s ∷ ss) = s.name

-- a name of the form ident "." ident
abbrev pub dotted : Option ℕ → SoleName
dotted None k = None
dotted (Some m) k = Some (record { head = k; member = Some (k + 2) })

-- the name that an identifier with these selectors is: none, or a dot and a name
abbrev pub name_with : List SelectorPhrase → SoleName
name_with [] = λ k. Some (record { head = k; member = None })
name_with (s ∷ ss) = if_single ss (dotted s.name)

-- the name of a list in parentheses that is a single name, as a function of the index of the opening parenthesis
abbrev pub sole_argument : Option (Box ListPhrase Global) → SoleName
sole_argument None k = None
sole_argument (Some l) k = l.value.name (k + 1)

-- the entries of selectors, the first of which begins at token k
abbrev pub selector_rows : ℕ → List SelectorPhrase → ℕ → List SelectorRow
selector_rows head [] k = []
selector_rows head (s ∷ ss) k = record { of = head; step = s.step k } ∷ selector_rows head ss (k + s.piece.width)

-- the entry of a designator that begins at this token; `is_written`: it is the left side of an assignment, or the variable of a FOR
abbrev pub designator_row : Bool → Context → ℕ → Rows
designator_row is_written c k = one_designator (record { head = k; block = c.block; is_written = is_written })

-- the entries of the selectors of the designator that begins at this token
abbrev pub its_selectors : List SelectorPhrase → Context → ℕ → Rows
its_selectors ss c k = these_selectors (selector_rows k ss (k + 1))

-- factor = integer | real | string | NIL | TRUE | FALSE | set | designator | "(" expression ")" | "~" factor
-- set = "{" [element {"," element}] "}"
abbrev pub factor_step : Factor-F Phrase SelectorPhrase DesignatorPhrase Fragment Fragment Phrase ListPhrase Phrase Phrase → Phrase
factor_step (layers.Value k n) = record { piece = token; name = no_name }
factor_step layers.Nil = record { piece = token; name = no_name }
factor_step layers.True = record { piece = token; name = no_name }
factor_step layers.False = record { piece = token; name = no_name }
factor_step (layers.Set elements) = record { piece = both token (both (if_present (λ l. l.value) elements) token); name = no_name }
factor_step (layers.Name d) = record { piece = d.piece false; name = d.name }
factor_step (layers.Group e) = record { piece = both token (both e.value.piece token); name = no_name }
factor_step (layers.Not f) = record { piece = both token f.value.piece; name = no_name }

-- selector = "." ident | "[" list "]" | "^" | "(" [list] ")"
abbrev pub selector_step : Selector-F Phrase SelectorPhrase DesignatorPhrase Fragment Fragment Phrase ListPhrase Phrase Phrase → SelectorPhrase
selector_step (layers.Field n) = record { name = Some n; step = λ k. steps.Field (k + 1); piece = both token token }
selector_step (layers.Index list) = record { name = None; step = λ k. steps.Elements list.value.count; piece = both token (both list.value.piece token) }
selector_step layers.Target = record { name = None; step = λ k. steps.Target; piece = token }
selector_step (layers.Arguments list) = record {
  name = None;
  step = λ k. steps.Arguments (sole_argument list k);
  piece = both token (both (if_present (λ l. l.value.piece) list) token);
}

-- designator = ident {selector}
abbrev pub designator_step : Designator-F Phrase SelectorPhrase DesignatorPhrase Fragment Fragment Phrase ListPhrase Phrase Phrase → DesignatorPhrase
designator_step d = record {
  piece = λ is_written. with_rows (designator_row is_written) (with_rows (its_selectors d.selectors.items)
      (both (used (first_name d.selectors.items)) (each (λ s. s.piece) d.selectors.items)));
  name = name_with d.selectors.items;
}

-- element = expression [".." expression]
abbrev pub element_step : Element-F Phrase SelectorPhrase DesignatorPhrase Fragment Fragment Phrase ListPhrase Phrase Phrase → Fragment
element_step e = both e.low.piece (if_present (λ h. both token h.piece) e.high)

-- element {"," element}
abbrev pub element_list_step : ElementList-F Phrase SelectorPhrase DesignatorPhrase Fragment Fragment Phrase ListPhrase Phrase Phrase → Fragment
element_list_step l = both l.first (each_after (λ e. e) l.rest.items)

-- expression = SimpleExpression [relation SimpleExpression]
abbrev pub expr_step : Expr-F Phrase SelectorPhrase DesignatorPhrase Fragment Fragment Phrase ListPhrase Phrase Phrase → Phrase
expr_step e = record { piece = both e.left.piece (if_present (λ c. both token c.1.value.piece) e.compared); name = if_absent e.compared e.left.name }

-- list = expression {"," expression}
abbrev pub expr_list_step : ExprList-F Phrase SelectorPhrase DesignatorPhrase Fragment Fragment Phrase ListPhrase Phrase Phrase → ListPhrase
expr_list_step l = record {
  piece = both l.first.piece (each_after (λ e. e.piece) l.rest.items);
  count = suc (length l.rest.items);
  name = if_single l.rest.items l.first.name;
}

-- SimpleExpression = ["+" | "-"] term {("+" | "-" | OR) term}
abbrev pub sum_step : SimpleExpression-F Phrase SelectorPhrase DesignatorPhrase Fragment Fragment Phrase ListPhrase Phrase Phrase → Phrase
sum_step s = record {
  piece = both (if_present (λ x. token) s.sign) (both s.first.piece (each (λ p. both token p.1.piece) s.rest.items));
  name = if_absent s.sign (if_single s.rest.items s.first.name);
}

-- term = factor {("*" | "/" | DIV | MOD | "&") factor}
abbrev pub term_step : Term-F Phrase SelectorPhrase DesignatorPhrase Fragment Fragment Phrase ListPhrase Phrase Phrase → Phrase
term_step t = record { piece = both t.first.piece (each (λ p. both token p.1.piece) t.rest.items); name = if_single t.rest.items t.first.name }

unfoldable pub factor_phrase : Factor → Phrase
factor_phrase = fold-Factor Phrase SelectorPhrase DesignatorPhrase Fragment Fragment Phrase ListPhrase Phrase Phrase factor_step selector_step designator_step element_step element_list_step expr_step expr_list_step sum_step term_step

unfoldable pub selected : Selector → SelectorPhrase
selected = fold-Selector Phrase SelectorPhrase DesignatorPhrase Fragment Fragment Phrase ListPhrase Phrase Phrase factor_step selector_step designator_step element_step element_list_step expr_step expr_list_step sum_step term_step

unfoldable pub designator_phrase : Designator → DesignatorPhrase
designator_phrase = fold-Designator Phrase SelectorPhrase DesignatorPhrase Fragment Fragment Phrase ListPhrase Phrase Phrase factor_step selector_step designator_step element_step element_list_step expr_step expr_list_step sum_step term_step

unfoldable pub element_rows : Element → Fragment
element_rows = fold-Element Phrase SelectorPhrase DesignatorPhrase Fragment Fragment Phrase ListPhrase Phrase Phrase factor_step selector_step designator_step element_step element_list_step expr_step expr_list_step sum_step term_step

unfoldable pub element_list_rows : ElementList → Fragment
element_list_rows = fold-ElementList Phrase SelectorPhrase DesignatorPhrase Fragment Fragment Phrase ListPhrase Phrase Phrase factor_step selector_step designator_step element_step element_list_step expr_step expr_list_step sum_step term_step

unfoldable pub expr_phrase : Expr → Phrase
expr_phrase = fold-Expr Phrase SelectorPhrase DesignatorPhrase Fragment Fragment Phrase ListPhrase Phrase Phrase factor_step selector_step designator_step element_step element_list_step expr_step expr_list_step sum_step term_step

unfoldable pub list_phrase : ExprList → ListPhrase
list_phrase = fold-ExprList Phrase SelectorPhrase DesignatorPhrase Fragment Fragment Phrase ListPhrase Phrase Phrase factor_step selector_step designator_step element_step element_list_step expr_step expr_list_step sum_step term_step

unfoldable pub sum_phrase : SimpleExpression → Phrase
sum_phrase = fold-SimpleExpression Phrase SelectorPhrase DesignatorPhrase Fragment Fragment Phrase ListPhrase Phrase Phrase factor_step selector_step designator_step element_step element_list_step expr_step expr_list_step sum_step term_step

unfoldable pub term_phrase : Term → Phrase
term_phrase = fold-Term Phrase SelectorPhrase DesignatorPhrase Fragment Fragment Phrase ListPhrase Phrase Phrase factor_step selector_step designator_step element_step element_list_step expr_step expr_list_step sum_step term_step

-- the entries of each construct

unfoldable pub factor_rows : Factor → Fragment
factor_rows x = (factor_phrase x).piece

unfoldable pub expr_rows : Expr → Fragment
expr_rows x = (expr_phrase x).piece

unfoldable pub expr_list_rows : ExprList → Fragment
expr_list_rows x = (list_phrase x).piece

unfoldable pub sum_rows : SimpleExpression → Fragment
sum_rows x = (sum_phrase x).piece

unfoldable pub term_rows : Term → Fragment
term_rows x = (term_phrase x).piece

unfoldable pub designator_rows : Bool → Designator → Fragment
designator_rows is_written d = (designator_phrase d).piece is_written

-- the name of a list in parentheses that is a single name, as a function of the index of the opening parenthesis
abbrev pub between : Option (Box ExprList Global) → SoleName
between None k = None
between (Some l) k = (list_phrase l.value).name (k + 1)
