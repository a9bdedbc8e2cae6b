-- When a tree derives a list of tokens, and what a tree contains (Oberon-07 report, appendix).
use Rattle.std.specs.Prelude.{◌≡◌, ◌+◌, ℕ, List, [], ◌∷◌}
use Rattle.ob_scan.specs.declared.kind.Kind.{Kind}
use Rattle.ob_tree.specs.declared.declaration.Module.{Module}
use Rattle.ob_tree.specs.declared.role.Role.TheVariants.{Declares, Aliases, Imports, Uses, Completes, Selects, Names, Repeats}
use Rattle.ob_tree.specs.declared.token.Leaf.{Leaf}
use Rattle.ob_tree.specs.Declaring.{module_events}
use Rattle.ob_tree.specs.Leaves.{leaves_from}
use Rattle.ob_tree.specs.TreeEvents.{Events, Begins, Ends, Identifier, Value, Word, tokens_of, height}

-- the tokens of a module's tree, in order
abbrev pub spelling : Module → List Leaf
spelling m = tokens_of (module_events m)

-- the tree derives tokens of these kinds: its leaves have these kinds in order, and each identifier and literal has its token's number
abbrev pub Derives : List Kind → Module → Type 0
Derives kinds m = leaves_from 0 kinds ≡ spelling m

-- the depth of a tree: the longest chain of nested procedure declarations, types, statements that are not empty, expressions and factors
-- after ~
abbrev pub depth : Module → ℕ
depth m = height (module_events m)

-- the token numbers of an event sequence whose first token has this number: identifiers and literals carry theirs, a word has its index
abbrev pub numbers_from : ℕ → Events → List ℕ
numbers_from at [] = []
numbers_from at (Begins c n ∷ ms) = numbers_from at ms
numbers_from at (Ends c ∷ ms) = numbers_from at ms
numbers_from at (Identifier r n ∷ ms) = n ∷ numbers_from (at + 1) ms
numbers_from at (Value k n ∷ ms) = n ∷ numbers_from (at + 1) ms
numbers_from at (Word k ∷ ms) = at ∷ numbers_from (at + 1) ms

-- the numbers of all tokens of a tree, in order
abbrev pub yields : Module → List ℕ
yields m = numbers_from 0 (module_events m)

-- the token numbers of the identifiers that an event sequence declares, in order
abbrev pub declared_in : Events → List ℕ
declared_in [] = []
declared_in (Identifier (Declares is_exported) n ∷ ms) = n ∷ declared_in ms
declared_in (Identifier Aliases n ∷ ms) = n ∷ declared_in ms
declared_in (Identifier Imports n ∷ ms) = declared_in ms
declared_in (Identifier Uses n ∷ ms) = declared_in ms
declared_in (Identifier Completes n ∷ ms) = declared_in ms
declared_in (Identifier Selects n ∷ ms) = declared_in ms
declared_in (Identifier Names n ∷ ms) = declared_in ms
declared_in (Identifier (Repeats name) n ∷ ms) = declared_in ms
declared_in (Begins c n ∷ ms) = declared_in ms
declared_in (Ends c ∷ ms) = declared_in ms
declared_in (Value k n ∷ ms) = declared_in ms
declared_in (Word k ∷ ms) = declared_in ms

-- the token numbers of the identifiers that the scope rule looks up, in order
abbrev pub used_in : Events → List ℕ
used_in [] = []
used_in (Identifier Uses n ∷ ms) = n ∷ used_in ms
used_in (Identifier (Declares is_exported) n ∷ ms) = used_in ms
used_in (Identifier Aliases n ∷ ms) = used_in ms
used_in (Identifier Imports n ∷ ms) = used_in ms
used_in (Identifier Completes n ∷ ms) = used_in ms
used_in (Identifier Selects n ∷ ms) = used_in ms
used_in (Identifier Names n ∷ ms) = used_in ms
used_in (Identifier (Repeats name) n ∷ ms) = used_in ms
used_in (Begins c n ∷ ms) = used_in ms
used_in (Ends c ∷ ms) = used_in ms
used_in (Value k n ∷ ms) = used_in ms
used_in (Word k ∷ ms) = used_in ms

-- the names after END in order, as pairs: the identifier whose name must be repeated, and the name after END
abbrev pub end_names_in : Events → List (ℕ × ℕ)
end_names_in [] = []
end_names_in (Identifier (Repeats name) n ∷ ms) = (name, n) ∷ end_names_in ms
end_names_in (Identifier (Declares is_exported) n ∷ ms) = end_names_in ms
end_names_in (Identifier Aliases n ∷ ms) = end_names_in ms
end_names_in (Identifier Imports n ∷ ms) = end_names_in ms
end_names_in (Identifier Uses n ∷ ms) = end_names_in ms
end_names_in (Identifier Completes n ∷ ms) = end_names_in ms
end_names_in (Identifier Selects n ∷ ms) = end_names_in ms
end_names_in (Identifier Names n ∷ ms) = end_names_in ms
end_names_in (Begins c n ∷ ms) = end_names_in ms
end_names_in (Ends c ∷ ms) = end_names_in ms
end_names_in (Value k n ∷ ms) = end_names_in ms
end_names_in (Word k ∷ ms) = end_names_in ms
