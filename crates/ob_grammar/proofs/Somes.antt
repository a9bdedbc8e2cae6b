-- An optional part, once its prefix is found.
use Rattle.std.proofs.Common.{◌≡◌, ◌++◌, List, [], Ok, Err, Some, false, refl}
use Rattle.std.specs.Prelude.{Option, Result}
use Rattle.ob_scan.specs.declared.kind.Kind.{Kind}
use Rattle.ob_scan.specs.declared.token.Token.{Token}
use Rattle.ob_tree.specs.declared.token.Leaf.{Leaf}
use Rattle.ob_tree.specs.TreeEvents.{Events, if_present}
use Rattle.ob_grammar.specs.declared.cursor.Cursor.{Cursor}
use Rattle.ob_grammar.specs.declared.stop.Stop.{Stop}
use Rattle.ob_grammar.specs.declared.stop.Stop.TheVariants as stops
use Rattle.ob_grammar.specs.Combinators.{Reader, Start, optional, unless}
use Rattle.ob_grammar.specs.Lookahead.{head_is, is_word, uncons}
use Rattle.ob_grammar.specs.ParsesAs.{ParsesAs, remaining, some_of}

-- the part is read after its prefix
pub gives_some : {X : Type 0} (ts : List Token) (read : Result (X × Cursor) Stop) (view : X → Events) (result : Result (Option X × Cursor) Stop) (start : Start) (r : Reader) (ls : List Leaf) (s : Events × List Leaf)
    → result ≡ some_of read → start ls ≡ Some s → ParsesAs ts (λ x. (view x.0, remaining ts x.1)) read (r s.1) → ParsesAs ts (λ x. (if_present (λ y. s.0 ++ view y) x.0, remaining ts x.1)) result (optional start r ls)
gives_some ts (Ok x) view result start r ls s is found gives = rw (is, found, gives) refl
gives_some ts (Err stops.Memory) view result start r ls s is found gives = rw is tt
gives_some ts (Err (stops.Unexpected i)) view result start r ls s is found gives = rw (is, found, gives) refl
gives_some ts (Err (stops.TooDeep i)) view result start r ls s is found gives = rw (is, found, gives) refl

-- the next token is of another kind
pub not_closed : (k : Kind) (ls : List Leaf) → head_is (is_word k) (uncons ls) ≡ false → unless k ls ≡ Some ([], ls)
unfolding unless
not_closed k ls e = rw e refl
