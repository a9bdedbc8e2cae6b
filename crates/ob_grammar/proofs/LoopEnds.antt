-- The error of a part, or of an iteration, is the error of the whole.
use Rattle.std.proofs.Common.{◌≡◌, List, Some, Ok, Err, refl, sym, ◌∙◌}
use Rattle.std.specs.Prelude.{IsErrAnd, Result}
use Rattle.ob_scan.specs.declared.token.Token.{Token}
use Rattle.ob_tree.specs.declared.token.Leaf.{Leaf}
use Rattle.ob_tree.specs.TreeEvents.{Events}
use Rattle.ob_grammar.specs.declared.stop.Stop.{Stop}
use Rattle.ob_grammar.specs.declared.stop.Stop.TheVariants as stops
use Rattle.ob_grammar.specs.Combinators.{Read, Reader, ReadError, Start, many}
use Rattle.ob_grammar.specs.ParsesAs.{ParsesAs, Fails}
use Rattle.ob_grammar.proofs.Loops.{Advances, with_front, many_step}

-- if an iteration fails, the loop fails with its error
pub ends : (start : Start) (r : Reader) → Advances start r → (ts : List Token) (x : Stop) (head_is : Events) (ls : List Leaf) (s : Events × List Leaf) (total : Read) → start ls ≡ Some s → Fails ts x (r s.1)
    → with_front head_is (many start r ls) ≡ total → Fails ts x total
ends start r adv ts stops.Memory head_is ls s total e f h = tt
ends start r adv ts (stops.Unexpected i) head_is ls s total e f h = sym h ∙ rw (many_step start r adv ls, e, f) refl
ends start r adv ts (stops.TooDeep i) head_is ls s total e f h = sym h ∙ rw (many_step start r adv ls, e, f) refl

-- the error of a part is the error of the whole
pub stopped : {Y Z : Type 0} (ts : List Token) (view : Y → Z) (answer : Result Y Stop) (stop : Stop) (read : Result Z ReadError) → IsErrAnd answer (λ e. e ≡ stop) → Fails ts stop read → ParsesAs ts view answer read
stopped ts view (Ok x) stop read is fails = absurd is
stopped ts view (Err e) stop read is fails = rw is fails
