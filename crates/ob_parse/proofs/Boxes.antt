-- A parsed value in a box.
use Rattle.std.proofs.Common.{◌≡◌, List, Ok, Err}
use Rattle.std.specs.Global.{Box}
use Rattle.std.specs.Prelude.{IfErr, IfOk, Result}
use Rattle.ob_scan.specs.declared.token.Token.{Token}
use Rattle.ob_tree.specs.TreeEvents.{Events}
use Rattle.ob_grammar.specs.declared.cursor.Cursor.{Cursor}
use Rattle.ob_grammar.specs.declared.stop.Stop.{Stop}
use Rattle.ob_grammar.specs.declared.stop.Stop.TheVariants as stops
use Rattle.ob_grammar.specs.Combinators.{Read}
use Rattle.ob_grammar.specs.ParsesAs.{ParsesAs, remaining}

-- the box has the value, or an allocation failed
pub gives_boxed : {T : Type 0} (ts : List Token) (view : T → Events) (of : T) (rest : Cursor) (r : Result (Box T × Cursor) Stop) (read : Read)
    → IfOk r (λ b. (b.0.value ≡ of) × (b.1 ≡ rest)) → IfErr r (λ stop. stop ≡ stops.Memory) → read ≡ Ok (view of, remaining ts rest) → ParsesAs ts (λ b. (view b.0.value, remaining ts b.1)) r read
gives_boxed ts view of rest (Ok b) read is refused e = rw (is.0, is.1) e
gives_boxed ts view of rest (Err stop) read is refused e = rw refused tt
