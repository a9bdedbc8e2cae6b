-- Only the symbol strings of targets outside of the module change.
use Rattle.std.proofs.Common.{sym, subst}
use Rattle.std.proofs.lemmas.Result.{on_ok_weaker}
use Rattle.ob_emit.specs.StoredTexts.{AreForeignTexts}
use Rattle.ob_emit.proofs.target_texts.Texts.intern.Goals as goal

pub returns-in_default : goal.returns-in_default
returns-in_default c = λ p made.
    let foreign : AreForeignTexts c.args.view.now p c.deref_mut.result.now = subst (AreForeignTexts c.args.view.now p) (sym c.deref_mut.ensures.value) made.foreign in
    on_ok_weaker c.intern.result (λ more. record { prefixes = made.prefixes; own = made.own; declared = made.declared; locations = made.locations; foreign = more })
    (c.intern.ensures p made.prefixes foreign)
