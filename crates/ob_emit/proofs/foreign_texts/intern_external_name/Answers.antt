-- One more symbol string, or no change.
use Rattle.ob_emit.proofs.KeptTexts.{names_more}
use Rattle.ob_emit.proofs.foreign_texts.intern_external_name.Goals as goal

pub returns : goal.returns
returns c = λ prefix before.
    names_more c.args.view.now c.args.texts.now c.insert.new.self c.args.key c.in_ok-text.text before c.in_ok-insert.ensures.updates.0 (c.in_ok-text.ensures prefix)
