-- A token that denotes a name of an external module is an identifier. Each iteration adds a symbol string.
use Rattle.ob_emit.proofs.Rows.{external_named}
use Rattle.ob_emit.proofs.target_texts.Texts.new.Goals as goal

pub intern-requires-clause-external : goal.intern-requires-clause-external
intern-requires-clause-external c = external_named c.args.view.now c.args.refs.now c.requires.of_names c.loop-reference.reference-index _ c.loop-reference-test.true
