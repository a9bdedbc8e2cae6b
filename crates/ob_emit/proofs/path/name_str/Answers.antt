-- A name is valid UTF-8.
use Rattle.ob_emit.proofs.Naming.{name_is_text}
use Rattle.ob_emit.proofs.path.name_str.Goals as goal

pub returns-in-Err : goal.returns-in-Err
returns-in-Err c = absurd (c.in-Err.ensures.cases.0 (name_is_text c.args.bytes.now c.requires))
