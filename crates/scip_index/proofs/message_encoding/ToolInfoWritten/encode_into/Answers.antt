use Rattle.std.proofs.lemmas.Str.{IsUtf8-string_bytes}
use Rattle.scip_index.proofs.WritingSteps.{ok-then, texts_utf8}
use Rattle.scip_index.proofs.message_encoding.ToolInfoWritten.encode_into.Goals as goal

pub returns-clause-fits : goal.returns-clause-fits
returns-clause-fits c =
    let t = c.args.self.now in
    ok-then c.append_texts.result c.append_texts.ensures
    (λ e. record { name = IsUtf8-string_bytes t.name; version = IsUtf8-string_bytes t.version; arguments = texts_utf8 t.arguments.items })
