use Rattle.std.proofs.Common.{◌∷◌, map, sym, ap, ◌∙◌, arith, codes}
use Rattle.std.specs.String.{string_bytes}
use Rattle.std.proofs.lemmas.List.{append-nil, length-map}
use Rattle.texts.specs.Fields.{ended, line_of}
use Rattle.cut_net.specs.Network.{name_of}
use Rattle.byte_sink.proofs.Joining.{broken_as, gathered_as}
use Rattle.cut_report.proofs.Words.{chain_line}
use Rattle.cut_report.proofs.writer.write_pin_chain.Goals as goal

pub returns-clause-gathered : goal.returns-clause-gathered
returns-clause-gathered g c =
    let names = map (name_of c.args.net.now) c.args.chain.now in
    let long = length-map c.args.chain.now (name_of c.args.net.now) in
    let some = c.requires.0 in
    let line = chain_line names c.as_str.result.now (omega arith) (c.as_str.ensures.value ∙ c.in-Ok.ensures) in
    gathered_as _ _ (string_bytes c.args.text.now) _ _ _ c.write_line.result (ap ended line ∙ sym (append-nil (ended (line_of (codes "blocked" ∷ names))))) c.write_line.ensures.gathered

pub returns-clause-error_prefix : goal.returns-clause-error_prefix
returns-clause-error_prefix g c =
    let names = map (name_of c.args.net.now) c.args.chain.now in
    let long = length-map c.args.chain.now (name_of c.args.net.now) in
    let some = c.requires.0 in
    let line = chain_line names c.as_str.result.now (omega arith) (c.as_str.ensures.value ∙ c.in-Ok.ensures) in
    broken_as _ _ (string_bytes c.args.text.now) _ _ c.write_line.result (ap ended line ∙ sym (append-nil (ended (line_of (codes "blocked" ∷ names))))) c.write_line.ensures.error_prefix
