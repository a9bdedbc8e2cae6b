use Rattle.std.proofs.Common.{◌++◌, [], append_assoc, filter, refl, codes}
use Rattle.std.specs.List.{flat_map}
use Rattle.std.specs.String.{string_bytes}
use Rattle.std.proofs.KnownBytes.{Appends-nil}
use Rattle.std.proofs.lemmas.Result.{err_from_is_err_and}
use Rattle.byte_sink.proofs.Joining.{front_joined, front_more, joined, puts_then, some_front}
use Rattle.cut_part.specs.Subnetworks.{are_ends_in}
use Rattle.residual_graph.specs.Graphs.{is_flagged}
use Rattle.cut_dot.specs.Pictures.{drawn_modules}
use Rattle.cut_dot.specs.Texts.{head_text, line_of_import, line_of_module}
use Rattle.cut_dot.proofs.text.write_picture.Goals as goal

pub returns-in_err-write_modules-clause-writes : goal.returns-in_err-write_modules-clause-writes
returns-in_err-write_modules-clause-writes g c =
    let p = err_from_is_err_and c.from_residual.result c.from_residual.ensures.1 in
    let net = c.args.net.now in
    let cut = c.args.cut.now in
    let modules = flat_map (line_of_module net c.args.ends.0 c.args.ends.1 (is_flagged c.args.reached.now)) (drawn_modules net c.args.ends.0 c.args.ends.1 (is_flagged c.args.marks.now)) in
    let imports = flat_map (line_of_import net cut.imports.items cut.flow.items) (filter (are_ends_in (is_flagged c.args.marks.now)) c.args.imports.now) in
    rw p.1 (front_more _ _ (head_text) modules (imports ++ codes "}\n") ((modules ++ imports) ++ codes "}\n") (append_assoc modules imports (codes "}\n"))
    (rw (c.in-Ok.ensures.ok, c.head_text.ensures) at c.in_err-write_modules.ensures.error_prefix))

pub returns-in_err-write_imports-clause-writes : goal.returns-in_err-write_imports-clause-writes
returns-in_err-write_imports-clause-writes g c =
    let p = err_from_is_err_and c.from_residual-in_err-write_imports.result c.from_residual-in_err-write_imports.ensures.1 in
    let net = c.args.net.now in
    let cut = c.args.cut.now in
    let modules = flat_map (line_of_module net c.args.ends.0 c.args.ends.1 (is_flagged c.args.reached.now)) (drawn_modules net c.args.ends.0 c.args.ends.1 (is_flagged c.args.marks.now)) in
    let imports = flat_map (line_of_import net cut.imports.items cut.flow.items) (filter (are_ends_in (is_flagged c.args.marks.now)) c.args.imports.now) in
    rw p.1 (front_joined _ _ _ (head_text) modules imports (string_bytes c.write_modules.new.text) (codes "}\n") ((modules ++ imports) ++ codes "}\n") refl
    (rw (c.in-Ok.ensures.ok, c.head_text.ensures) at c.in_ok-write_modules.ensures.gathered) (rw (c.as_slice-removed.ensures.value, c.as_slice-flow.ensures.value) at c.in_err-write_imports.ensures.error_prefix))

pub returns-in_default-push_str-clause-writes : goal.returns-in_default-push_str-clause-writes
returns-in_default-push_str-clause-writes g c =
    let net = c.args.net.now in
    let cut = c.args.cut.now in
    let head = head_text in
    let modules = flat_map (line_of_module net c.args.ends.0 c.args.ends.1 (is_flagged c.args.reached.now)) (drawn_modules net c.args.ends.0 c.args.ends.1 (is_flagged c.args.marks.now)) in
    let imports = flat_map (line_of_import net cut.imports.items cut.flow.items) (filter (are_ends_in (is_flagged c.args.marks.now)) c.args.imports.now) in
    let both = joined _ _ _ head modules imports (string_bytes c.write_modules.new.text) (string_bytes c.write_imports.new.text) (modules ++ imports) refl
    (rw (c.in-Ok.ensures.ok, c.head_text.ensures) at c.in_ok-write_modules.ensures.gathered) (rw (c.as_slice-removed.ensures.value, c.as_slice-flow.ensures.value) at c.in_ok-write_imports.ensures.gathered) in
    some_front _ _ head (modules ++ imports) (string_bytes c.write_imports.new.text) (codes "}\n") ((modules ++ imports) ++ codes "}\n") refl both

pub returns-clause-writes : goal.returns-clause-writes
returns-clause-writes g c =
    let net = c.args.net.now in
    let cut = c.args.cut.now in
    let head = head_text in
    let modules = flat_map (line_of_module net c.args.ends.0 c.args.ends.1 (is_flagged c.args.reached.now)) (drawn_modules net c.args.ends.0 c.args.ends.1 (is_flagged c.args.marks.now)) in
    let imports = flat_map (line_of_import net cut.imports.items cut.flow.items) (filter (are_ends_in (is_flagged c.args.marks.now)) c.args.imports.now) in
    let text = string_bytes c.write_imports.new.text in
    let both = joined _ _ _ head modules imports (string_bytes c.write_modules.new.text) text (modules ++ imports) refl (rw (c.in-Ok.ensures.ok, c.head_text.ensures) at c.in_ok-write_modules.ensures.gathered)
    (rw (c.as_slice-removed.ensures.value, c.as_slice-flow.ensures.value) at c.in_ok-write_imports.ensures.gathered) in
    let all = joined _ _ _ head (modules ++ imports) (codes "}\n") text (text ++ codes "}\n") ((modules ++ imports) ++ codes "}\n") refl both ([], refl, Appends-nil (g.S.Sink.taken c.write_imports.new.sink)) in
    puts_then _ _ _ (head ++ ((modules ++ imports) ++ codes "}\n")) (text ++ codes "}\n") c.write_fully.result all (rw (c.as_bytes.ensures.value, c.in-Ok-push_str.ensures.bytes) at c.write_fully.ensures.writes)
