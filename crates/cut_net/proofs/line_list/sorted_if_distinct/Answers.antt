use Rattle.std.proofs.Common.{◌≡◌, ◌∙◌, length, map, ap, refl, subst, arith}
use Rattle.std.specs.String.{string_bytes}
use Rattle.std.proofs.lemmas.List.{length-map}
use Rattle.cut_net.specs.Lines.{IsAscending}
use Rattle.cut_net.specs.NetList.{AreNumbersOf}
use Rattle.cut_net.specs.NetReading.{import_line}
use Rattle.cut_net.specs.Network.{texts}
use Rattle.cut_net.proofs.Answered.{between_as}
use Rattle.cut_net.proofs.Listed.{few_ordered, listed_text}
use Rattle.cut_net.proofs.Networks.{few_moved_names}
use Rattle.cut_net.proofs.line_list.sorted_if_distinct.Goals as goal

pub numbers_of-requires-clause-few : goal.numbers_of-requires-clause-few
numbers_of-requires-clause-few c =
    let same = rw c.as_slice.ensures.keys at c.in_ok-names.ensures.same in
    rw c.deref.ensures.value (few_moved_names _ _ same c.requires.1.few_names)

pub renumbered_imports-requires : goal.renumbered_imports-requires
renumbered_imports-requires c =
    let long = length-map c.args.list.now.names.keys string_bytes in
    let size = c.in_ok-numbers.ensures.size in
    let keys = ap length c.as_slice-2.ensures.keys in
    let ok = c.in_ok-numbers.numbers.ok.0 in
    let e : length (texts c.args.list.now.names.keys) ≡ length c.in_ok-numbers.numbers.items = omega arith in
    rw (c.deref-2.ensures.value, c.deref-3.ensures.value) (between_as c.args.list.now.imports.items _ _ e c.requires.1.placed)

pub returns-then-is_ascending-clause-text : goal.returns-then-is_ascending-clause-text
returns-then-is_ascending-clause-text c bytes (lines, spelled, h) =
    let old = texts c.args.list.now.names.keys in
    let names = texts c.in_ok-names.names.items in
    let same = rw c.as_slice.ensures.keys at c.in_ok-names.ensures.same in
    let are : AreNumbersOf old names c.deref-2.result.now = rw c.deref-2.ensures.value (rw (c.deref.ensures.value, c.as_slice-2.ensures.keys) at c.in_ok-numbers.ensures.numbers) in
    let between = c.in_ok-imports.ensures.between old names are in
    let renumbered_import : map (import_line names) c.in_ok-imports.imports.items ≡ map (import_line old) c.args.list.now.imports.items =
    c.in_ok-imports.ensures.lines old names are ∙ ap (map (import_line old)) c.deref-3.ensures.value in
    let up = subst IsAscending c.deref-4.ensures.value (c.if-is_ascending.ensures refl) in
    listed_text lines old names c.args.list.now.imports.items c.in_ok-imports.imports.items c.sort_imports.new.imports.items h same renumbered_import between c.sort_imports.ensures.same up bytes c.in_ok-names.ensures.ascending spelled

pub returns-then-is_ascending-clause-few_names : goal.returns-then-is_ascending-clause-few_names
returns-then-is_ascending-clause-few_names c =
    let same = rw c.as_slice.ensures.keys at c.in_ok-names.ensures.same in
    few_moved_names _ _ same c.requires.1.few_names

pub returns-then-is_ascending-clause-few_imports : goal.returns-then-is_ascending-clause-few_imports
returns-then-is_ascending-clause-few_imports c =
    let (lines, h) = c.requires in
    let old = texts c.args.list.now.names.keys in
    let names = texts c.in_ok-names.names.items in
    let same = rw c.as_slice.ensures.keys at c.in_ok-names.ensures.same in
    let are : AreNumbersOf old names c.deref-2.result.now = rw c.deref-2.ensures.value (rw (c.deref.ensures.value, c.as_slice-2.ensures.keys) at c.in_ok-numbers.ensures.numbers) in
    let between = c.in_ok-imports.ensures.between old names are in
    let renumbered_import : map (import_line names) c.in_ok-imports.imports.items ≡ map (import_line old) c.args.list.now.imports.items =
    c.in_ok-imports.ensures.lines old names are ∙ ap (map (import_line old)) c.deref-3.ensures.value in
    let up = subst IsAscending c.deref-4.ensures.value (c.if-is_ascending.ensures refl) in
    few_ordered lines old names c.args.list.now.imports.items c.in_ok-imports.imports.items c.sort_imports.new.imports.items h same renumbered_import between c.sort_imports.ensures.same up
