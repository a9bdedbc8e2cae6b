-- The table has the name of each import.
use Rattle.std.proofs.Common.{arith, List, [], inr, refl, sym, subst}
use Rattle.std.specs.Prelude.{Contains}
use Rattle.std.specs.String.{string_bytes}
use Rattle.ob_imports.specs.Files.{file_of}
use Rattle.digraph.proofs.Members.{first_member, in_map}
use Rattle.std.proofs.lemmas.Grind.{common_steps}
use Rattle.ob_imports.proofs.edges.append_edges.Goals as goal

pub name_index-to-requires-clause-known : goal.name_index-to-requires-clause-known
name_index-to-requires-clause-known c =
    let file = file_of c.args.file.now in
    let item = c.import-item.result in
    let among : Contains c.args.file.now.imports.items item = subst (λ (xs : List _). Contains xs item) c.deref-import-items.ensures.value (c.loop-import.import-index, c.loop-import-test.true, sym c.import-item.is) in
    rw c.as_str-in-loop-import.ensures.value (c.requires.known (string_bytes item) (inr (file.name, (file, first_member file [] file refl, refl, in_map string_bytes c.args.file.now.imports.items item among))))

pub loop-import-preserved : goal.loop-import-preserved
loop-import-preserved c = grind (arith, common_steps)

pub returns : goal.returns
returns c = grind (arith, common_steps)
