use Rattle.std.proofs.Common.{◌≡◌, Some, refl, sym, ◌∙◌}
use Rattle.ob_imports.specs.Names.{texts}
use Rattle.ob_imports.specs.Numbering.{index_or_len}
use Rattle.ob_imports.proofs.Places.{place_found, position_texts}
use Rattle.ob_imports.proofs.names.name_index.Goals as goal

pub unwrap-requires : goal.unwrap-requires
unwrap-requires c =
    let is : c.get_index_of.result ≡ Some (index_or_len (texts c.args.table.now.keys) c.args.name.now) =
    c.get_index_of.ensures.index ∙ position_texts c.args.name.now c.args.table.now.keys ∙ place_found (texts c.args.table.now.keys) c.args.name.now c.requires.known in
    rw is refl

pub returns : goal.returns
returns c =
    let is : c.get_index_of.result ≡ Some (index_or_len (texts c.args.table.now.keys) c.args.name.now) =
    c.get_index_of.ensures.index ∙ position_texts c.args.name.now c.args.table.now.keys ∙ place_found (texts c.args.table.now.keys) c.args.name.now c.requires.known in
    let both : Some c.unwrap.result ≡ Some (index_or_len (texts c.args.table.now.keys) c.args.name.now) = sym c.unwrap.ensures ∙ is in
    cc
