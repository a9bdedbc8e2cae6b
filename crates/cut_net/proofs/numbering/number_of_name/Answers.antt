use Rattle.std.proofs.Common.{◌≡◌, refl, sym, ◌∙◌}
use Rattle.digraph.proofs.Ordered.{sorted_strings}
use Rattle.texts.proofs.FieldCuts.{some_is}
use Rattle.cut_net.proofs.Networks.{place_known}
use Rattle.cut_net.proofs.numbering.number_of_name.Goals as goal

pub name_index-requires : goal.name_index-requires
name_index-requires c = sorted_strings c.args.names.now c.requires.ascending

pub unwrap-requires : goal.unwrap-requires
unwrap-requires c =
    let (i, is, here) = place_known c.args.names.now c.args.name.now c.name_index.result c.requires.ascending c.name_index.ensures c.requires.known in
    rw is refl

pub returns-clause-place : goal.returns-clause-place
returns-clause-place c =
    let (i, is, here) = place_known c.args.names.now c.args.name.now c.name_index.result c.requires.ascending c.name_index.ensures c.requires.known in
    let same : c.unwrap.result ≡ i = some_is _ _ (sym c.unwrap.ensures ∙ is) in
    rw same here
