use Rattle.ob_parse.proofs.FilesRead.{tokens_spell, with_tree}
use Rattle.ob_parse.proofs.reading.read_module.Goals as goal

pub tree_from_tokens-requires : goal.tree_from_tokens-requires
tree_from_tokens-requires c = rw c.deref.ensures (tokens_spell c.args.source.now c.args.parts c.requires)

pub returns-clause-read : goal.returns-clause-read
returns-clause-read c =
    let (file, accepted, are, same) = with_tree c.args.source.now c.args.parts c.in_ok-tree.tree.value c.requires (rw c.deref.ensures at c.in_ok-tree.ensures.tree) in
    (file, accepted, record { parts_are = are; tree_is = same })
