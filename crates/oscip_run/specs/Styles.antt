-- The style in which a job writes locations.
use Rattle.std.specs.Prelude.{[], if◌then◌else◌}
use Rattle.std.specs.String.{string_bytes}
use Rattle.oscip_job.specs.declared.job.Job.{Job}
use Rattle.oscip_job.specs.declared.job.Job.TheVariants.{Tree, Network, Ask, Index, Unresolved}
use Rattle.oscip_job.specs.declared.job.SourceTree.{SourceTree}
use Rattle.texts.specs.Places.{Style, editor_style, plain_style}

-- the style of locations in the files of a tree: for editors with its folder, or plain
abbrev pub style_of_tree : SourceTree → Style
style_of_tree tree = if tree.for_editor then editor_style (string_bytes tree.folder) else plain_style

-- the style of a job's locations: that of its tree, that of editors without a folder if it queries an index for an editor, otherwise plain
abbrev pub style_of_job : Job → Style
style_of_job (Tree tree question) = style_of_tree tree
style_of_job (Network network question) = plain_style
style_of_job (Ask index question for_editor) = if for_editor then editor_style [] else plain_style
style_of_job (Index indexing) = style_of_tree indexing.tree
style_of_job (Unresolved tree) = style_of_tree tree
