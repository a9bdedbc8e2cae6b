use Rattle.std.proofs.Common.{◌∙◌, ap, rules}
use Rattle.std.proofs.lemmas.List.Sorted.{IsPartitionPoint-from_clause}
use Rattle.cut_rules.specs.Folders.{path_is_before, path_is_before_or_below}
use Rattle.cut_rules.specs.Rules.{without_dot}
use Rattle.cut_rules.proofs.FolderLaws.{before_first, not_behind_first, places_are}
use Rattle.cut_rules.proofs.folders.folder_range.Goals as goal

pub returns-clause-elements : goal.returns-clause-elements
returns-clause-elements c =
    let files = c.args.files.now in
    let text = c.without_dot-prefix.result.now in
    let is_text = c.without_dot-prefix.ensures ∙ ap without_dot (c.as_slice.ensures.value ∙ c.in_ok-with_slash.ensures) in
    places_are files c.args.path.now text is_text c.partition_point-from.result c.partition_point-to.result
    (IsPartitionPoint-from_clause (path_is_before text) files _ c.partition_point-from.ensures.partitioned (before_first files c.requires text) (λ a r q h. search rules))
    (IsPartitionPoint-from_clause (path_is_before_or_below text) files _ c.partition_point-to.ensures.partitioned (not_behind_first files c.requires text) (λ a r q h. search rules))
