use Rattle.std.proofs.Common.{◌≡◌, ◌∙◌, rules, ◌+◌, ◌*◌, ◌/◌, ◌%◌, ◌≤◌, min, ℕ, List, get_or, length, subst, sym}
use Rattle.std.specs.Prelude.{vec_len}
use Rattle.std.proofs.lemmas.Grind.{div_ceil_times}
use Rattle.source_tree.specs.FileFaults.{ReadsVerdicts}
use Rattle.source_tree.specs.declared.source.Source.{Source}
use Rattle.source_tree.proofs.ReadFiles.{chunks_are_pieces}
use Rattle.source_tree.proofs.file_faults.read_verdicts_in_chunks.Goals as goal

pub returns : goal.returns
returns g c =
    let sources = c.args.sources.now in
    let size = c.args.size in
    let answers = c.in_ok-answers.answers.items in
    let enough = (div_ceil_times (length sources) size c.requires).0 in
    let same : length answers ≡ vec_len c.in_ok-answers.answers = search rules in
    let many : length answers ≡ length sources / size + min 1 (length sources % size) = same ∙ c.in_ok-answers.ensures.len in
    chunks_are_pieces ReadsVerdicts size answers sources (subst (λ (n : ℕ). length sources ≤ n * size) (sym many) enough) (λ n d l.
    let k = (c.in_ok-answers.ensures.each n d l).1 in
    subst (λ (xs : List Source). ReadsVerdicts xs (get_or answers n d)) k.argument_is.value k.call)
