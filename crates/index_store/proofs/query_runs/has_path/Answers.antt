use Rattle.index_store.proofs.DirectLaws.{path_exactly}
use Rattle.index_store.proofs.query_runs.has_path.Goals as goal

pub returns : goal.returns
returns c = record {
  exact = λ index means. rw (c.has_document.ensures, c.as_bytes.ensures.value) (path_exactly c.args.bytes.now c.args.path.now index means);
}
