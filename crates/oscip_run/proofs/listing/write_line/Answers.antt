use Rattle.std.proofs.lemmas.Result.{err_from_is_err_and}
use Rattle.byte_sink.proofs.Joining.{no_front}
use Rattle.oscip_run.proofs.listing.write_line.Goals as goal

pub returns-in_err-map_err-clause-error_prefix : goal.returns-in_err-map_err-clause-error_prefix
returns-in_err-map_err-clause-error_prefix g c = let p = err_from_is_err_and c.from_residual.result c.from_residual.ensures.1 in rw p.1 (no_front _ _)
