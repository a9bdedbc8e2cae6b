use Rattle.std.proofs.Common.{◌++◌, [], ℕ, Some, map, refl, append_assoc}
use Rattle.std.specs.Global.{Vec}
use Rattle.std.specs.List.{flat_map}
use Rattle.std.proofs.KnownBytes.{Appends-nil, Appends-trans}
use Rattle.std.proofs.lemmas.Result.{err_from_is_err_and}
use Rattle.scip_index.specs.Plain.{metadata_model, symbol_model}
use Rattle.scip_index.specs.Written.{externals_part, metadata_part}
use Rattle.index_run.proofs.InRow.{front_then, puts_then}
use Rattle.index_run.proofs.records.write_encoded_index.Goals as goal

pub returns-in_err-write_metadata-clause-writes : goal.returns-in_err-write_metadata-clause-writes
returns-in_err-write_metadata-clause-writes g c =
    let p = err_from_is_err_and c.from_residual.result c.from_residual.ensures.1 in
    let head = metadata_part (Some (metadata_model c.args.metadata.now)) in
    let documents = flat_map (λ (row : Vec ℕ). row.items) c.args.records.items in
    let externals = externals_part (map symbol_model c.args.external_symbols.now) in
    rw p.1 (front_then (g.S.Sink.taken c.args.sink.now) (g.S.Sink.taken c.args.sink.now) (g.S.Sink.taken c.write_metadata.new.sink) (head ++ documents ++ externals) [] head (documents ++ externals)
    (append_assoc head documents externals) (Appends-nil (g.S.Sink.taken c.args.sink.now)) c.in_err-write_metadata.ensures.writes)

pub returns-in_err-write_records-clause-writes : goal.returns-in_err-write_records-clause-writes
returns-in_err-write_records-clause-writes g c =
    let p = err_from_is_err_and c.from_residual-in_err-write_records.result c.from_residual-in_err-write_records.ensures.1 in
    let head = metadata_part (Some (metadata_model c.args.metadata.now)) in
    let documents = flat_map (λ (row : Vec ℕ). row.items) c.args.records.items in
    let externals = externals_part (map symbol_model c.args.external_symbols.now) in
    rw p.1 (front_then (g.S.Sink.taken c.args.sink.now) (g.S.Sink.taken c.write_metadata.new.sink) (g.S.Sink.taken c.write_records.new.sink) (head ++ documents ++ externals) head documents externals
    (append_assoc head documents externals) c.in_ok-write_metadata.ensures.writes c.in_err-write_records.ensures.writes)

pub returns-clause-writes : goal.returns-clause-writes
returns-clause-writes g c =
    let head = metadata_part (Some (metadata_model c.args.metadata.now)) in
    let documents = flat_map (λ (row : Vec ℕ). row.items) c.args.records.items in
    let externals = externals_part (map symbol_model c.args.external_symbols.now) in
    puts_then (g.S.Sink.taken c.args.sink.now) (g.S.Sink.taken c.write_records.new.sink) (g.S.Sink.taken c.write_externals.new.sink) (head ++ documents ++ externals) (head ++ documents) externals c.write_externals.result
    refl
    (Appends-trans (g.S.Sink.taken c.args.sink.now) (g.S.Sink.taken c.write_metadata.new.sink) (g.S.Sink.taken c.write_records.new.sink) head documents c.in_ok-write_metadata.ensures.writes c.in_ok-write_records.ensures.writes)
    c.write_externals.ensures.writes
