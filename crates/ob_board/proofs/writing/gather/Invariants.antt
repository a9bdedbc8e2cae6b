use Rattle.std.proofs.Common.{◌≡◌, ◌++◌, ℕ, map}
use Rattle.std.specs.Global.{Vec}
use Rattle.std.specs.List.{flat_map}
use Rattle.scip_index.specs.Plain.{symbol_model}
use Rattle.ob_board.proofs.writing.gather.Given as goal

abbrev pub invariant-loop-encoded : goal.invariant-loop-encoded
invariant-loop-encoded g l = record {
  records : map (λ (row : Vec ℕ). row.items) l.records.items ++ map (λ r. r.bytes) l.encoded-iterator.rest.items ≡ map (λ r. r.bytes) l.fn.all.items;
  rows : map symbol_model l.rows.items ++ flat_map (λ r. r.externals) l.encoded-iterator.rest.items ≡ flat_map (λ r. r.externals) l.fn.all.items;
}
