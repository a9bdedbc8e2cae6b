-- A line of three bytes.
use Rattle.std.proofs.Common.{◌≡◌, ◌++◌, ◌≤◌, ℕ, List, arith}
use Rattle.std.specs.Prelude.{Result, Ok, Err, OnOk, if◌then◌else◌}
use Rattle.std.specs.Result.{is_ok}
use Rattle.scip_index.proofs.CompactOccurrences.{front_far}
use Rattle.scip_index.proofs.compact.append_record_prefix.Goals as goal

put_if : {T E : Type 0} (r : Result T E) (new old more : List ℕ) → new ≡ (if is_ok r then old ++ more else old) → OnOk r (new ≡ old ++ more)
put_if (Ok x) new old more e = e
put_if (Err x) new old more e = tt

pub returns-else-line-lt16384 : goal.returns-else-line-lt16384
returns-else-line-lt16384 c =
    let far : 16384 ≤ c.args.line = omega (arith, c.if-line-lt16384.false) in
    rw (front_far c.args.line c.args.column c.args.end c.args.rest far c.requires.line c.requires.column c.requires.end c.requires.rest)
    (put_if c.extend_from_slice-else-line-lt16384.result c.extend_from_slice-else-line-lt16384.new.self.items c.args.out.now.items _ c.extend_from_slice-else-line-lt16384.ensures.items)
