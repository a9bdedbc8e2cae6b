use Rattle.std.proofs.Common.{◌+◌, ◌%◌, ◌/◌, ℕ, List, set, ap, ◌∙◌, arith}
use Rattle.std.specs.List.{insert}
use Rattle.scip_index.proofs.InPlace.{settled_high, settled_low}
use Rattle.scip_index.proofs.in_place.store_length.Goals as goal

pub returns-then-size-lt128 : goal.returns-then-size-lt128
returns-then-size-lt128 c = λ old payload key is begins.
    ap (λ (bytes : List ℕ). set bytes (c.args.start + 1) c.args.size) is
    ∙ settled_low old payload key c.args.size (c.args.start + 1) c.if-size-lt128.true (omega (arith, begins))

pub returns : goal.returns
returns c = λ old payload key is begins.
    let size = c.args.size in
    rw c.in_ok-insert.ensures.items
    (ap (λ (bytes : List ℕ). insert (set bytes (c.args.start + 1) (size % 128 + 128)) (c.args.start + 2) (size / 128)) is
    ∙ settled_high old payload key size (c.args.start + 1) (c.args.start + 2) c.if-size-lt128.false c.requires.few (omega (arith, begins)) (omega (arith, begins)))
