use Rattle.std.proofs.Common.{refl, sym, ◌∙◌}
use Rattle.std.specs.String.{string_bytes}
use Rattle.std.proofs.lemmas.Slice.Eq.{bytes_eq-Decides}
use Rattle.cut_net.proofs.Noted.{place_noted}
use Rattle.cut_net.proofs.recent.index_if_equal.Goals as goal

pub returns-then-eq-clause-place : goal.returns-then-eq-clause-place
returns-then-eq-clause-place c =
    let kept = c.in_ok-kept.kept.now in
    let is = sym c.as_str.ensures.value ∙ (bytes_eq-Decides _ _).0 (sym c.eq.ensures ∙ c.if-eq.true) in
    (place_noted c.args.names.now.keys kept c.args.name.now c.args.at is (kept, sym c.in_ok-kept.ensures.key, (bytes_eq-Decides (string_bytes kept) (string_bytes kept)).1 refl)).1
