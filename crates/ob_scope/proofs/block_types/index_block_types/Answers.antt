-- One more member.
use Rattle.std.proofs.Common.{◌∙◌, refl, sym, ap}
use Rattle.std.specs.Prelude.{slice_index}
use Rattle.std.proofs.lemmas.Option.{slice_get-get_or}
use Rattle.scopes.specs.declared.members.Member.{Member}
use Rattle.module_table.proofs.Elements.{some_one}
use Rattle.ob_scope.proofs.Forwards.{types_more, types_skip}
use Rattle.ob_scope.proofs.block_types.index_block_types.Goals as goal
use Rattle.ob_scope.proofs.block_types.index_block_types.Goals.{in-Some+in_ok-insert, in_default}

pub loop-i-preserved : goal.loop-i-preserved
loop-i-preserved c =
    let members = c.args.members.now in
    let numbers = c.args.numbers.now in
    let i = c.loop-i.i in
    let there = slice_get-get_or members i _ c.loop-i-test.true in
    elim c.match-block_of_type.branch [
      | in-Some+in_ok-insert w ↦ (
          let is = w.in-Some.ensures.found in
          rw w.types-is (types_more members numbers i (w.in-Some.block, slice_index numbers i) c.loop-i.types w.insert.new.self c.loop-i.invariant
          (record { member = _; there = there; placed = is.0; number = refl; a_type = is.1 })
          w.in_ok-insert.ensures.updates.0))
      | in_default w ↦ (
          rw w.types-is (types_skip members numbers i c.loop-i.types c.loop-i.invariant (λ key h.
          (let same = some_one h.member _ (sym h.there ∙ there) in
          w.in_default.ensures.none key.0 (ap (λ (m : Member). m.place) (sym same) ∙ h.placed) (ap (λ (m : Member). m.decl_kind) (sym same) ∙ h.a_type)))))
    ]
