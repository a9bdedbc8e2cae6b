use Rattle.std.proofs.Common.{◌≡◌, ◌∙◌, ◌≤◌, ◌<◌, ◌⊎◌, ℕ, Bool, List, Some, length, true, sym, ap, subst, arith}
use Rattle.std.specs.Prelude.{◌↔◌, slice_get}
use Rattle.std.specs.Vec.{with_items}
use Rattle.std.proofs.lemmas.List.{with_items_is}
use Rattle.std.proofs.lemmas.Option.{slice_get-get_or}
use Rattle.digraph.specs.Marks.{marked}
use Rattle.cut_rules.specs.declared.table.ModuleSet.{ModuleSet}
use Rattle.cut_rules.specs.declared.table.SetTable.{SetTable}
use Rattle.cut_rules.specs.Builders.{AreSized, HasIndex, InSet}
use Rattle.cut_rules.proofs.TableLaws.{none_marked, set_marked, set_sized}
use Rattle.cut_rules.proofs.table.SetTable.add_range.Goals as goal
use Rattle.cut_rules.proofs.table.SetTable.add_range.Goals.{in-Some, in_default}

pub returns-clause-sets : goal.returns-clause-sets
returns-clause-sets c files t m = elim c.match-set.branch [
  | in-Some w ↦
      let old = c.args.self.now.sets.items in
      let s = w.in-Some.set in
      let was = w.index_mut.result.now in
      let flags = w.flag_range.new.flags in
      let low = rw w.in-Some.is at c.requires.set in
      let present : slice_get old s ≡ Some was = slice_get-get_or old s was low ∙ ap (λ (x : ModuleSet). Some x) (sym w.index_mut.ensures.value) in
      let ok = was.flags.ok.0 in
      let long = w.flag_range.ensures.size in
      let begun = ap length w.as_mut_slice.ensures.value in
      let whole = with_items_is was.flags flags (omega arith) in
      rw (w.self-is, w.in-Some.is) (set_marked old s was (record { flags = with_items was.flags flags }) present c.args.from c.args.to
      (λ k. subst (λ (ms : List Bool). (marked ms k ≡ true) ↔ ((marked was.flags.items k ≡ true) ⊎ ((c.args.from ≤ k) × (k < c.args.to)))) (sym whole) (rw w.as_mut_slice.ensures.value at w.flag_range.ensures.flags k)) files t m)
  | in_default w ↦
      subst (λ (table : SetTable). InSet files table.sets.items t m ↔ (InSet files c.args.self.now.sets.items t m ⊎ ((c.args.set ≡ Some t) × HasIndex files c.args.from c.args.to m))) (sym w.self-is)
      (none_marked c.args.self.now.sets.items c.args.set (λ (s n : ℕ). HasIndex files c.args.from c.args.to n) (λ s e. w.in_default.not-Some s e) files t m)
]

pub returns-clause-sized : goal.returns-clause-sized
returns-clause-sized c places sized = elim c.match-set.branch [
  | in-Some w ↦
      let old = c.args.self.now.sets.items in
      let s = w.in-Some.set in
      let was = w.index_mut.result.now in
      let flags = w.flag_range.new.flags in
      let low = rw w.in-Some.is at c.requires.set in
      let present : slice_get old s ≡ Some was = slice_get-get_or old s was low ∙ ap (λ (x : ModuleSet). Some x) (sym w.index_mut.ensures.value) in
      let ok = was.flags.ok.0 in
      let long = w.flag_range.ensures.size in
      let begun = ap length w.as_mut_slice.ensures.value in
      let whole = with_items_is was.flags flags (omega arith) in
      rw w.self-is (set_sized old s was (record { flags = with_items was.flags flags }) present places (ap length whole ∙ long ∙ begun) sized)
  | in_default w ↦ subst (λ (table : SetTable). AreSized places table.sets.items) (sym w.self-is) sized
]
