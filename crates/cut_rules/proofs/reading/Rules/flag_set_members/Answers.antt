use Rattle.std.proofs.Common.{◌≡◌, ◌∙◌, ◌+◌, ◌-◌, ◌<◌, List, Bool, Some, length, sym, ap, subst, arith}
use Rattle.std.specs.Prelude.{slice_get}
use Rattle.std.proofs.lemmas.Option.{slice_get-get_or}
use Rattle.cut_rules.specs.declared.table.ModuleSet.{ModuleSet}
use Rattle.cut_rules.specs.Builders.{HasFlaggedIndex, IsMember}
use Rattle.cut_rules.proofs.Marking.{marks_as, set_member, AreMarks}
use Rattle.cut_rules.proofs.reading.Rules.flag_set_members.Goals as goal

pub returns-clause-flags : goal.returns-clause-flags
returns-clause-flags c =
    let files = c.args.self.now.files.now in
    let table = c.args.self.now.table in
    let place = c.args.name - table.modules in
    let set = c.index.result.now in
    let long = c.len.ensures in
    let below = c.if-place-len.false in
    let above = c.if-name-self.false in
    let number : c.args.name ≡ table.modules + place = omega arith in
    let low : place < length table.sets.items = omega arith in
    let present : slice_get table.sets.items place ≡ Some set = slice_get-get_or table.sets.items place set low ∙ ap (λ (x : ModuleSet). Some x) (sym c.index.ensures) in
    let elements : AreMarks c.args.flags.now c.flag_modules.new.flags (HasFlaggedIndex files set.flags.items) = subst (λ (bs : List Bool). AreMarks c.args.flags.now c.flag_modules.new.flags (HasFlaggedIndex files bs)) c.as_slice.ensures.value (c.flag_modules.ensures.size, c.flag_modules.ensures.flags) in
    (marks_as c.args.flags.now c.flag_modules.new.flags (HasFlaggedIndex files set.flags.items) (IsMember files table c.args.name) (set_member files table c.args.name place set number present) elements).1
