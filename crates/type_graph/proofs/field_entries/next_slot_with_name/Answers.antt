use Rattle.std.proofs.Common.{◌≡◌, Some, false, true, ap, subst, sym, ◌∙◌}
use Rattle.std.specs.Str.{bytes_eq}
use Rattle.std.proofs.lemmas.Slice.Eq.{bytes_eq-Decides}
use Rattle.type_graph.specs.declared.field_entries.FieldEntry.{FieldEntry}
use Rattle.type_graph.specs.PathOrder.{IsSlotAfter}
use Rattle.type_graph.proofs.Standing.{next_there, none_beyond, none_there}
use Rattle.type_graph.proofs.field_entries.next_slot_with_name.Goals as goal

pub returns-then-at-fields : goal.returns-then-at-fields
returns-then-at-fields c = none_beyond c.args.fields.now c.args.name.now c.args.slot c.count_up_to-at.result c.requires c.count_up_to-at.ensures c.if-at-fields.true

pub returns-then-eq : goal.returns-then-eq
returns-then-eq c =
    let it = c.index-fields-at.result in
    let same = (bytes_eq-Decides c.as_slice.result.now c.args.name.now).0 (sym c.eq.ensures ∙ c.if-eq.true) in
    let named = ap (λ (o : FieldEntry). o.name.items) (sym c.index-fields-at.is) ∙ sym c.as_slice.ensures.value ∙ same in
    subst (λ (o : FieldEntry). IsSlotAfter c.args.fields.now c.args.name.now c.args.slot (Some o.slot)) (sym c.index-fields-at.is)
    (next_there c.args.fields.now c.args.name.now c.args.slot c.count_up_to-at.result it c.requires c.count_up_to-at.ensures c.if-at-fields.false named)

pub returns-else-eq : goal.returns-else-eq
returns-else-eq c =
    let it = c.index-fields-at.result in
    none_there c.args.fields.now c.args.name.now c.args.slot c.count_up_to-at.result it c.requires c.count_up_to-at.ensures
    (λ e. (
    let same = c.as_slice.ensures.value ∙ ap (λ (o : FieldEntry). o.name.items) c.index-fields-at.is ∙ e in
    let t : bytes_eq c.as_slice.result.now c.args.name.now ≡ true = (bytes_eq-Decides c.as_slice.result.now c.args.name.now).1 same in
    let bad : true ≡ false = sym t ∙ sym c.eq.ensures ∙ c.if-eq.false in cc))
