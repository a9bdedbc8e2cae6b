use Rattle.std.proofs.Common.{◌∙◌, List, ℕ, Option, arith, sym, subst}
use Rattle.type_graph.specs.declared.field_entries.FieldEntry.{FieldEntry}
use Rattle.type_graph.specs.PathOrder.{IsSlotAfter}
use Rattle.type_graph.proofs.Extending.{lacks_itself}
use Rattle.type_graph.proofs.Hopping.{ends_at, hop_onto, hop_to_end, stands_at}
use Rattle.type_graph.proofs.paths.jump_along.Goals as goal

pub returns-in_default : goal.returns-in_default
returns-in_default g c shape base field built lacks =
    lacks_itself shape base (λ (r : g.row.R.Denot). field r c.args.name.now) c.args.«record» lacks

pub returns-then-slot-len : goal.returns-then-slot-len
returns-then-slot-len g c shape base field built lacks =
    lacks_itself shape base (λ (r : g.row.R.Denot). field r c.args.name.now) c.args.«record» lacks

pub returns-in-None-get_index : goal.returns-in-None-get_index
returns-in-None-get_index g c shape base field built lacks =
    lacks_itself shape base (λ (r : g.row.R.Denot). field r c.args.name.now) c.args.«record» lacks

pub returns-in-None-get_index-2 : goal.returns-in-None-get_index-2
returns-in-None-get_index-2 g c shape base field built lacks =
    lacks_itself shape base (λ (r : g.row.R.Denot). field r c.args.name.now) c.args.«record» lacks

pub returns-in-Some-get_index : goal.returns-in-Some-get_index
returns-in-Some-get_index g c shape base field built lacks =
    let paths = c.args.paths.now.records.keys in
    let ends = c.args.paths.now.ends in
    let name = c.args.name.now in
    let slot = c.in-Some.slot in
    let at = stands_at g.R.PartialEq.eq c.requires.eq_is_identity paths c.args.«record» slot (sym c.get_index_of.ensures.index ∙ c.in-Some.is) in
    let end = ends_at ends.items slot c.index-end.result.now (omega (arith, c.len.ensures, ends.ok.0)) c.index-end.ensures in
    let next = subst (λ (es : List FieldEntry). IsSlotAfter es name slot c.next_slot_with_name-next.result) c.as_slice.ensures.value c.next_slot_with_name-next.ensures in
    let onto = subst (λ (o : Option ℕ). IsSlotAfter c.args.paths.now.field_entries.items name slot o) c.in-Some-slot_up_to.ensures.some.0 next in
    hop_onto shape base field paths ends.items c.args.paths.now.field_entries.items name slot c.index-end.result.now c.in-Some-slot_up_to.next
    c.args.«record» c.in-Some-get_index.parent.now built at end lacks onto c.in-Some-slot_up_to.ensures.some.1 (sym c.in-Some-get_index.ensures.key)

pub returns-in-Some-get_index-2 : goal.returns-in-Some-get_index-2
returns-in-Some-get_index-2 g c shape base field built lacks =
    let paths = c.args.paths.now.records.keys in
    let ends = c.args.paths.now.ends in
    let name = c.args.name.now in
    let slot = c.in-Some.slot in
    let at = stands_at g.R.PartialEq.eq c.requires.eq_is_identity paths c.args.«record» slot (sym c.get_index_of.ensures.index ∙ c.in-Some.is) in
    let end = ends_at ends.items slot c.index-end.result.now (omega (arith, c.len.ensures, ends.ok.0)) c.index-end.ensures in
    let next = subst (λ (es : List FieldEntry). IsSlotAfter es name slot c.next_slot_with_name-next.result) c.as_slice.ensures.value c.next_slot_with_name-next.ensures in
    hop_to_end shape base field paths ends.items c.args.paths.now.field_entries.items name slot c.index-end.result.now
    c.args.«record» c.in-Some-get_index-2.last.now c.next_slot_with_name-next.result built at end lacks next c.in-None.ensures.none (sym c.in-Some-get_index-2.ensures.key)
