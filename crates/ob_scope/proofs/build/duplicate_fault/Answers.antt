-- The two members with these indexes.
use Rattle.std.proofs.Common.{◌≡◌, sym, ap, ◌∙◌, subst, arith}
use Rattle.std.proofs.lemmas.Option.{get_or_from_slice_get}
use Rattle.std.specs.Str.{IsUtf8}
use Rattle.std.specs.String.{string_bytes}
use Rattle.scopes.specs.declared.members.Member.{Member}
use Rattle.ob_scan.specs.Texts.{text_at, token_at}
use Rattle.ob_scope.proofs.Assembling.{is_twice}
use Rattle.std.proofs.lemmas.Grind.{elements}
use Rattle.ob_scope.proofs.build.duplicate_fault.Goals as goal
use Rattle.ob_scope.proofs.build.duplicate_fault.Goals.{in-Block, in-Record}

pub returns : goal.returns
returns c = λ rows same texts.
    let bytes = c.args.text.now.bytes.now in
    let ts = c.args.text.now.tokens.now in
    let ms = c.args.members.now in
    let f = c.in-Twice.first in
    let s = c.in-Twice.second in
    let h = rw c.in-Twice.is at c.requires.twice in
    let first : (d : Member) → Rattle.std.proofs.Common.get_or ms f d ≡ h.first = λ d. get_or_from_slice_get ms f h.first d h.at_first in
    let second : (d : Member) → Rattle.std.proofs.Common.get_or ms s d ≡ h.second = λ d. get_or_from_slice_get ms s h.second d h.at_second in
    let name : IsUtf8 (text_at bytes ts h.first.number) → string_bytes c.in_ok-name.name ≡ text_at bytes ts h.first.number =
    subst (λ (m : Member). IsUtf8 (text_at bytes ts m.number) → string_bytes c.in_ok-name.name ≡ text_at bytes ts m.number) (first _) c.in_ok-name.ensures in
    let start = c.start-first.ensures ∙ ap (λ (m : Member). (token_at ts m.number).start) (first _) in
    elim c.match-second.branch [
      | in-Block w ↦ (
          rw w.fault-is (
            h.first,
            h.second,
            w.in-Block.field-0,
            ap (λ (m : Member). m.place) (sym (second _)) ∙ w.in-Block.is,
            is_twice bytes ts ms rows f s _ _ _ same h texts name start (w.start.ensures ∙ ap (λ (m : Member). (token_at ts m.number).start) (second _)),
          ))
      | in-Record w ↦ (
          rw w.fault-is (
            h.first,
            h.second,
            w.in-Record.field-0,
            ap (λ (m : Member). m.place) (sym (second _)) ∙ w.in-Record.is,
            is_twice bytes ts ms rows f s _ _ _ same h texts name start (w.start-in-Record.ensures ∙ ap (λ (m : Member). (token_at ts m.number).start) (second _)),
          ))
    ]

pub offset_bounds-members-first : goal.offset_bounds-members-first
offset_bounds-members-first c = grind (arith, elements)

pub bounds-members-first : goal.bounds-members-first
bounds-members-first c = grind (arith, elements)

pub offset_bounds-members-second : goal.offset_bounds-members-second
offset_bounds-members-second c = grind (arith, elements)

pub bounds-members-second : goal.bounds-members-second
bounds-members-second c = grind (arith, elements)
