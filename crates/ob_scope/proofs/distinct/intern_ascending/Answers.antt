-- One more member.
use Rattle.std.proofs.Common.{◌≡◌, ◌≤◌, ◌<◌, ◌+◌, ◌++◌, ◌∷◌, ◌∙◌, [], ℕ, List, length, take, arith}
use Rattle.std.proofs.lemmas.Grind.{elements}
use Rattle.std.proofs.lemmas.List.{length-set}
use Rattle.std.proofs.lemmas.Option.{slice_get-get_or}
use Rattle.scopes.specs.declared.members.Member.{Member}
use Rattle.text_hash.specs.declared.name.Name.{Name}
use Rattle.ob_scope.specs.Visibility.{AreInterned}
use Rattle.ob_scan.specs.Texts.{text_at}
use Rattle.ob_scope.proofs.Aparts.{apart_all, apart_more, apart_none}
use Rattle.module_table.proofs.Elements.{slice_there}
use Rattle.ob_scope.proofs.Numberings.{last_within, numbered_none, numbers_long}
use Rattle.ob_scope.proofs.distinct.intern_ascending.Goals as goal
use Rattle.ob_scope.proofs.distinct.intern_ascending.Goals.{In_ok-number}

pub loop-i-init : goal.loop-i-init
loop-i-init c =
    let name = text_at c.args.text.now.bytes.now c.args.text.now.tokens.now in
    rw (c.requires.empty_interner, c.requires.no_numbers) (record {
      as_many = c.requires.as_many;
      few = omega arith;
      numbered = numbered_none name;
      distinct = apart_none name c.args.members.now [] c.args.passed.now;
    })

-- the number has bounds in the list
within : (name : ℕ → List ℕ) (members : List Member) (i n room : ℕ) (names more : List Name) (numbers later : List ℕ) → i < length members → room ≡ length members → length names ≤ i → AreInterned name (take i members) names numbers
    → AreInterned name (take (i + 1) members) more later → later ≡ numbers ++ n ∷ [] → length more ≤ length names + 1 → n < room
within name members i n room names more numbers later less room_is few before after is grown =
    let at = slice_there members i less in
    let here : n < length more = last_within name members i n at.0 more numbers later (numbers_long name members i names numbers (omega arith) before) is at.1 after in
    omega (arith, here)

low : (c : In_ok-number) → c.in_ok-number.number < length c.loop-i.passed
low c =
    let name = text_at c.args.text.now.bytes.now c.args.text.now.tokens.now in
    let l = c.loop-i.invariant in
    let e = c.in_ok-number.ensures in
    within name c.args.members.now c.loop-i.i c.in_ok-number.number (length c.loop-i.passed) c.loop-i.named.names.keys c.intern_member.new.named.names.keys c.loop-i.named.numbers.items c.intern_member.new.named.numbers.items
    c.loop-i-test.true l.as_many l.few l.numbered e.numbered e.number e.grown

pub slice_copy_out-raise_bound : goal.slice_copy_out-raise_bound
slice_copy_out-raise_bound c = low (goal.at.slice_copy_out-raise_bound c).In_ok-number

pub bounds-passed-number : goal.bounds-passed-number
bounds-passed-number c = low (goal.at.bounds-passed-number c).In_ok-number

pub offset_bounds-passed-number : goal.offset_bounds-passed-number
offset_bounds-passed-number c = let here = low (goal.at.offset_bounds-passed-number c).In_ok-number in grind (arith, elements)

pub offset_bounds-passed-number-in-Some : goal.offset_bounds-passed-number-in-Some
offset_bounds-passed-number-in-Some c = let here = low (goal.at.offset_bounds-passed-number-in-Some c).In_ok-number in grind (arith, elements)

pub loop-i-preserved : goal.loop-i-preserved
loop-i-preserved c =
    let name = text_at c.args.text.now.bytes.now c.args.text.now.tokens.now in
    let members = c.args.members.now in
    let less = c.loop-i-test.true in
    let l = c.loop-i.invariant in
    let n = c.in_ok-number.ensures in
    let e = c.in-Some.ensures in
    let many : length c.loop-i.passed ≡ length members = l.as_many in
    let few : length c.loop-i.named.names.keys ≤ c.loop-i.i = l.few in
    let grown : length c.intern_member.new.named.names.keys ≤ length c.loop-i.named.names.keys + 1 = n.grown in
    record {
      as_many = length-set c.loop-i.passed c.in_ok-number.number c.in-Some.next ∙ many;
      few = omega arith;
      numbered = n.numbered;
      distinct =
          apart_more name members c.intern_member.new.named.names.keys c.loop-i.named.numbers.items c.intern_member.new.named.numbers.items c.loop-i.passed c.loop-i.i c.in_ok-number.number _ _ c.in-Some.next
          l.distinct (numbers_long name members c.loop-i.i c.loop-i.named.names.keys c.loop-i.named.numbers.items (omega arith) l.numbered) n.number n.numbered (omega arith)
          (slice_get-get_or members c.loop-i.i _ less) e.new e.passed e.kept;
    }

pub returns-clause-once : goal.returns-clause-once
returns-clause-once c = λ e.
    apart_all (text_at c.args.text.now.bytes.now c.args.text.now.tokens.now) c.args.members.now c.loop-i.named.numbers.items c.loop-i.passed c.loop-i.i c.loop-i.invariant.distinct c.loop-i-test.false
