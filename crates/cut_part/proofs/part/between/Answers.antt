-- The subnetwork satisfies the invariant of networks, also for its pins.
use Rattle.std.proofs.Common.{ℕ, Bool, List, subst}
use Rattle.cut_net.specs.declared.priced.Priced.{Priced}
use Rattle.cut_net.specs.Network.{Network, texts}
use Rattle.cut_net.specs.WellFormed.{IsNetwork}
use Rattle.cut_net.specs.Pins.{ArePins}
use Rattle.cut_part.specs.Marks.{with_ends, IsNumbering, IsSubnetwork}
use Rattle.cut_part.proofs.Parts.{is_network, is_part, numbers_low}
use Rattle.cut_part.proofs.PinnedParts.{are_pins}
use Rattle.cut_part.proofs.part.between.Goals as goal
use Rattle.cut_part.proofs.part.between.Goals.{In_ok-names, In_ok-numbers}

abbrev network_of : List (List ℕ) → List Priced → List Priced → Network
network_of names imports pins = record { names = names; imports = imports; pins = pins }

-- what the names and the lines of the subnetwork make
record IsMade (net : Network) (a b : ℕ) (marks : List Bool) (numbers new_numbers : List ℕ) (made : Network) : Type 0 where
  network : IsNetwork made
  pins : ArePins made
  part : IsSubnetwork net a b marks numbers new_numbers made

renumbering_with_ends : (c : In_ok-numbers) → IsNumbering (with_ends c.in_ok-marks.marks.items c.args.from c.args.to) c.in_ok-numbers.numbers.items c.in_ok-numbers.new_numbers.items
renumbering_with_ends c = subst (λ (v : List Bool). IsNumbering (with_ends v c.args.from c.args.to) c.in_ok-numbers.numbers.items c.in_ok-numbers.new_numbers.items) c.deref.ensures.value c.in_ok-numbers.ensures

made : (c : In_ok-names) → IsNumbering (with_ends c.in_ok-marks.marks.items c.args.from c.args.to) c.in_ok-numbers.numbers.items c.in_ok-numbers.new_numbers.items →
    IsMade c.args.net.now c.args.from c.args.to c.in_ok-marks.marks.items c.in_ok-numbers.numbers.items c.in_ok-numbers.new_numbers.items
    (network_of (texts c.in_ok-names.names.items) c.in_ok-imports.imports.items c.in_ok-imports.pins.items)
made c is =
    let net = c.args.net.now in
    let marks = c.in_ok-marks.marks.items in
    let numbers = c.in_ok-numbers.numbers.items in
    let new_numbers = c.in_ok-numbers.new_numbers.items in
    let known = c.in_ok-marks.ensures in
    rw (c.in_ok-names.ensures, c.in_ok-imports.ensures.imports, c.in_ok-imports.ensures.pins, c.deref-2.ensures.value, c.deref-3.ensures.value, c.deref-4.ensures.value) (record {
      network = is_network net c.args.from c.args.to marks numbers new_numbers known.size known.between is c.invariants.ensures.network;
      pins = are_pins net c.args.from c.args.to marks numbers new_numbers known.size known.between is c.invariants.ensures.pins;
      part = is_part net c.args.from c.args.to marks numbers new_numbers known.size known.between is;
    })

pub names_of-requires : goal.names_of-requires
names_of-requires c =
    let known = c.in_ok-marks.ensures in
    rw c.deref-4.ensures.value (numbers_low c.args.net.now c.args.from c.args.to c.in_ok-marks.marks.items c.in_ok-numbers.numbers.items c.in_ok-numbers.new_numbers.items known.size known.between
    (renumbering_with_ends (goal.at.names_of-requires c).In_ok-numbers))

pub with_pins-requires : goal.with_pins-requires
with_pins-requires c =
    let here = goal.at.with_pins-requires c in
    let all = made here.In_ok-names (renumbering_with_ends here.In_ok-numbers) in
    record { network = all.network; pins = all.pins }

pub returns : goal.returns
returns c =
    let here = goal.at.returns c in
    rw c.with_pins.ensures (made here.In_ok-names (renumbering_with_ends here.In_ok-numbers)).part
