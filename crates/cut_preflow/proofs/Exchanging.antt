-- Two indices of a permutation swapped, and the effect on a set of nodes.
use Rattle.std.proofs.Common.{◌≡◌, ◌≢◌, ℕ, zero, suc, ◌+◌, ◌-◌, ◌^◌, ◌<◌, ◌≤◌, Bool, true, false, nat_lt, List, [], ◌∷◌, length, get_or, set, map, replicate, inl, inr, refl, sym, ap, ◌∙◌, subst, arith, length-set, get_or-set_same, get_or-set_other}
use Rattle.std.proofs.lemmas.Bool.{cases_eq}
use Rattle.std.proofs.lemmas.Bool.Decides.{nat_tests}
use Rattle.std.proofs.lemmas.List.{ext_get_or, get_or-map, length-map, with_items_is}
use Rattle.std.proofs.lemmas.List.FromFn.{length-range_with_len, get_or-range_with_len}
use Rattle.std.specs.List.{range_with_len}
use Rattle.std.specs.Vec.{with_items}
use Rattle.std.specs.declared.alloc.Global.{Global}
use Rattle.std.specs.declared.vec.Vec.{Vec}
use Rattle.cut_preflow.specs.NodeSets.{AreInverse, IsArranged, exchanged}

exchanged_first : (first second p : ℕ) → p ≡ first → exchanged first second p ≡ second
exchanged_first first second p e = grind (arith, nat_tests)

exchanged_second : (first second p : ℕ) → p ≡ second → exchanged first second p ≡ first
exchanged_second first second p e = grind (arith, nat_tests)

exchanged_other : (first second p : ℕ) → p ≢ first → p ≢ second → exchanged first second p ≡ p
exchanged_other first second p f s = grind (arith, nat_tests)

-- the nodes at two indices, each given the other index
pub places_exchanged : (order position : List ℕ) (first second : ℕ) → AreInverse order position → first < length order → second < length order →
    set (set position (get_or order first 0) second) (get_or order second 0) first ≡ map (exchanged first second) position
places_exchanged order position first second inv in_first in_second =
    ext_get_or 0 (set (set position here second) there first) (map (exchanged first second) position) (sizes ∙ sym (length-map position (exchanged first second))) (λ v l. at v (omega (arith, l, sizes)))
  where
    here : ℕ
    here = get_or order first 0

    there : ℕ
    there = get_or order second 0

    sizes : length (set (set position here second) there first) ≡ length position
    sizes = length-set (set position here second) there first ∙ length-set position here second

    in_here : here < length position
    in_here = inv.nodes first in_first

    in_there : there < length (set position here second)
    in_there = omega (arith, inv.nodes second in_second, length-set position here second)

    at : (v : ℕ) → v < length position → get_or (set (set position here second) there first) v 0 ≡ get_or (map (exchanged first second) position) v 0
    at v l =
        let mapped = get_or-map (exchanged first second) position v 0 0 l in
        elim (cases_eq v there) [
          | inl e ↦
              let own = ap (λ w. get_or (set (set position here second) there first) w 0) e ∙ get_or-set_same (set position here second) there first 0 in_there in
              let place_is : get_or position v 0 ≡ second = ap (λ w. get_or position w 0) e ∙ inv.placed second in_second in
              own ∙ sym (mapped ∙ exchanged_second first second (get_or position v 0) place_is)
          | inr not_there ↦
              let past = get_or-set_other (set position here second) there v first 0 not_there in
              elim (cases_eq v here) [
                | inl e ↦
                    let own = ap (λ w. get_or (set position here second) w 0) e ∙ get_or-set_same position here second 0 in_here in
                    let place_is : get_or position v 0 ≡ first = ap (λ w. get_or position w 0) e ∙ inv.placed first in_first in
                    past ∙ own ∙ sym (mapped ∙ exchanged_first first second (get_or position v 0) place_is)
                | inr not_here ↦
                    let own = get_or-set_other position here v second 0 not_here in
                    let not_first : get_or position v 0 ≢ first = λ e. not_here (sym (inv.ordered v l) ∙ ap (λ p. get_or order p 0) e) in
                    let not_second : get_or position v 0 ≢ second = λ e. not_there (sym (inv.ordered v l) ∙ ap (λ p. get_or order p 0) e) in
                    past ∙ own ∙ sym (mapped ∙ exchanged_other first second (get_or position v 0) not_first not_second)
              ]
        ]

-- swapping twice changes nothing
exchanged_again : (first second p : ℕ) → exchanged first second (exchanged first second p) ≡ p
exchanged_again first second p = elim (cases_eq p first) [
  | inl e ↦ ap (exchanged first second) (exchanged_first first second p e) ∙ exchanged_second first second second refl ∙ sym e
  | inr not_first ↦ elim (cases_eq p second) [
    | inl e ↦ ap (exchanged first second) (exchanged_second first second p e) ∙ exchanged_first first second first refl ∙ sym e
    | inr not_second ↦
        let same = exchanged_other first second p not_first not_second in
        ap (exchanged first second) same ∙ same
  ]
]

exchanged_within : (first second p n : ℕ) → first < n → second < n → p < n → exchanged first second p < n
exchanged_within first second p n in_first in_second within = elim (cases_eq p first) [
  | inl e ↦ subst (λ q. q < n) (sym (exchanged_first first second p e)) in_second
  | inr not_first ↦ elim (cases_eq p second) [
    | inl e ↦ subst (λ q. q < n) (sym (exchanged_second first second p e)) in_first
    | inr not_second ↦ subst (λ q. q < n) (sym (exchanged_other first second p not_first not_second)) within
  ]
]

-- what stands at each index once two are exchanged
order_exchanged : (order : List ℕ) (first second i : ℕ) → first < length order → second < length order →
    get_or (set (set order first (get_or order second 0)) second (get_or order first 0)) i 0 ≡ get_or order (exchanged first second i) 0
order_exchanged order first second i in_first in_second =
    let here = get_or order first 0 in
    let there = get_or order second 0 in
    let once = set order first there in
    elim (cases_eq i second) [
      | inl e ↦
          ap (λ j. get_or (set once second here) j 0) e
          ∙ get_or-set_same once second here 0 (omega (arith, in_second, length-set order first there))
          ∙ sym (ap (λ j. get_or order j 0) (exchanged_second first second i e))
      | inr not_second ↦
          get_or-set_other once second i here 0 not_second
          ∙ elim (cases_eq i first) [
            | inl e ↦
                ap (λ j. get_or once j 0) e
                ∙ get_or-set_same order first there 0 in_first
                ∙ sym (ap (λ j. get_or order j 0) (exchanged_first first second i e))
            | inr not_first ↦
                get_or-set_other order first i there 0 not_first
                ∙ sym (ap (λ j. get_or order j 0) (exchanged_other first second i not_first not_second))
          ]
    ]

-- the two are still inverse
pub inverse_exchanged : (order position : List ℕ) (first second : ℕ) → AreInverse order position → first < length order → second < length order →
    AreInverse (set (set order first (get_or order second 0)) second (get_or order first 0))
    (set (set position (get_or order first 0) second) (get_or order second 0) first)
inverse_exchanged order position first second inv in_first in_second =
    let here = get_or order first 0 in
    let there = get_or order second 0 in
    let sizes : length (set (set order first there) second here) ≡ length order = length-set (set order first there) second here ∙ length-set order first there in
    let other = exchanged first second in
    let mapped = length-map position other in
    subst (AreInverse (set (set order first there) second here)) (sym (places_exchanged order position first second inv in_first in_second))
    (record {
      lengths = sizes ∙ inv.lengths ∙ sym mapped;
      nodes = λ i l.
          let within : i < length order = omega (arith, l, sizes) in
          rw (order_exchanged order first second i in_first in_second, mapped)
          (inv.nodes (other i) (exchanged_within first second i (length order) in_first in_second within));
      positions = λ v l.
          let within : v < length position = omega (arith, l, mapped) in
          rw (get_or-map other position v 0 0 within, sizes)
          (exchanged_within first second (get_or position v 0) (length order) in_first in_second (inv.positions v within));
      placed = λ i l.
          let within : other i < length order = exchanged_within first second i (length order) in_first in_second (omega (arith, l, sizes)) in
          ap (λ v. get_or (map other position) v 0) (order_exchanged order first second i in_first in_second)
          ∙ get_or-map other position (get_or order (other i) 0) 0 0 (inv.nodes (other i) within)
          ∙ ap other (inv.placed (other i) within)
          ∙ exchanged_again first second i;
      ordered = λ v l.
          let within : v < length position = omega (arith, l, mapped) in
          let p = get_or position v 0 in
          ap (λ q. get_or (set (set order first there) second here) q 0) (get_or-map other position v 0 0 within)
          ∙ order_exchanged order first second (other p) in_first in_second
          ∙ ap (λ q. get_or order q 0) (exchanged_again first second p)
          ∙ inv.ordered v within;
    })

-- a node at another index, with another bound on the indices of members, which is to change nothing for the other nodes
pub members_exchanged : (order position : List ℕ) (node other old new : ℕ) (is : Bool) → AreInverse order position → node < length position →
    nat_lt other new ≡ is →
    ((p : ℕ) → p ≢ get_or position node 0 → nat_lt (exchanged (get_or position node 0) other p) new ≡ nat_lt p old) →
    map (λ p. nat_lt p new) (map (exchanged (get_or position node 0) other) position) ≡ set (map (λ p. nat_lt p old) position) node is
members_exchanged order position node other old new is inv l moved kept =
    ext_get_or false (map test_new (map swap position)) (set (map test_old position) node is) (left_len ∙ sym right_len) (λ v h. at v (omega (arith, h, left_len)))
  where
    swap : ℕ → ℕ
    swap = exchanged (get_or position node 0) other

    test_new : ℕ → Bool
    test_new p = nat_lt p new

    test_old : ℕ → Bool
    test_old p = nat_lt p old

    left_len : length (map test_new (map swap position)) ≡ length position
    left_len = length-map (map swap position) test_new ∙ length-map position swap

    right_len : length (set (map test_old position) node is) ≡ length position
    right_len = length-set (map test_old position) node is ∙ length-map position test_old

    at : (v : ℕ) → v < length position → get_or (map test_new (map swap position)) v false ≡ get_or (set (map test_old position) node is) v false
    at v h =
        let left = get_or-map test_new (map swap position) v 0 false (omega (arith, h, length-map position swap)) ∙ ap test_new (get_or-map swap position v 0 0 h) in
        elim (cases_eq v node) [
          | inl e ↦
              let own = ap (λ w. get_or (set (map test_old position) node is) w false) e ∙ get_or-set_same (map test_old position) node is false (omega (arith, l, length-map position test_old)) in
              left ∙ ap test_new (exchanged_first (get_or position node 0) other (get_or position v 0) (ap (λ w. get_or position w 0) e)) ∙ moved ∙ sym own
          | inr ne ↦
              let own = get_or-set_other (map test_old position) node v is false ne ∙ get_or-map test_old position v 0 false h in
              left ∙ kept (get_or position v 0) (λ e. ne (sym (inv.ordered v h) ∙ ap (λ p. get_or order p 0) e ∙ inv.ordered node l)) ∙ sym own
        ]

-- a node past the members at the end of these
pub members_more : (order position : List ℕ) (node size : ℕ) → AreInverse order position → node < length position → size ≤ get_or position node 0 →
    map (λ p. nat_lt p (size + 1)) (map (exchanged (get_or position node 0) size) position) ≡ set (map (λ p. nat_lt p size) position) node true
members_more order position node size inv l past =
    members_exchanged order position node size size (size + 1) true inv l (grind (arith, nat_tests)) (λ p ne. kept p ne)
  where
    kept : (p : ℕ) → p ≢ get_or position node 0 → nat_lt (exchanged (get_or position node 0) size p) (size + 1) ≡ nat_lt p size
    kept p ne = elim (cases_eq p size) [
      | inl e ↦
          let new = ap (λ q. nat_lt q (size + 1)) (exchanged_second (get_or position node 0) size p e) in
          new ∙ grind (arith, nat_tests)
      | inr other ↦
          let new = ap (λ q. nat_lt q (size + 1)) (exchanged_other (get_or position node 0) size p ne other) in
          new ∙ grind (arith, nat_tests)
    ]

-- the last member in the index of another, which is then past the members
pub members_less : (order position : List ℕ) (node size : ℕ) → AreInverse order position → node < length position → get_or position node 0 < size →
    map (λ p. nat_lt p (size - 1)) (map (exchanged (get_or position node 0) (size - 1)) position) ≡ set (map (λ p. nat_lt p size) position) node false
members_less order position node size inv l low =
    members_exchanged order position node (size - 1) size (size - 1) false inv l (grind (arith, nat_tests)) (λ p ne. kept p ne)
  where
    kept : (p : ℕ) → p ≢ get_or position node 0 → nat_lt (exchanged (get_or position node 0) (size - 1) p) (size - 1) ≡ nat_lt p size
    kept p ne = elim (cases_eq p (size - 1)) [
      | inl e ↦
          let new = ap (λ q. nat_lt q (size - 1)) (exchanged_second (get_or position node 0) (size - 1) p e) in
          new ∙ grind (arith, nat_tests)
      | inr other ↦
          let new = ap (λ q. nat_lt q (size - 1)) (exchanged_other (get_or position node 0) (size - 1) p ne other) in
          new ∙ grind (arith, nat_tests)
    ]

-- writing the value that an index has already
pub members_same : (position : List ℕ) (node size : ℕ) (is : Bool) → node < length position → nat_lt (get_or position node 0) size ≡ is →
    map (λ p. nat_lt p size) position ≡ set (map (λ p. nat_lt p size) position) node is
members_same position node size is l was =
    ext_get_or false (map test position) (set (map test position) node is) (sym (length-set (map test position) node is)) (λ v h. at v)
  where
    test : ℕ → Bool
    test p = nat_lt p size

    at : (v : ℕ) → get_or (map test position) v false ≡ get_or (set (map test position) node is) v false
    at v = elim (cases_eq v node) [
      | inl e ↦
          let own = ap (λ w. get_or (set (map test position) node is) w false) e ∙ get_or-set_same (map test position) node is false (omega (arith, l, length-map position test)) in
          ap (λ w. get_or (map test position) w false) e ∙ get_or-map test position node 0 false l ∙ was ∙ sym own
      | inr ne ↦ sym (get_or-set_other (map test position) node v is false ne)
    ]

-- a vector of indices written through its whole slice
pub places_written : (positions : Vec ℕ Global) (slice new : List ℕ) (first other node : ℕ) → length positions.items ≡ positions.len →
    new ≡ map (exchanged first other) slice → slice ≡ positions.items → first ≡ get_or positions.items node 0 →
    (with_items positions new).items ≡ map (exchanged (get_or positions.items node 0) other) positions.items
places_written positions slice new first other node size new_is slice_is first_is =
    with_items_is positions new (omega (arith, size, ap length is, length-map positions.items (exchanged (get_or positions.items node 0) other))) ∙ is
  where
    is : new ≡ map (exchanged (get_or positions.items node 0) other) positions.items
    is = new_is ∙ ap (map (exchanged first other)) slice_is ∙ ap (λ p. map (exchanged p other) positions.items) first_is

-- both vectors written through their whole slices
pub arranged_written : (order position : Vec ℕ Global) (new_order new_place slice : List ℕ) (first second size : ℕ) → length order.items ≡ order.len →
    length position.items ≡ position.len → length order.items ≡ length position.items → length position.items < 2 ^ 32 → slice ≡ position.items →
    new_place ≡ map (exchanged first second) slice → AreInverse new_order new_place → size ≤ length position.items →
    IsArranged (with_items order new_order).items (with_items position new_place).items size
arranged_written order position new_order new_place slice first second size in_order in_place lengths few slice_is new_is inverse within =
    let positions : length new_place ≡ length position.items = ap length new_is ∙ length-map slice (exchanged first second) ∙ ap length slice_is in
    let orders = inverse.lengths in
    rw (with_items_is order new_order (omega arith), with_items_is position new_place (omega arith))
    (record { inverse = inverse; within = omega arith; few = omega arith })

-- the first nodes of the order are members
pub has_placed : (order position : List ℕ) (i size : ℕ) → AreInverse order position → i < length order → i < size →
    get_or (map (λ p. nat_lt p size) position) (get_or order i 0) false ≡ true
has_placed order position i size inv l low =
    get_or-map (λ p. nat_lt p size) position (get_or order i 0) 0 false (inv.nodes i l)
    ∙ ap (λ p. nat_lt p size) (inv.placed i l)
    ∙ grind (arith, nat_tests)

-- with size 0 no node is a member
pub none_of_none : (position : List ℕ) (size v : ℕ) → size ≡ 0 → get_or (map (λ p. nat_lt p size) position) v false ≡ false
none_of_none [] size v none = refl
none_of_none (p ∷ ps) size zero none = grind (arith, nat_tests)
none_of_none (p ∷ ps) size (suc v) none = none_of_none ps size v none

-- nodes in the order of their numbers
pub numbers_arranged : (n : ℕ) → n < 2 ^ 32 → IsArranged (range_with_len 0 n) (range_with_len 0 n) 0
numbers_arranged n few =
    record {
      inverse = record {
        lengths = refl;
        nodes = low;
        positions = low;
        placed = λ i l. read (get_or (range_with_len 0 n) i 0) (low i l) ∙ read i l;
        ordered = λ i l. read (get_or (range_with_len 0 n) i 0) (low i l) ∙ read i l;
      };
      within = omega arith;
      few = omega (arith, few, length-range_with_len 0 n);
    }
  where
    read : (i : ℕ) → i < length (range_with_len 0 n) → get_or (range_with_len 0 n) i 0 ≡ i
    read i l = get_or-range_with_len 0 n i 0 (omega (arith, l, length-range_with_len 0 n)) ∙ omega arith

    low : (i : ℕ) → i < length (range_with_len 0 n) → get_or (range_with_len 0 n) i 0 < length (range_with_len 0 n)
    low i l = omega (arith, l, read i l)

none_below : (p : ℕ) → nat_lt p 0 ≡ false
none_below p = grind (arith, nat_tests)

-- and none of them a member
pub none_marked : (positions : List ℕ) → map (λ p. nat_lt p 0) positions ≡ replicate (length positions) false
none_marked [] = refl
none_marked (p ∷ ps) = ap (λ b. b ∷ map (λ q. nat_lt q 0) ps) (none_below p) ∙ ap (λ xs. false ∷ xs) (none_marked ps)
