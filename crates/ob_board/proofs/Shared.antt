-- The interfaces that a worker is given are those of what its module reaches.
use Rattle.std.proofs.Common.{◌≡◌, suc, ◌<◌, ◌≤◌, ◌+◌, ℕ, Bool, true, false, List, [], ◌∷◌, ◌++◌, length, map, take, get_or, refl, sym, ap, ap₂, ◌∙◌, subst, arith, inl, inr, length-append}
use Rattle.std.specs.Prelude.{All, AllPairs, Contains, Option, None, Some, is_some, slice_get, slice_index_or, option_map}
use Rattle.std.specs.Cmp.Lexicographic.{slice_cmp, nat_list_eq_equiv}
use Rattle.std.specs.List.{flat_map, range_with_len, IsDistinct}
use Rattle.std.specs.Ordering.{nat_cmp}
use Rattle.std.specs.Str.{bytes_eq}
use Rattle.std.specs.declared.cmp.Ordering.TheVariants.{Less}
use Rattle.std.proofs.Math.Seq.{take-append_seam}
use Rattle.std.proofs.lemmas.Bool.{cases_lt}
use Rattle.std.proofs.lemmas.List.{get_or_past, get_or-take, length-map, length-take-le}
use Rattle.std.proofs.lemmas.List.Elements.{Contains-append_cases, Contains-append_left, Contains-append_right, Contains-get_or}
use Rattle.std.proofs.lemmas.List.FromFn.{get_or-map-range_with_len, length-map-range_with_len, length-range_with_len}
use Rattle.std.proofs.lemmas.List.Kept.{AllPairs-cons}
use Rattle.std.proofs.lemmas.List.Sorted.{length_permutation, IsPermutation-map}
use Rattle.std.proofs.lemmas.Map.Keys.{apart_from_distinct, IsDistinct-from_apart, IsDistinct-IsPermutation}
use Rattle.std.proofs.lemmas.Option.{get_or_from_slice_get, slice_get-get_or, slice_get-map, slice_get_within}
use Rattle.digraph.proofs.Members.{first_member, first_or_later, later_member, no_member, one_member}
use Rattle.ob_imports.specs.Files.{names_of, File}
use Rattle.ob_imports.specs.Graphs.{ImportGraph}
use Rattle.ob_imports.specs.Numbering.{index_or_len}
use Rattle.ob_imports.specs.Outcomes.{AreFilesOfGraph}
use Rattle.ob_imports.proofs.Places.{place_is}
use Rattle.ob_interface.specs.Interfaces.{ModuleInterface}
use Rattle.module_table.proofs.Elements.{contains_slice, slice_contains, slice_there, some_one}
use Rattle.work_board.proofs.Ordering.{order_has}
use Rattle.work_board.specs.Cores.{entry_at, share_at, shared_part, AreModuleEntries, AreShares, Core}
use Rattle.work_board.specs.Graphs.{list_at, IsNameOrder, Reaches}
use Rattle.board_workers.specs.Parts.{IsJob}
use Rattle.ob_board.specs.BoardGraphs.{modules_of}
use Rattle.ob_board.specs.Reached.{file_of, files_of, interface_in, names, AreReachedInterfaces, IsReachedInterface, HasSameReach, FileModel}
use Rattle.ob_board.proofs.ByName.{apart_pairs, by_pairs, IsBefore}
use Rattle.ob_board.proofs.Chained.{as_many, modules_within, name_of_file}

-- ---- shared parts along an order

module _ {E : Type 0} (shared_of : E → ModuleInterface) (flags : List Bool) (entries : List (Option E)) where
  abbrev shares : List ℕ → List ModuleInterface
  shares order = flat_map (share_at shared_of flags entries) order

  record IsShared (v : ℕ) (i : ModuleInterface) : Type 0 where
    entry : E
    mark : slice_index_or flags v false ≡ true
    there : entry_at entries v ≡ Some entry
    is : shared_of entry ≡ i

  from_share : (mark : Bool) (o : Option E) (i : ModuleInterface) → Contains (shared_part shared_of mark o) i → (mark ≡ true) × (e : E) × (o ≡ Some e) × (shared_of e ≡ i)
  from_share true (Some e) i has = (refl, e, refl, one_member (shared_of e) i has)
  from_share true None i has = no_member i has
  from_share false o i has = no_member i has

  from_shares : (order : List ℕ) (i : ModuleInterface) → Contains (shares order) i → (v : ℕ) × Contains order v × IsShared v i
  from_shares [] i has = no_member i has
  from_shares (v ∷ order) i has = elim (Contains-append_cases (share_at shared_of flags entries v) (shares order) i has) [
    | inl here ↦
        let (mark, e, there, is) = from_share (slice_index_or flags v false) (entry_at entries v) i here in
        (v, first_member v order v refl, record { entry = e; mark = mark; there = there; is = is })
    | inr later ↦ let (w, has_w, s) = from_shares order i later in (w, later_member v order w has_w, s)
  ]

  in_shares : (order : List ℕ) (v : ℕ) (e : E) → Contains order v → slice_index_or flags v false ≡ true → entry_at entries v ≡ Some e → Contains (shares order) (shared_of e)
  in_shares [] v e has mark there = no_member v has
  in_shares (w ∷ order) v e has mark there = elim (first_or_later w order v has) [
    | inl same ↦
        let is : share_at shared_of flags entries w ≡ shared_of e ∷ [] = ap (share_at shared_of flags entries) same ∙ ap₂ (shared_part shared_of) mark there in
        Contains-append_left (share_at shared_of flags entries w) (shares order) (shared_of e) (subst (λ (xs : List ModuleInterface). Contains xs (shared_of e)) (sym is) (first_member (shared_of e) [] (shared_of e) refl))
    | inr later ↦ Contains-append_right (share_at shared_of flags entries w) (shares order) (shared_of e) (in_shares order v e later mark there)
  ]

  few_share : (mark : Bool) (o : Option E) → length (shared_part shared_of mark o) ≤ 1
  few_share true (Some e) = omega arith
  few_share true None = omega arith
  few_share false o = omega arith

  few_shares : (order : List ℕ) → length (shares order) ≤ length order
  few_shares [] = omega arith
  few_shares (v ∷ order) =
      let here : length (share_at shared_of flags entries v) ≤ 1 = few_share (slice_index_or flags v false) (entry_at entries v) in
      let rest : length (shares order) ≤ length order = few_shares order in
      let long : length (shares (v ∷ order)) ≡ length (share_at shared_of flags entries v) + length (shares order) = length-append (share_at shared_of flags entries v) (shares order) in
      omega (arith, here, rest, long)

  -- the reached modules are sorted by name as their numbers are
  module _ (name : ℕ → List ℕ) (named : (v : ℕ) (e : E) → entry_at entries v ≡ Some e → (shared_of e).name ≡ name v) where
    abbrev Ascend : List ℕ → Type 0
    Ascend order = AllPairs (λ v w. slice_cmp nat_cmp (name v) (name w) ≡ Less) order

    name_is : (v : ℕ) (i : ModuleInterface) → IsShared v i → i.name ≡ name v
    name_is v i s = sym (ap (λ (m : ModuleInterface). m.name) s.is) ∙ named v s.entry s.there

    before_all : (v : ℕ) (i : ModuleInterface) → i.name ≡ name v → (order : List ℕ) → Ascend (v ∷ order) → All (IsBefore i) (shares order)
    before_all v i is order ascend k d l =
        let y = get_or (shares order) k d in
        let (w, has, s) = from_shares order y (Contains-get_or (shares order) k d l) in
        let first : slice_cmp nat_cmp (name v) (name (get_or order has.0 w)) ≡ Less = ascend 0 (suc has.0) w (omega arith) (omega (arith, has.1)) in
        let below : slice_cmp nat_cmp (name v) (name w) ≡ Less = subst (λ (x : ℕ). slice_cmp nat_cmp (name v) (name x) ≡ Less) has.2 first in
        ap₂ (slice_cmp nat_cmp) is (name_is w y s) ∙ below

    one_more : (v : ℕ) (order : List ℕ) → Ascend (v ∷ order) → (xs : List ModuleInterface) → length xs ≤ 1 → ((i : ModuleInterface) → Contains xs i → i.name ≡ name v)
        → AllPairs IsBefore (shares order) → AllPairs IsBefore (xs ++ shares order)
    one_more v order ascend [] few own rest = rest
    one_more v order ascend (i ∷ []) few own rest = AllPairs-cons IsBefore i (shares order) (before_all v i (own i (first_member i [] i refl)) order ascend) rest
    one_more v order ascend (i ∷ j ∷ xs) few own rest = absurd (omega (arith, few))

    shares_ascend : (order : List ℕ) → Ascend order → AllPairs IsBefore (shares order)
    shares_ascend [] ascend = λ i j d lt l. absurd (omega (arith, l))
    shares_ascend (v ∷ order) ascend =
        one_more v order ascend (share_at shared_of flags entries v) (few_share (slice_index_or flags v false) (entry_at entries v))
        (λ i has. (let (mark, e, there, is) = from_share (slice_index_or flags v false) (entry_at entries v) i has in name_is v i (record { entry = e; mark = mark; there = there; is = is })))
        (shares_ascend order (λ i j d lt l. ascend (suc i) (suc j) d (omega arith) (omega arith)))

-- ---- the names of a tree by number

-- in the order of names, names are distinct
order_apart : (of : List (List ℕ)) (order : List ℕ) → IsDistinct bytes_eq of → IsNameOrder of order → IsDistinct bytes_eq (map (list_at of) order)
order_apart of order once is =
    let count = length of in
    let here : IsDistinct bytes_eq (map (list_at of) (range_with_len 0 count)) =
    IsDistinct-from_apart bytes_eq (map (list_at of) (range_with_len 0 count)) (λ i j d lt l.
    let below : j < count = omega (arith, l, length-map-range_with_len (list_at of) 0 count) in
    let first = get_or-map-range_with_len (list_at of) 0 count i i d (omega (arith, lt, below)) (omega arith) in
    let second = get_or-map-range_with_len (list_at of) 0 count j j d below (omega arith) in
    ap₂ bytes_eq first second ∙ apart_from_distinct bytes_eq of i j [] once lt below) in
    IsDistinct-IsPermutation bytes_eq nat_list_eq_equiv.symm (map (list_at of) (range_with_len 0 count)) (map (list_at of) order) (IsPermutation-map (list_at of) (range_with_len 0 count) order is.all) here

some_of : {E : Type 0} (o : Option E) → is_some o ≡ true → (e : E) × (o ≡ Some e)
some_of None there = absurd cc
some_of (Some e) there = (e, refl)

module _ (files : List FileModel) (g : ImportGraph) (kept : AreFilesOfGraph (files_of files) g) where
  name_in_files : (k : ℕ) (file : FileModel) → slice_get files k ≡ Some file → slice_get (names_of (files_of files)) k ≡ Some (names file 1)
  name_in_files k file at =
      slice_get-map (λ (f : File). f.name) (files_of files) k ∙ ap (option_map (λ (f : File). f.name)) (slice_get-map file_of files k ∙ ap (option_map file_of) at)

  -- no two files have modules of one name
  pub same_place : (k j : ℕ) (file other : FileModel) → slice_get files k ≡ Some file → slice_get files j ≡ Some other → names other 1 ≡ names file 1 → j ≡ k
  same_place k j file other at there named =
      let from_files = names_of (files_of files) in
      let one : index_or_len from_files (names file 1) ≡ k = place_is from_files (names file 1) k kept.are_files.differ (name_in_files k file at) in
      let two : index_or_len from_files (names other 1) ≡ j = place_is from_files (names other 1) j kept.are_files.differ (name_in_files j other there) in
      sym two ∙ ap (index_or_len from_files) named ∙ one

  pub same_file : (k : ℕ) (file other : FileModel) → slice_get files k ≡ Some file → Contains files other → names other 1 ≡ names file 1 → other ≡ file
  same_file k file other at (j, lt, is) named =
      let at_j : slice_get files j ≡ Some other = slice_get-get_or files j other lt ∙ ap (λ (f : FileModel). Some f) is in
      let both : Some other ≡ Some file = sym at_j ∙ ap (slice_get files) (same_place k j file other at at_j named) ∙ at in
      cc

  -- the names on the board are those of the files
  board_names : (modules_of g).names ≡ names_of (files_of files)
  board_names =
      let from_files = names_of (files_of files) in
      let many : g.modules ≡ length from_files = kept.is_graph.modules ∙ sym (length-map (files_of files) (λ (f : File). f.name)) in
      ap₂ (λ (n : ℕ) (ns : List (List ℕ)). take n ns) many kept.is_graph.nodes.whole ∙ take-append_seam from_files kept.is_graph.nodes.others

  pub order_pairs : (order : List ℕ) → IsNameOrder (modules_of g).names order → AllPairs (λ v w. slice_cmp nat_cmp (list_at (modules_of g).names v) (list_at (modules_of g).names w) ≡ Less) order
  order_pairs order is =
      apart_pairs (list_at (modules_of g).names) order is.ascend (order_apart (modules_of g).names order (subst (IsDistinct bytes_eq) (sym board_names) kept.are_files.differ) is)

module _ {E : Type 0} (is_of : List ℕ → E → Type 0) (shared_of : E → ModuleInterface) (files : List FileModel) (g : ImportGraph) (kept : AreFilesOfGraph (files_of files) g)
    (tells : (n : List ℕ) (e : E) → is_of n e → (file : FileModel) × Contains files file × (names file 1 ≡ n) × (shared_of e ≡ interface_in file)) where
  -- the file of a number of the board
  record IsNumbered (v : ℕ) : Type 0 where
    file : FileModel
    at : slice_get files v ≡ Some file
    named : list_at (modules_of g).names v ≡ names file 1

  board_long : length (modules_of g).names ≡ length files
  board_long = length-take-le g.modules g.names (modules_within files g kept) ∙ as_many files g kept

  numbered : (v : ℕ) → v < length (modules_of g).names → IsNumbered v
  numbered v lt =
      let long = board_long in
      let many = as_many files g kept in
      let below : v < length files = omega arith in
      let (file, at) = slice_there files v below in
      record {
        file = file;
        at = at;
        named = get_or-take g.modules g.names v [] (omega arith) ∙ get_or_from_slice_get g.names v (names file 1) [] (name_of_file files g kept v file at);
      }

  module _ (n : ℕ) (parts : List ModuleInterface) (c : Core E) (size : length c.entries ≡ length (modules_of g).names) (own : AreModuleEntries is_of (modules_of g).names c.entries)
      (all : AreShares shared_of (modules_of g) c n parts) where
    few_parts : length parts ≤ 4096
    few_parts =
        let few : length parts ≤ length all.order = subst (λ (ps : List ModuleInterface). length ps ≤ length all.order) (sym all.parts_are) (few_shares shared_of all.flags c.entries all.order) in
        let long : length all.order ≡ length (modules_of g).names =
        length_permutation (range_with_len 0 (length (modules_of g).names)) all.order all.by_name.all ∙ length-range_with_len 0 (length (modules_of g).names) in
        let files_few : length (files_of files) ≤ 4096 = kept.are_files.few_modules in
        let as_long = length-map files file_of in
        let board = board_long in
        omega arith

    record IsOf (v : ℕ) (e : E) : Type 0 where
      file : FileModel
      at : slice_get files v ≡ Some file
      below : v < length c.entries
      named : (shared_of e).name ≡ list_at (modules_of g).names v
      is : shared_of e ≡ interface_in file

    of : (v : ℕ) (e : E) → entry_at c.entries v ≡ Some e → IsOf v e
    of v e there = elim (cases_lt v (length c.entries)) [
      | inl lt ↦
          let here = numbered v (omega arith) in
          let (other, has, also, interface) = tells (list_at (modules_of g).names v) e (own v e there) in
          let is : shared_of e ≡ interface_in here.file = interface ∙ ap interface_in (same_file files g kept v here.file other here.at has (also ∙ here.named)) in
          record { file = here.file; at = here.at; below = lt; named = ap (λ (m : ModuleInterface). m.name) is ∙ sym here.named; is = is }
      | inr past ↦ absurd (let none : entry_at c.entries v ≡ None = get_or_past c.entries v None past in let bad : None ≡ Some e = sym none ∙ there in cc)
    ]

    module _ (alike : HasSameReach files g) (m : FileModel) (at_n : slice_get files n ≡ Some m) where
      from_part : (i : ModuleInterface) → Contains parts i → IsReachedInterface files (names m 1) i
      from_part i has =
          let (v, in_order, s) = from_shares shared_of all.flags c.entries all.order i (subst (λ (ps : List ModuleInterface). Contains ps i) all.parts_are has) in
          let o = of v s.entry s.there in
          record { file = o.file; is_of_tree = contains_slice files v o.file o.at; is_reached = (alike n v m o.file at_n o.at).0 ((all.reached v o.below).0 s.mark); is = sym o.is ∙ s.is }

      to_part : (i : ModuleInterface) → IsReachedInterface files (names m 1) i → Contains parts i
      to_part i r =
          let (v, at) = slice_contains files r.file r.is_of_tree in
          let long = board_long in
          let inside : v < length files = slice_get_within files v r.file at in
          let lt : v < length (modules_of g).names = omega arith in
          let reach : Reaches (modules_of g).imports n v = (alike n v m r.file at_n at).1 r.is_reached in
          let (e, there) = some_of (entry_at c.entries v) (all.there v reach) in
          let o = of v e there in
          let same : o.file ≡ r.file = some_one o.file r.file (sym o.at ∙ at) in
          let has = in_shares shared_of all.flags c.entries all.order v e (order_has (modules_of g).names all.order all.by_name v lt) ((all.reached v o.below).1 reach) there in
          subst (λ (ps : List ModuleInterface). Contains ps i) (sym all.parts_are) (subst (Contains (flat_map (share_at shared_of all.flags c.entries) all.order)) (o.is ∙ ap interface_in same ∙ r.is) has)

      by_name : AllPairs IsBefore parts
      by_name =
          subst (AllPairs IsBefore) (sym all.parts_are)
          (shares_ascend shared_of all.flags c.entries (list_at (modules_of g).names) (λ v e there. (of v e there).named) all.order (order_pairs files g kept all.order all.by_name))

  pub few_reached : (n : ℕ) (parts : List ModuleInterface) → IsJob is_of shared_of (modules_of g) n parts → length parts ≤ 4096
  few_reached n parts (within, (c, size, own, all)) = few_parts n parts c size own all

  pub parts_reached : HasSameReach files g → (n : ℕ) (parts : List ModuleInterface) (m : FileModel) → slice_get files n ≡ Some m → IsJob is_of shared_of (modules_of g) n parts → AreReachedInterfaces files (names m 1) parts
  parts_reached alike n parts m at_n (within, (c, size, own, all)) = record {
    exact = λ i. (from_part n parts c size own all alike m at_n i, to_part n parts c size own all alike m at_n i);
    by_name = by_pairs parts (by_name n parts c size own all alike m at_n);
  }
