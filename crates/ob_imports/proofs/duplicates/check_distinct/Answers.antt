-- No two adjacent names of the sorted list are equal, or the first two that are.
use Rattle.std.proofs.Common.{◌≡◌, ℕ, ◌+◌, ◌<◌, ◌≤◌, List, [], get_or, length, ◌∙◌, arith, subst}
use Rattle.std.specs.Prelude.{IsPermutation}
use Rattle.std.specs.String.{string_bytes}
use Rattle.std.proofs.lemmas.List.{length-map}
use Rattle.std.proofs.lemmas.List.Sorted.{length_permutation}
use Rattle.ob_imports.specs.Files.{files_of, file_of, names_of, paths_of}
use Rattle.ob_imports.specs.Names.{IsFirstRepeat, texts}
use Rattle.ob_imports.proofs.SameNames.{differ_unless_alike, is_two, many_paths, text_at}
use Rattle.ob_imports.proofs.duplicates.check_distinct.Goals as goal

pub returns-in_default-clause-differ : goal.returns-in_default-clause-differ
returns-in_default-clause-differ c =
    let names = c.sort_strings.new.names.items in
    let long : length (texts names) ≡ length names = length-map names string_bytes in
    let none = rw c.as_slice.ensures.value at c.in_default.ensures.none in
    differ_unless_alike (files_of c.args.parsed.now) (texts names) (rw c.in_ok-names.ensures at c.sort_strings.ensures.same) c.sort_strings.ensures.in_order (λ k l. none k (omega arith))

pub index-requires-2 : goal.index-requires-2
index-requires-2 c =
    let names = c.sort_strings.new.names.items in
    let paths = c.sort_strings-2.new.names.items in
    let p = c.in-Some.place in
    let files = files_of c.args.parsed.now in
    let long : length (texts names) ≡ length names = length-map names string_bytes in
    let long_paths : length (texts paths) ≡ length paths = length-map paths string_bytes in
    let first : IsFirstRepeat (texts names) p = rw c.as_slice.ensures.value at c.in-Some.ensures.found in
    let within : p + 1 < length (texts names) = first.within in
    let moved : IsPermutation (names_of files) (texts names) = rw c.in_ok-names.ensures at c.sort_strings.ensures.same in
    let name : string_bytes c.in_ok-name.name ≡ get_or (texts names) p [] = c.in_ok-name.ensures.ok ∙ c.as_str.ensures.value ∙ text_at names p c.index.result.now (omega arith) c.index.ensures in
    let asked : c.as_str-2.result.now ≡ get_or (texts names) p [] = c.as_str-2.ensures.value ∙ name in
    let paths_moved : IsPermutation (paths_of files (get_or (texts names) p [])) (texts paths) =
    subst (λ (n : List ℕ). IsPermutation (paths_of files n) (texts paths)) asked (rw c.in_ok-paths.ensures at c.sort_strings-2.ensures.same) in
    let many : 2 ≤ length (paths_of files (get_or (texts names) p [])) = many_paths files (texts names) p moved first in
    let same : length (texts paths) ≡ length (paths_of files (get_or (texts names) p [])) = length_permutation _ _ paths_moved in
    let ok = c.sort_strings-2.new.names.ok in
    omega arith

pub index-requires-3 : goal.index-requires-3
index-requires-3 c =
    let names = c.sort_strings.new.names.items in
    let paths = c.sort_strings-2.new.names.items in
    let p = c.in-Some.place in
    let files = files_of c.args.parsed.now in
    let long : length (texts names) ≡ length names = length-map names string_bytes in
    let long_paths : length (texts paths) ≡ length paths = length-map paths string_bytes in
    let first : IsFirstRepeat (texts names) p = rw c.as_slice.ensures.value at c.in-Some.ensures.found in
    let within : p + 1 < length (texts names) = first.within in
    let moved : IsPermutation (names_of files) (texts names) = rw c.in_ok-names.ensures at c.sort_strings.ensures.same in
    let name : string_bytes c.in_ok-name.name ≡ get_or (texts names) p [] = c.in_ok-name.ensures.ok ∙ c.as_str.ensures.value ∙ text_at names p c.index.result.now (omega arith) c.index.ensures in
    let asked : c.as_str-2.result.now ≡ get_or (texts names) p [] = c.as_str-2.ensures.value ∙ name in
    let paths_moved : IsPermutation (paths_of files (get_or (texts names) p [])) (texts paths) =
    subst (λ (n : List ℕ). IsPermutation (paths_of files n) (texts paths)) asked (rw c.in_ok-paths.ensures at c.sort_strings-2.ensures.same) in
    let many : 2 ≤ length (paths_of files (get_or (texts names) p [])) = many_paths files (texts names) p moved first in
    let same : length (texts paths) ≡ length (paths_of files (get_or (texts names) p [])) = length_permutation _ _ paths_moved in
    let ok = c.sort_strings-2.new.names.ok in
    omega arith

pub returns-clause-fault : goal.returns-clause-fault
returns-clause-fault c =
    let names = c.sort_strings.new.names.items in
    let paths = c.sort_strings-2.new.names.items in
    let p = c.in-Some.place in
    let files = files_of c.args.parsed.now in
    let long : length (texts names) ≡ length names = length-map names string_bytes in
    let long_paths : length (texts paths) ≡ length paths = length-map paths string_bytes in
    let count : length files ≡ length c.args.parsed.now = length-map c.args.parsed.now file_of in
    let few = c.requires.few in
    let first : IsFirstRepeat (texts names) p = rw c.as_slice.ensures.value at c.in-Some.ensures.found in
    let within : p + 1 < length (texts names) = first.within in
    let moved : IsPermutation (names_of files) (texts names) = rw c.in_ok-names.ensures at c.sort_strings.ensures.same in
    let name : string_bytes c.in_ok-name.name ≡ get_or (texts names) p [] = c.in_ok-name.ensures.ok ∙ c.as_str.ensures.value ∙ text_at names p c.index.result.now (omega arith) c.index.ensures in
    let asked : c.as_str-2.result.now ≡ get_or (texts names) p [] = c.as_str-2.ensures.value ∙ name in
    let paths_moved : IsPermutation (paths_of files (get_or (texts names) p [])) (texts paths) =
    subst (λ (n : List ℕ). IsPermutation (paths_of files n) (texts paths)) asked (rw c.in_ok-paths.ensures at c.sort_strings-2.ensures.same) in
    let many : 2 ≤ length (paths_of files (get_or (texts names) p [])) = many_paths files (texts names) p moved first in
    let same : length (texts paths) ≡ length (paths_of files (get_or (texts names) p [])) = length_permutation _ _ paths_moved in
    let one : string_bytes c.in_ok-first_path.first_path ≡ get_or (texts paths) 0 [] = c.in_ok-first_path.ensures.ok ∙ c.as_str-3.ensures.value ∙ text_at paths 0 c.index-2.result.now (omega arith) c.index-2.ensures in
    let two : string_bytes c.in_ok-second_path.second_path ≡ get_or (texts paths) 1 [] = c.in_ok-second_path.ensures.ok ∙ c.as_str-4.ensures.value ∙ text_at paths 1 c.index-3.result.now (omega arith) c.index-3.ensures in
    rw (name, one, two) (is_two files (texts names) (texts paths) p (omega arith) moved c.sort_strings.ensures.in_order first paths_moved c.sort_strings-2.ensures.in_order (omega arith))
