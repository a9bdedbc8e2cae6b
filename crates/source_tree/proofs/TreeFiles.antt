-- Files that are read one after another.
use Rattle.std.proofs.Common.{◌≡◌, ℕ, zero, suc, ◌+◌, ◌<◌, List, [], ◌∷◌, ◌++◌, length, get_or, map, take, Some, refl, sym, ap, ◌∙◌, subst, add-one, length-append, arith}
use Rattle.std.specs.Prelude.{String, slice_get, option_map}
use Rattle.std.specs.String.{string_bytes}
use Rattle.std.proofs.Math.Seq.{take-length, take-suc}
use Rattle.std.proofs.lemmas.List.{length-map, map-append}
use Rattle.std.proofs.lemmas.Option.{get_or_from_slice_get, slice_get-get_or, slice_get-map, slice_get_within}
use Rattle.ob_imports.specs.declared.parsed.Parsed.{Parsed}
use Rattle.ob_imports.specs.Files.{File, file_of as parsed_file, files_of as parsed_files}
use Rattle.ob_imports.specs.Names.{texts}
use Rattle.scopes.specs.declared.module_scopes.Alias.{Alias}
use Rattle.scopes.specs.ScopesInvariant.{alias_of}
use Rattle.module_table.specs.declared.rows.Import.{Import}
use Rattle.scopes.specs.Scoped.{AliasUses, ModuleScopes}
use Rattle.source_tree.specs.Trees.{file_of, files_of, rows, names, IsAccepted, ModuleFile}
use Rattle.source_tree.specs.TreeReading.{AreFilesRead, AreScopesOf}
use Rattle.source_tree.specs.declared.source.Source.{Source}

-- ---- two lists of one length

-- a property of the elements at each index
abbrev pub Each : {X Y : Type 0} → (X → Y → Type 0) → List X → List Y → Type 0
Each {X} {Y} P xs ys = (i : ℕ) (x : X) (y : Y) → slice_get xs i ≡ Some x → slice_get ys i ≡ Some y → P x y

-- and the same for two pairs of lists, one after the other
pub each_joined : {X Y : Type 0} (P : X → Y → Type 0) (xs us : List X) (ys vs : List Y) → length ys ≡ length xs → Each P xs ys → Each P us vs → Each P (xs ++ us) (ys ++ vs)
each_joined P [] us [] vs e p q i a b at_a at_b = q i a b at_a at_b
each_joined P [] us (y ∷ ys) vs e p q i a b at_a at_b = absurd (omega arith)
each_joined P (x ∷ xs) us [] vs e p q i a b at_a at_b = absurd (omega arith)
each_joined P (x ∷ xs) us (y ∷ ys) vs e p q zero a b at_a at_b = p zero a b at_a at_b
each_joined P (x ∷ xs) us (y ∷ ys) vs e p q (suc i) a b at_a at_b = each_joined P xs us ys vs (omega arith) (λ j c d r s. p (suc j) c d r s) q i a b at_a at_b

pub longer : {X Y : Type 0} (xs us : List X) (ys vs : List Y) → length xs ≡ length ys → length us ≡ length vs → length (xs ++ us) ≡ length (ys ++ vs)
longer xs us ys vs e f = length-append xs us ∙ ap (λ (n : ℕ). n + length us) e ∙ ap (λ (n : ℕ). length ys + n) f ∙ sym (length-append ys vs)

pub same_maps : {X Y Z : Type 0} (f : X → Z) (g : Y → Z) (xs : List X) (ys : List Y) → length xs ≡ length ys → Each (λ x y. f x ≡ g y) xs ys → map f xs ≡ map g ys
same_maps f g [] [] e h = refl
same_maps f g [] (y ∷ ys) e h = absurd (omega arith)
same_maps f g (x ∷ xs) [] e h = absurd (omega arith)
same_maps {X} {Y} f g (x ∷ xs) (y ∷ ys) e h =
    let rest = same_maps f g xs ys (omega arith) (λ i a b p q. h (suc i) a b p q) in
    rw (h zero x y refl refl, rest) refl

pub there : {X : Type 0} (xs : List X) (i : ℕ) → i < length xs → (x : X) × (slice_get xs i ≡ Some x)
there [] i l = absurd (omega arith)
there (x ∷ xs) zero l = (x, refl)
there (x ∷ xs) (suc i) l = there xs i (omega arith)

pub take_at : {X : Type 0} (xs : List X) (i : ℕ) (x : X) → slice_get xs i ≡ Some x → take (i + 1) xs ≡ take i xs ++ x ∷ []
take_at {X} xs i x e =
    ap (λ (n : ℕ). take n xs) (add-one i) ∙ take-suc xs i x (slice_get_within xs i x e)
    ∙ ap (λ (y : X). take i xs ++ y ∷ []) (get_or_from_slice_get xs i x x e)

pub at_item : {X : Type 0} (xs : List X) (i : ℕ) (x : X) → i < length xs → x ≡ get_or xs i x → slice_get xs i ≡ Some x
at_item xs i x l e = slice_get-get_or xs i x l ∙ ap Some (sym e)

---- the input of the import graph

-- the entry of a file for the import graph
pub same_file : (source : Source) (file : ModuleFile) (s : ModuleScopes) (p : Parsed) → string_bytes p.path ≡ string_bytes source.path → string_bytes p.name ≡ s.name →
    texts p.imports.items ≡ map (λ (a : AliasUses). a.imported) s.aliases → IsAccepted source file → AreScopesOf file s → parsed_file p ≡ file_of file
same_file source file s p path name imports accepted scoped = λ k. record { path = same_path k; name = same_name k; imports = same_imports k }
  where
    same_path : string_bytes p.path ≡ file.path
    same_path = path ∙ sym accepted.path_is

    same_name : string_bytes p.name ≡ names file 1
    same_name = name ∙ scoped.name

    same_imports : texts p.imports.items ≡ map (λ (i : Import). names file i.imported) (rows file).imports
    same_imports = imports ∙ same_maps (λ (a : AliasUses). a.imported) (λ (i : Import). names file i.imported) s.aliases (rows file).imports scoped.aliased.as_many
        (λ i a item p q. (scoped.aliased.each i item a q p).imported)

-- one more alias
pub alias_next : {Z : Type 0} (rows : List Alias) (aliases : List AliasUses) (i : ℕ) (row : Alias) (ns : List (String Z)) (n : String Z) → map alias_of rows ≡ aliases → i < length rows →
    row ≡ get_or rows i row → string_bytes n ≡ string_bytes row.«module» → texts ns ≡ map (λ (a : AliasUses). a.imported) (take i aliases) →
    texts (ns ++ n ∷ []) ≡ map (λ (a : AliasUses). a.imported) (take (i + 1) aliases)
alias_next rows aliases i row ns n all l is name so_far =
    let at_row : slice_get (map alias_of rows) i ≡ Some (alias_of row) = slice_get-map alias_of rows i ∙ ap (option_map alias_of) (at_item rows i row l is) in
    let at : slice_get aliases i ≡ Some (alias_of row) = subst (λ (xs : List AliasUses). slice_get xs i ≡ Some (alias_of row)) all at_row in
    map-append string_bytes ns (n ∷ []) ∙ ap (λ (xs : List (List ℕ)). xs ++ string_bytes n ∷ []) so_far
    ∙ ap (λ (x : List ℕ). map (λ (a : AliasUses). a.imported) (take i aliases) ++ x ∷ []) name
    ∙ sym (map-append (λ (a : AliasUses). a.imported) (take i aliases) (alias_of row ∷ []))
    ∙ ap (map (λ (a : AliasUses). a.imported)) (sym (take_at aliases i (alias_of row) at))

-- one more file for the import graph
pub parsed_next : (sources : List Source) (ss : List ModuleScopes) (files : List ModuleFile) (ps : List Parsed) (p : Parsed) (i : ℕ) (source : Source) (s : ModuleScopes) →
    AreFilesRead sources files ss → i < length sources → slice_get sources i ≡ Some source → slice_get ss i ≡ Some s →
    ((file : ModuleFile) → IsAccepted source file → AreScopesOf file s → parsed_file p ≡ file_of file) →
    parsed_files ps ≡ take i (files_of files) → parsed_files (ps ++ p ∷ []) ≡ take (i + 1) (files_of files)
parsed_next sources ss files ps p i source s read l at_source at_scopes message so_far =
    let many = read.accepted.as_many in
    let (file, at_file) = there files i (omega arith) in
    let is : parsed_file p ≡ file_of file = message file (read.accepted.each i source file at_source at_file) (read.each i file s at_file at_scopes) in
    let at : slice_get (files_of files) i ≡ Some (file_of file) = slice_get-map file_of files i ∙ ap (option_map file_of) at_file in
    map-append parsed_file ps (p ∷ []) ∙ ap (λ (fs : List File). fs ++ parsed_file p ∷ []) so_far
    ∙ ap (λ (f : File). take i (files_of files) ++ f ∷ []) is ∙ sym (take_at (files_of files) i (file_of file) at)

-- all files for the import graph
pub parsed_all : (sources : List Source) (ss : List ModuleScopes) (files : List ModuleFile) (ps : List Parsed) (i : ℕ) → AreFilesRead sources files ss → i ≡ length sources →
    parsed_files ps ≡ take i (files_of files) → parsed_files ps ≡ files_of files
parsed_all sources ss files ps i read end so_far =
    let many = read.accepted.as_many in
    let long = length-map files file_of in
    let all : i ≡ length (files_of files) = omega arith in
    so_far ∙ ap (λ (n : ℕ). take n (files_of files)) all ∙ take-length (files_of files)
