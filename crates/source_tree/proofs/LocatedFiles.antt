-- The modules of the files of a tree in its network.
use Rattle.std.proofs.Common.{◌≡◌, Bool, true, false, ℕ, ◌<◌, List, [], ◌∷◌, length, map, get_or, Some, None, refl, sym, ap, ◌∙◌, subst, inl, inr, arith}
use Rattle.std.specs.Prelude.{All, Contains, option_map, slice_get}
use Rattle.std.specs.List.{position_or_len}
use Rattle.std.specs.Str.{bytes_eq}
use Rattle.std.proofs.lemmas.Bool.{cases_lt, lt-ltb}
use Rattle.std.proofs.lemmas.List.{length-map}
use Rattle.std.proofs.lemmas.List.Elements.{All-contains, All-from_get_or, All-nil}
use Rattle.std.proofs.lemmas.List.Sums.{fails_before_first}
use Rattle.std.proofs.lemmas.Slice.Eq.{bytes_eq-Decides}
use Rattle.std.proofs.lemmas.Option.{same_Some, slice_get-get_or, slice_get-map, slice_get_cases, slice_get_within}
use Rattle.cut_net.specs.Network.{Network, index_of, name_of}
use Rattle.digraph.proofs.Members.{in_map}
use Rattle.ob_imports.specs.Files.{File, IsNode, names_of}
use Rattle.scopes.specs.Scoped.{ModuleScopes}
use Rattle.source_tree.specs.Located.{AreModulesOf}
use Rattle.source_tree.specs.TreeReading.{AreFilesRead}
use Rattle.source_tree.specs.Trees.{file_of, files_of, names, ModuleFile}
use Rattle.source_tree.specs.declared.source.Source.{Source}
use Rattle.source_tree.proofs.TreeNet.{member_at}

-- a name that the network has is found
pub known : (net : Network) (name : List ℕ) → Contains net.names name → index_of net name ≡ None → ⊥
known net name (k, lt, is) e =
    let test : List ℕ → Bool = λ x. bytes_eq x name in
    elim (cases_lt (position_or_len test net.names) (length net.names)) [
      | inl below ↦ let some : Some (position_or_len test net.names) ≡ None = rw (lt-ltb _ _ below) at e in cc
      | inr above ↦
          let fails : bytes_eq (get_or net.names k name) name ≡ false = fails_before_first test net.names k name (omega arith) in
          let passes : bytes_eq (get_or net.names k name) name ≡ true = (bytes_eq-Decides (get_or net.names k name) name).1 is in
          let both : true ≡ false = sym passes ∙ fails in cc
    ]

module _ (sources : List Source) (files : List ModuleFile) (ss : List ModuleScopes) (read : AreFilesRead sources files ss) where
  -- the scopes at an index are those of the file at that index
  named_at : (i : ℕ) (s : ModuleScopes) → slice_get ss i ≡ Some s → (file : ModuleFile) × (slice_get files i ≡ Some file) × (s.name ≡ names file 1)
  named_at i s e =
      let within = slice_get_within ss i s e in
      let many = read.as_many in
      elim (slice_get_cases files i).1 [
        | inl h ↦ (h.0, h.2, (read.each i h.0 s h.2 e).name)
        | inr h ↦ absurd (omega (arith, h.0))
      ]

  -- each module of the tree has its name among those of the network
  pub all_named : (there : List (List ℕ)) → ((n : List ℕ) → IsNode (files_of files) n → Contains there n) → All (λ (s : ModuleScopes). Contains there s.name) ss
  all_named there node = go ss (λ i s e. one i s e)
    where
      one : (i : ℕ) (s : ModuleScopes) → slice_get ss i ≡ Some s → Contains there s.name
      one i s e =
          let (file, at, name) = named_at i s e in
          subst (Contains there) (sym name) (node (names file 1) (inl (in_map (λ (f : File). f.name) (files_of files) (file_of file) (in_map file_of files file (member_at files i file at)))))

      go : (xs : List ModuleScopes) → ((i : ℕ) (s : ModuleScopes) → slice_get xs i ≡ Some s → Contains there s.name) → All (λ (s : ModuleScopes). Contains there s.name) xs
      go [] all = All-nil _
      go (x ∷ xs) all = All-from_get_or (λ (s : ModuleScopes). Contains there s.name) (x ∷ xs) x (λ i w. all i (get_or (x ∷ xs) i x) (slice_get-get_or (x ∷ xs) i x w))

  -- numbers whose names are the modules' names are those of the modules
  pub modules_of : (net : Network) (modules : List ℕ) → All (λ (m : ℕ). m < length net.names) modules → map (name_of net) modules ≡ map (λ (s : ModuleScopes). s.name) ss → AreModulesOf sources net modules
  modules_of net modules low named = (
    files,
    record {
      accepted = read.accepted;
      as_many = sym (length-map modules (name_of net)) ∙ ap length named ∙ length-map ss (λ (s : ModuleScopes). s.name) ∙ read.as_many;
      each = λ i file m at here. (All-contains (λ (k : ℕ). k < length net.names) modules m low (member_at modules i m here), name_at i file m at here);
    },
  )
    where
      name_at : (i : ℕ) (file : ModuleFile) (m : ℕ) → slice_get files i ≡ Some file → slice_get modules i ≡ Some m → name_of net m ≡ names file 1
      name_at i file m at here =
          let within = slice_get_within files i file at in
          let many = read.as_many in
          elim (slice_get_cases ss i).1 [
            | inl h ↦
                let left : slice_get (map (name_of net) modules) i ≡ Some (name_of net m) = slice_get-map (name_of net) modules i ∙ ap (option_map (name_of net)) here in
                let right : slice_get (map (λ (s : ModuleScopes). s.name) ss) i ≡ Some h.0.name = slice_get-map (λ (s : ModuleScopes). s.name) ss i ∙ ap (option_map (λ (s : ModuleScopes). s.name)) h.2 in
                same_Some (name_of net m) h.0.name (sym left ∙ ap (λ (ns : List (List ℕ)). slice_get ns i) named ∙ right) ∙ (read.each i file h.0 at h.2).name
            | inr h ↦ absurd (omega (arith, h.0))
          ]
