-- Look-up by name in an interface, and the entries of the table that declare the name.
use Rattle.std.proofs.Common.{◌≡◌, ℕ, zero, suc, ◌<◌, ◌≤◌, List, [], ◌∷◌, get_or, Bool, true, false, cond, Option, Some, None, refl, sym, ap, ◌∙◌, subst, arith, ◌⊎◌, inl, inr}
use Rattle.std.specs.Prelude.{◌↔◌, Contains, find, nat_eq, slice_get, ◌==◌}
use Rattle.std.specs.List.{cons_option, filter_map}
use Rattle.std.specs.Option.{option_and_then, option_eq, option_map_or}
use Rattle.std.specs.Str.{bytes_eq}
use Rattle.std.proofs.lemmas.Bool.{cases_lt, eq-eqb, eqb-true}
use Rattle.std.proofs.lemmas.Option.{get_or_from_slice_get, slice_get-get_or, slice_get_within}
use Rattle.std.proofs.lemmas.Slice.Eq.{bytes_eq-Decides}
use Rattle.ob_scan.specs.declared.token.Token.{Token}
use Rattle.ob_scan.specs.Texts.{text_at}
use Rattle.module_table.specs.declared.rows.DeclGroup.{DeclGroup}
use Rattle.module_table.specs.declared.rows.Declared.{Declared}
use Rattle.module_table.specs.Order.{AreRowsSorted, IsIncreasingBy, HasNoneBy, IsIndexBy}
use Rattle.module_table.specs.Parts.{Rows}
use Rattle.module_table.proofs.SearchResult.{none_among}
use Rattle.ob_interface.specs.Interfaces.{declaration, declaration_by, declaration_of, interface_of, is_module_level, is_exportable, module_level_by, Declaration}
use Rattle.ob_interface.specs.OwnTable.{Declares, IsFirstDeclared}
use Rattle.ob_interface.specs.Placed.{declaration_at, is_member, index_of}
use Rattle.ob_interface.proofs.Made.{both_true, left, option_is, right, same_option}
use Rattle.ob_interface.proofs.Ranks.{find_first}

-- ---- the first that passes, of a list whose numbers ascend

module _ {X : Type 0} (n : X → ℕ) (p : X → Bool) where
  record IsFirstPassing (xs : List X) (x : X) : Type 0 where
    among : Contains xs x
    passes : p x ≡ true
    first : (y : X) → Contains xs y → p y ≡ true → n x ≤ n y

  abbrev IsFound : List X → Option X → Type 0
  IsFound xs None = (y : X) → Contains xs y → p y ≡ true → ⊥
  IsFound xs (Some x) = IsFirstPassing xs x

  at_place : (xs : List X) (y : X) → Contains xs y → (k : ℕ) × (slice_get xs k ≡ Some y)
  at_place xs y has = (has.0, slice_get-get_or xs has.0 y has.1 ∙ ap Some has.2)

  of_place : (xs : List X) (k : ℕ) (y : X) → slice_get xs k ≡ Some y → Contains xs y
  of_place xs k y at = (k, slice_get_within xs k y at, get_or_from_slice_get xs k y y at)

  head_or_later : (x y : X) (xs : List X) → IsIncreasingBy n (x ∷ xs) → Contains (x ∷ xs) y → (x ≡ y) ⊎ (Contains xs y × (n x < n y))
  head_or_later x y xs up has = go (at_place (x ∷ xs) y has)
    where
      go : (k : ℕ) × (slice_get (x ∷ xs) k ≡ Some y) → (x ≡ y) ⊎ (Contains xs y × (n x < n y))
      go (zero, at) = inl cc
      go (suc k, at) = inr (of_place xs k y at, up zero (suc k) x y (omega arith) refl at)

  later : (x y : X) (xs : List X) → Contains xs y → Contains (x ∷ xs) y
  later x y xs has = let at = at_place xs y has in of_place (x ∷ xs) (suc at.0) y at.1

  -- one that doesn't pass is gone by
  gone_by : (x : X) (xs : List X) (r : Option X) → IsIncreasingBy n (x ∷ xs) → p x ≡ false → IsFound xs r → IsFound (x ∷ xs) r
  gone_by x xs None up fails none = λ y has passes. elim (head_or_later x y xs up has) [
    | inl e ↦ (let bad : false ≡ true = sym fails ∙ ap p e ∙ passes in cc)
    | inr h ↦ none y h.0 passes
  ]
  gone_by x xs (Some z) up fails found = record {
    among = later x z xs found.among;
    passes = found.passes;
    first = λ y has passes. elim (head_or_later x y xs up has) [
      | inl e ↦ (let bad : false ≡ true = sym fails ∙ ap p e ∙ passes in absurd cc)
      | inr h ↦ found.first y h.0 passes
    ];
  }

  is_found : (xs : List X) → IsIncreasingBy n xs → IsFound xs (find p xs)
  is_found [] up = λ y has passes. let within = has.1 in absurd (omega arith)
  is_found (x ∷ xs) up = step (p x) refl (is_found xs (λ i j y z l at_y at_z. up (suc i) (suc j) y z (omega arith) at_y at_z))
    where
      step : (b : Bool) → p x ≡ b → IsFound xs (find p xs) → IsFound (x ∷ xs) (cond b (Some x) (find p xs))
      step true e rest = record {
        among = of_place (x ∷ xs) zero x refl;
        passes = e;
        first = λ y has passes. elim (head_or_later x y xs up has) [
          | inl same ↦ (let level = ap n same in omega arith)
          | inr h ↦ (let above = h.1 in omega arith)
        ];
      }
      step false e rest = gone_by x xs (find p xs) up e rest

  -- elements of one number are one
  one_number : (xs : List X) (x y : X) → IsIncreasingBy n xs → Contains xs x → Contains xs y → n x ≡ n y → x ≡ y
  one_number xs x y up has_x has_y level = go (at_place xs x has_x) (at_place xs y has_y)
    where
      go : (i : ℕ) × (slice_get xs i ≡ Some x) → (j : ℕ) × (slice_get xs j ≡ Some y) → x ≡ y
      go (i, at_x) (j, at_y) = elim (cases_lt i j) [
        | inl below ↦ (let less = up i j x y below at_x at_y in absurd (omega arith))
        | inr not_below ↦ elim (cases_lt j i) [
          | inl above ↦ (let less = up j i y x above at_y at_x in absurd (omega arith))
          | inr not_above ↦ (let same : i ≡ j = omega arith in
              let e : Some x ≡ Some y = sym at_x ∙ ap (slice_get xs) same ∙ at_y in
              cc)
        ]
      ]

  -- the first element that passes the test is the one that is found
  found_first : (xs : List X) (x : X) → IsIncreasingBy n xs → IsFirstPassing xs x → find p xs ≡ Some x
  found_first xs x up is = go (find p xs) (is_found xs up)
    where
      go : (r : Option X) → IsFound xs r → r ≡ Some x
      go None none = absurd (none x is.among is.passes)
      go (Some y) found =
          let below = is.first y found.among found.passes in
          let above = found.first x is.among is.passes in
          ap Some (one_number xs y x up found.among is.among (omega arith))

-- what is found of what is made of a list
module _ {X Y : Type 0} (h : X → Option Y) (p : Y → Bool) where
  abbrev gives : X → Bool
  gives x = option_map_or p (h x) false

  found_made : (xs : List X) → find p (filter_map h xs) ≡ option_and_then h (find gives xs)
  found_made [] = refl
  found_made (x ∷ xs) = made (h x) refl (found_made xs)
    where
      passed : (y : Y) (b : Bool) → h x ≡ Some y → find p (filter_map h xs) ≡ option_and_then h (find gives xs)
          → cond b (Some y) (find p (filter_map h xs)) ≡ option_and_then h (cond b (Some x) (find gives xs))
      passed y true e rest = sym e
      passed y false e rest = rest

      made : (o : Option Y) → h x ≡ o → find p (filter_map h xs) ≡ option_and_then h (find gives xs)
          → find p (cons_option o (filter_map h xs)) ≡ option_and_then h (cond (option_map_or p o false) (Some x) (find gives xs))
      made None e rest = rest
      made (Some y) e rest = passed y (p y) e rest

-- ---- the construct of the module's block that begins with a token

module _ (ds : List DeclGroup) (ordered : IsIncreasingBy (λ (d : DeclGroup). d.first) ds) where
  construct_is : (k : ℕ) (by : DeclGroup) → module_level_by ds k ≡ Some by → Contains ds by × (by.block ≡ 0) × (by.first ≡ k)
  construct_is k by at =
      let found = is_found (λ (d : DeclGroup). d.first) (is_module_level k) ds ordered in
      let first = subst (IsFound (λ (d : DeclGroup). d.first) (is_module_level k) ds) at found in
      (first.among, eqb-true by.block 0 (left (by.block == 0) (by.first == k) first.passes), eqb-true by.first k (right (by.block == 0) (by.first == k) first.passes))

  is_construct : (k : ℕ) (by : DeclGroup) → Contains ds by → by.block ≡ 0 → by.first ≡ k → module_level_by ds k ≡ Some by
  is_construct k by has block first = found_first (λ (d : DeclGroup). d.first) (is_module_level k) ds by ordered (record {
    among = has;
    passes = both_true (by.block == 0) (by.first == k) (eq-eqb by.block 0 block) (eq-eqb by.first k first);
    first = λ d among passes. let same : d.first ≡ k = eqb-true d.first k (right (d.block == 0) (d.first == k) passes) in omega arith;
  })

  -- the group that begins with this token isn't in the module's block
  no_construct : (k : ℕ) (by : DeclGroup) → Contains ds by → (by.block ≡ 0 → ⊥) → by.first ≡ k → module_level_by ds k ≡ None
  no_construct k by has inside first = go (module_level_by ds k) refl
    where
      go : (o : Option DeclGroup) → module_level_by ds k ≡ o → o ≡ None
      go None at = refl
      go (Some other) at =
          let (among, block, begins) = construct_is k other at in
          let same : by ≡ other = one_number (λ (d : DeclGroup). d.first) (is_module_level k) ds by other ordered has among (first ∙ sym begins) in
          absurd (inside (ap (λ (d : DeclGroup). d.block) same ∙ block))

  -- no group begins with this token
  pub none_begins : (k : ℕ) → HasNoneBy (λ (d : DeclGroup). d.first) ds k → module_level_by ds k ≡ None
  none_begins k none = go (module_level_by ds k) refl
    where
      go : (o : Option DeclGroup) → module_level_by ds k ≡ o → o ≡ None
      go None at = refl
      go (Some by) at =
          let (among, block, begins) = construct_is k by at in
          absurd (none_among (λ (d : DeclGroup). d.first) ds k none by among begins)

  -- the entry with the found index, if its group begins with this token
  pub outer_read : (k at : ℕ) (d : DeclGroup) → IsIndexBy (λ (x : DeclGroup). x.first) ds k at → (get_or ds at d).block ≡ 0 → Some (get_or ds at d) ≡ module_level_by ds k
  outer_read k at d found block =
      let same : get_or ds at d ≡ found.element = get_or_from_slice_get ds at found.element d found.there in
      let there = of_place (λ (x : DeclGroup). x.first) (is_module_level k) ds at found.element found.there in
      ap Some same ∙ sym (is_construct k found.element there (ap (λ (x : DeclGroup). x.block) (sym same) ∙ block) found.has)

  pub inner_read : (k at : ℕ) (d : DeclGroup) → IsIndexBy (λ (x : DeclGroup). x.first) ds k at → ((get_or ds at d).block ≡ 0 → ⊥) → None ≡ module_level_by ds k
  inner_read k at d found inside =
      let same : get_or ds at d ≡ found.element = get_or_from_slice_get ds at found.element d found.there in
      let there = of_place (λ (x : DeclGroup). x.first) (is_module_level k) ds at found.element found.there in
      sym (no_construct k found.element there (λ block. inside (ap (λ (x : DeclGroup). x.block) same ∙ block)) found.has)

-- ---- the entries that declare a name

module _ (bytes : List ℕ) (ts : List Token) (rows : Rows) (of_record : Option ℕ) (name : List ℕ) (ordered : AreRowsSorted rows) where
  abbrev told_of : Declared → Option Declaration
  told_of row = declaration_of bytes ts rows row

  abbrev fits : Declared → Bool
  fits row = gives told_of (is_member of_record name) row

  -- an entry of the table with its declaration group, as part of the interface
  record IsToldBy (row : Declared) (by : DeclGroup) : Type 0 where
    declares : Declares bytes ts rows of_record name row by
    exact : told_of row ≡ Some (declaration bytes ts rows.parts row by)

  fits_told : (row : Declared) → Contains rows.declared row → fits row ≡ true → (by : DeclGroup) × IsToldBy row by
  fits_told row has fit = construct (module_level_by rows.decl_groups row.declared_by) refl fit
    where
      seen : (by : DeclGroup) (b : Bool) → module_level_by rows.decl_groups row.declared_by ≡ Some by → is_exportable by.decl_kind ≡ b
          → option_map_or (is_member of_record name) (cond b (Some (declaration bytes ts rows.parts row by)) None) false ≡ true → IsToldBy row by
      seen by false at e fit = absurd cc
      seen by true at e fit =
          let (among, block, first) = construct_is rows.decl_groups ordered.decl_groups row.declared_by by at in
          let in_record = left (option_eq nat_eq by.of_record of_record) (bytes_eq (text_at bytes ts row.number) name) fit in
          let named = right (option_eq nat_eq by.of_record of_record) (bytes_eq (text_at bytes ts row.number) name) fit in
          record {
            declares = record {
              is_row = has;
              is_construct = among;
              begins = first;
              in_block = block;
              seen = e;
              in_record = option_is by.of_record of_record in_record;
              named = (bytes_eq-Decides (text_at bytes ts row.number) name).0 named;
            };
            exact = ap (declaration_by bytes ts rows.parts row) at ∙ ap (λ (b : Bool). cond b (Some (declaration bytes ts rows.parts row by)) None) e;
          }

      construct : (o : Option DeclGroup) → module_level_by rows.decl_groups row.declared_by ≡ o → option_map_or (is_member of_record name) (declaration_by bytes ts rows.parts row o) false ≡ true
          → (by : DeclGroup) × IsToldBy row by
      construct None at fit = absurd cc
      construct (Some by) at fit = (by, seen by (is_exportable by.decl_kind) at refl fit)

  told_by : (row : Declared) (by : DeclGroup) → Declares bytes ts rows of_record name row by → told_of row ≡ Some (declaration bytes ts rows.parts row by)
  told_by row by is =
      ap (declaration_by bytes ts rows.parts row) (is_construct rows.decl_groups ordered.decl_groups row.declared_by by is.is_construct is.in_block is.begins)
      ∙ ap (λ (b : Bool). cond b (Some (declaration bytes ts rows.parts row by)) None) is.seen

  told_fits : (row : Declared) (by : DeclGroup) → Declares bytes ts rows of_record name row by → fits row ≡ true
  told_fits row by is =
      let same = subst (λ (r : Option ℕ). option_eq nat_eq by.of_record r ≡ true) is.in_record (same_option by.of_record) in
      ap (λ (o : Option Declaration). option_map_or (is_member of_record name) o false) (told_by row by is)
      ∙ both_true (option_eq nat_eq by.of_record of_record) (bytes_eq (text_at bytes ts row.number) name) same ((bytes_eq-Decides (text_at bytes ts row.number) name).1 is.named)

  abbrev IsFoundRow : Option Declared → Type 0
  IsFoundRow r = IsFound (λ (d : Declared). d.number) fits rows.declared r

  abbrev looked_up : Option Declaration
  looked_up = option_and_then (declaration_at (interface_of bytes ts rows)) (index_of (interface_of bytes ts rows) of_record name)

  by_rows : looked_up ≡ option_and_then told_of (find fits rows.declared)
  by_rows = sym (find_first (is_member of_record name) (filter_map told_of rows.declared)) ∙ found_made told_of (is_member of_record name) rows.declared

  first_told : (r : Option Declared) (d : Declaration) → IsFoundRow r → option_and_then told_of r ≡ Some d → IsFirstDeclared bytes ts rows of_record name d
  first_told None d found e = absurd cc
  first_told (Some row) d found e =
      let (by, is) = fits_told row found.among found.passes in
      let same : Some d ≡ Some (declaration bytes ts rows.parts row by) = sym e ∙ is.exact in
      record { row = row; by = by; declares = is.declares; first = λ other its h. found.first other h.is_row (told_fits other its h); exact = cc }

  pub found_rows : (d : Declaration) → looked_up ≡ Some d ↔ IsFirstDeclared bytes ts rows of_record name d
  found_rows d = (
    (λ e. first_told (find fits rows.declared) d (is_found (λ (r : Declared). r.number) fits rows.declared ordered.declared) (sym by_rows ∙ e)),
    (λ is.
        let first : find fits rows.declared ≡ Some is.row = found_first (λ (r : Declared). r.number) fits rows.declared is.row ordered.declared (record {
          among = is.declares.is_row;
          passes = told_fits is.row is.by is.declares;
          first = λ other among passes. let exact = fits_told other among passes in is.first other exact.0 exact.1.declares;
        }) in
        by_rows ∙ ap (option_and_then told_of) first ∙ told_by is.row is.by is.declares ∙ ap Some (sym is.exact)),
  )

  none_told : (r : Option Declared) → IsFoundRow r → option_and_then told_of r ≡ None → (row : Declared) (by : DeclGroup) → Declares bytes ts rows of_record name row by → ⊥
  none_told None found e row by is = found row is.is_row (told_fits row by is)
  none_told (Some other) found e row by is =
      let (its, exact) = fits_told other found.among found.passes in
      let bad : Some (declaration bytes ts rows.parts other its) ≡ None = sym exact.exact ∙ e in
      cc

  nothing_told : ((row : Declared) (by : DeclGroup) → Declares bytes ts rows of_record name row by → ⊥) → (r : Option Declared) → IsFoundRow r → option_and_then told_of r ≡ None
  nothing_told none None found = refl
  nothing_told none (Some row) found = let (by, exact) = fits_told row found.among found.passes in absurd (none row by exact.declares)

  pub no_row : looked_up ≡ None ↔ ((row : Declared) (by : DeclGroup) → Declares bytes ts rows of_record name row by → ⊥)
  no_row =
      let found = is_found (λ (r : Declared). r.number) fits rows.declared ordered.declared in
      ((λ e. none_told (find fits rows.declared) found (sym by_rows ∙ e)), (λ none. by_rows ∙ nothing_told none (find fits rows.declared) found))
