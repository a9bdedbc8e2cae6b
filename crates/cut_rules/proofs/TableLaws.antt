-- Modules that are added to a set.
use Rattle.std.proofs.Common.{◌≡◌, ◌≢◌, ℕ, ◌+◌, ◌<◌, ◌≤◌, ◌⊎◌, inl, inr, true, false, Bool, List, [], ◌∷◌, ◌++◌, length, get_or, set, Option, Some, None, refl, sym, ap, ◌∙◌, subst, arith}
use Rattle.std.specs.Prelude.{◌↔◌, slice_get}
use Rattle.std.proofs.lemmas.Bool.{cases_eq}
use Rattle.std.proofs.Math.ListN.{get_or-append}
use Rattle.std.proofs.lemmas.List.{get_or_push, get_or-set_other, get_or-set_same, length-set, length_push}
use Rattle.std.proofs.lemmas.Option.{get_or_from_slice_get, slice_get-get_or}
use Rattle.digraph.specs.Marks.{marked}
use Rattle.glob.specs.Globs.{Matches}
use Rattle.cut_net.specs.Network.{Network, index_of, name_of}
use Rattle.cut_net.specs.WellFormed.{IsNetwork}
use Rattle.cut_net.proofs.Places.{index_takes}
use Rattle.texts.proofs.FieldCuts.{some_is}
use Rattle.cut_rules.specs.declared.file.File.{File}
use Rattle.cut_rules.specs.declared.table.ModuleSet.{ModuleSet}
use Rattle.cut_rules.specs.declared.table.SetTable.{SetTable}
use Rattle.cut_rules.specs.RuleLines.{Selector, Module, Named}
use Rattle.cut_rules.specs.Rules.{HasFile, Selects}
use Rattle.cut_rules.specs.Builders.{pattern_count, AreEmptySets, AreSized, HasIndex, InSet, IsAddition, SelectsAny}
use Rattle.cut_rules.proofs.Numbers.{named_at}
use Rattle.cut_rules.proofs.Pieces.{get_low}

-- ---- sets without modules

pub empty_more : (count places : ℕ) (sets : List ModuleSet) (set : ModuleSet) → length set.flags.items ≡ places → ((k : ℕ) → marked set.flags.items k ≡ false) → AreEmptySets count places sets → AreEmptySets (count + 1) places (sets ++ set ∷ [])
empty_more count places sets set long clear elements = record {
  size = (let more = length_push sets set in let size = elements.size in omega arith);
  sized = λ s x at. elim (pushed s x at) [ inl old ↦ elements.sized s x old | inr e ↦ subst (λ (y : ModuleSet). length y.flags.items ≡ places) e long ];
  none = λ s k x at. elim (pushed s x at) [ inl old ↦ elements.none s k x old | inr e ↦ subst (λ (y : ModuleSet). marked y.flags.items k ≡ false) e (clear k) ];
}
  where
    pushed : (s : ℕ) (x : ModuleSet) → slice_get (sets ++ set ∷ []) s ≡ Some x → (slice_get sets s ≡ Some x) ⊎ (set ≡ x)
    pushed s x at =
        let low = get_low (sets ++ set ∷ []) s x at in
        let more = length_push sets set in
        let here : get_or (sets ++ set ∷ []) s x ≡ x = get_or_from_slice_get (sets ++ set ∷ []) s x x at in
        elim (cases_eq s (length sets)) [
          | inl e ↦ inr (sym (get_or_push sets set x s (sym e)) ∙ here)
          | inr ne ↦ inl (slice_get-get_or sets s x (omega (arith, ne)) ∙ ap (λ (y : ModuleSet). Some y) (sym (get_or-append sets (set ∷ []) x s (omega (arith, ne))) ∙ here))
        ]

-- ---- a set with more marks

module _ (old : List ModuleSet) (s : ℕ) (set_was new : ModuleSet) (present : slice_get old s ≡ Some set_was) where
  slice_get_same : slice_get (set old s new) s ≡ Some new
  slice_get_same =
      let low = get_low old s set_was present in
      let size = length-set old s new in
      slice_get-get_or (set old s new) s new (omega arith) ∙ ap (λ (x : ModuleSet). Some x) (get_or-set_same old s new new low)

  get_back : (t : ℕ) (x : ModuleSet) → t ≢ s → slice_get (set old s new) t ≡ Some x → slice_get old t ≡ Some x
  get_back t x ne at =
      let low = get_low (set old s new) t x at in
      let size = length-set old s new in
      slice_get-get_or old t x (omega arith) ∙ ap (λ (y : ModuleSet). Some y) (sym (get_or-set_other old s t new x ne) ∙ get_or_from_slice_get (set old s new) t x x at)

  get_on : (t : ℕ) (x : ModuleSet) → t ≢ s → slice_get old t ≡ Some x → slice_get (set old s new) t ≡ Some x
  get_on t x ne at =
      let low = get_low old t x at in
      let size = length-set old s new in
      slice_get-get_or (set old s new) t x (omega arith) ∙ ap (λ (y : ModuleSet). Some y) (get_or-set_other old s t new x ne ∙ get_or_from_slice_get old t x x at)

  pub set_sized : (places : ℕ) → length new.flags.items ≡ length set_was.flags.items → AreSized places old → AreSized places (set old s new)
  set_sized places long sized t x at = elim (cases_eq t s) [
    | inl e ↦
        let same : new ≡ x = some_is new x (sym slice_get_same ∙ ap (slice_get (set old s new)) (sym e) ∙ at) in
        let was = sized s set_was present in
        ap (λ (y : ModuleSet). length y.flags.items) (sym same) ∙ long ∙ was
    | inr ne ↦ sized t x (get_back t x ne at)
  ]

  pub set_marked : (from to : ℕ) → ((k : ℕ) → (marked new.flags.items k ≡ true) ↔ ((marked set_was.flags.items k ≡ true) ⊎ ((from ≤ k) × (k < to)))) → (files : List File) (t m : ℕ)
      → InSet files (set old s new) t m ↔ (InSet files old t m ⊎ ((Some s ≡ Some t) × HasIndex files from to m))
  set_marked from to more files t m = (
    λ (x, at, (k, placed, is)). elim (cases_eq t s) [
      | inl e ↦
          let same : x ≡ new = some_is x new (sym at ∙ ap (slice_get (set old s new)) e ∙ slice_get_same) in
          elim ((more k).0 (subst (λ (y : ModuleSet). marked y.flags.items k ≡ true) same is)) [
            | inl was ↦ inl (set_was, ap (slice_get old) e ∙ present, (k, placed, was))
            | inr (low, high) ↦ inr (ap (λ (n : ℕ). Some n) (sym e), (k, low, high, placed))
          ]
      | inr ne ↦ inl (x, get_back t x ne at, (k, placed, is))
    ],
    λ either. elim either [
      | inl (x, at, (k, placed, is)) ↦ elim (cases_eq t s) [
        | inl e ↦
            let same : x ≡ set_was = some_is x set_was (sym at ∙ ap (slice_get old) e ∙ present) in
            (new, ap (slice_get (set old s new)) e ∙ slice_get_same, (k, placed, (more k).1 (inl (subst (λ (y : ModuleSet). marked y.flags.items k ≡ true) same is))))
        | inr ne ↦ (x, get_on t x ne at, (k, placed, is))
      ]
      | inr (e, (k, low, high, placed)) ↦ (new, ap (slice_get (set old s new)) (sym (some_is s t e)) ∙ slice_get_same, (k, placed, (more k).1 (inr (low, high))))
    ],
  )

pub none_marked : (sets : List ModuleSet) (place : Option ℕ) (P : ℕ → ℕ → Type 0) → ((s : ℕ) → place ≡ Some s → ⊥) → (files : List File) (t m : ℕ) → InSet files sets t m ↔ (InSet files sets t m ⊎ ((place ≡ Some t) × P t m))
none_marked sets place P none files t m = ((λ has. inl has), λ either. elim either [ inl has ↦ has | inr own ↦ absurd (none t own.0) ])

-- ---- what a line selects

-- the modules of some files
pub files_placed : (files : List File) (P : List ℕ → Type 0) (from to : ℕ) → to ≤ length files → ((k : ℕ) (f : File) → slice_get files k ≡ Some f → ((from ≤ k) × (k < to)) ↔ P f.path.now) → (m : ℕ) → HasIndex files from to m ↔ HasFile files P m
files_placed files P from to within elements m = (
  λ (k, low, high, at). elim at [
    | inl (f, at_file, e) ↦ (f, (k, get_low files k f at_file, get_or_from_slice_get files k f f at_file), e, (elements k f at_file).0 (low, high))
    | inr e ↦ absurd (omega arith)
  ],
  λ (f, (k, lt, is), e, p).
      let at = slice_get-get_or files k f lt ∙ ap (λ (g : File). Some g) is in
      let bounds = (elements k f at).1 p in
      (k, bounds.0, bounds.1, inl (f, at, e)),
)

-- a span of files that isn't empty has a module
pub some_placed : (files : List File) (from to : ℕ) → to ≤ length files → from < to → (m : ℕ) × HasIndex files from to m
some_placed [] from to within some = absurd (omega arith)
some_placed (g ∷ fs) from to within some =
    let f = get_or (g ∷ fs) from g in
    (f.module, (from, omega arith, some, inl (f, slice_get-get_or (g ∷ fs) from g (omega arith), refl)))

-- the module of a number
pub module_placed : (net : Network) (network : IsNetwork net) (files : List File) (name : List ℕ) (i : ℕ) → index_of net name ≡ Some i → (m : ℕ) → m < length net.names → HasIndex files (length files + i) (length files + i + 1) m ↔ Selects net files (Module name) m
module_placed net network files name i is m low =
    let took = index_takes net name i is in (
      λ (k, above, below, at). elim at [
        | inl (f, at_file, e) ↦ let lt = get_low files k f at_file in absurd (omega arith)
        | inr e ↦ let same : i ≡ m = omega arith in (low, ap (name_of net) (sym same) ∙ took.1)
      ],
      λ (small, e).
          let same : i ≡ m = some_is i m (sym is ∙ ap (index_of net) (sym e) ∙ named_at net network [] m low) in
          (length files + i, omega arith, omega arith, inr (ap (λ (n : ℕ). length files + n) same)),
    )

pub module_selected : (net : Network) (files : List File) (name : List ℕ) (i : ℕ) → index_of net name ≡ Some i → Selects net files (Module name) i
module_selected net files name i is = index_takes net name i is

pub no_module_selected : (net : Network) (network : IsNetwork net) (files : List File) (name : List ℕ) → index_of net name ≡ None → SelectsAny net files (Module name) → ⊥
no_module_selected net network files name none (m, (low, e)) = let bad : Some m ≡ None = sym (named_at net network [] m low) ∙ ap (index_of net) e ∙ none in cc

-- an addition that adds nothing
pub nothing_added : (net : Network) (files : List File) (table : SetTable) (place : Option ℕ) (selector : Selector) → pattern_count selector ≡ 0 → (SelectsAny net files selector → ⊥) → IsAddition net files table place selector false table
nothing_added net files table place selector zero none = record {
  any_is = (λ e. absurd (cc), λ is. absurd (none is));
  added = λ s m low. (
    λ has. inl has,
    λ either. elim either [ inl was ↦ was | inr (same, is) ↦ absurd (none (m, is)) ],
  );
  patterns = omega arith;
  modules = refl;
  count = refl;
  sized = λ places sized. sized;
}

-- the modules at some indices are added
module _ (net : Network) (files : List File) (old new : SetTable) (place : Option ℕ) (from to : ℕ) (any : Bool)
    (sets : (fs : List File) (s m : ℕ) → InSet fs new.sets.items s m ↔ (InSet fs old.sets.items s m ⊎ ((place ≡ Some s) × HasIndex fs from to m)))
    (some : (any ≡ true) ↔ (from < to)) (patterns : new.patterns ≡ old.patterns) (modules : new.modules ≡ old.modules) (count : length new.sets.items ≡ length old.sets.items)
    (sized : (places : ℕ) → AreSized places old.sets.items → AreSized places new.sets.items) where
  sets_added : (selector : Selector) → ((m : ℕ) → m < length net.names → HasIndex files from to m ↔ Selects net files selector m) → (s m : ℕ) → m < length net.names
      → InSet files new.sets.items s m ↔ (InSet files old.sets.items s m ⊎ ((place ≡ Some s) × Selects net files selector m))
  sets_added selector placed s m low =
      let p = placed m low in
      let law = sets files s m in (
        λ has. elim (law.0 has) [ inl was ↦ inl was | inr (same, here) ↦ inr (same, p.0 here) ],
        λ either. law.1 (elim either [ inl was ↦ inl was | inr (same, is) ↦ inr (same, p.1 is) ]),
      )

  -- of files with a property
  pub files_addition : (selector : Selector) (P : List ℕ → Type 0) → ((m : ℕ) → Selects net files selector m → HasFile files P m) → ((m : ℕ) → HasFile files P m → Selects net files selector m)
      → pattern_count selector ≡ 0 → to ≤ length files → ((k : ℕ) (f : File) → slice_get files k ≡ Some f → ((from ≤ k) × (k < to)) ↔ P f.path.now) → IsAddition net files old place selector any new
  files_addition selector P present back none within elements =
      let placed : (m : ℕ) → HasIndex files from to m ↔ Selects net files selector m = λ m.
      let law = files_placed files P from to within elements m in
      ((λ at. back m (law.0 at)), (λ own. law.1 (present m own))) in
      record {
        any_is = (
          λ e. let (m, at) = some_placed files from to within (some.0 e) in (m, (placed m).0 at),
          λ (m, own). some.1 (let (k, low, high, at) = (placed m).1 own in omega arith),
        );
        added = sets_added selector (λ m low. placed m);
        patterns = omega arith;
        modules = modules;
        count = count;
        sized = sized;
      }

  -- of one module
  pub module_addition : IsNetwork net → (name : List ℕ) (i : ℕ) → index_of net name ≡ Some i → from ≡ length files + i → to ≡ length files + i + 1 → IsAddition net files old place (Module name) any new
  module_addition network name i is start end = record {
    any_is = ((λ e. (i, module_selected net files name i is)), (λ own. some.1 (omega arith)));
    added = sets_added (Module name) (rw (start, end) (λ m low. module_placed net network files name i is m low));
    patterns = omega arith;
    modules = modules;
    count = count;
    sized = sized;
  }

-- ---- the modules of a pattern

-- the old table and the modules before this one whose names fit
pub record IsMatchedTo (net : Network) (files : List File) (old : SetTable) (place : Option ℕ) (fits : ℕ → Type 0) (node : ℕ) (any : Bool) (new : SetTable) : Type 0 where
  pub any_is : (any ≡ true) ↔ ((m : ℕ) × (m < node) × fits m)
  pub added : (s m : ℕ) → m < length net.names → InSet files new.sets.items s m ↔ (InSet files old.sets.items s m ⊎ ((place ≡ Some s) × (m < node) × fits m))
  pub patterns : new.patterns ≡ old.patterns
  pub modules : new.modules ≡ old.modules
  pub count : length new.sets.items ≡ length old.sets.items
  pub sized : (places : ℕ) → AreSized places old.sets.items → AreSized places new.sets.items

module _ (net : Network) (files : List File) (old : SetTable) (place : Option ℕ) (fits : ℕ → Type 0) where
  pub matched_none : IsMatchedTo net files old place fits 0 false old
  matched_none = record {
    any_is = (λ e. absurd cc, λ (m, lt, is). absurd (omega arith));
    added = λ s m low. (λ has. inl has, λ either. elim either [ inl was ↦ was | inr (same, lt, is) ↦ absurd (omega arith) ]);
    patterns = refl;
    modules = refl;
    count = refl;
    sized = λ places sized. sized;
  }

  pub matched_same : (node : ℕ) (any : Bool) (now : SetTable) → (fits node → ⊥) → IsMatchedTo net files old place fits node any now → IsMatchedTo net files old place fits (node + 1) any now
  matched_same node any now other is = record {
    any_is = (λ e. let (m, lt, own) = is.any_is.0 e in (m, omega arith, own), λ (m, lt, own). is.any_is.1 (m, low m lt own, own));
    added = λ s m small.
        let law = is.added s m small in (
          λ has. elim (law.0 has) [ inl was ↦ inl was | inr (same, lt, own) ↦ inr (same, omega arith, own) ],
          λ either. law.1 (elim either [ inl was ↦ inl was | inr (same, lt, own) ↦ inr (same, low m lt own, own) ]),
        );
    patterns = is.patterns;
    modules = is.modules;
    count = is.count;
    sized = is.sized;
  }
    where
      low : (m : ℕ) → m < node + 1 → fits m → m < node
      low m lt own = elim (cases_eq m node) [ inl e ↦ absurd (other (subst fits e own)) | inr ne ↦ omega (arith, ne) ]

  pub matched_more : (node : ℕ) (any : Bool) (now new : SetTable) → fits node → IsMatchedTo net files old place fits node any now
      → ((fs : List File) (s m : ℕ) → InSet fs new.sets.items s m ↔ (InSet fs now.sets.items s m ⊎ ((place ≡ Some s) × HasIndex fs (length files + node) (length files + node + 1) m)))
      → new.patterns ≡ now.patterns → new.modules ≡ now.modules → length new.sets.items ≡ length now.sets.items → ((places : ℕ) → AreSized places now.sets.items → AreSized places new.sets.items)
      → (some : Bool) → some ≡ true → IsMatchedTo net files old place fits (node + 1) some new
  matched_more node any now new own is sets patterns modules count sized some here_is = record {
    any_is = (λ e. (node, omega arith, own), λ (m, lt, other). here_is);
    added = λ s m small.
        let law = is.added s m small in
        let here = sets files s m in (
          λ has. elim (here.0 has) [
            | inl before ↦ elim (law.0 before) [ inl was ↦ inl was | inr (same, lt, fit) ↦ inr (same, omega arith, fit) ]
            | inr (same, placed) ↦ let e = one_placed m placed in inr (same, omega arith, subst fits (sym e) own)
          ],
          λ either. here.1 (elim either [
            | inl was ↦ inl (law.1 (inl was))
            | inr (same, lt, fit) ↦ elim (cases_eq m node) [
              | inl e ↦ inr (same, (length files + node, omega arith, omega arith, inr (ap (λ (n : ℕ). length files + n) (sym e))))
              | inr ne ↦ inl (law.1 (inr (same, omega (arith, ne), fit)))
            ]
          ]),
        );
    patterns = patterns ∙ is.patterns;
    modules = modules ∙ is.modules;
    count = count ∙ is.count;
    sized = λ places was. sized places (is.sized places was);
  }
    where
      one_placed : (m : ℕ) → HasIndex files (length files + node) (length files + node + 1) m → m ≡ node
      one_placed m (k, low, high, at) = elim at [
        | inl (f, at_file, e) ↦ let lt = get_low files k f at_file in absurd (omega arith)
        | inr e ↦ omega arith
      ]

-- all modules whose names match
pub matched_addition : (net : Network) (files : List File) (old now new : SetTable) (place : Option ℕ) (text : List ℕ) (fits : ℕ → Type 0) (node : ℕ) (any : Bool) → ((m : ℕ) → fits m ↔ Matches text (name_of net m)) → length net.names ≤ node
    → IsMatchedTo net files old place fits node any now → ((m : ℕ) → m < node → m < length net.names) → new.sets ≡ now.sets → new.modules ≡ now.modules → new.patterns ≡ now.patterns + 1 → IsAddition net files old place (Named text) any new
matched_addition net files old now new place text fits node any same all is within sets modules patterns = record {
  any_is = (
    λ e. let (m, lt, own) = is.any_is.0 e in (m, (within m lt, (same m).0 own)),
    λ (m, own). is.any_is.1 (m, (let low = own.0 in omega arith), (same m).1 own.1),
  );
  added = rw sets (λ s m low.
      let law = is.added s m low in (
        λ has. elim (law.0 has) [ inl was ↦ inl was | inr (set_is, lt, own) ↦ inr (set_is, (low, (same m).0 own)) ],
        λ either. law.1 (elim either [ inl was ↦ inl was | inr (set_is, own) ↦ inr (set_is, omega arith, (same m).1 own.1) ]),
      ));
  patterns = (let e = is.patterns in omega arith);
  modules = modules ∙ is.modules;
  count = rw sets is.count;
  sized = rw sets is.sized;
}
