-- The names of the nodes, and the imports by indices in a list of names.
use Rattle.std.proofs.Common.{◌≡◌, ℕ, ◌+◌, ◌-◌, Bool, true, false, not, List, [], ◌∷◌, ◌++◌, length, get_or, Some, refl, sym, ap, ◌∙◌, arith, inl, inr, subst}
use Rattle.std.specs.Prelude.{Contains, slice_get, ◌↔◌, flat_map}
use Rattle.std.specs.List.{IsDistinct}
use Rattle.std.specs.Str.{bytes_eq}
use Rattle.std.proofs.lemmas.Bool.{cases_Bool, cases_lt, false≢true, false_from_ne_true}
use Rattle.std.proofs.lemmas.List.{get_or-append_right, get_or_append_left}
use Rattle.std.proofs.lemmas.List.Elements.{Contains-append_cases, Contains-append_left, Contains-append_right, Contains-get_or}
use Rattle.std.proofs.lemmas.Map.Keys.{apart_from_distinct, IsDistinct-from_apart}
use Rattle.std.proofs.lemmas.Slice.Eq.{bytes_eq-Decides}
use Rattle.digraph.specs.declared.edge.Edge.{Edge}
use Rattle.ob_imports.specs.Files.{AreNodes, DifferInName, File, Imports, IsExternal, IsNode, names_of}
use Rattle.ob_imports.specs.Names.{AreAscending, LeadsBy}
use Rattle.ob_imports.specs.Numbering.{all_lacked, all_pairs, has_name, lacked, pairs_from, index_or_len}
use Rattle.digraph.specs.Edges.{Leads}
use Rattle.digraph.proofs.Names.{ascending_apart}
use Rattle.digraph.proofs.Members.{first_member, first_or_later, from_map, in_filter, in_map, later_member, no_member, of_filter}
use Rattle.ob_imports.proofs.Places.{has_not, name_at, not_has, place_is}

-- ---- members of a flat_map

in_flat_map : {X Y : Type 0} (f : X → List Y) (xs : List X) (x : X) (y : Y) → Contains xs x → Contains (f x) y → Contains (flat_map f xs) y
in_flat_map f [] x y h g = no_member x h
in_flat_map f (z ∷ zs) x y h g = elim (first_or_later z zs x h) [
  | inl same ↦ Contains-append_left (f z) (flat_map f zs) y (subst (λ w. Contains (f w) y) (sym same) g)
  | inr later ↦ Contains-append_right (f z) (flat_map f zs) y (in_flat_map f zs x y later g)
]

from_flat_map : {X Y : Type 0} (f : X → List Y) (xs : List X) (y : Y) → Contains (flat_map f xs) y → (x : X) × Contains xs x × Contains (f x) y
from_flat_map f [] y h = no_member y h
from_flat_map f (z ∷ zs) y h = elim (Contains-append_cases (f z) (flat_map f zs) y h) [
  | inl here ↦ (z, first_member z zs z refl, here)
  | inr later ↦ let r = from_flat_map f zs y later in (r.0, later_member z zs r.0 r.1, r.2)
]

-- ---- the names that the table lacks

pub lacked_external : (files : List File) (n : List ℕ) → Contains (all_lacked (names_of files) files) n ↔ IsExternal files n
lacked_external files n = (
  λ h. (
      let r = from_flat_map (λ (f : File). lacked (names_of files) f.imports) files n h in
      let g = of_filter (λ m. not (has_name (names_of files) m)) r.0.imports n r.2 in
      ((r.0.name, (r.0, r.1, refl, g.0)), has_not (names_of files) n (not_true (has_name (names_of files) n) g.1))),
  λ ((m, (f, has, is, imports)), outside). in_flat_map (λ (f : File). lacked (names_of files) f.imports) files f n has
      (in_filter (λ m. not (has_name (names_of files) m)) f.imports n (ap not (not_has (names_of files) n outside)) imports),
)
  where
    not_true : (b : Bool) → not b ≡ true → b ≡ false
    not_true true e = cc
    not_true false e = refl

-- ---- the imports by indices

pub pairs_lead : (names : List (List ℕ)) (files : List File) → IsDistinct bytes_eq names → ((n : List ℕ) → IsNode files n → Contains names n)
    → (v w : ℕ) → Leads (all_pairs names files) v w ↔ LeadsBy (Imports files) names v w
pairs_lead names files once known v w = (
  λ h. (
      let r = from_flat_map (λ (f : File). pairs_from names f.name f.imports) files (record { from = v; to = w }) h in
      let f = r.0 in
      let p = from_map (λ n. record { from = index_or_len names f.name; to = index_or_len names n }) f.imports (record { from = v; to = w }) r.2 in
      let n = p.0 in
      let from : index_or_len names f.name ≡ v = ap (λ (q : Edge). q.from) p.2 in
      let to : index_or_len names n ≡ w = ap (λ (q : Edge). q.to) p.2 in
      let here : Contains names f.name = known f.name (inl (in_map (λ (g : File). g.name) files f r.1)) in
      let imported : Contains names n = known n (inr (f.name, (f, r.1, refl, p.1))) in
      (f.name, n, subst (λ (k : ℕ). slice_get names k ≡ Some f.name) from (name_at names f.name here), subst (λ (k : ℕ). slice_get names k ≡ Some n) to (name_at names n imported), (f, r.1, refl, p.1))),
  λ (m, n, at_v, at_w, (f, has, is, imports)). (
      let from : index_or_len names f.name ≡ v = ap (index_or_len names) is ∙ place_is names m v once at_v in
      let to : index_or_len names n ≡ w = place_is names n w once at_w in
      let pair : record { from = index_or_len names f.name; to = index_or_len names n } ≡ record { from = v; to = w } =
      ap (λ (x : ℕ). record { from = x; to = index_or_len names n }) from ∙ ap (λ (x : ℕ). record { from = v; to = x }) to in
      in_flat_map (λ (g : File). pairs_from names g.name g.imports) files f (record { from = v; to = w }) has
      (subst (Contains (pairs_from names f.name f.imports)) pair (in_map (λ k. record { from = index_or_len names f.name; to = index_or_len names k }) f.imports n imports))),
)

-- ---- names of one file and of all

pub node_of_one : (files : List File) (f : File) (n : List ℕ) → Contains files f → IsNode (f ∷ []) n → IsNode files n
node_of_one files f n has (inl named) = elim (first_or_later f.name [] n named) [
  | inl same ↦ inl (subst (Contains (names_of files)) same (in_map (λ (g : File). g.name) files f has))
  | inr never ↦ no_member n never
]
node_of_one files f n has (inr (m, (g, one, is, imports))) = elim (first_or_later f [] g one) [
  | inl same ↦ inr (m, (f, has, ap (λ (h : File). h.name) same ∙ is, subst (λ (h : File). Contains h.imports n) (sym same) imports))
  | inr never ↦ no_member g never
]

-- ---- the nodes are distinct

-- two lists without a common element
pub distinct_both : (xs ys : List (List ℕ)) → IsDistinct bytes_eq xs → IsDistinct bytes_eq ys → ((n : List ℕ) → Contains ys n → Contains xs n → ⊥) → IsDistinct bytes_eq (xs ++ ys)
distinct_both xs ys a b apart = IsDistinct-from_apart bytes_eq (xs ++ ys) (λ i j d lt l. false_from_ne_true (bytes_eq (get_or (xs ++ ys) i d) (get_or (xs ++ ys) j d)) (λ t.
    let long : length (xs ++ ys) ≡ length xs + length ys = Rattle.std.proofs.Common.length-append xs ys in
    let same : get_or (xs ++ ys) i d ≡ get_or (xs ++ ys) j d = (bytes_eq-Decides (get_or (xs ++ ys) i d) (get_or (xs ++ ys) j d)).0 t in
    elim (cases_lt i (length xs)) [
      | inl left_i ↦
          let at_i : get_or (xs ++ ys) i d ≡ get_or xs i d = get_or_append_left xs ys d i left_i in
          elim (cases_lt j (length xs)) [
            | inl left_j ↦
                let at_j : get_or (xs ++ ys) j d ≡ get_or xs j d = get_or_append_left xs ys d j left_j in
                false≢true (sym (apart_from_distinct bytes_eq xs i j d a lt left_j) ∙ (bytes_eq-Decides (get_or xs i d) (get_or xs j d)).1 (sym at_i ∙ same ∙ at_j))
            | inr right_j ↦
                let at_j : get_or (xs ++ ys) j d ≡ get_or ys (j - length xs) d = get_or-append_right xs ys (length xs) j d refl right_j in
                apart (get_or ys (j - length xs) d) (Contains-get_or ys (j - length xs) d (omega arith)) (subst (Contains xs) (sym at_i ∙ same ∙ at_j) (Contains-get_or xs i d left_i))
          ]
      | inr right_i ↦
          let at_i : get_or (xs ++ ys) i d ≡ get_or ys (i - length xs) d = get_or-append_right xs ys (length xs) i d refl right_i in
          let at_j : get_or (xs ++ ys) j d ≡ get_or ys (j - length xs) d = get_or-append_right xs ys (length xs) j d refl (omega arith) in
          false≢true (sym (apart_from_distinct bytes_eq ys (i - length xs) (j - length xs) d b (omega arith) (omega arith)) ∙ (bytes_eq-Decides (get_or ys (i - length xs) d) (get_or ys (j - length xs) d)).1 (sym at_i ∙ same ∙ at_j))
    ]))

pub nodes_apart : (files : List File) (names : List (List ℕ)) → DifferInName files → AreNodes files names → IsDistinct bytes_eq names
nodes_apart files names once nodes = subst (IsDistinct bytes_eq) (sym nodes.whole)
    (distinct_both (names_of files) nodes.others once (ascending_apart nodes.others nodes.ascend) (λ n other named. ((nodes.external n).0 other).1 named))

pub nodes_known : (files : List File) (names : List (List ℕ)) → AreNodes files names → (n : List ℕ) → IsNode files n → Contains names n
nodes_known files names nodes n node = subst (λ (ns : List (List ℕ)). Contains ns n) (sym nodes.whole) (elim node [
  | inl named ↦ Contains-append_left (names_of files) nodes.others n named
  | inr imported ↦ elim (cases_Bool (has_name (names_of files) n)) [
    | inl t ↦ Contains-append_left (names_of files) nodes.others n (Rattle.ob_imports.proofs.Places.from_has (names_of files) n t)
    | inr f ↦ Contains-append_right (names_of files) nodes.others n ((nodes.external n).1 (imported, has_not (names_of files) n f))
  ]
])

---- names of a table, and the names that it lacked, sorted

module _ (files : List File) (keys lacks others : List (List ℕ)) (named : keys ≡ names_of files) (all : lacks ≡ all_lacked keys files) (up : AreAscending others)
    (same : (n : List ℕ) → Contains others n ↔ Contains lacks n) where
  are_lacked : lacks ≡ all_lacked (names_of files) files
  are_lacked = all ∙ ap (λ (ks : List (List ℕ)). all_lacked ks files) named

  external : (n : List ℕ) → Contains others n ↔ IsExternal files n
  external n = (
    λ h. (lacked_external files n).0 (subst (λ (ns : List (List ℕ)). Contains ns n) are_lacked ((same n).0 h)),
    λ e. (same n).1 (subst (λ (ns : List (List ℕ)). Contains ns n) (sym are_lacked) ((lacked_external files n).1 e)),
  )

  pub together_apart : DifferInName files → IsDistinct bytes_eq (keys ++ others)
  together_apart once = rw named (distinct_both (names_of files) others once (ascending_apart others up) (λ n other known. ((external n).0 other).1 known))

  pub are_nodes : (new : List (List ℕ)) → new ≡ keys ++ others → AreNodes files new
  are_nodes new is = record {
    others = others;
    whole = is ∙ ap (λ (ks : List (List ℕ)). ks ++ others) named;
    ascend = up;
    external = external;
  }
