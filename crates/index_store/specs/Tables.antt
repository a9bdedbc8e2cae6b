-- Tables from strings to lists of entries: the strings once each, in the order of insertion, and the entries of each.
use Rattle.std.specs.Prelude.{◌≡◌, ◌⊎◌, ℕ, ◌+◌, List, [], ◌∷◌, ◌++◌, length, map, Option, Some, None, option_map, if◌then◌else◌}
use Rattle.std.specs.List.{slice_index_or}
use Rattle.std.specs.Str.{bytes_eq}
use Rattle.std.specs.String.{string_bytes}
use Rattle.index_store.specs.declared.table.StringTable.{StringTable}

-- the strings of a table, as bytes
abbrev pub texts_in : {A : Type 0} → StringTable A → List (List ℕ)
texts_in table = map string_bytes table.texts.keys

-- the lists of entries of a table, in the order of its strings
abbrev pub rows_in : {A : Type 0} → StringTable A → List (List A)
rows_in table = map (λ rows. rows.items) table.rows.items

-- the string at an index; empty beyond the end
abbrev pub text_at : List (List ℕ) → ℕ → List ℕ
text_at texts n = slice_index_or texts n []

-- the entries at an index; none beyond the end
abbrev pub rows_at : {A : Type 0} → List (List A) → ℕ → List A
rows_at rows n = slice_index_or rows n []

-- the index of a string in the list, or none if the list doesn't have it
abbrev pub text_index : List (List ℕ) → List ℕ → Option ℕ
text_index [] text = None
text_index (t ∷ texts) text = if bytes_eq text t then Some 0 else option_map (λ n. n + 1) (text_index texts text)

-- the entries of a string; empty if the list doesn't have the string
abbrev pub rows_under : {A : Type 0} → List (List ℕ) → List (List A) → List ℕ → List A
rows_under [] rows text = []
rows_under (t ∷ texts) [] text = []
rows_under (t ∷ texts) (r ∷ rows) text = if bytes_eq text t then r else rows_under texts rows text

-- n is the index of the string in the new table. Either the old table had the string and is unchanged, or the string is appended with no
-- entries
abbrev pub IsInserted : {A : Type 0} → List (List ℕ) → List (List A) → List ℕ → List (List ℕ) → List (List A) → ℕ → Type 0
IsInserted texts rows text more_texts more_rows n =
    ((text_index texts text ≡ Some n) × (more_texts ≡ texts) × (more_rows ≡ rows))
    ⊎ ((text_index texts text ≡ None) × (more_texts ≡ texts ++ text ∷ []) × (more_rows ≡ rows ++ [] ∷ []) × (n ≡ length texts))
