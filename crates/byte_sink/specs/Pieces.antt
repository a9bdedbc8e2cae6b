-- Output that a sink receives in parts.
use Rattle.std.specs.Prelude.{◌≡◌, ℕ, List, ◌++◌, Option}
use Rattle.std.specs.Io.KnownBytes.{Appends}

-- the known bytes of the sink grow by the text without its suffix `rest`
abbrev pub WritesAllBut : Option (List ℕ) → Option (List ℕ) → List ℕ → List ℕ → Type 0
WritesAllBut old new text rest = (prefix : List ℕ) × (text ≡ prefix ++ rest) × Appends old new prefix
