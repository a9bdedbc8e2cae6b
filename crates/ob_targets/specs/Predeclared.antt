-- The predeclared names, which every module may use without declaring them (Oberon-07 report, sections 6.1 and 10.2).
use Rattle.std.specs.Prelude.{ℕ, List, [], ◌∷◌, Bool, ◌||◌, codes}
use Rattle.std.specs.List.{list_any}
use Rattle.std.specs.Str.{bytes_eq}

-- the predeclared types
abbrev pub basic_types : List (List ℕ)
basic_types = codes "BOOLEAN" ∷ codes "BYTE" ∷ codes "CHAR" ∷ codes "INTEGER" ∷ codes "REAL" ∷ codes "SET" ∷ []

-- the predeclared function procedures
abbrev pub functions : List (List ℕ)
functions = codes "ABS" ∷ codes "ODD" ∷ codes "LEN" ∷ codes "LSL" ∷ codes "ASR" ∷ codes "ROR" ∷ codes "FLOOR" ∷ codes "FLT" ∷ codes "ORD" ∷ codes "CHR" ∷ []

-- the predeclared proper procedures
abbrev pub procedures : List (List ℕ)
procedures = codes "INC" ∷ codes "DEC" ∷ codes "INCL" ∷ codes "EXCL" ∷ codes "NEW" ∷ codes "ASSERT" ∷ codes "PACK" ∷ codes "UNPK" ∷ []

-- whether the name is in one of the three lists of predeclared names
abbrev pub is_predeclared : List ℕ → Bool
is_predeclared name = list_any (bytes_eq name) basic_types || list_any (bytes_eq name) functions || list_any (bytes_eq name) procedures
