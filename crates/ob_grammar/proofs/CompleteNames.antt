-- The tokens of a name are read as that name, if they are followed by tokens that can't continue it.
use Rattle.std.proofs.Common.{◌≡◌, ℕ, Bool, true, false, List, [], ◌∷◌, ◌++◌, Option, Some, None, Ok, refl}
use Rattle.ob_scan.specs.declared.kind.Kind.TheVariants as kinds
use Rattle.ob_tree.specs.declared.token.Leaf.{Leaf}
use Rattle.ob_tree.specs.declared.token.Leaf.TheVariants as leafs
use Rattle.ob_tree.specs.declared.name.Qualident.{Qualident}
use Rattle.ob_tree.specs.declared.name.Identdef.{Identdef}
use Rattle.ob_tree.specs.TreeEvents.{Events, word, declared, used, completed, if_present, if_true, tokens_of}
use Rattle.ob_tree.specs.Names.{qualident_events, identdef_events}
use Rattle.ob_grammar.specs.Combinators.{accept_at, identifier_at, name_at, nothing, optional}
use Rattle.ob_grammar.specs.ReadNames.{qualident_at, identdef_after, identdef_at}
use Rattle.ob_grammar.proofs.Stars.{star_read}
use Rattle.ob_grammar.proofs.ReadsBack.{Reads, reads_seq, reads_nothing, reads_something, reads_name, accepts_word}

-- the part of a qualified name after its first identifier
abbrev pub member_shown : Option ℕ → Events
member_shown = if_present (λ m. word kinds.Dot ++ completed m)

member_again : (o : Option ℕ) (rest : List Leaf) → accept_at kinds.Dot rest ≡ None → Reads (optional (accept_at kinds.Dot) (name_at completed)) (member_shown o) rest
member_again None rest end = reads_nothing (accept_at kinds.Dot) (name_at completed) rest end
member_again (Some m) rest end = reads_something (accept_at kinds.Dot) (name_at completed) (word kinds.Dot) (completed m) rest (accepts_word kinds.Dot _) (reads_name completed m rest refl)

pub qualident_again : (q : Qualident) (rest : List Leaf) → accept_at kinds.Dot rest ≡ None → Reads qualident_at (qualident_events q) rest
unfolding qualident_at qualident_events
qualident_again q rest end = reads_seq (name_at used) (optional (accept_at kinds.Dot) (name_at completed)) (used q.head) (member_shown q.member) rest
    (reads_name used q.head _ refl) (member_again q.member rest end)

pub qualident_spelled : (q : Qualident) (rest : List Leaf) → tokens_of (qualident_events q) ++ rest ≡ leafs.Name q.head ∷ (tokens_of (member_shown q.member) ++ rest)
unfolding qualident_events
qualident_spelled q rest = refl

star_again : (b : Bool) (rest : List Leaf) → accept_at kinds.Star rest ≡ None → Reads (optional (accept_at kinds.Star) nothing) (if_true b (word kinds.Star)) rest
star_again false rest end = reads_nothing (accept_at kinds.Star) nothing rest end
star_again true rest end = reads_something (accept_at kinds.Star) nothing (word kinds.Star) [] rest (accepts_word kinds.Star _) (record { is = refl })

-- after the name with this index
pub identdef_after_again : (b : Bool) (n : ℕ) (rest : List Leaf) → accept_at kinds.Star rest ≡ None →
    identdef_after n (tokens_of (if_true b (word kinds.Star)) ++ rest) ≡ Ok (declared b n ++ if_true b (word kinds.Star), rest)
unfolding identdef_after
identdef_after_again b n rest end = rw ((star_again b rest end).is, star_read b) refl

pub identdef_again : (i : Identdef) (rest : List Leaf) → accept_at kinds.Star rest ≡ None → Reads identdef_at (identdef_events i) rest
unfolding identdef_at identdef_events identifier_at
identdef_again i rest end = record { is = identdef_after_again i.is_exported i.name rest end }
