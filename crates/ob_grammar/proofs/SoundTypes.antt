-- A type that is read has exactly the tokens that were read.
pub use Rattle.ob_grammar.proofs.Sound.{type_at_sound}
