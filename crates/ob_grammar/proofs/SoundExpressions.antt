-- An expression that is read has exactly the tokens that were read.
pub use Rattle.ob_grammar.proofs.Sound.{expr_at_sound, factor_at_sound, term_at_sound}
