use Rattle.std.proofs.Common.{None, Some, refl, sym}
use Rattle.glob.proofs.Patterns.{fits_literal, fits_pieces}
use Rattle.glob.proofs.pattern.Glob.new.Goals as goal

pub returns-in_default : goal.returns-in_default
returns-in_default c = fits_literal c.args.pattern.now (record { first = c.args.pattern; after_star = None }) (sym c.in_default.ensures) refl refl

pub returns : goal.returns
returns c =
    fits_pieces c.args.pattern.now (c.in-Some.first.now, c.in-Some.rest.now) (record { first = c.in-Some.first; after_star = Some c.in_ok-after_star.after_star }) c.in_ok-after_star.after_star (sym c.in-Some.ensures) refl refl
    c.in_ok-after_star.ensures
