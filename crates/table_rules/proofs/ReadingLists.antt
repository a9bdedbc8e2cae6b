-- The entries of optional parts and of lists are determined by the event sequence.
use Rattle.std.proofs.Common.{◌≡◌, Bool, true, false, List, [], ◌∷◌, ◌++◌, map, Option, Some, None, refl, sym, ap, ap₂, ◌∙◌, append_assoc}
use Rattle.ob_scan.specs.declared.kind.Kind.{Kind}
use Rattle.ob_tree.specs.TreeEvents.{Events, if_present, if_true, each, word}
use Rattle.module_table.specs.Parts.{Fragment, both}
use Rattle.module_table.specs.Parts.{if_present as there, each as pieces}
use Rattle.table_rules.proofs.Reading.{Reads, maybe, clash, r-none, r-some}

-- what may be there, and has no part of a tree that is still to be read
pub r-there : {Y A : Type 0} {f : Y → A} {g : Y → Events} {part : Events → Bool} {Z : Type 0} (more : Events → Bool) (at : Z → Option Y) (q : Option Y) →
    ((y : Y) → Reads f g part (f y) (g y)) → ((s : Events) → more s ≡ false → part s ≡ false) → ((y : Y) (s : Events) → more (g y ++ s) ≡ true) →
    Reads (λ z. maybe f (at z)) (λ z. if_present g (at z)) more (maybe f q) (if_present g q)
r-there {Y} {A} {f} {g} {part} {Z} more at None x ends front = r-none f g more front at
r-there {Y} {A} {f} {g} {part} {Z} more at (Some y) x ends front = r-some (x y) ends (front y) at

module _ {Y A : Type 0} (f : Y → A) (g : Y → Events) (more : Events → Bool) (front : (y : Y) (s : Events) → more (g y ++ s) ≡ true) where
  nil_same : (ys : List Y) (r s : Events) → more r ≡ false → r ≡ each g ys ++ s → ([] ≡ map f ys) × (r ≡ s)
  nil_same [] r s i e = (refl, e)
  nil_same (y ∷ ys) r s i e = absurd (clash (more r) true (ap more (e ∙ append_assoc (g y) (each g ys) s) ∙ front y (each g ys ++ s)) i)

  pub r-nil : Reads (map f) (each g) more [] []
  r-nil = record { same = λ z r s i j e. nil_same z r s i e }

-- after an element nothing more of it is there
pub apart_from : {Y : Type 0} (g : Y → Events) (part more : Events → Bool) → ((s : Events) → more s ≡ false → part s ≡ false) → ((y : Y) (s : Events) → part (g y ++ s) ≡ false) →
    (ys : List Y) (s : Events) → more s ≡ false → part (each g ys ++ s) ≡ false
apart_from g part more ends apart [] s i = ends s i
apart_from g part more ends apart (y ∷ ys) s i = ap part (append_assoc (g y) (each g ys) s) ∙ apart y (each g ys ++ s)

-- prefixes: each element begins with what goes on; ends, apart: after an element nothing more of it is there
module _ {Y A : Type 0} (f : Y → A) (g : Y → Events) (part more : Events → Bool) (front : (y : Y) (s : Events) → more (g y ++ s) ≡ true)
    (ends : (s : Events) → more s ≡ false → part s ≡ false) (apart : (y : Y) (s : Events) → part (g y ++ s) ≡ false) where
  cons_same : {a : A} {o : Events} {bs : List A} {os : Events} → Reads f g part a o → ((s : Events) → more (o ++ s) ≡ true) → ((s : Events) → more s ≡ false → part (os ++ s) ≡ false) → Reads (map f) (each g) more bs os →
      (ys : List Y) (r s : Events) → more r ≡ false → more s ≡ false → (o ++ os) ++ r ≡ each g ys ++ s → (a ∷ bs ≡ map f ys) × (r ≡ s)
  cons_same {a} {o} {bs} {os} x here stops xs [] r s i j e = absurd (clash (more s) true (ap more (sym e ∙ append_assoc o os r) ∙ here (os ++ r)) j)
  cons_same {a} {o} {bs} {os} x here stops xs (y ∷ ys) r s i j e =
      let first = x.same y (os ++ r) (each g ys ++ s) (stops r i) (apart_from g part more ends apart ys s j) (sym (append_assoc o os r) ∙ e ∙ append_assoc (g y) (each g ys) s) in
      let second = xs.same ys r s i j first.1 in
      (ap₂ (λ (c : A) (cs : List A). c ∷ cs) first.0 second.0, second.1)

  pub r-cons : {a : A} {o : Events} {bs : List A} {os : Events} → Reads f g part a o → ((s : Events) → more (o ++ s) ≡ true) → ((s : Events) → more s ≡ false → part (os ++ s) ≡ false) → Reads (map f) (each g) more bs os →
      Reads (map f) (each g) more (a ∷ bs) (o ++ os)
  r-cons x here stops xs = record { same = λ z r s i j e. cons_same x here stops xs z r s i j e }

  pub r-map : {L : Type 0} (h : L → Y) (xs : List L) → ((x : L) → Reads f g part (f (h x)) (g (h x))) → Reads (map f) (each g) more (map f (map h xs)) (each g (map h xs))
  r-map h [] w = r-nil f g more front
  r-map h (x ∷ xs) w = r-cons (w x) (front (h x)) (λ s i. apart_from g part more ends apart (map h xs) s i) (r-map h xs w)

  pub r-each : (xs : List Y) → ((y : Y) → Reads f g part (f y) (g y)) → Reads (map f) (each g) more (map f xs) (each g xs)
  r-each [] w = r-nil f g more front
  r-each (x ∷ xs) w = r-cons (w x) (front x) (λ s i. apart_from g part more ends apart xs s i) (r-each xs w)

-- whether something is there
module _ (k : Kind) (more : Events → Bool) (front : (s : Events) → more (word k ++ s) ≡ true) where
  behind : (r s : Events) → word k ++ r ≡ word k ++ s → r ≡ s
  behind r s e = cc

  so_same : (b c : Bool) (r s : Events) → more r ≡ false → more s ≡ false → if_true b (word k) ++ r ≡ if_true c (word k) ++ s → (b ≡ c) × (r ≡ s)
  so_same false false r s i j e = (refl, e)
  so_same true true r s i j e = (refl, behind r s e)
  so_same true false r s i j e = absurd (clash (more s) true (ap more (sym e) ∙ front r) j)
  so_same false true r s i j e = absurd (clash (more r) true (ap more e ∙ front s) i)

  pub r-so : {Z : Type 0} (at : Z → Bool) (b : Bool) → Reads at (λ z. if_true (at z) (word k)) more b (if_true b (word k))
  r-so at b = record { same = λ z r s i j e. so_same b (at z) r s i j e }

-- ---- the pieces of what was contributed

pub there_told : {Y A : Type 0} (f : Y → A) (p : A → Fragment) (q : Option Y) → there (λ y. p (f y)) q ≡ there p (maybe f q)
there_told f p None = refl
there_told f p (Some y) = refl

pub each_told : {Y A : Type 0} (f : Y → A) (p : A → Fragment) (ys : List Y) → pieces (λ y. p (f y)) ys ≡ pieces p (map f ys)
each_told f p [] = refl
each_told f p (y ∷ ys) = ap (λ (x : Fragment). both (p (f y)) x) (each_told f p ys)
