-- The entries of a fragment of a tree are determined by its event sequence, whatever follows it.
use Rattle.std.proofs.Common.{◌≡◌, ℕ, Bool, true, false, [], ◌∷◌, ◌++◌, Option, Some, None, refl, sym, ap, ap₂, ◌∙◌, append_assoc}
use Rattle.ob_scan.specs.declared.kind.Kind.{Kind}
use Rattle.ob_tree.specs.Constructs.{Construct}
use Rattle.ob_tree.specs.declared.role.Role.{Role}
use Rattle.ob_tree.specs.declared.role.Role.TheVariants.{Declares, Uses}
use Rattle.ob_tree.specs.Leaves.{kind_eq}
use Rattle.ob_tree.specs.TreeEvents.{Events, TreeEvent, Begins, Ends, Identifier, Value, Word, construct, word, declared, used, if_present}

-- ---- whether an event sequence continues with an optional part

abbrev pub never : Events → Bool
never o = false

abbrev pub on_word : Kind → Events → Bool
on_word k [] = false
on_word k (Begins c n ∷ ms) = false
on_word k (Ends c ∷ ms) = false
on_word k (Identifier r n ∷ ms) = false
on_word k (Value l n ∷ ms) = false
on_word k (Word w ∷ ms) = kind_eq w k

abbrev pub on_any_word : Events → Bool
on_any_word [] = false
on_any_word (Begins c n ∷ ms) = false
on_any_word (Ends c ∷ ms) = false
on_any_word (Identifier r n ∷ ms) = false
on_any_word (Value l n ∷ ms) = false
on_any_word (Word w ∷ ms) = true

abbrev pub on_construct : Events → Bool
on_construct [] = false
on_construct (Begins c n ∷ ms) = true
on_construct (Ends c ∷ ms) = false
on_construct (Identifier r n ∷ ms) = false
on_construct (Value l n ∷ ms) = false
on_construct (Word w ∷ ms) = false

-- a construct, or this word before another one
abbrev pub on_list : Kind → Events → Bool
on_list k [] = false
on_list k (Begins c n ∷ ms) = true
on_list k (Ends c ∷ ms) = false
on_list k (Identifier r n ∷ ms) = false
on_list k (Value l n ∷ ms) = false
on_list k (Word w ∷ ms) = kind_eq w k

pub no_word : (k : Kind) (s : Events) → on_list k s ≡ false → on_word k s ≡ false
no_word k [] i = refl
no_word k (Begins c n ∷ ms) i = refl
no_word k (Ends c ∷ ms) i = refl
no_word k (Identifier r n ∷ ms) i = refl
no_word k (Value l n ∷ ms) i = refl
no_word k (Word w ∷ ms) i = i

-- The event sequence o determines what is contributed: if o before r equals the event sequence of some z before s, then z contributes a,
-- and r is s. Neither r nor s continues the part.
pub record Reads {Z A : Type 0} (tell : Z → A) (show : Z → Events) (more : Events → Bool) (a : A) (o : Events) : Type 0 where
  pub same : (z : Z) (r s : Events) → more r ≡ false → more s ≡ false → o ++ r ≡ show z ++ s → (a ≡ tell z) × (r ≡ s)

-- ---- one token

pub tail_is : (x y : TreeEvent) (r s : Events) → x ∷ r ≡ y ∷ s → r ≡ s
tail_is x y r s e = cc

name_is : (role : Role) (m n : ℕ) (r s : Events) → Identifier role m ∷ r ≡ Identifier role n ∷ s → m ≡ n
name_is role m n r s e = cc

declared_is : (a b : Bool) (m n : ℕ) (r s : Events) → Identifier (Declares a) m ∷ r ≡ Identifier (Declares b) n ∷ s → (m ≡ n) × (a ≡ b)
declared_is a b m n r s e = (cc, cc)

-- a name of this role
pub r-name : {Z : Type 0} (role : Role) (h : Z → ℕ) (n : ℕ) → Reads h (λ z. Identifier role (h z) ∷ []) never n (Identifier role n ∷ [])
r-name role h n = record { same = λ z r s i j e. (name_is role _ _ r s e, tail_is _ _ r s e) }

pub r-use : {Z : Type 0} (h : Z → ℕ) (n : ℕ) → Reads h (λ z. used (h z)) never n (used n)
r-use h n = r-name Uses h n

-- a name that is declared, with a star after it or without
pub r-declared : {Z : Type 0} (is_exported : Z → Bool) (h : Z → ℕ) (b : Bool) (n : ℕ) → Reads {A = ℕ × Bool} (λ z. (h z, is_exported z)) (λ z. declared (is_exported z) (h z)) never (n, b) (declared b n)
r-declared is_exported h b n = record {
  same = λ z r s i j e.
      let p = declared_is _ _ _ _ r s e in
      (ap₂ (λ (m : ℕ) (c : Bool). (m, c)) p.0 p.1, tail_is _ _ r s e);
}

-- ---- one part after the other

pub r-until : {Z A B : Type 0} {t : Z → A} {u : Z → B} {f g : Z → Events} {part more : Events → Bool} {a : A} {b : B} {o p : Events} →
    Reads t f part a o → ((s : Events) → more s ≡ false → part (p ++ s) ≡ false) → ((z : Z) (s : Events) → more s ≡ false → part (g z ++ s) ≡ false) →
    Reads u g more b p → Reads {Z = Z} {A = A × B} (λ z. (t z, u z)) (λ z. f z ++ g z) more (a, b) (o ++ p)
r-until {Z} {A} {B} {t} {u} {f} {g} {part} {more} {a} {b} {o} {p} x here there y = record {
  same = λ z r s i j e.
      let first = x.same z (p ++ r) (g z ++ s) (here r i) (there z s j) (sym (append_assoc o p r) ∙ e ∙ append_assoc (f z) (g z) s) in
      let second = y.same z r s i j first.1 in
      (ap₂ (λ (c : A) (d : B). (c, d)) first.0 second.0, second.1);
}

pub r-both : {Z A B : Type 0} {t : Z → A} {u : Z → B} {f g : Z → Events} {more : Events → Bool} {a : A} {b : B} {o p : Events} →
    Reads t f never a o → Reads u g more b p → Reads {Z = Z} {A = A × B} (λ z. (t z, u z)) (λ z. f z ++ g z) more (a, b) (o ++ p)
r-both x y = r-until x (λ s i. refl) (λ z s i. refl) y

-- a word before a part, and after one
pub r-past : {Z A : Type 0} {t : Z → A} {f : Z → Events} {more : Events → Bool} {a : A} {o : Events} (k : Kind) →
    Reads t f more a o → Reads t (λ z. word k ++ f z) more a (word k ++ o)
r-past k x = record { same = λ z r s i j e. x.same z r s i j (tail_is _ _ _ _ e) }

pub r-then : {Z A : Type 0} {t : Z → A} {f : Z → Events} {part : Events → Bool} {a : A} {o : Events} (k : Kind) →
    Reads t f part a o → ((s : Events) → part (Word k ∷ s) ≡ false) → Reads t (λ z. f z ++ word k) never a (o ++ word k)
r-then {Z} {A} {t} {f} {part} {a} {o} k x stops = record {
  same = λ z r s i j e.
      let first = x.same z (Word k ∷ r) (Word k ∷ s) (stops r) (stops s) (sym (append_assoc o (word k) r) ∙ e ∙ append_assoc (f z) (word k) s) in
      (first.0, tail_is _ _ r s first.1);
}

pub r-held : {Z A : Type 0} {t : Z → A} {f : Z → Events} {part : Events → Bool} {a : A} {o : Events} (c : Construct) →
    Reads t f part a o → ((s : Events) → part (Ends c ∷ s) ≡ false) → Reads t (λ z. construct c (f z)) never a (construct c o)
unfolding construct
r-held {Z} {A} {t} {f} {part} {a} {o} c x stops = record {
  same = λ z r s i j e.
      let inner : (o ++ Ends c ∷ []) ++ r ≡ (f z ++ Ends c ∷ []) ++ s = tail_is _ _ _ _ e in
      let first = x.same z (Ends c ∷ r) (Ends c ∷ s) (stops r) (stops s) (sym (append_assoc o (Ends c ∷ []) r) ∙ inner ∙ append_assoc (f z) (Ends c ∷ []) s) in
      (first.0, tail_is _ _ r s first.1);
}

-- a part of what is contributed, by where it is there
pub r-at : {Y Z A : Type 0} {t : Y → A} {f : Y → Events} {more : Events → Bool} {a : A} {o : Events} (h : Z → Y) →
    Reads t f more a o → Reads (λ z. t (h z)) (λ z. f (h z)) more a o
r-at h x = record { same = λ z r s i j e. x.same (h z) r s i j e }

-- the same, contributed otherwise
pub r-made : {Y Z A B : Type 0} {t : Y → A} {f : Y → Events} {more : Events → Bool} {a : A} {o : Events} {tell : Z → B} {show : Z → Events} {b : B} {p : Events} (told : A → B) (h : Z → Y) →
    ((z : Z) → tell z ≡ told (t (h z))) → ((z : Z) → show z ≡ f (h z)) → b ≡ told a → p ≡ o → Reads t f more a o → Reads tell show more b p
r-made {Y} {Z} {A} {B} {t} {f} {more} {a} {o} {tell} {show} {b} {p} told h with_rows shows is_told is_shown x = record {
  same = λ z r s i j e.
      let first = x.same (h z) r s i j (ap (λ (q : Events). q ++ r) (sym is_shown) ∙ e ∙ ap (λ (q : Events). q ++ s) (shows z)) in
      (is_told ∙ ap told first.0 ∙ sym (with_rows z), first.1);
}

-- ---- what may be absent

abbrev pub maybe : {X A : Type 0} → (X → A) → Option X → Option A
maybe f None = None
maybe f (Some x) = Some (f x)

pub clash : (x y : Bool) → x ≡ true → x ≡ false → ⊥
clash x y e f = cc

module _ {Y A : Type 0} (f : Y → A) (g : Y → Events) (more : Events → Bool) (front : (y : Y) (s : Events) → more (g y ++ s) ≡ true) where
  none_same : (o : Option Y) (r s : Events) → more r ≡ false → r ≡ if_present g o ++ s → (None ≡ maybe f o) × (r ≡ s)
  none_same None r s i e = (refl, e)
  none_same (Some y) r s i e = absurd (clash (more r) true (ap more e ∙ front y s) i)

  pub r-none : {Z : Type 0} (at : Z → Option Y) → Reads (λ z. maybe f (at z)) (λ z. if_present g (at z)) more None []
  r-none at = record { same = λ z r s i j e. none_same (at z) r s i e }

module _ {Y A : Type 0} {f : Y → A} {g : Y → Events} {part more : Events → Bool} {a : A} {o : Events} (x : Reads f g part a o)
    (ends : (s : Events) → more s ≡ false → part s ≡ false) (here : (s : Events) → more (o ++ s) ≡ true) where
  some_same : (q : Option Y) (r s : Events) → more r ≡ false → more s ≡ false → o ++ r ≡ if_present g q ++ s → (Some a ≡ maybe f q) × (r ≡ s)
  some_same None r s i j e = absurd (clash (more s) true (ap more (sym e) ∙ here r) j)
  some_same (Some y) r s i j e = let first = x.same y r s (ends r i) (ends s j) e in (ap (λ (b : A). Some b) first.0, first.1)

  pub r-some : {Z : Type 0} (at : Z → Option Y) → Reads (λ z. maybe f (at z)) (λ z. if_present g (at z)) more (Some a) o
  r-some at = record { same = λ z r s i j e. some_same (at z) r s i j e }

-- a word of any kind, alone or before a part
pub r-any : {Z : Type 0} (h : Z → Kind) (k : Kind) → Reads {Z = Z} {A = Bool} (λ z. true) (λ z. word (h z)) never true (word k)
r-any h k = record { same = λ z r s i j e. (refl, tail_is _ _ r s e) }

pub r-past_any : {Z A : Type 0} {t : Z → A} {f : Z → Events} {more : Events → Bool} {a : A} {o : Events} (h : Z → Kind) (k : Kind) →
    Reads t f more a o → Reads t (λ z. word (h z) ++ f z) more a (word k ++ o)
r-past_any h k x = record { same = λ z r s i j e. x.same z r s i j (tail_is _ _ _ _ e) }

-- a tree that is made of one layer
pub r-layer : {T F A B : Type 0} {tell : T → B} {show : T → Events} {more : Events → Bool} (out : T → F) (t : F → A) (f : F → Events) (told : A → B) →
    ((x : T) → tell x ≡ told (t (out x))) → ((x : T) → show x ≡ f (out x)) → (x : T) (y : F) → out x ≡ y → Reads t f more (t y) (f y) → Reads tell show more (tell x) (show x)
r-layer out t f told with_rows shows x y is h = r-made told out with_rows shows (with_rows x ∙ ap (λ z. told (t z)) is) (shows x ∙ ap f is) h
