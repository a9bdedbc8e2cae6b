-- Reserved entries for selectors, one more at a time.
use Rattle.std.proofs.Common.{◌≡◌, ℕ, zero, suc, ◌+◌, ◌-◌, ◌^◌, ◌<◌, min, List, [], ◌∷◌, ◌++◌, length, refl, ap, arith, append_assoc}
use Rattle.std.proofs.lemmas.List.{append-nil}
use Rattle.module_table.specs.declared.rows.Selector.{Selector as SelectorRow}
use Rattle.module_table.specs.declared.builder.TableBuilder.{TableBuilder}
use Rattle.module_table.specs.Parts.{joined, these_selectors}
use Rattle.module_table.specs.TableStages.{Stage, added}
use Rattle.table_reader.specs.SelectorSlots.{placeholder, slots}

pub length_places : (head n : ℕ) → length (slots head n) ≡ n
length_places head zero = refl
length_places head (suc n) = ap suc (length_places head n)

pub places_more : (head n m : ℕ) → slots head (n + m) ≡ slots head n ++ slots head m
places_more head zero m = let e : zero + m ≡ m = omega arith in rw e refl
places_more head (suc n) m = let e : suc n + m ≡ suc (n + m) = omega arith in rw e (ap (λ (zs : List SelectorRow). placeholder head ∷ zs) (places_more head n m))

pub no_places : (head : ℕ) (s : Stage) → added (these_selectors (slots head 0)) s ≡ s
unfolding added joined
no_places head s = simp append-nil

pub more_places : (head n : ℕ) (s : Stage) → added (these_selectors (slots head (n + 1))) s ≡ added (these_selectors (placeholder head ∷ [])) (added (these_selectors (slots head n)) s)
unfolding added joined
more_places head n s = rw (places_more head n 1) (simp (append-nil, append_assoc))

-- the slot after an existing one
pub place_behind : (slot later : ℕ) (d : TableBuilder) → later ≡ min (slot + 1) (2 ^ 64 - 1) → slot < length d.selectors.items → later ≡ slot + 1
place_behind slot later d e h = let size = d.selectors.ok in let small = d.selectors.small in omega (arith, e, h, size, small)
