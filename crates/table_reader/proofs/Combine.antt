-- If all parts were tabulated, the whole is tabulated.
use Rattle.std.proofs.Common.{◌≡◌, false, [], ◌++◌, List, Result, Ok, Err, Some, None, refl, sym, ap, ◌∙◌}
use Rattle.ob_scan.specs.declared.token.Token.{Token}
use Rattle.ob_tree.specs.Constructs.{Construct}
use Rattle.ob_tree.specs.TreeEvents.{Events, construct}
use Rattle.ob_grammar.specs.declared.cursor.Cursor.{Cursor}
use Rattle.ob_grammar.specs.declared.stop.Stop.{Stop}
use Rattle.ob_grammar.specs.declared.stop.Stop.TheVariants as stops
use Rattle.ob_grammar.specs.Combinators.{Read, Reader, Start, ◌>>=◌, seq, prefixed, node, optional}
use Rattle.ob_grammar.specs.ParsesAs.{Fails, remaining}
use Rattle.module_table.specs.declared.builder.TableBuilder.{TableBuilder}
use Rattle.module_table.specs.TableStages.{Stage, stage_of, PerformsStep}
use Rattle.table_reader.specs.Tabulating.{HasAppendedEntries, AppendsEntriesBy}

-- reading on after an error
fails_on : (ts : List Token) (e : Stop) (read : Read) (k : Read → Read) → ((x : _) → k (Err x) ≡ Err x) → Fails ts e read → Fails ts e (k read)
fails_on ts stops.Memory read k h f = tt
fails_on ts (stops.Unexpected i) read k h f = ap k f ∙ h _
fails_on ts (stops.TooDeep i) read k h f = ap k f ∙ h _

module _ {A : Type 0} (ts : List Token) (f : A → Events) (p : A → Stage → Stage) where
  -- another view of the tree, with the same entries
  pub told_at : {B : Type 0} (g : B → Events) (q : B → Stage → Stage) (make : A → B) → ((x : A) → g (make x) ≡ f x) →
      (old new : TableBuilder) (result : Result Cursor Stop) (read : Read) → ((x : A) → q (make x) (stage_of old) ≡ p x (stage_of old)) → AppendsEntriesBy ts f p old new result read → AppendsEntriesBy ts g q old new result read
  told_at g q make events old new (Ok rest) read stepped t = record {
    out = t.out;
    is_read = t.is_read;
    tabulates = λ e. let k = t.tabulates e in (k.0, record { tree = make k.1.tree; has_events = events k.1.tree ∙ k.1.has_events; comes = k.1.comes ∙ sym (stepped k.1.tree) });
  }
  told_at g q make events old new (Err e) read stepped t = t

  -- another view of the tree
  pub told_as : {B : Type 0} (g : B → Events) (q : B → Stage → Stage) (make : A → B) → ((x : A) → g (make x) ≡ f x) → ((x : A) (s : Stage) → q (make x) s ≡ p x s) →
      (old new : TableBuilder) (result : Result Cursor Stop) (read : Read) → AppendsEntriesBy ts f p old new result read → AppendsEntriesBy ts g q old new result read
  told_as g q make events stepped old new result read t = told_at g q make events old new result read (λ x. stepped x (stage_of old)) t

  -- a construct
  pub told_node : (c : Construct) (r : Reader) (old new : TableBuilder) (result : Result Cursor Stop) (ls : List _) → AppendsEntriesBy ts f p old new result (r ls) →
      AppendsEntriesBy ts (λ x. construct c (f x)) p old new result (node c r ls)
  told_node c r old new (Ok rest) ls t = record {
    out = construct c t.out;
    is_read = rw t.is_read refl;
    tabulates = λ e. let k = t.tabulates e in (k.0, record { tree = k.1.tree; has_events = ap (construct c) k.1.has_events; comes = k.1.comes });
  }
  told_node c r old new (Err e) ls t = fails_on ts e (r ls) (λ z. z >>= λ a. Ok (construct c a.0, a.1)) (λ x. refl) t

  -- events at the start
  pub told_prefixed : (ms : Events) (r : Reader) (old new : TableBuilder) (result : Result Cursor Stop) (ls : List _) → AppendsEntriesBy ts f p old new result (r ls) →
      AppendsEntriesBy ts (λ x. ms ++ f x) p old new result (prefixed ms r ls)
  told_prefixed ms r old new (Ok rest) ls t = record {
    out = ms ++ t.out;
    is_read = rw t.is_read refl;
    tabulates = λ e. let k = t.tabulates e in (k.0, record { tree = k.1.tree; has_events = ap (λ (o : Events). ms ++ o) k.1.has_events; comes = k.1.comes });
  }
  told_prefixed ms r old new (Err e) ls t = fails_on ts e (r ls) (λ z. z >>= λ a. Ok (ms ++ a.0, a.1)) (λ x. refl) t

  -- after an entry, or a token by which the builder advances
  pub told_behind : (step : Stage → Stage) (old mid new : TableBuilder) (result : Result Cursor Stop) (read : Read) → PerformsStep step old mid → AppendsEntriesBy ts f p mid new result read →
      AppendsEntriesBy ts f (λ x s. p x (step s)) old new result read
  told_behind step old mid new (Ok rest) read h t = record {
    out = t.out;
    is_read = t.is_read;
    tabulates = λ e. let k = t.tabulates e in let b = h k.0 in (b.0, record { tree = k.1.tree; has_events = k.1.has_events; comes = k.1.comes ∙ ap (p k.1.tree) b.1 });
  }
  told_behind step old mid new (Err e) read h t = t

  -- before an entry, or a token by which the builder advances
  pub told_before : (step : Stage → Stage) (old mid new : TableBuilder) (rest : Cursor) (read : Read) → AppendsEntriesBy ts f p old mid (Ok rest) read → PerformsStep step mid new →
      AppendsEntriesBy ts f (λ x s. step (p x s)) old new (Ok rest) read
  told_before step old mid new rest read t h = record {
    out = t.out;
    is_read = t.is_read;
    tabulates = λ e. let b = h e in let k = t.tabulates b.0 in (k.0, record { tree = k.1.tree; has_events = k.1.has_events; comes = b.1 ∙ ap step k.1.comes });
  }

  -- after a step by which something is known
  pub told_knowing : {Fact : Type 0} (step : Stage → Stage) (old mid new : TableBuilder) (result : Result Cursor Stop) (read : Read) → PerformsStep step old mid → (mid.failed ≡ false → Fact) →
      AppendsEntriesBy ts f p mid new result read → AppendsEntriesBy ts (λ (x : A × Fact). f x.0) (λ x s. p x.0 (step s)) old new result read
  told_knowing step old mid new (Ok rest) read h in_range t = record {
    out = t.out;
    is_read = t.is_read;
    tabulates = λ e. let k = t.tabulates e in let b = h k.0 in (b.0, record { tree = (k.1.tree, in_range k.0); has_events = k.1.has_events; comes = k.1.comes ∙ ap (p k.1.tree) b.1 });
  }
  told_knowing step old mid new (Err e) read h in_range t = t

  -- with what is known anyway
  pub told_with : {Fact : Type 0} (old new : TableBuilder) (rest : Cursor) (read : Read) → HasAppendedEntries ts f p old new rest read → Fact → HasAppendedEntries ts (λ (x : A × Fact). f x.0) (λ x. p x.0) old new rest read
  told_with old new rest read t in_range = record {
    out = t.out;
    is_read = t.is_read;
    tabulates = λ e. let k = t.tabulates e in (k.0, record { tree = (k.1.tree, in_range); has_events = k.1.has_events; comes = k.1.comes });
  }

  -- one part and then another
  pub told_then : {B : Type 0} (g : B → Events) (q : B → Stage → Stage) (r s : Reader) (old mid new : TableBuilder) (here : Cursor) (result : Result Cursor Stop) (ls : List _) →
      AppendsEntriesBy ts f p old mid (Ok here) (r ls) → AppendsEntriesBy ts g q mid new result (s (remaining ts here)) →
      AppendsEntriesBy ts (λ (x : A × B). f x.0 ++ g x.1) (λ x z. q x.1 (p x.0 z)) old new result (seq r s ls)
  told_then g q r s old mid new here (Ok rest) ls t u = record {
    out = t.out ++ u.out;
    is_read = rw (t.is_read, u.is_read) refl;
    tabulates = λ e. let b = u.tabulates e in let a = t.tabulates b.0 in (
      a.0,
      record {
        tree = (a.1.tree, b.1.tree);
        has_events = ap (λ (o : Events). o ++ g b.1.tree) a.1.has_events ∙ ap (λ (o : Events). t.out ++ o) b.1.has_events;
        comes = b.1.comes ∙ ap (q b.1.tree) a.1.comes;
      },
    );
  }
  told_then g q r s old mid new here (Err e) ls t u = rw t.is_read (fails_on ts e (s (remaining ts here)) (λ z. z >>= λ b. Ok (t.out ++ b.0, b.1)) (λ x. refl) u)

  -- an optional part that is present
  pub told_there : (start : Start) (r : Reader) (ms : Events) (old new : TableBuilder) (rest : Cursor) (result : Result Cursor Stop) (ls : List _) →
      start ls ≡ Some (ms, remaining ts rest) → AppendsEntriesBy ts f p old new result (r (remaining ts rest)) → AppendsEntriesBy ts (λ x. ms ++ f x) p old new result (optional start r ls)
  told_there start r ms old new rest result ls e t = rw e (told_prefixed ms r old new result (remaining ts rest) t)

-- if the first part fails, the whole does
pub failed_then : (ts : List Token) (r s : Reader) (e : Stop) (ls : List _) → Fails ts e (r ls) → Fails ts e (seq r s ls)
failed_then ts r s e ls h = fails_on ts e (r ls) (λ z. z >>= λ a. s a.1 >>= λ b. Ok (a.0 ++ b.0, b.1)) (λ x. refl) h

pub failed_node : (ts : List Token) (c : Construct) (r : Reader) (e : Stop) (ls : List _) → Fails ts e (r ls) → Fails ts e (node c r ls)
failed_node ts c r e ls h = fails_on ts e (r ls) (λ z. z >>= λ a. Ok (construct c a.0, a.1)) (λ x. refl) h

pub failed_prefixed : (ts : List Token) (ms : Events) (r : Reader) (e : Stop) (ls : List _) → Fails ts e (r ls) → Fails ts e (prefixed ms r ls)
failed_prefixed ts ms r e ls h = fails_on ts e (r ls) (λ z. z >>= λ a. Ok (ms ++ a.0, a.1)) (λ x. refl) h

-- an optional part that is absent
pub told_absent : {A : Type 0} (ts : List Token) (f : A → Events) (p : A → Stage → Stage) (none : A) (start : Start) (r : Reader) (d : TableBuilder) (here : Cursor) →
    f none ≡ [] → ((s : Stage) → p none s ≡ s) → start (remaining ts here) ≡ None → AppendsEntriesBy ts f p d d (Ok here) (optional start r (remaining ts here))
told_absent ts f p none start r d here e k h = record {
  out = [];
  is_read = rw h refl;
  tabulates = λ q. (q, record { tree = none; has_events = e; comes = sym (k (stage_of d)) });
}

-- the part that was read first and tabulated then
pub told_walked : {A : Type 0} (ts : List Token) (f : A → Events) (p : A → Stage → Stage) (tree : A) (old new : TableBuilder) (rest : Cursor) (read : Read) → read ≡ Ok (f tree, remaining ts rest) → PerformsStep (p tree) old new →
    HasAppendedEntries ts f p old new rest read
told_walked ts f p tree old new rest read e h = record { out = f tree; is_read = e; tabulates = λ q. let k = h q in (k.0, record { tree = tree; has_events = refl; comes = k.1 }) }
