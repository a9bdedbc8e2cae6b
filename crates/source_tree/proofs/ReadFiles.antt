-- Files that are read one after another, and in chunks.
use Rattle.std.proofs.Common.{◌≡◌, ℕ, zero, suc, ◌+◌, ◌*◌, ◌<◌, ◌≤◌, List, [], ◌∷◌, ◌++◌, length, get_or, take, drop, refl, sym, ap, ◌∙◌, subst, append_assoc, arith}
use Rattle.std.specs.Prelude.{Result, Ok, Err, Vec}
use Rattle.std.specs.Fork.{slice_chunk}
use Rattle.std.specs.declared.alloc.Global.{Global}
use Rattle.std.proofs.Math.Nat.{suc-mul, zero-mul}
use Rattle.std.proofs.Math.Seq.{drop-cons, drop-nil}
use Rattle.std.proofs.lemmas.List.{append-nil, length-drop, nil_from_length, take-append-drop}
use Rattle.source_tree.specs.Files.{AreAllOf, AreOfChunks, HasValue, IsFaultOfFiles, IsReading}
use Rattle.source_tree.specs.Trees.{AreAccepted, IsAccepted, IsFileFault, IsFirstFault, IsTreeFault, ModuleFile}
use Rattle.source_tree.specs.declared.source.Source.{Source}
use Rattle.source_tree.specs.declared.tree_fault.TreeFault.{TreeFault}
use Rattle.source_tree.specs.declared.tree_fault.TreeFault.TheVariants as faults
use Rattle.source_tree.proofs.TreeFiles.{at_item, each_joined, longer, take_at, Each}

-- ---- accepted files

accepted_joined : (xs ys : List Source) (fs gs : List ModuleFile) → AreAccepted xs fs → AreAccepted ys gs → AreAccepted (xs ++ ys) (fs ++ gs)
accepted_joined xs ys fs gs p q = record {
  as_many = longer fs gs xs ys p.as_many q.as_many;
  each = each_joined IsAccepted xs ys fs gs p.as_many p.each q.each;
}

-- an error of one of the files is the error of the tree
pub of_tree : (sources : List Source) (fault : TreeFault) → IsFaultOfFiles sources fault → IsTreeFault sources fault
of_tree sources (faults.Scan path at fault) h = h
of_tree sources (faults.Parse path at fault) h = h
of_tree sources (faults.Scope path at fault) h = h
of_tree sources (faults.Graph fault) h = absurd h
of_tree sources faults.Memory h = tt

-- the error of a file, where those before it are accepted
fault_behind : (front rest : List Source) (files : List ModuleFile) (source : Source) (fault : TreeFault) → AreAccepted front files → IsFileFault source fault → IsFaultOfFiles (front ++ source ∷ rest) fault
fault_behind front rest files source (faults.Scan path at fault) accepted h =
    record { before = front; source = source; after = rest; split = refl; files_before = files; accepted_before = accepted; has_fault = h }
fault_behind front rest files source (faults.Parse path at fault) accepted h =
    record { before = front; source = source; after = rest; split = refl; files_before = files; accepted_before = accepted; has_fault = h }
fault_behind front rest files source (faults.Scope path at fault) accepted h =
    record { before = front; source = source; after = rest; split = refl; files_before = files; accepted_before = accepted; has_fault = h }
fault_behind front rest files source (faults.Graph fault) accepted h = absurd h
fault_behind front rest files source faults.Memory accepted h = tt

-- the first error of a chunk, where the files before it are accepted
later_first : (front piece rest : List Source) (files : List ModuleFile) (fault : TreeFault) → AreAccepted front files → IsFirstFault piece fault → IsFirstFault (front ++ (piece ++ rest)) fault
later_first front piece rest files fault accepted h = record {
  before = front ++ h.before;
  source = h.source;
  after = h.after ++ rest;
  split = ap (λ (xs : List Source). front ++ (xs ++ rest)) h.split ∙ ap (λ (xs : List Source). front ++ xs) (append_assoc h.before (h.source ∷ h.after) rest)
      ∙ sym (append_assoc front h.before (h.source ∷ (h.after ++ rest)));
  files_before = files ++ h.files_before;
  accepted_before = accepted_joined front h.before files h.files_before accepted h.accepted_before;
  has_fault = h.has_fault;
}

pub later_fault : (front piece rest : List Source) (files : List ModuleFile) (fault : TreeFault) → AreAccepted front files → IsFaultOfFiles piece fault → IsFaultOfFiles (front ++ (piece ++ rest)) fault
later_fault front piece rest files (faults.Scan path at fault) accepted h = later_first front piece rest files (faults.Scan path at fault) accepted h
later_fault front piece rest files (faults.Parse path at fault) accepted h = later_first front piece rest files (faults.Parse path at fault) accepted h
later_fault front piece rest files (faults.Scope path at fault) accepted h = later_first front piece rest files (faults.Scope path at fault) accepted h
later_fault front piece rest files (faults.Graph fault) accepted h = absurd h
later_fault front piece rest files faults.Memory accepted h = tt

-- the first file with an error
pub first_fault : (sources : List Source) (i : ℕ) (source : Source) (files : List ModuleFile) (fault : TreeFault) → i < length sources → source ≡ get_or sources i source →
    AreAccepted (take i sources) files → IsFileFault source fault → IsFaultOfFiles sources fault
first_fault sources i source files fault l is accepted h =
    let split : sources ≡ take i sources ++ source ∷ drop (suc i) sources =
    sym (take-append-drop i sources) ∙ ap (λ (t : List Source). take i sources ++ t) (drop-cons sources i source l)
    ∙ ap (λ (s : Source). take i sources ++ s ∷ drop (suc i) sources) (sym is) in
    subst (λ (xs : List Source). IsFaultOfFiles xs fault) (sym split) (fault_behind (take i sources) (drop (suc i) sources) files source fault accepted h)

-- ---- chunks

drop_twice : (a b : ℕ) (xs : List Source) → drop b (drop a xs) ≡ drop (a + b) xs
drop_twice zero b xs = ap (λ (n : ℕ). drop n xs) (omega arith)
drop_twice (suc a) b [] = drop-nil b ∙ sym (drop-nil (suc a + b))
drop_twice (suc a) b (x ∷ xs) =
    let more : suc (a + b) ≡ suc a + b = omega arith in
    drop_twice a b xs ∙ ap (λ (n : ℕ). drop n (x ∷ xs)) more

-- chunks of one size are consecutive parts of the list
pub chunks_are_pieces : {A : Type 0} (IsOf : List Source → A → Type 0) (size : ℕ) (answers : List A) (sources : List Source) → length sources ≤ length answers * size →
    ((n : ℕ) (d : A) → n < length answers → IsOf (slice_chunk sources size n) (get_or answers n d)) → AreOfChunks IsOf sources answers
chunks_are_pieces IsOf size [] sources l each = nil_from_length sources (let none = zero-mul size in omega arith)
chunks_are_pieces IsOf size (answer ∷ answers) sources l each =
    let first : slice_chunk sources size 0 ≡ take size sources = ap (λ (n : ℕ). take size (drop n sources)) (zero-mul size) in
    let more = suc-mul (length answers) size in
    let long = length-drop size sources in (
      take size sources,
      drop size sources,
      sym (take-append-drop size sources),
      subst (λ (xs : List Source). IsOf xs answer) first (each zero answer (omega arith)),
      chunks_are_pieces IsOf size answers (drop size sources) (omega arith) (λ n d lt.
          let next : drop (suc n * size) sources ≡ drop (n * size) (drop size sources) =
          ap (λ (k : ℕ). drop k sources) (let s = suc-mul n size in omega arith) ∙ sym (drop_twice size (n * size) sources) in
          subst (λ (xs : List Source). IsOf xs (get_or answers n d)) (ap (take size) next) (each (suc n) d (omega arith))),
    )

module _ {K : Type 0} (is_of : ModuleFile → K → Type 0) where
  ---- the values that are computed from files

  pub all_none : AreAllOf is_of [] [] []
  all_none = record {
    accepted = record { as_many = refl; each = λ i s file p q. absurd cc };
    as_many = refl;
    each = λ i file kept p q. absurd cc;
  }

  pub all_joined : (xs ys : List Source) (fs gs : List ModuleFile) (ks ms : List K) → AreAllOf is_of xs fs ks → AreAllOf is_of ys gs ms → AreAllOf is_of (xs ++ ys) (fs ++ gs) (ks ++ ms)
  all_joined xs ys fs gs ks ms p q = record {
    accepted = accepted_joined xs ys fs gs p.accepted q.accepted;
    as_many = longer ks ms fs gs p.as_many q.as_many;
    each = each_joined is_of fs gs ks ms p.as_many p.each q.each;
  }

  pub all_one : (source : Source) (file : ModuleFile) (kept : K) → IsAccepted source file → is_of file kept → AreAllOf is_of (source ∷ []) (file ∷ []) (kept ∷ [])
  all_one source file kept accepted is = record {
    accepted = record { as_many = refl; each = λ i s f p q. one IsAccepted source file accepted i s f p q };
    as_many = refl;
    each = λ i f k p q. one is_of file kept is i f k p q;
  }
    where
      one : {X Y : Type 0} (P : X → Y → Type 0) (x : X) (y : Y) → P x y → Each P (x ∷ []) (y ∷ [])
      one {X} {Y} P x y h zero u v p q = let same_x : x ≡ u = cc in let same_y : y ≡ v = cc in subst (λ (w : X). P w v) same_x (subst (λ (w : Y). P x w) same_y h)
      one P x y h (suc i) u v p q = absurd cc

  -- one more of a list of files
  pub all_next : (sources : List Source) (i : ℕ) (source : Source) (all : List K) (kept : K) → i < length sources → source ≡ get_or sources i source →
      (files : List ModuleFile) × AreAllOf is_of (take i sources) files all → HasValue is_of source kept → (files : List ModuleFile) × AreAllOf is_of (take (i + 1) sources) files (all ++ kept ∷ [])
  all_next sources i source all kept l is (files, before) (file, accepted, of) = (
    files ++ file ∷ [],
    subst (λ (front : List Source). AreAllOf is_of front (files ++ file ∷ []) (all ++ kept ∷ [])) (sym (take_at sources i source (at_item sources i source l is)))
        (all_joined (take i sources) (source ∷ []) files (file ∷ []) all (kept ∷ []) before (all_one source file kept accepted of)),
  )

  -- ---- chunks

  -- the files before a chunk have been read, and the rest is there
  pub record AreReadBefore (sources : List Source) (all : List K) (answers : List (Result (Vec K Global) TreeFault)) : Type 0 where
    pub front : List Source
    pub rest : List Source
    pub whole : sources ≡ front ++ rest
    pub files : List ModuleFile
    pub are : AreAllOf is_of front files all
    pub pieces : AreOfChunks (IsReading is_of) rest answers

  pub before_pieces : (sources : List Source) (answers : List (Result (Vec K Global) TreeFault)) → AreOfChunks (IsReading is_of) sources answers → AreReadBefore sources [] answers
  before_pieces sources answers pieces = record { front = []; rest = sources; whole = refl; files = []; are = all_none; pieces = pieces }

  pub next_piece : (sources : List Source) (all : List K) (more : Vec K Global) (answers : List (Result (Vec K Global) TreeFault)) → AreReadBefore sources all (Ok more ∷ answers) →
      AreReadBefore sources (all ++ more.items) answers
  next_piece sources all more answers h =
      let (piece, rest, split, (gs, are), pieces) = h.pieces in
      record {
        front = h.front ++ piece;
        rest = rest;
        whole = h.whole ∙ ap (λ (xs : List Source). h.front ++ xs) split ∙ sym (append_assoc h.front piece rest);
        files = h.files ++ gs;
        are = all_joined h.front piece h.files gs all more.items h.are are;
        pieces = pieces;
      }

  pub fault_of_piece : (sources : List Source) (all : List K) (fault : TreeFault) (answers : List (Result (Vec K Global) TreeFault)) → AreReadBefore sources all (Err fault ∷ answers) →
      IsFaultOfFiles sources fault
  fault_of_piece sources all fault answers h =
      let (piece, rest, split, is, pieces) = h.pieces in
      subst (λ (xs : List Source). IsFaultOfFiles xs fault) (sym (h.whole ∙ ap (λ (xs : List Source). h.front ++ xs) split)) (later_fault h.front piece rest h.files fault h.are.accepted is)

  pub all_pieces : (sources : List Source) (all : List K) → AreReadBefore sources all [] → (files : List ModuleFile) × AreAllOf is_of sources files all
  all_pieces sources all h =
      let whole : sources ≡ h.front = h.whole ∙ ap (λ (xs : List Source). h.front ++ xs) h.pieces ∙ append-nil h.front in
      (h.files, subst (λ (xs : List Source). AreAllOf is_of xs h.files all) (sym whole) h.are)
