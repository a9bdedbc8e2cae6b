-- The bytes that the writer left in the new file are the target's bytes after the rename.
use Rattle.std.proofs.Common.{◌≡◌, List, [], Option, None, Some, IsSome, unwrap_or, refl}
use Rattle.atomic_file.proofs.replace.write_and_rename.Goals as goal

is-unwrap_or : {A : Type 0} (o : Option (List A)) → IsSome o → o ≡ Some (unwrap_or o [])
is-unwrap_or None h = cc
is-unwrap_or (Some x) h = refl

pub returns-in-Ok-rename-clause-renamed : goal.returns-in-Ok-rename-clause-renamed
returns-in-Ok-rename-clause-renamed g c =
    let left = g.F.NewFile.Sink.taken c.write_new_file.new.file in record {
      left = left;
      is_written = c.in-Ok.ensures.written;
      bytes = unwrap_or left [];
      left_is = λ k. is-unwrap_or left (g.met.F.FileSystem.knows_taken k c.write_new_file.new.file);
      renamed = λ k. let h = c.in-Ok-rename.ensures.renamed k _ (is-unwrap_or left (g.met.F.FileSystem.knows_taken k c.write_new_file.new.file)) in
          rw (c.as_str.ensures.value, c.as_str-2.ensures.value) at h;
    }
