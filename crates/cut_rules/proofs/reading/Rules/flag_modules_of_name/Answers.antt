use Rattle.std.proofs.Common.{inl, inr, arith}
use Rattle.cut_rules.proofs.reading.Rules.flag_modules_of_name.Goals as goal

pub returns-clause-flags : goal.returns-clause-flags
returns-clause-flags c m low =
    let own = c.flag_module.ensures.flags m low in
    let long = c.flag_module.ensures.size in
    let more = c.flag_set_members.ensures.flags m (omega arith) in (
      λ e. elim (more.0 e) [
        | inl was ↦ elim (own.0 was) [ inl before ↦ inl before | inr is ↦ inr (inl is) ]
        | inr member ↦ inr (inr member)
      ],
      λ either. more.1 (elim either [
        | inl before ↦ inl (own.1 (inl before))
        | inr named ↦ elim named [ inl is ↦ inl (own.1 (inr is)) | inr member ↦ inr member ]
      ]),
    )
