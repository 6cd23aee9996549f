use Rattle.std.proofs.Common.{◌≡◌, ◌∙◌, ℕ, ◌+◌, All, ap, fold, subst, sym, rules}
use Rattle.std.proofs.lemmas.List.Sums.{fold-append}
use Rattle.c_types.specs.Layouts.{size_of}
use Rattle.c_typed.specs.declared.program.Local.{Local}
use Rattle.c_typed.specs.Programs.{program_data}
use Rattle.c_link.specs.Counting.{IsMeasured}
use Rattle.c_link.specs.Gaps.{type_at}
use Rattle.c_link.proofs.Counted.{all_after}
use Rattle.c_link.proofs.limits.local_bytes.Goals as goal

pub with_locals-requires-clause-measured : goal.with_locals-requires-clause-measured
with_locals-requires-clause-measured c =
    let p = program_data c.args.p.now in
    let f = c.args.f.now in
    let P : Local → Type 0 = λ l. IsMeasured p.records (type_at p l.ty) in
    let e : c.as_slice-2.result.now ≡ f.locals = search rules in
    subst (All P) (sym e) (all_after P f.parameters f.locals c.requires)

pub returns : goal.returns
returns c =
    let p = program_data c.args.p.now in
    let f = c.args.f.now in
    let more : ℕ → Local → ℕ = λ n l. n + size_of p.records (type_at p l.ty) in
    let first : c.as_slice.result.now ≡ f.parameters = search rules in
    let second : c.as_slice-2.result.now ≡ f.locals = search rules in
    c.with_locals.ensures.value ∙ ap (fold more c.with_locals-bytes.result) second
    ∙ ap (λ n. fold more n f.locals) (c.with_locals-bytes.ensures.value ∙ ap (fold more 0) first) ∙ sym (fold-append more 0 f.parameters f.locals)
