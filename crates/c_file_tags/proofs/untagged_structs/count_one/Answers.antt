use Rattle.std.proofs.Common.{rules, ◌≡◌, ◌+◌, ap, arith, refl}
use Rattle.c_file_tags.specs.UntaggedStructs.Untagged.{counted_at}
use Rattle.c_file_tags.proofs.UntaggedStructs.Counting.{one_number, one_counted}
use Rattle.c_file_tags.proofs.untagged_structs.count_one.Goals as goal

pub overflow_add-number : goal.overflow_add-number
overflow_add-number c =
    let old = c.args.counts.now.entries in
    let e : c.in_ok-copied.field-0.items ≡ c.args.name.now = search rules in
    let k : c.unwrap_or-known.result ≡ counted_at old (c.in_ok-copied.field-0.items, c.args.line) = search rules in
    omega (arith, k, ap (λ x. counted_at old (x, c.args.line)) e, c.requires)

pub returns-clause-number : goal.returns-clause-number
returns-clause-number c =
    let e : c.in_ok-copied.field-0.items ≡ c.args.name.now = search rules in
    let k : c.unwrap_or-known.result ≡ counted_at c.args.counts.now.entries (c.in_ok-copied.field-0.items, c.args.line) = search rules in
    one_number c.args.counts.now.entries c.in_ok-copied.field-0.items c.args.name.now c.args.line (c.unwrap_or-known.result + 1)
    c.unwrap_or-known.result e k refl

pub returns-clause-counted : goal.returns-clause-counted
returns-clause-counted c =
    let e : c.in_ok-copied.field-0.items ≡ c.args.name.now = search rules in
    let k : c.unwrap_or-known.result ≡ counted_at c.args.counts.now.entries (c.in_ok-copied.field-0.items, c.args.line) = search rules in
    one_counted c.args.counts.now.entries c.put.new.entries.entries c.in_ok-copied.field-0 c.args.name.now c.args.line (c.unwrap_or-known.result + 1)
    c.unwrap_or-known.result e k refl c.in_ok-put.ensures.put
