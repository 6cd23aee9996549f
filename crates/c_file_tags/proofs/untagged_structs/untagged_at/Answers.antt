use Rattle.std.proofs.Common.{◌≡◌, ◌∙◌, ℕ, List, ◌∷◌, subst, sym, arith}
use Rattle.c_erasure.specs.Untagged.{AreTags}
use Rattle.c_scopes.specs.SyntaxTags.Untagged.{untagged_by}
use Rattle.c_file_tags.specs.UntaggedStructs.Untagged.{counted_at}
use Rattle.c_file_tags.proofs.UntaggedStructs.Counting.{few_more}
use Rattle.c_file_tags.proofs.UntaggedStructs.Tagging.{AreTagged, next_tagged, later, all_taken, all_tagged, all_begin}
use Rattle.c_file_tags.proofs.untagged_structs.untagged_at.Goals as goal

pub loop-at-preserved : goal.loop-at-preserved
loop-at-preserved c = record {
  text = c.presumed_at-presumed.ensures.of ∙ c.loop-at.invariant.text;
  asked = rw c.presumed_at-presumed.ensures.asked (later c.args.places.now c.requires.order c.loop-at.at-index (omega arith));
  tagged = next_tagged c.args.file.now.name c.args.file.now.bytes c.args.places.now c.loop-at.at-index (counted_at c.loop-at.counts.entries)
      (counted_at c.count_one.new.counts.entries) c.loop-at.tags.entries c.add_tag.new.tags.entries c.presumed_at-presumed.result
      c.presumed_name-name.result.now c.in_ok-number.number c.requires.order (omega arith) c.loop-at.invariant.tagged
      (rw (← c.loop-at.invariant.text) c.presumed_at-presumed.ensures.is) c.presumed_name-name.ensures c.in_ok-number.ensures.counted
      c.in_ok-number.ensures.number c.in_ok-add_tag.ensures;
  few = λ q. omega (
    arith,
    few_more (counted_at c.loop-at.counts.entries) (counted_at c.count_one.new.counts.entries)
        (c.presumed_name-name.result.now, c.presumed_at-presumed.result.line) c.loop-at.at-index c.in_ok-number.ensures.counted c.loop-at.invariant.few q,
  );
}

pub count_one-requires : goal.count_one-requires
count_one-requires c =
    omega (arith, c.loop-at.invariant.few (c.presumed_name-name.result.now, c.presumed_at-presumed.result.line))

pub returns-clause-are : goal.returns-clause-are
returns-clause-are c =
    subst (λ tags. AreTags c.args.file.now.name c.args.file.now.bytes c.args.places.now (untagged_by tags)) (sym c.of-untagged.ensures)
    (all_tagged c.args.file.now.name c.args.file.now.bytes c.args.places.now (counted_at c.loop-at.counts.entries) c.loop-at.tags.entries
    (subst (λ all. AreTagged c.args.file.now.name c.args.file.now.bytes all (counted_at c.loop-at.counts.entries) c.loop-at.tags.entries)
    (all_taken c.args.places.now c.loop-at.at-index (omega arith)) c.loop-at.invariant.tagged))

pub returns-clause-begin : goal.returns-clause-begin
returns-clause-begin c =
    subst (λ tags. (at : ℕ) → (rest : List ℕ) × (untagged_by tags at ≡ 64 ∷ rest)) (sym c.of-untagged.ensures)
    (all_begin c.loop-at.tags.entries c.loop-at.invariant.tagged.begin)
