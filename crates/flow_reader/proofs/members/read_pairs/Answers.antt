use Rattle.std.proofs.Common.{◌∷◌, ◌++◌, string_bytes, nat_cmp, ap, sym, refl, ◌∙◌}
use Rattle.std.proofs.lemmas.Result.{err_from_is_err_and}
use Rattle.std.specs.Cmp.Lexicographic.{slice_cmp}
use Rattle.std.specs.List.Sorted.{IsStrictlySortedBy}
use Rattle.serde_json.specs.View.{view, members_view}
use Rattle.flow_model.specs.Mapping.{pairs_of, keys_of}
use Rattle.flow_model.proofs.LastPair.{with_pair-above, keys_of-next}
use Rattle.flow_model.proofs.Pairs.{Ascends-pairs_of}
use Rattle.flow_reader.specs.Checked.{made, pairs_checked}
use Rattle.flow_reader.proofs.Keys.{ascend_without}
use Rattle.flow_reader.proofs.Lists.{made_begin, made_none, next_pair, bad_pair, passed_pair}
use Rattle.flow_reader.proofs.members.read_pairs.Goals as goal

pub loop-key-init : goal.loop-key-init
loop-key-init g c = rw (c.empty-read.ensures, c.into_iter-key-iterator.ensures.into_iter_gives, c.iter-key-items.ensures.rest) (record {
  keys = Ascends-pairs_of _ c.iter-key-items.ensures.ordered;
  reads = made_begin _;
})

pub loop-key-preserved-in-Continue-branch-2 : goal.loop-key-preserved-in-Continue-branch-2
loop-key-preserved-in-Continue-branch-2 g c =
    let left = c.next.new.self in
    let k = string_bytes c.in-Some.key.now in
    let v = c.in_ok-value.value in
    let read = c.loop-key.read in
    let keys : IsStrictlySortedBy (slice_cmp nat_cmp) (keys_of read ++ k ∷ keys_of (pairs_of left)) =
    rw c.in-Some.ensures.steps at c.loop-key.invariant.keys in
    rw (c.in_ok-set.ensures.ok, c.as_str-then-counts-2.ensures.value) (record {
      keys = rw (keys_of-next read k v (keys_of (pairs_of left)) _ refl keys) keys;
      reads = rw (with_pair-above read k v (keys_of (pairs_of left)) _ refl keys)
          (next_pair g.M.ReadsMember.counted g.M.ReadsMember.member read _ k (view c.in-Some.json.now) (members_view left) _ v
          (rw c.as_str.ensures.value at (sym c.counts.ensures ∙ c.if-counts.true))
          (ap (λ es. made (λ ps. read ++ ps) (pairs_checked g.M.ReadsMember.counted g.M.ReadsMember.member (members_view es))) (sym c.in-Some.ensures.steps) ∙ c.loop-key.invariant.reads)
          (rw c.as_str-then-counts.ensures.value at c.in_ok-value.ensures) refl);
    })

pub returns-in_err-value : goal.returns-in_err-value
returns-in_err-value g c =
    let left = c.next.new.self in
    let k = string_bytes c.in-Some.key.now in
    let read = c.loop-key.read in
    let p = err_from_is_err_and c.from_residual.result c.from_residual.ensures.1 in
    rw (p.1, p.2) (bad_pair g.M.ReadsMember.counted g.M.ReadsMember.member read k (view c.in-Some.json.now) (members_view left) _ c.in_err-value.field-0.0
    (rw c.as_str.ensures.value at (sym c.counts.ensures ∙ c.if-counts.true))
    (ap (λ es. made (λ ps. read ++ ps) (pairs_checked g.M.ReadsMember.counted g.M.ReadsMember.member (members_view es))) (sym c.in-Some.ensures.steps) ∙ c.loop-key.invariant.reads)
    (rw c.as_str-then-counts.ensures.value at c.in_err-value.ensures))

pub loop-key-preserved : goal.loop-key-preserved
loop-key-preserved g c =
    let left = c.next.new.self in
    let k = string_bytes c.in-Some.key.now in
    let read = c.loop-key.read in
    let keys : IsStrictlySortedBy (slice_cmp nat_cmp) (keys_of read ++ k ∷ keys_of (pairs_of left)) =
    rw c.in-Some.ensures.steps at c.loop-key.invariant.keys in
    record {
      keys = ascend_without (keys_of read) k (keys_of (pairs_of left)) keys;
      reads = passed_pair g.M.ReadsMember.counted g.M.ReadsMember.member read k (view c.in-Some.json.now) (members_view left) _
          (rw c.as_str.ensures.value at (sym c.counts.ensures ∙ c.if-counts.false))
          (ap (λ es. made (λ ps. read ++ ps) (pairs_checked g.M.ReadsMember.counted g.M.ReadsMember.member (members_view es))) (sym c.in-Some.ensures.steps) ∙ c.loop-key.invariant.reads);
    }

pub returns : goal.returns
returns g c =
    made_none c.loop-key.read _ (ap (λ es. made (λ ps. c.loop-key.read ++ ps) (pairs_checked g.M.ReadsMember.counted g.M.ReadsMember.member (members_view es))) (sym c.in-None.ensures.steps.0) ∙ c.loop-key.invariant.reads)
