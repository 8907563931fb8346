use Rattle.std.proofs.Common.{◌≡◌, ◌∷◌, ◌++◌, string_bytes, ap, sym, ◌∙◌}
use Rattle.serde_json.specs.View.{view, members_view}
use Rattle.flow_model.specs.Mapping.{pairs_of, keys_of}
use Rattle.flow_model.proofs.LastPair.{with_pair-above, keys_of-next}
use Rattle.flow_model.proofs.Pairs.{Ascends-pairs_of}
use Rattle.plan_documents.specs.Parts.{map_read, pairs_read}
use Rattle.plan_documents.proofs.Steps.{pair_step}
use Rattle.plan_documents.proofs.reading.read_pairs.Goals as goal

pub loop-key-preserved : goal.loop-key-preserved
loop-key-preserved g c =
    let left = c.next.new.self in
    let k = string_bytes c.in-Some.key.now in
    let v = c.in_ok-value.value in
    let read = c.loop-key.read in
    let ascends = Ascends-pairs_of _ c.iter-key-items.ensures.ordered in
    let keys : keys_of read ++ k ∷ keys_of (pairs_of left) ≡ keys_of (pairs_of c.args.members.now.entries) =
    ap (λ es. keys_of read ++ keys_of (pairs_of es)) (sym c.in-Some.ensures.steps) ∙ c.loop-key.invariant.keys in
    rw (c.in_ok-set.ensures.ok, c.as_str-name.ensures.value) (record {
      keys = keys_of-next read k v (keys_of (pairs_of left)) _ keys ascends;
      reads = rw (with_pair-above read k v (keys_of (pairs_of left)) _ keys ascends)
          (pair_step g.T.FromJson.reading read k v (view c.in-Some.member.now) (members_view left) _
          (ap (λ es. map_read (λ ps. read ++ ps) (pairs_read g.T.FromJson.reading (members_view es))) (sym c.in-Some.ensures.steps) ∙ c.loop-key.invariant.reads)
          (rw c.as_str-name.ensures.value at c.in_ok-value.ensures));
    })
