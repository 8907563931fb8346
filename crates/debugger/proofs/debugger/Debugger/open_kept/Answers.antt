use Rattle.std.proofs.Common.{◌∙◌, List, ap, sym, length}
use Rattle.status_table.specs.Words.{Board, after_from}
use Rattle.debugger.specs.Trail.{Trail, first_of}
use Rattle.debugger.proofs.Following.{first-played, legal-played, rewound, same-session}
use Rattle.debugger.proofs.debugger.Debugger.open_kept.Goals as goal

pub invariant_of-result : goal.invariant_of-result
invariant_of-result g c =
    let start = c.in_ok-walk.walk in
    rewound start.plan start.now c.as_slice.result.now c.into_sequence-entries.result c.record_all.new.walk c.rewind.new.self c.in-Ok.marks.items c.new-in-Ok.result
    c.in-Ok.ensures.ok c.as_slice.ensures c.new-in-Ok.ensures c.rewind.ensures.plan c.rewind.ensures.past c.rewind.ensures.now

pub returns-in-Ok-clause-ok : goal.returns-in-Ok-clause-ok
returns-in-Ok-clause-ok g c =
    let start = c.in_ok-walk.walk in
    let es = c.as_slice.result.now in
    let t = c.rewind.new.self in
    same-session _ _ _ _ _ _ _ _ _ _
    (c.rewind.ensures.plan ∙ c.in-Ok.ensures.ok.plan ∙ ap (λ (x : Trail). x.plan) c.in_ok-walk.ensures)
    (ap (λ (bs : List Board). first_of bs t.now) c.rewind.ensures.past ∙ c.rewind.ensures.now
    ∙ first-played start.plan start.now es (length es) c.record_all.new.walk c.in-Ok.marks.items c.in-Ok.ensures.ok ∙ ap (λ (x : Trail). x.now) c.in_ok-walk.ensures)
    c.into_sequence-entries.ensures (ap length c.rewind.ensures.past) c.new-in-Ok-2.ensures.items

pub returns-in-Ok-clause-legal : goal.returns-in-Ok-clause-legal
returns-in-Ok-clause-legal g c =
    let start = c.in_ok-walk.walk in
    let all = c.args.kept in (
      c.record_all.new.walk.now,
      ap (λ (x : Trail). after_from x.plan x.now all) (sym c.in_ok-walk.ensures)
          ∙ ap (after_from start.plan start.now) (sym (c.as_slice.ensures ∙ c.into_sequence-entries.ensures))
          ∙ legal-played start.plan start.now c.as_slice.result.now c.record_all.new.walk c.in-Ok.marks.items c.in-Ok.ensures.ok,
    )
