use Rattle.std.proofs.Common.{◌≡◌, ◌∙◌, refl, ap, sym}
use Rattle.std.specs.Option.{option_copied}
use Rattle.plan_assembler.specs.Index.{Indexes, first_place}
use Rattle.plan_assembler.specs.Layout.{ids_of}
use Rattle.plan_assembler.proofs.IdPlaces.{job_place}
use Rattle.plan_assembler.proofs.index.place_of.Goals as goal

pub returns-in-Some : goal.returns-in-Some
unfolding Indexes
returns-in-Some c =
    let found : option_copied c.get.result ≡ first_place 0 (ids_of c.args.jobs.now) c.args.id.now = c.get.ensures.value ∙ rw (c.as_str.ensures) (c.requires c.args.id.now) in
    job_place c.args.jobs.now c.args.id.now _ c.in-Some.place.now (sym (ap option_copied c.in-Some.is) ∙ found) refl

pub returns-in-None : goal.returns-in-None
unfolding Indexes
returns-in-None c =
    let found : option_copied c.get.result ≡ first_place 0 (ids_of c.args.jobs.now) c.args.id.now = c.get.ensures.value ∙ rw (c.as_str.ensures) (c.requires c.args.id.now) in
    job_place c.args.jobs.now c.args.id.now _ c.len.result (sym (ap option_copied c.in-None.is) ∙ found) c.len.ensures
