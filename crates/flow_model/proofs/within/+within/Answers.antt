use Rattle.std.proofs.Common.{◌≡◌, ◌<◌, ◌-◌, ℕ, ap, sym, ◌∙◌, arith}
use Rattle.std.proofs.lemmas.Bool.Decides.{nat_tests}
use Rattle.flow_model.specs.Mapping.{pairs_of}
use Rattle.flow_model.specs.Plain as plain
use Rattle.flow_model.specs.Rules.{is_within, members_within}
use Rattle.flow_model.specs.Value.{view, viewed}
use Rattle.flow_model.proofs.Nodes.{view-Map}
use Rattle.flow_model.proofs.within.+within.Goals as goal

is_within-map : (room : ℕ) (ms : plain.Members) → 0 < room → is_within room (plain.map ms) ≡ members_within (room - 1) ms
is_within-map room ms h = grind (arith, nat_tests)

pub is_within-returns-then-room-gt0-2 : goal.is_within-returns-then-room-gt0-2
is_within-returns-then-room-gt0-2 t c =
    let ms = plain.members_of (viewed (pairs_of c.in-Map.members.entries)) in
    let seen : view c.args.node.now ≡ plain.map ms = ap view c.in-Map.is ∙ view-Map c.in-Map.members in
    c.are_members_within.ensures ∙ sym (ap (is_within c.args.room) seen ∙ is_within-map c.args.room ms c.if-room-gt0-2.true)
