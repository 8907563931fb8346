use Rattle.std.proofs.Common.{◌++◌, codes, decimal}
use Rattle.command_graph.specs.Dot.{cluster_begin}
use Rattle.std.proofs.lemmas.Result.{on_ok_weaker}
use Rattle.command_graph.specs.Quoted.{quoted}
use Rattle.command_graph.proofs.Parts.{four_parts}
use Rattle.command_graph.proofs.dot.begin_cluster.Goals as goal

pub returns : goal.returns
unfolding cluster_begin
returns c =
    on_ok_weaker c.add-2.result (four_parts c.args.text.now.items c.add_number.new.text.items c.add.new.text.items c.add_quoted.new.text.items c.add-2.new.text.items
    (codes "\tsubgraph cluster_" ++ decimal c.args.number) (codes " {\n\t\tlabel=") (quoted c.args.label.now) (codes ";\n")
    c.in_ok-add_number.ensures c.in_ok-add.ensures c.in_ok-add_quoted.ensures) c.add-2.ensures
