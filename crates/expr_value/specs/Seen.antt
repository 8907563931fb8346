-- The values that the evaluator's own types stand for.
use Rattle.std.specs.Prelude.{List, Option, String, map}
use Rattle.std.specs.Borrow.{Bor}
use Rattle.std.specs.Option.{option_map, option_copied}
use Rattle.std.specs.declared.alloc.Global.{Global}
use Rattle.expr_reader.specs.Expr.{exprs_of}
use Rattle.expr_reader.specs.View.{views}
use Rattle.expr_reader.specs.declared.tree.Tree.{Tree}
use Rattle.expr_value.specs.Context.{Contexts}
use Rattle.expr_value.specs.Evaluate.{Answer, answers}
use Rattle.expr_value.specs.PlainKind.{PlainKind, null, truth, whole, text, list}
use Rattle.expr_value.specs.PlainKind as plain_kind
use Rattle.expr_value.specs.declared.kind.ValueKind as lent
use Rattle.expr_value.specs.declared.kind.ValueKind.TheVariants as variant
use Rattle.expr_value.specs.Dereference as chain
use Rattle.expr_value.specs.declared.dereference.Found as found
use Rattle.expr_value.specs.declared.dereference.Found.TheVariants as found_variant
use Rattle.expr_value.specs.declared.item.Item as item
use Rattle.expr_value.specs.declared.item.Item.TheVariants.{Lent, Made}
use Rattle.flow_model.specs.Plain as plain
use Rattle.expr_value.specs.declared.status.Status.{Status}
use Rattle.flow_model.specs.Mapping.{pairs_of}
use Rattle.flow_model.specs.Value.{view, viewed}
use Rattle.flow_model.specs.declared.value.Node.{Node}

-- A kind, its text as bytes.
abbrev pub kind_seen : lent.ValueKind → PlainKind
kind_seen variant.Null = null
kind_seen (variant.Truth b) = truth b
kind_seen (variant.Whole z) = whole z
kind_seen (variant.Text bytes) = text bytes.now
kind_seen variant.List = list
kind_seen variant.Map = plain_kind.map

-- The value that an item stands for.
abbrev pub item_seen : item.Item → plain.Plain
item_seen (Lent node) = view node.now
item_seen (Made node) = view node

-- The values that items stand for.
abbrev pub items_seen : List item.Item → List plain.Plain
items_seen vs = map item_seen vs

-- What a chain has come to, as values.
abbrev pub found_seen : found.Found → chain.Found
found_seen (found_variant.One v) = chain.one (item_seen v)
found_seen (found_variant.Filtered vs) = chain.filtered (items_seen vs.items)

-- A node that may be there.
abbrev pub node_seen : Option (Bor Node) → Option plain.Plain
node_seen node = option_map view (option_copied node)

-- An item that may be there.
abbrev pub maybe_seen : Option item.Item → Option plain.Plain
maybe_seen v = option_map item_seen v

-- The members of a map.
abbrev pub members_seen : List (String Global × Node) → plain.Members
members_seen entries = plain.members_of (viewed (pairs_of entries))

-- The answers of trees.
abbrev pub tree_answers : Contexts → Status → List Tree → List Answer
tree_answers c s trees = answers c s (exprs_of (views trees))
