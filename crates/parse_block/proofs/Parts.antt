-- Parts of a `switch`, as a list that each further part makes longer.
use Rattle.std.proofs.Common.{◌≡◌, max, List, [], ◌∷◌, map, refl, ap, ◌∙◌, arith}
use Rattle.dart_syntax.specs.Statements.{to_stmts}
use Rattle.dart_tree.specs.declared.statement.SwitchPart.{SwitchPart}
use Rattle.dart_tree.specs.Depth as height
use Rattle.dart_tree.specs.Lists.{switch_parts_of}
use Rattle.dart_tree.specs.Tree as t
use Rattle.dart_tree.specs.View as view
use Rattle.grammar_laws.specs.Readers.{nothing}
use Rattle.syntax_readers.specs.Statements.{Part, to_parts}
use Rattle.parse_loop.specs.Lists.{Growing}
use Rattle.parse_loop.proofs.Alike.{behind, behind_grows}
use Rattle.parse_block.specs.Views.{part_of, part_height, parts_height}
use Rattle.parse_block.proofs.Turns.{same_list}

pub same_parts : (items : List SwitchPart) → switch_parts_of items ≡ to_parts (map part_of items)
same_parts [] = refl
same_parts (x ∷ items) =
    ap (λ (l : t.Stmts). t.switch_part x.labels.items x.word (view.value x.value) x.colon l (switch_parts_of items)) (same_list x.statements.items)
    ∙ ap (t.switch_part x.labels.items x.word (view.value x.value) x.colon (to_stmts (map view.stmt x.statements.items))) (same_parts items)

pub none_high : 0 ≡ parts_height []
unfolding height.switch_parts_height
none_high = refl

pub parts_taller : (l : List Part) (x : Part) → parts_height (behind l x) ≡ max (parts_height l) (part_height x)
unfolding height.switch_parts_height
parts_taller [] x = omega arith
parts_taller (y ∷ l) x = let e = parts_taller l x in omega arith

abbrev pub part_list : Growing (Unit {0}) Part (List Part)
part_list = record {
  codes = [];
  item = nothing;
  give = λ first items. items;
  snoc = behind;
  high = parts_height;
  tall = part_height;
  grows = behind_grows;
  taller = parts_taller;
}
