use Rattle.dart_token.specs.declared.word.Word.TheVariants as w
use Rattle.dart_tree.specs.Depth as height
use Rattle.dart_tree.specs.UnitView as view
use Rattle.grammar_laws.specs.Readers.{option}
use Rattle.token_codes.specs.Codes.{class_of, this_word}
use Rattle.syntax_readers.specs.Declarations as spec
use Rattle.parse_class.proofs.Nodes.{by_type}
use Rattle.parse_class.proofs.part.maybe_interfaces.Goals as goal

pub returns : goal.returns
returns c = by_type (view.maybe view.type_clause) (height.height_if height.clause_height)
    (λ type. option class_of (this_word w.Implements) (spec.interfaces type)) c.args.depth c.args.cursor.now c.maybe_interfaces.new.cursor
    c.maybe_interfaces.result c.maybe_interfaces.ensures
