use Rattle.dart_token.specs.declared.word.Word.TheVariants as w
use Rattle.dart_tree.specs.Depth as height
use Rattle.dart_tree.specs.UnitView as view
use Rattle.grammar_laws.specs.Readers.{option}
use Rattle.token_codes.specs.Codes.{class_of, this_word}
use Rattle.syntax_readers.specs.Declarations as spec
use Rattle.parse_class.proofs.Nodes.{by_type}
use Rattle.parse_class.proofs.part.maybe_superclass.Goals as goal

pub returns : goal.returns
returns c = by_type (view.maybe view.superclass) (height.height_if height.superclass_height)
    (λ type. option class_of (this_word w.Extends) (spec.superclass type)) c.args.depth c.args.cursor.now c.maybe_superclass.new.cursor
    c.maybe_superclass.result c.maybe_superclass.ensures
