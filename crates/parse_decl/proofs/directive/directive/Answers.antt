use Rattle.std.proofs.Common.{◌-◌, arith}
use Rattle.parse_decl.specs.Views.{directive_over, form_reader, item_height, item_of}
use Rattle.parse_decl.proofs.Nodes.{directive_is, directive_never, is_low}
use Rattle.parse_decl.proofs.directive.directive.Goals as goal
use Rattle.parse_nest.specs.Stages.{closed_at}
use Rattle.parse_parameter.proofs.Stages.{one_more}
use Rattle.parse_parameter.specs.Views.{metadata_of}
use Rattle.syntax_readers.specs.Units as spec

pub returns-then-not-has_room : goal.returns-then-not-has_room
returns-then-not-has_room g c =
    let a = c.args in
    directive_never (metadata_of a.metadata.annotations) a.may (form_reader a.form) a.cursor.now a.depth a.metadata.tall c.requires.tall c.if-not-has_room.ensures

pub overflow_sub-depth : goal.overflow_sub-depth
overflow_sub-depth g c =
    let low = is_low c.args.may c.args.metadata.tall c.args.depth c.if-not-has_room.ensures in
    omega (arith, low)

pub directive_over-requires-clause-low : goal.directive_over-requires-clause-low
directive_over-requires-clause-low g c =
    let low = is_low c.args.may c.args.metadata.tall c.args.depth c.if-not-has_room.ensures in
    omega (arith, low)

pub directive_over-requires-clause-room : goal.directive_over-requires-clause-room
directive_over-requires-clause-room g c =
    let low = is_low c.args.may c.args.metadata.tall c.args.depth c.if-not-has_room.ensures in
    let r = c.ranges.depth in
    omega (arith, low, r)

pub returns : goal.returns
returns g c =
    let a = c.args in
    let n = a.depth in
    let low = is_low a.may a.metadata.tall n c.if-not-has_room.ensures in
    one_more item_of item_height n (spec.directive n (metadata_of a.metadata.annotations) a.may (form_reader a.form) a.cursor.now)
    (directive_over (metadata_of a.metadata.annotations) (form_reader a.form (closed_at (n - 1))) a.cursor.now) c.directive_over.result c.directive_over.new.cursor (omega (arith, low))
    (directive_is (metadata_of a.metadata.annotations) a.may (form_reader a.form) a.cursor.now n a.metadata.tall c.requires.tall c.if-not-has_room.ensures) c.directive_over.ensures
