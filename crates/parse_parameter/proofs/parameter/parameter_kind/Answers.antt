use Rattle.std.proofs.Common.{sym, ap, ◌∙◌, arith}
use Rattle.std.proofs.lemmas.Result.{err_from_is_err_and}
use Rattle.dart_tree.specs.Depth as height
use Rattle.dart_tree.specs.Tree as t
use Rattle.dart_tree.specs.View as view
use Rattle.grammar_laws.proofs.Cuts.{gave}
use Rattle.token_cursor.proofs.Passing.{passes}
use Rattle.syntax_readers.specs.Parameters as spec
use Rattle.syntax_readers.specs.Types.{type_reader}
use Rattle.parse_nest.specs.Stages.{parameters_at}
use Rattle.parse_parameter.specs.Views.{head_of, head_height}
use Rattle.parse_parameter.proofs.Heads.{no_head, head_alone, no_parameters, with_parameters}
use Rattle.parse_parameter.proofs.parameter.parameter_kind.Goals as goal

pub returns-in_err-head : goal.returns-in_err-head
returns-in_err-head g c =
    let p = err_from_is_err_and c.from_residual.result c.from_residual.ensures.1 in
    let d = c.args.depth in
    let start = c.args.cursor.now in
    rw (p.1, p.2) (passes head_of head_height d (spec.parameter_head (type_reader d) start) view.parameter_kind height.parameter_kind_height d (spec.parameter_kind (type_reader d) (parameters_at d) start) c.in_err-head.field-0.0 c.parameter_head.new.cursor
    (λ end e. no_head (type_reader d) (parameters_at d) start end e) c.in_err-head.ensures)

pub returns-then-not-parameters_follow : goal.returns-then-not-parameters_follow
returns-then-not-parameters_follow g c =
    let r = c.in_ok-head.ensures in
    let d = c.args.depth in
    let mid = c.parameter_head.new.cursor in (
      head_alone (type_reader d) (parameters_at d) c.args.cursor.now (head_of c.in_ok-head.head) mid r.0 (sym c.if-not-parameters_follow.ensures)
          ∙ ap (λ (x : t.ParameterKind). gave x mid) (sym c.plain_parameter.ensures.same),
      r.1 ∙ sym c.plain_parameter.ensures.high,
      r.2,
    )

pub returns-in_err-parameters : goal.returns-in_err-parameters
returns-in_err-parameters g c =
    let p = err_from_is_err_and c.from_residual-in_err-parameters.result c.from_residual-in_err-parameters.ensures.1 in
    let d = c.args.depth in
    let start = c.args.cursor.now in
    let mid = c.parameter_head.new.cursor in
    rw (p.1, p.2) (passes view.parameters height.parameters_height d (parameters_at d mid) view.parameter_kind height.parameter_kind_height d (spec.parameter_kind (type_reader d) (parameters_at d) start) c.in_err-parameters.field-0.0 c.parameters.new.cursor
    (λ end e. no_parameters (type_reader d) (parameters_at d) start (head_of c.in_ok-head.head) mid end c.in_ok-head.ensures.0 (sym c.if-not-parameters_follow.ensures) e) c.in_err-parameters.ensures)

pub returns : goal.returns
returns g c =
    let r = c.in_ok-head.ensures in
    let q = c.in_ok-parameters.ensures in
    let f = c.in_ok-kind.ensures in
    let d = c.args.depth in
    let end = c.parameters.new.cursor in (
      with_parameters (type_reader d) (parameters_at d) c.args.cursor.now (head_of c.in_ok-head.head) c.parameter_head.new.cursor (view.parameters c.in_ok-parameters.parameters) end r.0 (sym c.if-not-parameters_follow.ensures) q.0
          ∙ ap (λ (x : t.ParameterKind). gave x end) (sym f.same),
      f.high,
      omega (arith, f.low, r.2, q.2),
    )
