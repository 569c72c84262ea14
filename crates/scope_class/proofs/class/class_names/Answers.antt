use Rattle.std.proofs.Common.{◌∙◌, map, sym, ap}
use Rattle.std.specs.Prelude.{unwrap_or}
use Rattle.std.specs.Option.{option_map}
use Rattle.translation.specs.Surroundings as m
use Rattle.translation.specs.Types.{text_of}
use Rattle.lower_leaf.specs.Around.{meaning}
use Rattle.dart_tree.specs.declared.declaration.TypeParameter.{TypeParameter}
use Rattle.scope_dictionary.specs.Entries.{at_text}
use Rattle.scope_class.specs.Inside.{own_sense}
use Rattle.scope_class.proofs.Inside.{class-inside, class-behind}
use Rattle.scope_class.proofs.class.class_names.Goals as goal

pub returns : goal.returns
returns c =
    let texts = c.args.names.now in
    let numbered = c.args.numbered.now in
    let parameters = map (λ (one : TypeParameter). text_of one.name) c.args.parameters.now in
    let own = class-inside texts numbered c.within-inside.result.now c.args.class c.within-inside.ensures c.args.library parameters c.as_bytes.result.now
    (c.as_bytes.ensures.value ∙ c.in_ok-suffix.ensures) (λ text. option_map meaning (at_text c.in_ok-senses.senses text)) (λ text. option_map meaning (at_text c.add_parameters.new.senses text))
    c.in_ok-senses.ensures c.in_ok-add_parameters.ensures in
    let static = class-behind texts numbered c.within-inside.result.now c.args.class c.within-inside.ensures
    (λ text. option_map meaning (at_text c.in_ok-statics.statics text)) c.in_ok-statics.ensures in
    record {
      header = λ around text. ap (λ o. unwrap_or o (around.meaning text)) (c.in_ok-header.ensures text);
      inside = λ around text same.
          ap (λ o. unwrap_or o (around.meaning text)) (own text ∙ ap (λ l. own_sense texts numbered l c.args.class parameters text) (sym same));
      behind = λ name. ap (λ o. unwrap_or o m.unknown) (static name);
    }
