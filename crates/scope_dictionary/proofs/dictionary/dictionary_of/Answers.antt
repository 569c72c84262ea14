use Rattle.std.proofs.Common.{◌∙◌, ◌≤◌, Some, length, arith, sym, ap, subst}
use Rattle.std.specs.Str.{IsUtf8}
use Rattle.std.specs.Map.{lookup}
use Rattle.lower_leaf.specs.declared.meaning.Meaning.{Meaning}
use Rattle.lower_leaf.specs.Around.{meaning}
use Rattle.translation.specs.Surroundings as m
use Rattle.scope_declared.specs.Number.{no_name}
use Rattle.scope_outer.specs.Outside.{scopes_of}
use Rattle.scope_dictionary.specs.Entries.{at_text}
use Rattle.scope_dictionary.specs.Dictionary.{MeansAt, sense}
use Rattle.scope_dictionary.proofs.Building.{knows-none, knows-next, knows-all}
use Rattle.scope_dictionary.proofs.dictionary.dictionary_of.Goals as goal

pub loop-number-init : goal.loop-number-init
loop-number-init c =
    knows-none c.args.home.names.now c.args.home.library (MeansAt (scopes_of c.args.home.scopes) c.args.home.library c.args.prefix) sense (at_text c.new-senses.result)
    (λ text. ap (lookup _) c.new-senses.ensures.empty)

pub loop-number-preserved : goal.loop-number-preserved
loop-number-preserved c =
    let texts = c.args.home.names.now in
    let few : length texts ≤ no_name = omega arith in
    knows-next texts c.args.home.library (MeansAt (scopes_of c.args.home.scopes) c.args.home.library c.args.prefix) sense
    (at_text c.loop-number.senses) (at_text c.add_name.new.senses) c.loop-number.number c.as_bytes-in-loop-number.result.now c.as_bytes.result.now (meaning c.means_at-found.result)
    (c.as_bytes.ensures.value ∙ c.in_ok-suffix.ensures) c.count-number-end.ensures.distinct few
    (c.text-name.ensures ∙ ap Some (sym c.as_bytes-in-loop-number.ensures.value))
    (subst IsUtf8 (sym c.as_bytes-in-loop-number.ensures.value) c.text-name.utf8)
    c.means_at-found.ensures c.in_ok-add_name.ensures.here c.in_ok-add_name.ensures.apart c.loop-number.invariant

pub returns : goal.returns
returns c =
    let Sense = MeansAt (scopes_of c.args.home.scopes) c.args.home.library c.args.prefix in
    let nothing : Sense no_name m.unknown = subst (λ (found : Meaning). Sense no_name (meaning found)) c.in-Unknown.is c.means_at.ensures in
    record {
      each = knows-all c.args.home.names.now c.args.home.library Sense sense (at_text c.loop-number.senses) c.loop-number.number (omega arith) nothing c.loop-number.invariant;
    }
