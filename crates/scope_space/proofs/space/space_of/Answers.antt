use Rattle.std.proofs.Common.{◌∙◌, eqb, ap}
use Rattle.std.specs.List.{filter}
use Rattle.scope_space.specs.declared.offer.Offer.{Offer}
use Rattle.dart_base.specs.declared.name.Name.{Name}
use Rattle.scope_space.proofs.space.space_of.Goals as goal

pub returns : goal.returns
returns c = record {
  offers = λ key. c.in_ok-offers.ensures key ∙ ap (filter (λ (offer : Offer). eqb offer.name.0 key)) c.in_ok-offers_of.ensures;
  prefixes = λ key. c.in_ok-prefixes.ensures key ∙ ap (filter (λ (name : Name). eqb name.0 key)) c.in_ok-prefixes_of.ensures;
}
