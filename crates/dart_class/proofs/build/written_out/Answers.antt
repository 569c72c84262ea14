use Rattle.std.proofs.Common.{IfOk}
use Rattle.class_reader.specs.Built.{IsBuiltFrom, IsOverlargeIn, IsRefusedIn}
use Rattle.class_reader.specs.Given.{given_of, source_units}
use Rattle.dart_class.specs.Around.{library_of, number_of}
use Rattle.dart_class.proofs.Over.{over-as}
use Rattle.dart_class.proofs.build.written_out.Goals as goal

pub returns-clause-built : goal.returns-clause-built
returns-clause-built c =
    let scopes = c.args.members.now.scopes.now in
    over-as (λ x y. IfOk c.build_classes.result
    (λ k. IsBuiltFrom (given_of x y (library_of scopes) (number_of scopes)) (source_units c.args.homes.now c.args.units.now) y.texts k))
    _ _ _ _ c.over-in_headers.ensures c.over-in_members.ensures c.build_classes.ensures.built

pub returns-clause-refused : goal.returns-clause-refused
returns-clause-refused c f e =
    let scopes = c.args.members.now.scopes.now in
    over-as (λ x y. IsRefusedIn (given_of x y (library_of scopes) (number_of scopes)) (source_units c.args.homes.now c.args.units.now) y.texts f)
    _ _ _ _ c.over-in_headers.ensures c.over-in_members.ensures (c.build_classes.ensures.refused f e)

pub returns-clause-too_large : goal.returns-clause-too_large
returns-clause-too_large c place e =
    let scopes = c.args.members.now.scopes.now in
    over-as (λ x y. IsOverlargeIn (given_of x y (library_of scopes) (number_of scopes)) (source_units c.args.homes.now c.args.units.now) y.texts place)
    _ _ _ _ c.over-in_headers.ensures c.over-in_members.ensures (c.build_classes.ensures.too_large place e)
