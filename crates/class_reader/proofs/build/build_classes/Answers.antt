use Rattle.class_reader.specs.Given.{given_of, source_units}
use Rattle.class_reader.proofs.Programs.{is_program}
use Rattle.class_reader.proofs.Tables.{built_from}
use Rattle.class_reader.proofs.build.build_classes.Goals as goal

pub build-requires : goal.build-requires
build-requires g c =
    let around = g.S.Surroundings.around c.args.members.now in
    let given = given_of (g.S.Surroundings.around c.args.headers.now) around (g.P.Positions.libraries c.args.positions.now) (g.P.Positions.numbers c.args.positions.now) in
    let read = c.in-Ok.ensures.read in
    is_program given (source_units c.args.homes.now c.args.units.now) around.texts c.in-Ok.program read.source c.requires.resolved read.roots c.in-Ok.ensures.few

pub returns-clause-built : goal.returns-clause-built
returns-clause-built g c =
    let around = g.S.Surroundings.around c.args.members.now in
    let given = given_of (g.S.Surroundings.around c.args.headers.now) around (g.P.Positions.libraries c.args.positions.now) (g.P.Positions.numbers c.args.positions.now) in
    built_from given (source_units c.args.homes.now c.args.units.now) around.texts c.in-Ok.program c.build.result c.in-Ok.ensures.read c.build.ensures.built

pub returns-clause-refused : goal.returns-clause-refused
returns-clause-refused g c = λ f e. (c.in-Ok.program, c.in-Ok.ensures.read, c.build.ensures.refused f e)

pub returns-clause-too_large : goal.returns-clause-too_large
returns-clause-too_large g c = λ place e. (c.in-Ok.program, c.in-Ok.ensures.read, c.build.ensures.too_large place e)
