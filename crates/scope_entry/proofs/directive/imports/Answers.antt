use Rattle.std.proofs.Common.{◌+◌, ◌<◌, List, [], ◌∷◌, ◌++◌, None, length, get_or, map, take, slice_get, sym, subst, arith}
use Rattle.std.specs.List.{AllZip}
use Rattle.std.proofs.lemmas.List.{get_or_default, take_all}
use Rattle.dart_tree.specs.UnitView as uv
use Rattle.scope_declared.specs.Number.{number_of}
use Rattle.scope_library.specs.declared.library.Edge.{Edge}
use Rattle.scope_space.specs.declared.library.Import.{Import}
use Rattle.scope_entry.specs.Directives.{IsImport}
use Rattle.scope_entry.proofs.Lists.{zip_more}
use Rattle.scope_entry.proofs.directive.imports.Goals as goal

abbrev no_edge : Edge
no_edge = record { library = 0; directive = None }

pub loop-edge-preserved : goal.loop-edge-preserved
loop-edge-preserved c =
    let edges = c.args.edges.now in
    let i = c.loop-edge.edge-index in
    let R : Edge → Import → Type 0 = λ edge made. IsImport (number_of c.args.names.now c.args.library) (slice_get (map uv.unit c.args.units.now) c.args.at) edge made in
    let below : i < length edges = omega (arith, c.loop-edge-test.true) in
    let edge : Edge = get_or edges i no_edge in
    let more : AllZip R (take (i + 1) edges) (c.loop-edge.made.items ++ c.in_ok-one.one ∷ []) =
    zip_more R edges c.loop-edge.made.items i edge c.in_ok-one.one below (get_or_default edges i no_edge edge below) c.loop-edge.invariant c.in_ok-one.ensures in
    let P : List Import → Type 0 = λ made. AllZip R (take (i + 1) edges) made in
    subst P (sym c.in_ok-push.ensures.items) more

pub returns : goal.returns
returns c =
    let edges = c.args.edges.now in
    let R : Edge → Import → Type 0 = λ edge made. IsImport (number_of c.args.names.now c.args.library) (slice_get (map uv.unit c.args.units.now) c.args.at) edge made in
    let P : List Edge → Type 0 = λ some. AllZip R some c.loop-edge.made.items in
    subst P (take_all c.loop-edge.edge-index edges (omega (arith, c.loop-edge-test.false))) c.loop-edge.invariant
