use Rattle.std.proofs.Common.{◌≡◌, ◌∙◌, ◌<◌, Some, length, map, slice_get, sym, ap, subst, refl, arith}
use Rattle.std.proofs.lemmas.List.{length-map}
use Rattle.std.proofs.lemmas.Option.{slice_get-get_or}
use Rattle.dart_tree.specs.UnitView.{unit}
use Rattle.scope_load.specs.Found.{found_is, absent, refused}
use Rattle.scope_load.specs.State.{state_of}
use Rattle.scope_load.specs.declared.reason.Reason.TheVariants.{NotFound, Text}
use Rattle.scope_load.proofs.Turns.{turned, refuses}
use Rattle.scope_load.proofs.load.take_next.Goals as goal

pub returns-in-Ok-Read-clause-turn : goal.returns-in-Ok-Read-clause-turn
returns-in-Ok-Read-clause-turn g c =
    let loaded = c.args.loaded.now in
    let within : c.len-at.result < length loaded.names.items = omega (arith, c.requires.left, c.len-at.ensures, loaded.units.ok) in
    let next : slice_get loaded.names.items c.len-at.result ≡ Some c.in_ok-name.name =
    slice_get-get_or loaded.names.items c.len-at.result c.index.result.now within ∙ ap Some (sym c.index.ensures ∙ sym c.in_ok-name.ensures) in
    let is_at : c.len-at.result ≡ length (map unit loaded.units.items) = omega (arith, c.len-at.ensures, loaded.units.ok, length-map loaded.units.items unit) in
    turned (g.U.UnitReader.gives c.args.units.now c.args.from.now) c.args.root.now (state_of loaded) c.len-at.result is_at c.in_ok-name.name next
    (unit c.in-Ok-Read.unit) c.in-Ok-Read.weight c.add.result (state_of c.add.new.loaded)
    (subst (λ found. g.U.UnitReader.gives c.args.units.now c.args.from.now c.len-at.result c.in_ok-name.name (found_is found)) c.in-Ok-Read.field-0-is c.in-Ok-Read.ensures.content)
    c.add.ensures.judges c.add.ensures.state

pub returns-in-Ok-Absent-clause-turn : goal.returns-in-Ok-Absent-clause-turn
returns-in-Ok-Absent-clause-turn g c =
    let loaded = c.args.loaded.now in
    let within : c.len-at.result < length loaded.names.items = omega (arith, c.requires.left, c.len-at.ensures, loaded.units.ok) in
    let next : slice_get loaded.names.items c.len-at.result ≡ Some c.in_ok-name.name =
    slice_get-get_or loaded.names.items c.len-at.result c.index.result.now within ∙ ap Some (sym c.index.ensures ∙ sym c.in_ok-name.ensures) in
    let is_at : c.len-at.result ≡ length (map unit loaded.units.items) = omega (arith, c.len-at.ensures, loaded.units.ok, length-map loaded.units.items unit) in
    refuses (g.U.UnitReader.gives c.args.units.now c.args.from.now) c.args.root.now (state_of loaded) c.len-at.result is_at c.in_ok-name.name next absent NotFound
    (subst (λ found. g.U.UnitReader.gives c.args.units.now c.args.from.now c.len-at.result c.in_ok-name.name (found_is found)) c.in-Ok-Absent.field-0-is c.in-Ok-Absent.ensures.content) refl

pub returns-in-Ok-Refused-clause-turn : goal.returns-in-Ok-Refused-clause-turn
returns-in-Ok-Refused-clause-turn g c =
    let loaded = c.args.loaded.now in
    let within : c.len-at.result < length loaded.names.items = omega (arith, c.requires.left, c.len-at.ensures, loaded.units.ok) in
    let next : slice_get loaded.names.items c.len-at.result ≡ Some c.in_ok-name.name =
    slice_get-get_or loaded.names.items c.len-at.result c.index.result.now within ∙ ap Some (sym c.index.ensures ∙ sym c.in_ok-name.ensures) in
    let is_at : c.len-at.result ≡ length (map unit loaded.units.items) = omega (arith, c.len-at.ensures, loaded.units.ok, length-map loaded.units.items unit) in
    refuses (g.U.UnitReader.gives c.args.units.now c.args.from.now) c.args.root.now (state_of loaded) c.len-at.result is_at c.in_ok-name.name next (refused c.in-Ok-Refused.text) (Text c.in-Ok-Refused.text)
    (subst (λ found. g.U.UnitReader.gives c.args.units.now c.args.from.now c.len-at.result c.in_ok-name.name (found_is found)) c.in-Ok-Refused.field-0-is c.in-Ok-Refused.ensures.content) refl
