use Rattle.std.proofs.Common.{◌≡◌, ◌∙◌, ◌≤◌, length, map, sym, ap, subst, refl, arith}
use Rattle.std.proofs.lemmas.List.{length-map}
use Rattle.std.proofs.lemmas.Option.{slice_get_past}
use Rattle.dart_tree.specs.UnitView.{unit}
use Rattle.scope_load.specs.Load.{Reaches, Reaches.begins}
use Rattle.scope_load.specs.State.{State, state_of}
use Rattle.scope_load.proofs.Turns.{same_self, same_on, same_back, reaches_too, stops_too, over_large, heavy_large, not_large}
use Rattle.scope_load.proofs.load.load.Goals as goal
use Rattle.scope_load.proofs.load.load.Goals.{then-loaded-via-then-loaded, then-loaded-via-else-loaded+then-loaded-2}

pub units-init : goal.units-init
units-init g c =
    let loaded = c.in_ok-loaded.loaded in
    let names : length loaded.names.items ≡ 3 = ap (λ (s : State). length s.names) c.in_ok-loaded.ensures in
    let units : length (map unit loaded.units.items) ≡ 0 = ap (λ (s : State). length s.units) c.in_ok-loaded.ensures in
    let weight : loaded.weight ≡ 0 = ap (λ (s : State). s.weight) c.in_ok-loaded.ensures in
    record {
      room = omega (arith, names);
      taken = omega (arith, units, length-map loaded.units.items unit);
      weight = omega (arith, weight);
      same = same_self (g.U.UnitReader.gives c.args.units.now c.args.from.now);
      files = refl;
      faults = refl;
      reached = subst (Reaches (g.U.UnitReader.gives c.args.units.now c.args.from.now) c.args.root.now) (sym c.in_ok-loaded.ensures) begins;
    }

pub returns-in-Err-clause-answer : goal.returns-in-Err-clause-answer
returns-in-Err-clause-answer g c =
    let first = g.U.UnitReader.gives c.args.units.now c.args.from.now in
    let now = g.U.UnitReader.gives c.args.units.now c.units.from in
    stops_too now first c.args.root.now (same_back first now c.units.invariant.same) c.in-Err.fault
    (c.in-Err.ensures.turn (reaches_too first now c.args.root.now c.units.invariant.same (state_of c.units.loaded) c.units.invariant.reached))

pub units-preserved : goal.units-preserved
units-preserved g c =
    let first = g.U.UnitReader.gives c.args.units.now c.args.from.now in
    let now = g.U.UnitReader.gives c.args.units.now c.units.from in
    let next = g.U.UnitReader.gives c.args.units.now c.take_next.new.from in
    record {
      room = c.in-Ok.ensures.room;
      taken = omega (arith, c.in-Ok.ensures.units, c.units-test.true, c.len.ensures, c.len-in-units.ensures, c.units.invariant.room, c.units.loaded.units.ok, c.units.loaded.names.ok);
      weight = c.in-Ok.ensures.weight;
      same = same_on first now next c.units.invariant.same c.in-Ok.ensures.same;
      files = c.in-Ok.ensures.files ∙ c.units.invariant.files;
      faults = c.in-Ok.ensures.cause ∙ c.units.invariant.faults;
      reached = reaches_too now first c.args.root.now (same_back first now c.units.invariant.same) (state_of c.take_next.new.loaded)
          (c.in-Ok.ensures.turn (reaches_too first now c.args.root.now c.units.invariant.same (state_of c.units.loaded) c.units.invariant.reached));
    }

pub returns-then-loaded-clause-answer : goal.returns-then-loaded-clause-answer
returns-then-loaded-clause-answer g c =
    let loaded = c.units.loaded in
    let all : length loaded.names.items ≤ length (map unit loaded.units.items) =
    omega (arith, c.units-test.false, c.len.ensures, c.len-in-units.ensures, loaded.units.ok, loaded.names.ok, length-map loaded.units.items unit) in (
      state_of loaded,
      record { reached = c.units.invariant.reached; all = slice_get_past loaded.names.items (length (map unit loaded.units.items)) all },
      elim c.then-loaded.branch [
        | then-loaded-via-then-loaded w ↦ over_large (state_of loaded) w.if-loaded.true
        | then-loaded-via-else-loaded+then-loaded-2 w ↦ heavy_large (state_of loaded) (omega (arith, w.if-loaded-2.true))
      ],
    )

pub returns-clause-answer : goal.returns-clause-answer
returns-clause-answer g c =
    let loaded = c.units.loaded in
    let all : length loaded.names.items ≤ length (map unit loaded.units.items) =
    omega (arith, c.units-test.false, c.len.ensures, c.len-in-units.ensures, loaded.units.ok, loaded.names.ok, length-map loaded.units.items unit) in (
      record { reached = c.units.invariant.reached; all = slice_get_past loaded.names.items (length (map unit loaded.units.items)) all },
      not_large (state_of loaded) c.if-loaded.false (omega (arith, c.if-loaded-2.false)),
    )
