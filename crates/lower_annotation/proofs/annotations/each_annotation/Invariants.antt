use Rattle.std.proofs.Common.{◌≡◌, ◌++◌, map, drop}
use Rattle.lower_annotation.specs.Annotated.{annotation_of}
use Rattle.lower_annotation.specs.Seen.{optional, variable}
use Rattle.lower_annotation.specs.declared.variable.OuterVariable.{OuterVariable}
use Rattle.lower_annotation.proofs.annotations.each_annotation.Given as goal

abbrev pub invariant-loop-one : goal.invariant-loop-one
invariant-loop-one g l = let a = g.S.Surroundings.around l.outside in
    map (optional a) l.made.items ++ map (λ (x : OuterVariable). annotation_of a (variable x)) (drop l.one-index l.all)
    ≡ map (λ (x : OuterVariable). annotation_of a (variable x)) l.all
