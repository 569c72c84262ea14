use Rattle.std.proofs.Common.{◌≡◌, ◌++◌, map, drop}
use Rattle.dart_tree.specs.Lists.{type_list_of}
use Rattle.lower_leaf.specs.Seen.{seen}
use Rattle.class_source.specs.Headers as h
use Rattle.class_source.specs.View as shown
use Rattle.class_reader.proofs.header.types_of.Given as goal

abbrev pub invariant-loop-one : goal.invariant-loop-one
invariant-loop-one g l = let a = g.S.Surroundings.around l.outside in
    map (shown.header_type a.texts) l.made.items ++ h.header_types (seen a l.state) (type_list_of (drop l.one-index l.all.items))
    ≡ h.header_types (seen a l.state) (type_list_of l.all.items)
