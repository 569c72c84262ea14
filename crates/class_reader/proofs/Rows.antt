-- A class from what its header and its members say.
use Rattle.std.proofs.Common.{◌≡◌, ℕ, List, [], map, Bool, sym, ap, ◌∙◌}
use Rattle.std.specs.Global.{Vec}
use Rattle.std.specs.Option.{is_some}
use Rattle.dart_base.specs.declared.name.Name.{Name}
use Rattle.dart_base.specs.declared.place.Place.{Place}
use Rattle.dart_ir.specs.declared.number.DeclId.{DeclId}
use Rattle.dart_tree.specs.Places.{place_of}
use Rattle.dart_tree.specs.Unit as u
use Rattle.class_fault.specs.declared.program.Member.{Member}
use Rattle.class_fault.specs.declared.program.Standing.{Standing}
use Rattle.core_program.specs.ProgramView.{text_at}
use Rattle.translation.specs.ClassBodies as b
use Rattle.translation.specs.Surroundings.{Text, Names, Tables, name_in}
use Rattle.translation.specs.Types.{text_of}
use Rattle.translation.specs.Walk.{State}
use Rattle.lower_leaf.specs.Around.{Around}
use Rattle.class_source.specs.Headers as h
use Rattle.class_source.specs.Members as m
use Rattle.class_source.specs.Source.{reading, standing, class_row}
use Rattle.class_source.specs.View as shown
use Rattle.class_reader.specs.declared.header.Heading.{Heading}
use Rattle.class_reader.specs.declared.home.Home.{Home}
use Rattle.class_reader.specs.Given.{AreJoint, given_of, outer_of, reading_in, source_unit}
use Rattle.class_reader.specs.Seen.{Headed, heading, heading_of, all_members, members_in}

-- what the header of a class says, under these texts of names
abbrev headed : List Text → Heading → Headed
headed texts x = record {
  bounds = map (shown.bound texts) x.bounds.items;
  clauses = record {
    superclass = shown.superclass texts x.clauses.superclass;
    mixins = map (shown.header_type texts) x.clauses.mixins.items;
    interfaces = map (shown.header_type texts) x.clauses.interfaces.items;
  };
}

abbrev reading_by : Tables → Names → State
reading_by tables names = reading (record { tables = tables; header_names = λ n. names; number = λ place. 0 }) names

-- where headers are read with the texts and tables of members
headed_joint : (headers members : Around) (libraries : ℕ → ℕ) (n : ℕ) (x : u.Class) (of : Heading) → AreJoint headers members libraries →
    heading headers of ≡ heading_of (reading_in headers (outer_of libraries n)) x →
    headed members.texts of ≡ heading_of (reading_by members.tables (headers.names (outer_of libraries n))) x
headed_joint headers members libraries n x of joint is =
    let names = headers.names (outer_of libraries n) in
    ap (λ (texts : List Text). headed texts of) (sym joint.texts) ∙ is ∙ ap (λ (tables : Tables). heading_of (reading_by tables names) x) joint.tables

-- members are read with the names that the table has for their class
members_joint : (headers members : Around) (libraries : ℕ → ℕ) (number : m.Numbers) (n : ℕ) (all : List u.Member) → AreJoint headers members libraries →
    members_in number (reading_in members (outer_of libraries n)) all ≡ members_in number (reading_by members.tables (members.tables.class_names n)) all
members_joint headers members libraries number n all joint =
    ap (λ (names : Names). members_in number (reading_by members.tables names) all) (sym (joint.names n))

pub class_joined : (headers around : Around) (libraries : ℕ → ℕ) (number : m.Numbers) (home : Home) (n : ℕ) (x : u.Class) (name : Name) (place : Place) (decl : DeclId)
    (abstracted mixed : Bool) (stands : Standing) (of : Heading) (found : Vec Member) (fields : ℕ) → AreJoint headers around libraries →
    text_at around.texts name.0 ≡ name_in home.library (text_of x.name) → place ≡ place_of x.name → decl.0 ≡ number (place_of x.name) →
    abstracted ≡ is_some x.abstracted → mixed ≡ b.is_mixed x.kind → stands ≡ standing (source_unit home []) (text_of x.name) (b.members_of x.kind) →
    heading headers of ≡ heading_of (reading_in headers (outer_of libraries n)) x →
    all_members around found ≡ members_in number (reading_in around (outer_of libraries n)) (b.members_of x.kind) →
    fields ≡ m.field_count (b.members_of x.kind) →
    shown.class around.texts (record {
      name = name;
      library = home.library;
      place = place;
      decl = decl;
      is_abstract = abstracted;
      is_application = mixed;
      standing = stands;
      bounds = of.bounds;
      superclass = of.clauses.superclass;
      mixins = of.clauses.mixins;
      interfaces = of.clauses.interfaces;
      members = found;
      fields = fields;
    }) ≡ class_row (given_of headers around libraries number) (source_unit home []) n x
class_joined headers around libraries number home n x name place decl abstracted mixed stands of found fields
    joint named placed numbered is_abstract is_mixed standing_is header_is members_are counted =
    let st = reading_by around.tables (headers.names (outer_of libraries n)) in
    let all : headed around.texts of ≡ heading_of st x = headed_joint headers around libraries n x of joint header_is in
    let bounds : map (shown.bound around.texts) of.bounds.items ≡ h.bounds st x.parameters = ap (λ (z : Headed). z.bounds) all in
    let superclass : shown.superclass around.texts of.clauses.superclass ≡ (h.named st x.kind).superclass = ap (λ (z : Headed). z.clauses.superclass) all in
    let mixins : map (shown.header_type around.texts) of.clauses.mixins.items ≡ (h.named st x.kind).mixins = ap (λ (z : Headed). z.clauses.mixins) all in
    let interfaces : map (shown.header_type around.texts) of.clauses.interfaces.items ≡ (h.named st x.kind).interfaces = ap (λ (z : Headed). z.clauses.interfaces) all in
    let inside : all_members around found ≡ members_in number (reading_by around.tables (around.tables.class_names n)) (b.members_of x.kind) =
    members_are ∙ members_joint headers around libraries number n (b.members_of x.kind) joint in
    cc
