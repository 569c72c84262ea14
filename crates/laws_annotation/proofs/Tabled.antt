-- The table of the classes of an erased program differs from that of the program in the types of signatures alone.
use Rattle.std.proofs.Common.{◌≡◌, refl, sym, ap, ◌∙◌, subst, ℕ, Bool, true, false, List, [], ◌∷◌, map, Vec, Global}
use Rattle.class_fault.specs.declared.fault.Fault.{Fault}
use Rattle.dart_base.specs.Names.{AreDistinct}
use Rattle.dart_base.specs.declared.place.Place.{Place}
use Rattle.dart_ir.specs.declared.class.Classes.{Classes}
use Rattle.dart_ir.specs.declared.class.ClassInfo.{ClassInfo}
use Rattle.dart_ir.specs.declared.class.MemberInfo.{MemberInfo}
use Rattle.core_program.specs.Named as with_names
use Rattle.core_program.specs.Program as p
use Rattle.core_program.specs.ProgramView as pv
use Rattle.core_program.specs.Stripped as stripped
use Rattle.scope_declared.specs.declared.declaration.Declared.{Declared}
use Rattle.scope_load.specs.State.{State}
use Rattle.scope_program.specs.Program.{Scoping}
use Rattle.translation.specs.Surroundings.{Text}
use Rattle.class_source.specs.Source.{SourceUnit, Given, classes_of}
use Rattle.class_within.specs.Built.{IsTableFrom, IsFaultFrom, IsLargeFrom}
use Rattle.dart_class.specs.Given.{class_given, source_units}
use Rattle.lower_table.specs.Rows.{rows_of, starts_of}
use Rattle.lower_table.specs.Table.{source_of}
use Rattle.table_accessor.specs.Numbered.{is_induced, start_at, next_in, with_number, number_after, numbered_from, all_numbered, members_numbered, IsNumbered}
use Rattle.laws_table.specs.Loose.{loose_classes}
use Rattle.laws_table.specs.Roots.{DeclaresRoots}
use Rattle.laws_table.specs.Shape.{IsSameShape}
use Rattle.laws_table.proofs.Rowed.{loose_named}
use Rattle.laws_table.proofs.Laws.{tables_of_a_shape, no_fault_of_a_shape, no_large_of_a_shape}
use Rattle.laws_annotation.specs.Erased.{erased_state, erased_scoping, erased_source, signed}
use Rattle.laws_annotation.specs.Tables.{loose_member, DifferInSignaturesAlone}
use Rattle.laws_annotation.proofs.Rows.{classes_same}
use Rattle.laws_annotation.proofs.Given.{erased_aliases, erased_variables, given_same, units_same, source_same}

-- what is read of each item through something that is seen of it
through : {A B C : Type 0} (f : B → C) (g : A → B) (xs : List A) → map (λ (x : A). f (g x)) xs ≡ map f (map g xs)
through f g [] = refl
through f g (x ∷ xs) = ap (λ (more : List _). f (g x) ∷ more) (through f g xs)

-- ---- rows

rows_alike : (texts : List Text) (k l : Classes) → map pv.class k.classes.items ≡ map pv.class l.classes.items → rows_of texts k ≡ rows_of texts l
rows_alike texts k l e =
    let named : p.Class ℕ → p.Class Text = with_names.class (pv.text_at texts) in
    through named pv.class k.classes.items ∙ ap (map named) e ∙ sym (through named pv.class l.classes.items)

-- ---- numbers of members that fields induce

with_number_loose : (induced : Bool) (n : ℕ) (x : p.Member ℕ) → stripped.member (with_number induced n x) ≡ with_number induced n (stripped.member x)
with_number_loose true n x = refl
with_number_loose false n x = refl

module _ (numbered : List Declared) (starts : List ℕ) where
  numbered_loose : (row next : ℕ) (xs : List (p.Member ℕ)) → map stripped.member (numbered_from numbered starts row next xs)
      ≡ numbered_from numbered starts row next (map stripped.member xs)
  numbered_loose row next [] = refl
  numbered_loose row next (x ∷ xs) =
      let n : ℕ = next_in starts row next x.owner in
      λ i. with_number_loose (is_induced numbered x) n x i ∷ numbered_loose x.owner (number_after (is_induced numbered x) n) xs i

  all_loose : (xs : List (p.Member ℕ)) → map stripped.member (all_numbered numbered starts xs) ≡ all_numbered numbered starts (map stripped.member xs)
  all_loose xs = numbered_loose 0 (start_at starts 0) xs

-- ---- members with texts for names

named_loose : (texts : List Text) (m : p.Member ℕ) → stripped.member (with_names.member (pv.text_at texts) m) ≡ with_names.member (pv.text_at texts) (stripped.member m)
named_loose texts m = λ i. record (with_names.member (pv.text_at texts) m) { signature = loose_named (pv.text_at texts) m.signature i }

members_read : (texts : List Text) (xs : List MemberInfo) → map (loose_member texts) xs ≡ map (with_names.member (pv.text_at texts)) (map stripped.member (map pv.member xs))
members_read texts [] = refl
members_read texts (x ∷ xs) = λ i. named_loose texts (pv.member x) i ∷ members_read texts xs i

-- ---- a program and the erased one

module _ (s : Scoping) (built other k l : Classes) (h : IsSameShape built other) (one : IsNumbered s built k) (two : IsNumbered (erased_scoping s) other l) where
  rows_same : rows_of s.texts other ≡ rows_of s.texts built
  rows_same = sym (rows_alike s.texts built other h.classes)

  loose_same : map stripped.member (map pv.member other.members.items) ≡ map stripped.member (map pv.member built.members.items)
  loose_same = sym (through stripped.member pv.member other.members.items) ∙ sym h.members ∙ through stripped.member pv.member built.members.items

  numbers_same : map stripped.member (members_numbered (erased_scoping s) other) ≡ map stripped.member (members_numbered s built)
  numbers_same =
      all_loose s.numbered (starts_of (source_of (erased_scoping s)) (rows_of s.texts other)) (map pv.member other.members.items)
      ∙ (λ i. all_numbered s.numbered (starts_of (source_same s i) (rows_same i)) (loose_same i))
      ∙ sym (all_loose s.numbered (starts_of (source_of s) (rows_of s.texts built)) (map pv.member built.members.items))

  abbrev row : ClassInfo → p.Class Text
  row x = with_names.class (pv.text_at s.texts) (pv.class x)

  differ : DifferInSignaturesAlone s.texts l k
  differ = record {
    classes = ap (λ (xs : Vec ClassInfo Global). map row xs.items) two.classes ∙ rows_same ∙ sym (ap (λ (xs : Vec ClassInfo Global). map row xs.items) one.classes);
    members = members_read s.texts l.members.items
        ∙ ap (λ (xs : List (p.Member ℕ)). map (with_names.member (pv.text_at s.texts)) (map stripped.member xs)) two.members
        ∙ ap (map (with_names.member (pv.text_at s.texts))) numbers_same
        ∙ sym (ap (λ (xs : List (p.Member ℕ)). map (with_names.member (pv.text_at s.texts)) (map stripped.member xs)) one.members)
        ∙ sym (members_read s.texts k.members.items);
    function = ap (λ c. c.0) (two.function ∙ sym h.function ∙ sym one.function);
  }

pub tables_differ : (s : Scoping) (state : State) (built other k l : Classes) → AreDistinct s.texts
    → DeclaresRoots (classes_of (class_given state s) (source_units state)) → IsTableFrom (class_given state s) (source_units state) s.texts built → IsNumbered s built k
    → IsTableFrom (class_given (erased_state state) (erased_scoping s)) (source_units (erased_state state)) s.texts other → IsNumbered (erased_scoping s) other l
    → DifferInSignaturesAlone s.texts l k
tables_differ s state built other k l distinct roots from one from_other two =
    let given : Given = class_given state s in
    let units : List SourceUnit = source_units state in
    let given2 : Given = signed given (erased_aliases s state) (erased_variables s state) in
    let moved : IsTableFrom given2 (map erased_source units) s.texts other =
    subst (λ (us : List SourceUnit). IsTableFrom given2 us s.texts other) (units_same state)
    (subst (λ (g : Given). IsTableFrom g (source_units (erased_state state)) s.texts other) (given_same s state) from_other) in
    differ s built other k l
    (tables_of_a_shape given given2 units (map erased_source units) s.texts distinct (classes_same given (erased_aliases s state) (erased_variables s state) units)
    built other roots from moved) one two

-- ---- reasons against headers

module _ (s : Scoping) (state : State) (built : Classes) (distinct : AreDistinct s.texts) where
  abbrev given : Given
  given = class_given state s

  abbrev given2 : Given
  given2 = signed given (erased_aliases s state) (erased_variables s state)

  abbrev units : List SourceUnit
  units = source_units state

  alike : loose_classes (classes_of given2 (map erased_source units)) ≡ loose_classes (classes_of given units)
  alike = classes_same given (erased_aliases s state) (erased_variables s state) units

  pub no_fault : (f : Fault) → IsTableFrom given units s.texts built
      → IsFaultFrom (class_given (erased_state state) (erased_scoping s)) (source_units (erased_state state)) s.texts f → ⊥
  no_fault f from against =
      no_fault_of_a_shape given given2 units (map erased_source units) s.texts distinct alike built f from
      (subst (λ (us : List SourceUnit). IsFaultFrom given2 us s.texts f) (units_same state)
      (subst (λ (g : Given). IsFaultFrom g (source_units (erased_state state)) s.texts f) (given_same s state) against))

  pub no_large_type : (place : Place) → DeclaresRoots (classes_of given units) → IsTableFrom given units s.texts built
      → IsLargeFrom (class_given (erased_state state) (erased_scoping s)) (source_units (erased_state state)) s.texts place → ⊥
  no_large_type place roots from against =
      no_large_of_a_shape given given2 units (map erased_source units) s.texts distinct alike built place roots from
      (subst (λ (us : List SourceUnit). IsLargeFrom given2 us s.texts place) (units_same state)
      (subst (λ (g : Given). IsLargeFrom g (source_units (erased_state state)) s.texts place) (given_same s state) against))
