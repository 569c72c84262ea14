-- What is translated of a program over a table of names is what is translated over a table that begins with it, where the classes and members
-- of its table have names of the first.
use Rattle.std.proofs.Common.{◌≡◌, ◌∙◌, refl, sym, ap, subst, ℕ, ◌<◌, Bool, true, false, List, [], ◌∷◌, ◌++◌, map, length, Vec, Global}
use Rattle.std.specs.List.{flat_map, zip, All}
use Rattle.std.proofs.lemmas.List.Elements.{All-from_recursion, recursion_from_All}
use Rattle.class_fault.specs.declared.program.Program.{Program}
use Rattle.class_table.specs.Built.{IsBuilt}
use Rattle.class_within.specs.Names.{program_names}
use Rattle.class_within.specs.View as view
use Rattle.class_within.specs.Within.{AreWithin}
use Rattle.dart_ir.specs.declared.class.Classes.{Classes}
use Rattle.dart_ir.specs.declared.class.ClassInfo.{ClassInfo}
use Rattle.dart_ir.specs.declared.class.MemberInfo.{MemberInfo}
use Rattle.core_names.specs.Names.{class_names, member_names}
use Rattle.core_program.specs.Named as named
use Rattle.core_program.specs.Program as c
use Rattle.core_program.specs.ProgramView as pv
use Rattle.dart_lower.specs.Given.{file_name, given_of, source_unit}
use Rattle.laws_table.proofs.Agreed.{agree_within, class_agreed, member_agreed}
use Rattle.laws_table.proofs.More.{all_kept}
use Rattle.laws_table.proofs.TableNames.{classes_held, members_held}
use Rattle.lower_annotation.specs.Annotated.{annotated}
use Rattle.lower_leaf.specs.Around.{Around}
use Rattle.lower_program.specs.Views.{library_outer}
use Rattle.lower_table.specs.Rows.{Rows, index_of, rows_of, starts_of}
use Rattle.lower_table.specs.Table.{around_by, meanings_of, source_of}
use Rattle.scope_declared.specs.declared.declaration.Declared.{Declared}
use Rattle.scope_load.specs.State.{State}
use Rattle.scope_program.specs.Classes.{position_of}
use Rattle.scope_program.specs.Program.{Scoping}
use Rattle.table_accessor.specs.Numbered.{IsNumbered, all_numbered, is_induced, next_in, number_after, numbered_from, start_at, with_number}
use Rattle.translation.specs.Surroundings.{Text}

-- the names of the classes and members of a table are below a count
pub record AreBelow (count : ℕ) (k : Classes) : Type 0 where
  pub classes : All (λ n. n < count) (flat_map class_names (map pv.class k.classes.items))
  pub members : All (λ n. n < count) (flat_map member_names (map pv.member k.members.items))

-- The table of a program whose declarations have names below a count has such names.
pub table_below : (count : ℕ) (q : Program) (k : Classes) → IsBuilt q k → AreWithin count q → AreBelow count k
table_below count q k b within =
    let Below : ℕ → Type 0 = λ n. n < count in
    let held = recursion_from_All Below (program_names (view.program q)) within in
    record {
      classes = All-from_recursion Below (flat_map class_names (map pv.class k.classes.items)) (classes_held Below q k b held);
      members = All-from_recursion Below (flat_map member_names (map pv.member k.members.items)) (members_held Below q k b held);
    }

-- numbers of their own leave implicit accessors their names
number_named : (induced : Bool) (n : ℕ) (x : c.Member ℕ) → member_names (with_number induced n x) ≡ member_names x
number_named true n x = refl
number_named false n x = refl

numbered_named : (numbered : List Declared) (starts : List ℕ) (row next : ℕ) (xs : List (c.Member ℕ))
    → flat_map member_names (numbered_from numbered starts row next xs) ≡ flat_map member_names xs
numbered_named numbered starts row next [] = refl
numbered_named numbered starts row next (x ∷ xs) =
    let n : ℕ = next_in starts row next x.owner in
    λ i. number_named (is_induced numbered x) n x i ++ numbered_named numbered starts x.owner (number_after (is_induced numbered x) n) xs i

pub numbered_below : (count : ℕ) (s : Scoping) (built k : Classes) → IsNumbered s built k → AreBelow count built → AreBelow count k
numbered_below count s built k is below =
    let starts : List ℕ = starts_of (source_of s) (rows_of s.texts built) in
    record {
      classes = subst (λ (xs : Vec ClassInfo Global). All (λ n. n < count) (flat_map class_names (map pv.class xs.items))) (sym is.classes) below.classes;
      members = subst (All (λ n. n < count))
          (sym (ap (flat_map member_names) is.members ∙ numbered_named s.numbered starts 0 (start_at starts 0) (map pv.member built.members.items))) below.members;
    }

-- a row of a table with names as texts
abbrev row : List Text → ClassInfo → c.Class Text
row texts x = named.class (pv.text_at texts) (pv.class x)

-- and its members
abbrev members_in : List Text → Classes → List (c.Member Text)
members_in texts k = map (λ (x : MemberInfo). named.member (pv.text_at texts) (pv.member x)) k.members.items

module _ (texts more : List Text) (k : Classes) (below : AreBelow (length texts) k) where
  rows_kept : rows_of texts k ≡ rows_of (texts ++ more) k
  rows_kept = all_kept texts more class_names pv.class
      (λ (x : ClassInfo). named.class (pv.text_at texts) (pv.class x)) (λ (x : ClassInfo). named.class (pv.text_at (texts ++ more)) (pv.class x))
      (λ x h. class_agreed (pv.text_at texts) (pv.text_at (texts ++ more)) (pv.class x) h) k.classes.items
      (agree_within texts more (flat_map class_names (map pv.class k.classes.items)) below.classes)

  members_kept : members_in texts k ≡ members_in (texts ++ more) k
  members_kept = all_kept texts more member_names pv.member
      (λ (x : MemberInfo). named.member (pv.text_at texts) (pv.member x)) (λ (x : MemberInfo). named.member (pv.text_at (texts ++ more)) (pv.member x))
      (λ x h. member_agreed (pv.text_at texts) (pv.text_at (texts ++ more)) (pv.member x) h) k.members.items
      (agree_within texts more (flat_map member_names (map pv.member k.members.items)) below.members)

-- ---- of a program whose names mean this, with a table of names that begins with those of its units

module _ (s : Scoping) (more : List Text) (begins : s.texts ≡ s.kept ++ more) where
  -- with those names alone
  abbrev pub own : Scoping
  own = record s { texts = s.kept }

  rows_same : (k : Classes) → AreBelow (length s.kept) k → rows_of s.kept k ≡ rows_of s.texts k
  rows_same k below = rows_kept s.kept more k below ∙ ap (λ (t : List Text). rows_of t k) (sym begins)

  pub given_same : (state : State) (k : Classes) (main : ℕ) → AreBelow (length s.kept) k → given_of own state k main ≡ given_of s state k main
  given_same state k main below =
      let rows : rows_of s.kept k ≡ rows_of s.texts k = rows_same k below in
      let members : members_in s.kept k ≡ members_in s.texts k =
      members_kept s.kept more k below ∙ ap (λ (t : List Text). members_in t k) (sym begins) in
      let around : Rows → Around =
      λ all. annotated (position_of s.numbered) (around_by (meanings_of s) all (index_of (source_of s) all)) s.homes state.units in
      λ i. record {
        units = map (source_unit (around (rows i))) (zip s.homes state.units);
        first_names = (around (rows i)).names (library_outer 0);
        tables = (around (rows i)).tables;
        files = map file_name state.names;
        classes = rows i;
        members = members i;
        function_class = k.function.0;
        main = main;
      }

  pub numbered_same : (built k : Classes) → AreBelow (length s.kept) k → IsNumbered own built k → IsNumbered s built k
  numbered_same built k below is = record {
    classes = is.classes;
    function = is.function;
    members = is.members ∙ (λ i. all_numbered s.numbered (starts_of (source_of s) (rows i)) (map pv.member built.members.items));
  }
    where
      rows : rows_of s.kept built ≡ rows_of s.texts built
      rows = ap (λ (xs : Vec ClassInfo Global). map (row s.kept) xs.items) (sym is.classes) ∙ rows_same k below
          ∙ ap (λ (xs : Vec ClassInfo Global). map (row s.texts) xs.items) is.classes
