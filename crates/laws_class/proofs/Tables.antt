-- A program has one table.
use Rattle.std.proofs.Common.{◌≡◌, ℕ, zero, suc, ◌<◌, ◌≤◌, ◌+◌, ◌-◌, inl, inr, List, [], ◌∷◌, ◌++◌, length, map, take, get_or, Option, Some, slice_get, arith, refl, sym, ap, ◌∙◌, subst as transport}
use Rattle.std.proofs.lemmas.Bool.{cases_order}
use Rattle.std.proofs.lemmas.List.{length-map, take_more, take_all}
use Rattle.std.proofs.lemmas.Option.{same_Some, slice_get_within, get_or_from_slice_get}
use Rattle.class_order.specs.declared.rows.Row.{Row}
use Rattle.class_order.specs.Order.{AreListed}
use Rattle.class_order.specs.Rows.{row_at, AreRows}
use Rattle.dart_ir.specs.declared.number.ClassId.{ClassId}
use Rattle.dart_ir.specs.declared.number.MemberId.{MemberId}
use Rattle.dart_ir.specs.declared.class.ClassInfo.{ClassInfo}
use Rattle.dart_ir.specs.declared.class.MemberInfo.{MemberInfo}
use Rattle.dart_ir.specs.declared.class.Classes.{Classes}
use Rattle.core_program.specs.Program as core
use Rattle.core_program.specs.ProgramView as v
use Rattle.class_fault.specs.declared.program.Declaration.{Declaration}
use Rattle.class_fault.specs.declared.program.Program.{Program}
use Rattle.class_fault.specs.Program.{declaration_at}
use Rattle.class_table.specs.Rows.{IsTable}
use Rattle.class_table.specs.Members.{Described, described, described_at, descriptions, member_count, AreMembers}
use Rattle.class_table.specs.Built.{IsBuilt}
use Rattle.class_table.proofs.Lists.{some_in}
use Rattle.class_table.proofs.Added.{map_push}
use Rattle.class_table.proofs.Membered.{get_map, count_push}
use Rattle.laws_class.specs.Same.{IsSameTable}
use Rattle.laws_class.proofs.Graphs.{same_graphs, rows_same}
use Rattle.laws_class.proofs.Rows.{rows_one, numbers_one}
use Rattle.laws_class.proofs.Seen.{Seen, seen, row_members_same, count_same}
use Rattle.laws_class.proofs.Classes.{numbers_same, class_one}

taken : (xs : List ClassInfo) (c : ℕ) (x : ClassInfo) → slice_get xs c ≡ Some x → take (c + 1) xs ≡ take c xs ++ x ∷ []
taken xs c x g = take_more xs c x (slice_get_within xs c x g) ∙ ap (λ z. take c xs ++ z ∷ []) (get_or_from_slice_get xs c x x g)

seen_more : (ms : List MemberInfo) (xs : List ClassInfo) (c : ℕ) (x : ClassInfo) → slice_get xs c ≡ Some x
    → map (seen ms) (take (c + 1) xs) ≡ map (seen ms) (take c xs) ++ seen ms x ∷ []
seen_more ms xs c x g = ap (map (seen ms)) (taken xs c x g) ∙ map_push (seen ms) (take c xs) x

count_more : (xs : List ClassInfo) (c : ℕ) (x : ClassInfo) → slice_get xs c ≡ Some x
    → member_count (take (c + 1) xs) ≡ member_count (take c xs) + length x.members.items
count_more xs c x g = ap member_count (taken xs c x g) ∙ count_push (take c xs) x

seen_eq : (s t : Seen) → s.class ≡ t.class → s.members ≡ t.members → s ≡ t
seen_eq s t p q =
    let of : core.Class ℕ → List (Option Described) → Seen = λ c m. record { class = c; members = m } in
    ap (λ c. of c s.members) p ∙ ap (λ m. of t.class m) q

-- lists are the same where what is read at each place is
by_places : (xs ys : List MemberInfo) → length xs ≡ length ys → ((j : ℕ) → j < length xs → described_at xs j ≡ described_at ys j) → map described xs ≡ map described ys
by_places [] [] q f = refl
by_places [] (y ∷ ys) q f = absurd (omega (arith, q))
by_places (x ∷ xs) [] q f = absurd (omega (arith, q))
by_places (x ∷ xs) (y ∷ ys) q f =
    let r = by_places xs ys (omega (arith, q)) (λ j l. f (suc j) (omega (arith, l))) in
    ap (λ (z : Described). z ∷ map described xs) (same_Some (described x) (described y) (f 0 (omega arith))) ∙ ap (λ z. described y ∷ z) r

abbrev member_of : Described → core.Member ℕ
member_of x = record { name = x.name; role = x.role; owner = x.owner; function = x.function; signature = x.signature; place = x.place; has_body = x.has_body }

members_view : (xs : List MemberInfo) → map v.member xs ≡ map member_of (map described xs)
members_view [] = refl
members_view (x ∷ xs) = ap (λ z. v.member x ∷ z) (members_view xs)

classes_view : (ms : List MemberInfo) (xs : List ClassInfo) → map v.class xs ≡ map (λ (s : Seen). s.class) (map (seen ms) xs)
classes_view ms [] = refl
classes_view ms (x ∷ xs) = ap (λ z. v.class x ∷ z) (classes_view ms xs)

module _ (p : Program) (ns : List ℕ) (rs : List Row) (n : ℕ) (is js : List ClassInfo) (ms ls : List MemberInfo)
    (declared : (c : ℕ) → c < n → (row_at rs c).class < length p.declarations.items)
    (t : IsTable p ns rs n is) (u : IsTable p ns rs n js) (a : AreMembers p ns rs n is ms) (b : AreMembers p ns rs n js ls) where
  -- the first c classes and their members are the same
  record AreAlike (c : ℕ) : Type 0 where
    classes : map (seen ms) (take c is) ≡ map (seen ls) (take c js)
    members : (j : ℕ) → j < member_count (take c is) → described_at ms j ≡ described_at ls j

  module _ (c : ℕ) (s : AreAlike c) (i : Declaration) (at : declaration_at p (row_at rs c).class ≡ Some i) (x y : ClassInfo)
      (f : slice_get is c ≡ Some x) (g : slice_get js c ≡ Some y) where
    described_one : descriptions ms x.members.items ≡ descriptions ls y.members.items
    described_one =
        a.rows c i x at f
        ∙ row_members_same ms ls (take c is) (take c js) s.classes ns c i (slice_get i.mixins.items (row_at rs c).step)
        ∙ sym (b.rows c i y at g)

    length_one : length x.members.items ≡ length y.members.items
    length_one =
        sym (length-map x.members.items (λ (m : MemberId). described_at ms m.0))
        ∙ ap length described_one
        ∙ length-map y.members.items (λ (m : MemberId). described_at ls m.0)

    count_one : member_count (take c is) ≡ member_count (take c js)
    count_one = count_same ms ls (take c is) (take c js) s.classes

    seen_one : seen ms x ≡ seen ls y
    seen_one =
        let ids = numbers_same (member_count (take c is)) x.members.items y.members.items length_one (a.numbered c x f)
        (λ j m h. b.numbered c y g j m h ∙ ap (λ z. z + j) (sym count_one)) in
        let row = t.rows c i x at f in
        let other = u.rows c i y at g in
        let q = class_one p ns ms ls (take c is) (take c js) s.classes (row_at rs c).class i (row_at rs c).step c x y row other ids in
        seen_eq (seen ms x) (seen ls y) q described_one

    new_member : (k : ℕ) → k < length x.members.items
        → described_at ms (member_count (take c is) + k) ≡ described_at ls (member_count (take c is) + k)
    new_member k l =
        let m = some_in x.members.items k l in
        let o = some_in y.members.items k (omega (arith, l, length_one)) in
        let q : described_at ms m.0.0 ≡ described_at ls o.0.0 =
        same_Some _ _
        (sym (get_map (λ (z : MemberId). described_at ms z.0) x.members.items k m.0 m.1)
        ∙ ap (λ z. slice_get z k) described_one
        ∙ get_map (λ (z : MemberId). described_at ls z.0) y.members.items k o.0 o.1) in
        ap (described_at ms) (sym (a.numbered c x f k m.0 m.1)) ∙ q ∙ ap (described_at ls) (b.numbered c y g k o.0 o.1 ∙ ap (λ z. z + k) (sym count_one))

    alike_more : AreAlike (c + 1)
    alike_more = record {
      classes =
          seen_more ms is c x f
          ∙ ap (λ z. z ++ seen ms x ∷ []) s.classes
          ∙ ap (λ z. map (seen ls) (take c js) ++ z ∷ []) seen_one
          ∙ sym (seen_more ls js c y g);
      members = λ j l. elim (cases_order j (member_count (take c is))) [
        | inl q ↦ later j (omega (arith, q)) l
        | inr o ↦ elim o [ inl h ↦ s.members j h | inr h ↦ later j (omega (arith, h)) l ]
      ];
    }
      where
        later : (j : ℕ) → member_count (take c is) ≤ j → j < member_count (take (c + 1) is) → described_at ms j ≡ described_at ls j
        later j h l =
            let r = count_more is c x f in
            let e : member_count (take c is) + (j - member_count (take c is)) ≡ j = omega (arith, h) in
            transport (λ z. described_at ms z ≡ described_at ls z) e (new_member (j - member_count (take c is)) (omega (arith, h, l, r)))

  alike : (c : ℕ) → c ≤ n → AreAlike c
  alike zero l = record { classes = refl; members = λ j m. absurd (omega (arith, m)) }
  alike (suc c) l =
      let i = some_in p.declarations.items (row_at rs c).class (declared c (omega (arith, l))) in
      let x = some_in is c (let m = t.size in omega (arith, l, m)) in
      let y = some_in js c (let m = u.size in omega (arith, l, m)) in
      let e : c + 1 ≡ suc c = omega arith in
      transport AreAlike e (alike_more c (alike c (omega (arith, l))) i.0 i.1 x.0 y.0 x.1 y.1)

  whole : take n is ≡ is
  whole = take_all n is (let s = t.size in omega (arith, s))

  seen_all : map (seen ms) is ≡ map (seen ls) js
  seen_all = ap (map (seen ms)) (sym whole) ∙ (alike n (omega arith)).classes ∙ ap (map (seen ls)) (take_all n js (let s = u.size in omega (arith, s)))

  pub classes_one : map v.class is ≡ map v.class js
  classes_one = classes_view ms is ∙ ap (map (λ (s : Seen). s.class)) seen_all ∙ sym (classes_view ls js)

  pub members_one : map v.member ms ≡ map v.member ls
  members_one =
      let q = a.total in
      members_view ms
      ∙ ap (map member_of)
      (by_places ms ls (a.total ∙ count_same ms ls is js seen_all ∙ sym b.total)
      (λ j l. (alike n (omega arith)).members j (let r = ap member_count whole in omega (arith, l, q, r))))
      ∙ sym (members_view ls)

class_id_eq : (c d : ClassId) → c.0 ≡ d.0 → c ≡ d
class_id_eq c d q = let of : ℕ → ClassId = λ n. record { 0 = n } in ap of q

-- two tables of a program whose headers name classes that are declared
module _ (p : Program) (k l : Classes) (a : IsBuilt p k) (b : IsBuilt p l) (listed : AreListed a.headers) where
  other_rows : AreRows a.headers b.rows b.numbers
  other_rows = rows_same b.headers a.headers (same_graphs p b.headers a.headers b.graph a.graph) b.rows b.numbers b.are_rows

  one_rows : a.rows ≡ b.rows
  one_rows = rows_one a.headers listed a.rows b.rows a.numbers b.numbers a.are_rows other_rows

  pub one_numbers : a.numbers ≡ b.numbers
  one_numbers = numbers_one a.headers listed a.rows b.rows a.numbers b.numbers a.are_rows other_rows

  other_table : IsTable p a.numbers a.rows (length a.rows) l.classes.items
  other_table =
      transport (λ z. IsTable p z a.rows (length a.rows) l.classes.items) (sym one_numbers)
      (transport (λ z. IsTable p b.numbers z (length z) l.classes.items) (sym one_rows) b.table)

  other_members : AreMembers p a.numbers a.rows (length a.rows) l.classes.items l.members.items
  other_members =
      transport (λ z. AreMembers p z a.rows (length a.rows) l.classes.items l.members.items) (sym one_numbers)
      (transport (λ z. AreMembers p b.numbers z (length z) l.classes.items l.members.items) (sym one_rows) b.members)

  declared : (c : ℕ) → c < length a.rows → (row_at a.rows c).class < length p.declarations.items
  declared c h = let m = a.are_rows.listed c h in let s = a.graph.size in omega (arith, m, s)

  pub table_one : IsSameTable k l
  table_one = record {
    classes = classes_one p a.numbers a.rows (length a.rows) k.classes.items l.classes.items k.members.items l.members.items declared a.table other_table a.members other_members;
    members = members_one p a.numbers a.rows (length a.rows) k.classes.items l.classes.items k.members.items l.members.items declared a.table other_table a.members other_members;
    function = class_id_eq k.function l.function (a.function ∙ ap (λ z. get_or z p.function 0) one_numbers ∙ sym b.function);
  }
