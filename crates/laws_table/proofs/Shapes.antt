-- Tables of programs of one shape have one shape.
use Rattle.std.proofs.Common.{◌≡◌, ℕ, zero, suc, ◌<◌, ◌≤◌, ◌+◌, ◌-◌, inl, inr, List, [], ◌∷◌, ◌++◌, length, map, option_map, take, get_or, Option, Some, None, slice_get, arith, refl, sym, ap, ◌∙◌, subst as transport}
use Rattle.std.proofs.lemmas.Bool.{cases_order}
use Rattle.std.proofs.lemmas.List.{length-map, take_more, take_all}
use Rattle.std.proofs.lemmas.Option.{same_Some, slice_get-map, slice_get_within, get_or_from_slice_get}
use Rattle.class_order.specs.declared.rows.Row.{Row}
use Rattle.class_order.specs.Order.{AreListed}
use Rattle.class_order.specs.Rows.{row_at, AreRows}
use Rattle.dart_ir.specs.Ty.{Ty, dynamic, bottom, void, class, parameter, function, ty}
use Rattle.dart_ir.specs.declared.number.ClassId.{ClassId}
use Rattle.dart_ir.specs.declared.number.MemberId.{MemberId}
use Rattle.dart_ir.specs.declared.class.ClassInfo.{ClassInfo}
use Rattle.dart_ir.specs.declared.class.MemberInfo.{MemberInfo}
use Rattle.dart_ir.specs.declared.class.Classes.{Classes}
use Rattle.core_program.specs.Program as core
use Rattle.core_program.specs.ProgramView as v
use Rattle.core_program.specs.Stripped as stripped
use Rattle.class_fault.specs.declared.program.HeaderType.{HeaderType}
use Rattle.class_fault.specs.declared.program.Declaration.{Declaration}
use Rattle.class_fault.specs.declared.program.Program.{Program}
use Rattle.class_fault.specs.Program.{declaration_at}
use Rattle.class_fault.specs.Graph.{IsGraph}
use Rattle.class_table.specs.Renumbered.{renumbered}
use Rattle.class_table.specs.Rows.{IsTable}
use Rattle.class_table.specs.Members.{Described, described, described_at, descriptions, members_in, mixed_in, mixin_members, row_members, member_count, AreMembers}
use Rattle.class_table.specs.Built.{IsBuilt}
use Rattle.class_table.proofs.Lists.{some_in}
use Rattle.class_table.proofs.Added.{map_push}
use Rattle.class_table.proofs.Membered.{get_map, count_push}
use Rattle.class_within.specs.Seen as s
use Rattle.laws_class.proofs.Graphs.{same_graphs, rows_same}
use Rattle.laws_class.proofs.Rows.{rows_one, numbers_one}
use Rattle.laws_class.proofs.Seen.{Seen, seen, count_same}
use Rattle.laws_class.proofs.Classes.{numbers_same, class_one}
use Rattle.laws_table.specs.Shape as shape
use Rattle.laws_table.specs.Shape.{IsSameShape}
use Rattle.laws_table.proofs.Like.{type_like, option_like, function_like}
use Rattle.laws_table.proofs.Graphs.{there, graph_like}
use Rattle.laws_table.proofs.Rows.{declared_seen, mixin_like, table_like}
use Rattle.laws_table.proofs.Loosened.{loose_described, loosened, declared_loose, mixed_loose}

-- ---- a class, and its members without types in signatures

abbrev looked : List MemberInfo → ClassInfo → Seen
looked ms x = record { class = v.class x; members = loosened (descriptions ms x.members.items) }

taken : (xs : List ClassInfo) (c : ℕ) (x : ClassInfo) → slice_get xs c ≡ Some x → take (c + 1) xs ≡ take c xs ++ x ∷ []
taken xs c x g = take_more xs c x (slice_get_within xs c x g) ∙ ap (λ z. take c xs ++ z ∷ []) (get_or_from_slice_get xs c x x g)

looked_more : (ms : List MemberInfo) (xs : List ClassInfo) (c : ℕ) (x : ClassInfo) → slice_get xs c ≡ Some x
    → map (looked ms) (take (c + 1) xs) ≡ map (looked ms) (take c xs) ++ looked ms x ∷ []
looked_more ms xs c x g = ap (map (looked ms)) (taken xs c x g) ∙ map_push (looked ms) (take c xs) x

pub count_more : (xs : List ClassInfo) (c : ℕ) (x : ClassInfo) → slice_get xs c ≡ Some x
    → member_count (take (c + 1) xs) ≡ member_count (take c xs) + length x.members.items
count_more xs c x g = ap member_count (taken xs c x g) ∙ count_push (take c xs) x

looked_eq : (x y : Seen) → x.class ≡ y.class → x.members ≡ y.members → x ≡ y
looked_eq x y e f =
    let of : core.Class ℕ → List (Option Described) → Seen = λ c m. record { class = c; members = m } in
    ap (λ c. of c x.members) e ∙ ap (λ m. of y.class m) f

-- where there are no members at all, a class is seen alone
none_described : (ids : List MemberId) → descriptions [] ids ≡ map (λ (n : ℕ). None) (map (λ (m : MemberId). m.0) ids)
none_described [] = refl
none_described (m ∷ ids) = ap (λ (z : List (Option Described)). None ∷ z) (none_described ids)

abbrev alone : core.Class ℕ → Seen
alone c = record { class = c; members = map (λ (n : ℕ). None) c.members }

seen_alone : (x : ClassInfo) → seen [] x ≡ alone (v.class x)
seen_alone x = ap (λ (z : List (Option Described)). let r : Seen = record { class = v.class x; members = z } in r) (none_described x.members.items)

all_alone : (ms : List MemberInfo) (xs : List ClassInfo) → map (seen []) xs ≡ map (λ (x : Seen). alone x.class) (map (looked ms) xs)
all_alone ms [] = refl
all_alone ms (x ∷ xs) = λ r. seen_alone x r ∷ all_alone ms xs r

classes_view : (ms : List MemberInfo) (xs : List ClassInfo) → map v.class xs ≡ map (λ (x : Seen). x.class) (map (looked ms) xs)
classes_view ms [] = refl
classes_view ms (x ∷ xs) = ap (λ z. v.class x ∷ z) (classes_view ms xs)

abbrev members_looked : Option Seen → List (Option Described)
members_looked None = []
members_looked (Some x) = x.members

members_read : (ms : List MemberInfo) (o : Option ClassInfo) → loosened (descriptions ms (members_in o)) ≡ members_looked (option_map (looked ms) o)
members_read ms None = refl
members_read ms (Some x) = refl

-- lists are the same where what is read at each place is
by_places : (xs ys : List MemberInfo) → length xs ≡ length ys
    → ((j : ℕ) → j < length xs → option_map loose_described (described_at xs j) ≡ option_map loose_described (described_at ys j))
    → map (λ (m : MemberInfo). loose_described (described m)) xs ≡ map (λ (m : MemberInfo). loose_described (described m)) ys
by_places [] [] q f = refl
by_places [] (y ∷ ys) q f = absurd (omega (arith, q))
by_places (x ∷ xs) [] q f = absurd (omega (arith, q))
by_places (x ∷ xs) (y ∷ ys) q f =
    let r = by_places xs ys (omega (arith, q)) (λ j l. f (suc j) (omega (arith, l))) in
    let e : loose_described (described x) ≡ loose_described (described y) = same_Some (loose_described (described x)) (loose_described (described y)) (f 0 (omega arith)) in
    λ i. e i ∷ r i

abbrev member_of : Described → core.Member ℕ
member_of x = record { name = x.name; role = x.role; owner = x.owner; function = x.function; signature = x.signature; place = x.place; has_body = x.has_body }

members_view : (xs : List MemberInfo) → map (λ m. stripped.member (v.member m)) xs ≡ map member_of (map (λ (m : MemberInfo). loose_described (described m)) xs)
members_view [] = refl
members_view (x ∷ xs) = ap (λ z. stripped.member (v.member x) ∷ z) (members_view xs)

-- ---- the members of a row

module _ (ms ls : List MemberInfo) (is js : List ClassInfo) (same : map (looked ms) is ≡ map (looked ls) js) where
  looked_at : (e : ℕ) → option_map (looked ms) (slice_get is e) ≡ option_map (looked ls) (slice_get js e)
  looked_at e = sym (slice_get-map (looked ms) is e) ∙ ap (λ xs. slice_get xs e) same ∙ slice_get-map (looked ls) js e

  mixin_alike : (c : ℕ) (t : Ty) → loosened (mixin_members ms is c t) ≡ loosened (mixin_members ls js c t)
  mixin_alike c (class e ts) =
      let read = members_read ms (slice_get is e) ∙ ap members_looked (looked_at e) ∙ sym (members_read ls (slice_get js e)) in
      mixed_loose c ts (descriptions ms (members_in (slice_get is e)))
      ∙ ap (λ xs. loosened (map (option_map (mixed_in c ts)) xs)) read
      ∙ sym (mixed_loose c ts (descriptions ls (members_in (slice_get js e))))
  mixin_alike c dynamic = refl
  mixin_alike c bottom = refl
  mixin_alike c void = refl
  mixin_alike c (parameter i) = refl
  mixin_alike c (function r q o n) = refl

  row_alike : (ns : List ℕ) (c : ℕ) (i : Declaration) (o : Option HeaderType) → loosened (row_members ms is ns c i o) ≡ loosened (row_members ls js ns c i o)
  row_alike ns c i None = refl
  row_alike ns c i (Some t) = mixin_alike c (renumbered ns (ty t.of))

module _ (p q : Program) (same : shape.program p ≡ shape.program q) (ns : List ℕ) (i j : Declaration) (like : shape.class i ≡ shape.class j) where
  row_shape : (ms : List MemberInfo) (is : List ClassInfo) (c n : ℕ)
      → loosened (row_members ms is ns c i (slice_get i.mixins.items n)) ≡ loosened (row_members ms is ns c j (slice_get j.mixins.items n))
  row_shape ms is c n =
      option_like (λ (o : Option HeaderType). loosened (row_members ms is ns c i o)) (λ (o : Option HeaderType). loosened (row_members ms is ns c j o))
      (declared_loose ns c i.members.items
      ∙ ap (λ (x : s.Class). map (λ m. Some (loose_described (declared_seen ns c m))) x.members) like
      ∙ sym (declared_loose ns c j.members.items))
      (λ t u e. ap (λ z. loosened (mixin_members ms is c (renumbered ns z))) (type_like t u e))
      (slice_get i.mixins.items n) (slice_get j.mixins.items n) (mixin_like p q same i j like n)

-- ---- row by row

module _ (p q : Program) (same : shape.program p ≡ shape.program q) (ns : List ℕ) (rs : List Row) (n : ℕ) (is js : List ClassInfo) (ms ls : List MemberInfo)
    (declared : (c : ℕ) → c < n → (row_at rs c).class < length p.declarations.items)
    (t : IsTable p ns rs n is) (u : IsTable p ns rs n js) (a : AreMembers p ns rs n is ms) (b : AreMembers q ns rs n js ls) where
  -- the first c classes and their members are the same, but for types in signatures
  record AreAlike (c : ℕ) : Type 0 where
    classes : map (looked ms) (take c is) ≡ map (looked ls) (take c js)
    members : (j : ℕ) → j < member_count (take c is) → option_map loose_described (described_at ms j) ≡ option_map loose_described (described_at ls j)

  module _ (c : ℕ) (alike : AreAlike c) (i : Declaration) (at : declaration_at p (row_at rs c).class ≡ Some i) (x y : ClassInfo)
      (f : slice_get is c ≡ Some x) (g : slice_get js c ≡ Some y) where
    described_one : loosened (descriptions ms x.members.items) ≡ loosened (descriptions ls y.members.items)
    described_one =
        let j = there p q same (row_at rs c).class i at in
        ap loosened (a.rows c i x at f)
        ∙ row_alike ms ls (take c is) (take c js) alike.classes ns c i (slice_get i.mixins.items (row_at rs c).step)
        ∙ row_shape p q same ns i j.0 j.2 ls (take c js) c (row_at rs c).step
        ∙ ap loosened (sym (b.rows c j.0 y j.1 g))

    long : (ms : List MemberInfo) (ids : List MemberId) → length (loosened (descriptions ms ids)) ≡ length ids
    long ms ids = length-map (descriptions ms ids) (option_map loose_described) ∙ length-map ids (λ (m : MemberId). described_at ms m.0)

    length_one : length x.members.items ≡ length y.members.items
    length_one = sym (long ms x.members.items) ∙ ap length described_one ∙ long ls y.members.items

    plain : map (seen []) (take c is) ≡ map (seen []) (take c js)
    plain = all_alone ms (take c is) ∙ ap (map (λ (x : Seen). alone x.class)) alike.classes ∙ sym (all_alone ls (take c js))

    count_one : member_count (take c is) ≡ member_count (take c js)
    count_one = count_same [] [] (take c is) (take c js) plain

    looked_one : looked ms x ≡ looked ls y
    looked_one =
        let ids = numbers_same (member_count (take c is)) x.members.items y.members.items length_one (a.numbered c x f)
        (λ j m h. b.numbered c y g j m h ∙ ap (λ z. z + j) (sym count_one)) in
        let row = t.rows c i x at f in
        let other = u.rows c i y at g in
        looked_eq (looked ms x) (looked ls y)
        (class_one p ns [] [] (take c is) (take c js) plain (row_at rs c).class i (row_at rs c).step c x y row other ids) described_one

    new_member : (k : ℕ) → k < length x.members.items → option_map loose_described (described_at ms (member_count (take c is) + k))
        ≡ option_map loose_described (described_at ls (member_count (take c is) + k))
    new_member k l =
        let m = some_in x.members.items k l in
        let o = some_in y.members.items k (omega (arith, l, length_one)) in
        let one : slice_get (loosened (descriptions ms x.members.items)) k ≡ Some (option_map loose_described (described_at ms m.0.0)) =
        get_map (option_map loose_described) (descriptions ms x.members.items) k (described_at ms m.0.0)
        (get_map (λ (z : MemberId). described_at ms z.0) x.members.items k m.0 m.1) in
        let other : slice_get (loosened (descriptions ls y.members.items)) k ≡ Some (option_map loose_described (described_at ls o.0.0)) =
        get_map (option_map loose_described) (descriptions ls y.members.items) k (described_at ls o.0.0)
        (get_map (λ (z : MemberId). described_at ls z.0) y.members.items k o.0 o.1) in
        let e : option_map loose_described (described_at ms m.0.0) ≡ option_map loose_described (described_at ls o.0.0) =
        same_Some _ _ (sym one ∙ ap (λ z. slice_get z k) described_one ∙ other) in
        ap (λ z. option_map loose_described (described_at ms z)) (sym (a.numbered c x f k m.0 m.1)) ∙ e
        ∙ ap (λ z. option_map loose_described (described_at ls z)) (b.numbered c y g k o.0 o.1 ∙ ap (λ z. z + k) (sym count_one))

    alike_more : AreAlike (c + 1)
    alike_more = record {
      classes =
          looked_more ms is c x f
          ∙ ap (λ z. z ++ looked ms x ∷ []) alike.classes
          ∙ ap (λ z. map (looked ls) (take c js) ++ z ∷ []) looked_one
          ∙ sym (looked_more ls js c y g);
      members = λ j l. elim (cases_order j (member_count (take c is))) [
        | inl h ↦ later j (omega (arith, h)) l
        | inr o ↦ elim o [ inl h ↦ alike.members j h | inr h ↦ later j (omega (arith, h)) l ]
      ];
    }
      where
        later : (j : ℕ) → member_count (take c is) ≤ j → j < member_count (take (c + 1) is)
            → option_map loose_described (described_at ms j) ≡ option_map loose_described (described_at ls j)
        later j h l =
            let r = count_more is c x f in
            let e : member_count (take c is) + (j - member_count (take c is)) ≡ j = omega (arith, h) in
            transport (λ z. option_map loose_described (described_at ms z) ≡ option_map loose_described (described_at ls z)) e
            (new_member (j - member_count (take c is)) (omega (arith, h, l, r)))

  all_alike : (c : ℕ) → c ≤ n → AreAlike c
  all_alike zero l = record { classes = refl; members = λ j m. absurd (omega (arith, m)) }
  all_alike (suc c) l =
      let i = some_in p.declarations.items (row_at rs c).class (declared c (omega (arith, l))) in
      let x = some_in is c (let m = t.size in omega (arith, l, m)) in
      let y = some_in js c (let m = u.size in omega (arith, l, m)) in
      let e : c + 1 ≡ suc c = omega arith in
      transport AreAlike e (alike_more c (all_alike c (omega (arith, l))) i.0 i.1 x.0 y.0 x.1 y.1)

  whole : take n is ≡ is
  whole = take_all n is (let m = t.size in omega (arith, m))

  looked_all : map (looked ms) is ≡ map (looked ls) js
  looked_all = ap (map (looked ms)) (sym whole) ∙ (all_alike n (omega arith)).classes ∙ ap (map (looked ls)) (take_all n js (let m = u.size in omega (arith, m)))

  classes_one : map v.class is ≡ map v.class js
  classes_one = classes_view ms is ∙ ap (map (λ (x : Seen). x.class)) looked_all ∙ sym (classes_view ls js)

  all_plain : map (seen []) is ≡ map (seen []) js
  all_plain = all_alone ms is ∙ ap (map (λ (x : Seen). alone x.class)) looked_all ∙ sym (all_alone ls js)

  members_one : map (λ m. stripped.member (v.member m)) ms ≡ map (λ m. stripped.member (v.member m)) ls
  members_one =
      let q = a.total in
      members_view ms
      ∙ ap (map member_of)
      (by_places ms ls (a.total ∙ count_same [] [] is js all_plain ∙ sym b.total)
      (λ j l. (all_alike n (omega arith)).members j (let r = ap member_count whole in omega (arith, l, q, r))))
      ∙ sym (members_view ls)

class_id_eq : (c d : ClassId) → c.0 ≡ d.0 → c ≡ d
class_id_eq c d q = let of : ℕ → ClassId = λ n. record { 0 = n } in ap of q

-- ---- two tables of programs of one shape whose headers name classes that are declared

module _ (p q : Program) (same : shape.program p ≡ shape.program q) (k l : Classes) (a : IsBuilt p k) (b : IsBuilt q l) (listed : AreListed a.headers) where
  other_graph : IsGraph p b.headers
  other_graph = graph_like p q same b.headers b.graph

  other_rows : AreRows a.headers b.rows b.numbers
  other_rows = rows_same b.headers a.headers (same_graphs p b.headers a.headers other_graph a.graph) b.rows b.numbers b.are_rows

  one_rows : a.rows ≡ b.rows
  one_rows = rows_one a.headers listed a.rows b.rows a.numbers b.numbers a.are_rows other_rows

  pub one_numbers : a.numbers ≡ b.numbers
  one_numbers = numbers_one a.headers listed a.rows b.rows a.numbers b.numbers a.are_rows other_rows

  other_table : IsTable p a.numbers a.rows (length a.rows) l.classes.items
  other_table =
      transport (λ z. IsTable p z a.rows (length a.rows) l.classes.items) (sym one_numbers)
      (transport (λ z. IsTable p b.numbers z (length z) l.classes.items) (sym one_rows)
      (table_like p q same b.numbers b.rows (length b.rows) l.classes.items b.table))

  other_members : AreMembers q a.numbers a.rows (length a.rows) l.classes.items l.members.items
  other_members =
      transport (λ z. AreMembers q z a.rows (length a.rows) l.classes.items l.members.items) (sym one_numbers)
      (transport (λ z. AreMembers q b.numbers z (length z) l.classes.items l.members.items) (sym one_rows) b.members)

  declared : (c : ℕ) → c < length a.rows → (row_at a.rows c).class < length p.declarations.items
  declared c h = let m = a.are_rows.listed c h in let size = a.graph.size in omega (arith, m, size)

  pub shape_one : IsSameShape k l
  shape_one = record {
    classes = classes_one p q same a.numbers a.rows (length a.rows) k.classes.items l.classes.items k.members.items l.members.items declared a.table other_table a.members other_members;
    members = members_one p q same a.numbers a.rows (length a.rows) k.classes.items l.classes.items k.members.items l.members.items declared a.table other_table a.members other_members;
    function = class_id_eq k.function l.function (a.function ∙ ap (λ z. get_or z p.function 0) one_numbers ∙ ap (λ z. get_or b.numbers z 0) (function_like p q same) ∙ sym b.function);
  }
