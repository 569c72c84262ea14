-- The members of one more row, and what is read of members.
use Rattle.std.proofs.Common.{◌≡◌, ℕ, zero, suc, ◌<◌, ◌+◌, List, [], ◌∷◌, ◌++◌, inl, inr, length, map, take, get_or, All, option_map, Option, Some, None, slice_get, arith, refl, sym, ap, ◌∙◌, subst as transport}
use Rattle.std.proofs.lemmas.Option.{same_Some, slice_get_within, slice_get-get_or}
use Rattle.std.proofs.lemmas.Bool.{cases_order}
use Rattle.class_order.proofs.Lists.{push_cases}
use Rattle.class_order.specs.declared.rows.Row.{Row}
use Rattle.class_order.specs.Rows.{row_at}
use Rattle.dart_ir.specs.declared.class.MemberInfo.{MemberInfo}
use Rattle.dart_ir.specs.declared.class.ClassInfo.{ClassInfo}
use Rattle.dart_ir.specs.Ty.{Ty, class, dynamic, bottom, void, parameter, function, ty}
use Rattle.class_fault.specs.declared.program.HeaderType.{HeaderType}
use Rattle.class_fault.specs.declared.program.Declaration.{Declaration}
use Rattle.class_fault.specs.declared.program.Program.{Program}
use Rattle.class_fault.specs.Program.{declaration_at}
use Rattle.class_table.specs.Renumbered.{renumbered}
use Rattle.class_table.specs.Members.{descriptions, members_in, mixed_in, mixin_members, row_members, member_count, AreMembers, Adds, AreBelow}
use Rattle.class_table.proofs.Lists.{slice_get_at, slice_get_left, slice_get_take, take_push, take_whole}
use Rattle.class_table.proofs.Added.{same_descriptions}

-- what is read of a list that is made element by element
pub map_get : {A B : Type 0} (f : A → B) (xs : List A) (j : ℕ) (y : B) → slice_get (map f xs) j ≡ Some y → (x : A) × (slice_get xs j ≡ Some x) × (y ≡ f x)
map_get f [] j y q = absurd (cc)
map_get f (x ∷ xs) zero y q = (x, refl, sym (same_Some (f x) y q))
map_get f (x ∷ xs) (suc j) y q = map_get f xs j y q

pub get_map : {A B : Type 0} (f : A → B) (xs : List A) (j : ℕ) (x : A) → slice_get xs j ≡ Some x → slice_get (map f xs) j ≡ Some (f x)
get_map f [] j x q = absurd (cc)
get_map f (y ∷ xs) zero x q = ap (λ z. Some (f z)) (same_Some y x q)
get_map f (y ∷ xs) (suc j) x q = get_map f xs j x q

pub all_from_get : {A : Type 0} (P : A → Type 0) (xs : List A) → ((j : ℕ) (x : A) → slice_get xs j ≡ Some x → P x) → All P xs
all_from_get P xs h j d l = h j (get_or xs j d) (slice_get-get_or xs j d l)

module _ (ms ns : List MemberInfo) (kept : (j : ℕ) → j < length ms → slice_get ns j ≡ slice_get ms j) (is : List ClassInfo) (below : (c : ℕ) (info : ClassInfo) → slice_get is c ≡ Some info → AreBelow (length ms) info.members.items) where
  in_below : (e : ℕ) (o : Option ClassInfo) → slice_get is e ≡ o → AreBelow (length ms) (members_in o)
  in_below e None q = λ j m r. absurd (cc)
  in_below e (Some info) q = below e info q

  same_mixin : (c : ℕ) (t : Ty) → mixin_members ns is c t ≡ mixin_members ms is c t
  same_mixin c (class e ts) = ap (map (option_map (mixed_in c ts))) (same_descriptions ms ns kept (members_in (slice_get is e)) (in_below e (slice_get is e) refl))
  same_mixin c dynamic = refl
  same_mixin c bottom = refl
  same_mixin c void = refl
  same_mixin c (parameter i) = refl
  same_mixin c (function r q o n) = refl

  pub same_row : (numbers : List ℕ) (c : ℕ) (i : Declaration) (o : Option HeaderType) → row_members ns is numbers c i o ≡ row_members ms is numbers c i o
  same_row numbers c i None = refl
  same_row numbers c i (Some t) = same_mixin c (renumbered numbers (ty t.of))

pub count_push : (is : List ClassInfo) (info : ClassInfo) → member_count (is ++ info ∷ []) ≡ member_count is + length info.members.items
count_push [] info = omega arith
count_push (x ∷ is) info = let r = count_push is info in omega (arith, r)

pub members_more : (p : Program) (numbers : List ℕ) (rs : List Row) (n : ℕ) (is js : List ClassInfo) (ms ns : List MemberInfo) (info : ClassInfo) (i : Declaration) → length is ≡ n → AreMembers p numbers rs n is ms → js ≡ is ++ info ∷ [] → declaration_at p (row_at rs n).class ≡ Some i
    → Adds ms ns info.members.items (row_members ms is numbers n i (slice_get i.mixins.items (row_at rs n).step)) n → AreMembers p numbers rs (n + 1) js ns
members_more p numbers rs n is js ms ns info i size t q at a = transport (λ z. AreMembers p numbers rs (n + 1) z ns) (sym q) (record {
  listed = λ c x g. elim (push_cases is info c (slice_get_within (is ++ info ∷ []) c x g)) [
    | inl l ↦ λ j m h. let w = t.listed c x (slice_get_left is (info ∷ []) c x l g) j m h in let r = a.longer in omega (arith, w, r)
    | inr e ↦ transport (λ (z : ClassInfo). AreBelow (length ns) z.members.items) (same_Some info x (sym (slice_get_at is info c e) ∙ g)) a.listed
  ];
  owned = λ j x g. elim (cases_order j (length ms)) [
    | inl e ↦ let w = a.owned j x (omega (arith, e)) g in omega (arith, w)
    | inr f ↦ elim f [ inl l ↦ let w = t.owned j x (sym (a.kept j l) ∙ g) in omega (arith, w) | inr l ↦ let w = a.owned j x (omega (arith, l)) g in omega (arith, w) ]
  ];
  rows = λ c k x e g. elim (push_cases is info c (slice_get_within (is ++ info ∷ []) c x g)) [ inl l ↦ old c k x l e (slice_get_left is (info ∷ []) c x l g) | inr m ↦ new c k x m e g ];
  numbered = λ c x g. elim (push_cases is info c (slice_get_within (is ++ info ∷ []) c x g)) [
    | inl l ↦ λ j m h. t.numbered c x (slice_get_left is (info ∷ []) c x l g) j m h ∙ ap (λ z. member_count z + j) (sym (take_push is (info ∷ []) c (omega (arith, l))))
    | inr e ↦ λ j m h. a.numbered j m (ap (λ (z : ClassInfo). slice_get z.members.items j) (same_Some info x (sym (slice_get_at is info c e) ∙ g)) ∙ h) ∙ ap (λ z. z + j) (t.total ∙ ap member_count (sym (take_whole is (info ∷ []) c e)))
  ];
  total = let l = a.longer in let m = t.total in omega (arith, l, m, count_push is info);
})
  where
    below_take : (c b : ℕ) (x : ClassInfo) → slice_get (take c is) b ≡ Some x → AreBelow (length ms) x.members.items
    below_take c b x r = t.listed b x (slice_get_take is c b x r).1

    old : (c : ℕ) (k : Declaration) (x : ClassInfo) → c < length is → declaration_at p (row_at rs c).class ≡ Some k → slice_get is c ≡ Some x → descriptions ns x.members.items ≡ row_members ns (take c (is ++ info ∷ [])) numbers c k (slice_get k.mixins.items (row_at rs c).step)
    old c k x l e g =
        same_descriptions ms ns a.kept x.members.items (t.listed c x g)
        ∙ t.rows c k x e g
        ∙ sym (same_row ms ns a.kept (take c is) (below_take c) numbers c k (slice_get k.mixins.items (row_at rs c).step))
        ∙ ap (λ z. row_members ns z numbers c k (slice_get k.mixins.items (row_at rs c).step)) (sym (take_push is (info ∷ []) c (omega (arith, l))))

    new : (c : ℕ) (k : Declaration) (x : ClassInfo) → c ≡ length is → declaration_at p (row_at rs c).class ≡ Some k → slice_get (is ++ info ∷ []) c ≡ Some x → descriptions ns x.members.items ≡ row_members ns (take c (is ++ info ∷ [])) numbers c k (slice_get k.mixins.items (row_at rs c).step)
    new c k x m e g =
        let s : info ≡ x = same_Some info x (sym (slice_get_at is info c m) ∙ g) in
        let w : c ≡ n = m ∙ size in
        let v : i ≡ k = same_Some i k (sym at ∙ ap (λ z. declaration_at p (row_at rs z).class) (sym w) ∙ e) in
        ap (λ (z : ClassInfo). descriptions ns z.members.items) (sym s)
        ∙ a.are
        ∙ sym (same_row ms ns a.kept is t.listed numbers n i (slice_get i.mixins.items (row_at rs n).step))
        ∙ ap (λ (z : Declaration). row_members ns is numbers n z (slice_get z.mixins.items (row_at rs n).step)) v
        ∙ ap (λ z. row_members ns is numbers z k (slice_get k.mixins.items (row_at rs z).step)) (sym w)
        ∙ ap (λ z. row_members ns z numbers c k (slice_get k.mixins.items (row_at rs c).step)) (sym (take_whole is (info ∷ []) c m))

pub no_members : (p : Program) (numbers : List ℕ) (rs : List Row) → AreMembers p numbers rs 0 [] []
no_members p numbers rs = record {
  listed = λ c info q. absurd (cc);
  owned = λ j x q. absurd (cc);
  rows = λ c i info e q. absurd (cc);
  numbered = λ c info q. absurd (cc);
  total = refl;
}
