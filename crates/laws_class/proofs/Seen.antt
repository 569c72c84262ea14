-- What later rows read of the rows before them.
use Rattle.std.proofs.Common.{◌≡◌, ℕ, ◌+◌, ◌||◌, List, [], ◌∷◌, Bool, false, length, map, option_map, Option, Some, None, slice_get, arith, refl, sym, ap, ◌∙◌}
use Rattle.std.proofs.lemmas.List.{length-map}
use Rattle.std.proofs.lemmas.Option.{slice_get-map}
use Rattle.dart_ir.specs.Ty.{Ty, dynamic, bottom, void, class, parameter, function, ty}
use Rattle.dart_ir.specs.declared.number.MemberId.{MemberId}
use Rattle.dart_ir.specs.declared.class.ClassInfo.{ClassInfo}
use Rattle.dart_ir.specs.declared.class.MemberInfo.{MemberInfo}
use Rattle.core_program.specs.Program as core
use Rattle.core_program.specs.ProgramView as v
use Rattle.class_fault.specs.declared.program.HeaderType.{HeaderType}
use Rattle.class_fault.specs.declared.program.Declaration.{Declaration}
use Rattle.class_table.specs.Renumbered.{renumbered}
use Rattle.class_table.specs.Rows.{callable_in, is_callable, any_callable, fields_in, field_count, field_counts, added_fields}
use Rattle.class_table.specs.Members.{Described, described_at, descriptions, members_in, mixed_in, mixin_members, row_members, member_count}

-- a class and its members
pub record Seen : Type 0 where
  pub class : core.Class ℕ
  pub members : List (Option Described)

abbrev pub seen : List MemberInfo → ClassInfo → Seen
seen ms i = record { class = v.class i; members = descriptions ms i.members.items }

abbrev callable_seen : Option Seen → Bool
callable_seen None = false
callable_seen (Some x) = x.class.callable

abbrev fields_seen : Option Seen → ℕ
fields_seen None = 0
fields_seen (Some x) = x.class.fields

abbrev members_seen : Option Seen → List (Option Described)
members_seen None = []
members_seen (Some x) = x.members

abbrev count_seen : List Seen → ℕ
count_seen [] = 0
count_seen (x ∷ xs) = length x.members + count_seen xs

callable_read : (ms : List MemberInfo) (o : Option ClassInfo) → callable_in o ≡ callable_seen (option_map (seen ms) o)
callable_read ms None = refl
callable_read ms (Some i) = refl

fields_read : (ms : List MemberInfo) (o : Option ClassInfo) → fields_in o ≡ fields_seen (option_map (seen ms) o)
fields_read ms None = refl
fields_read ms (Some i) = refl

members_read : (ms : List MemberInfo) (o : Option ClassInfo) → descriptions ms (members_in o) ≡ members_seen (option_map (seen ms) o)
members_read ms None = refl
members_read ms (Some i) = refl

count_read : (ms : List MemberInfo) (is : List ClassInfo) → member_count is ≡ count_seen (map (seen ms) is)
count_read ms [] = refl
count_read ms (i ∷ is) = let r = count_read ms is in let l = length-map i.members.items (λ (m : MemberId). described_at ms m.0) in omega (arith, r, l)

module _ (ms ls : List MemberInfo) (is js : List ClassInfo) (same : map (seen ms) is ≡ map (seen ls) js) where
  seen_at : (e : ℕ) → option_map (seen ms) (slice_get is e) ≡ option_map (seen ls) (slice_get js e)
  seen_at e = sym (slice_get-map (seen ms) is e) ∙ ap (λ xs. slice_get xs e) same ∙ slice_get-map (seen ls) js e

  callable_same : (t : Ty) → is_callable is t ≡ is_callable js t
  callable_same (class e ts) =
      callable_read ms (slice_get is e) ∙ ap callable_seen (seen_at e) ∙ sym (callable_read ls (slice_get js e))
  callable_same dynamic = refl
  callable_same bottom = refl
  callable_same void = refl
  callable_same (parameter i) = refl
  callable_same (function r q o n) = refl

  pub any_same : (ts : List Ty) → any_callable is ts ≡ any_callable js ts
  any_same [] = refl
  any_same (t ∷ ts) = ap (λ b. b || any_callable is ts) (callable_same t) ∙ ap (λ b. is_callable js t || b) (any_same ts)

  field_count_same : (t : Ty) → field_count is t ≡ field_count js t
  field_count_same (class e ts) =
      fields_read ms (slice_get is e) ∙ ap fields_seen (seen_at e) ∙ sym (fields_read ls (slice_get js e))
  field_count_same dynamic = refl
  field_count_same bottom = refl
  field_count_same void = refl
  field_count_same (parameter i) = refl
  field_count_same (function r q o n) = refl

  pub field_counts_same : (ts : List Ty) → field_counts is ts ≡ field_counts js ts
  field_counts_same [] = refl
  field_counts_same (t ∷ ts) = ap (λ n. n + field_counts is ts) (field_count_same t) ∙ ap (λ n. field_count js t + n) (field_counts_same ts)

  pub added_same : (ns : List ℕ) (i : Declaration) (o : Option HeaderType) → added_fields is ns i o ≡ added_fields js ns i o
  added_same ns i None = refl
  added_same ns i (Some t) = field_count_same (renumbered ns (ty t.of))

  mixin_same : (c : ℕ) (t : Ty) → mixin_members ms is c t ≡ mixin_members ls js c t
  mixin_same c (class e ts) =
      ap (map (option_map (mixed_in c ts))) (members_read ms (slice_get is e) ∙ ap members_seen (seen_at e) ∙ sym (members_read ls (slice_get js e)))
  mixin_same c dynamic = refl
  mixin_same c bottom = refl
  mixin_same c void = refl
  mixin_same c (parameter i) = refl
  mixin_same c (function r q o n) = refl

  pub row_members_same : (ns : List ℕ) (c : ℕ) (i : Declaration) (o : Option HeaderType) → row_members ms is ns c i o ≡ row_members ls js ns c i o
  row_members_same ns c i None = refl
  row_members_same ns c i (Some t) = mixin_same c (renumbered ns (ty t.of))

  pub count_same : member_count is ≡ member_count js
  count_same = count_read ms is ∙ ap count_seen same ∙ sym (count_read ls js)
