-- The fields that a class declares, one behind another.
use Rattle.std.proofs.Common.{◌≡◌, ℕ, ◌+◌, ◌<◌, ◌≤◌, List, [], ◌∷◌, ◌++◌, Result, OnOk, Bool, true, cond, Option, Some, map, length, get_or, drop, sym, ap, ◌∙◌, append_assoc, append-nil, arith}
use Rattle.std.specs.Str.{bytes_eq}
use Rattle.std.proofs.lemmas.Result.{on_ok_weaker}
use Rattle.std.proofs.lemmas.List.{length-append, length-map}
use Rattle.dart_tree.specs.declared.declaration.Member.{Member}
use Rattle.dart_tree.specs.declared.statement.Variable.{Variable}
use Rattle.dart_tree.specs.declared.statement.Variables.{Variables, out-Variables}
use Rattle.dart_tree.specs.Lists.{more_variables_of}
use Rattle.dart_tree.specs.Tree as t
use Rattle.dart_tree.specs.UnitView as unit_view
use Rattle.dart_tree.specs.View as view
use Rattle.dart_tree.proofs.Rows.{view_the_variables}
use Rattle.translation.specs.Classes as cl
use Rattle.translation.specs.Types as y
use Rattle.translation.specs.Walk as w
use Rattle.lower_leaf.specs.Around.{Around}
use Rattle.lower_class.proofs.Items.{rest_at, none_at}
use Rattle.lower_class.specs.declared.field.Field.{Field}
use Rattle.lower_class.specs.Views.{field}

-- how many fields there are behind more of them
counted : (a : Around) (found found2 : List Field) (more : List cl.Field) → map (field a) found2 ≡ map (field a) found ++ more → length found2 ≡ length found + length more
counted a found found2 more added =
    sym (length-map found2 (field a)) ∙ ap (λ (l : List cl.Field). length l) added ∙ length-append (map (field a) found) more
    ∙ ap (λ (n : ℕ). n + length more) (length-map found (field a))

-- a field behind those before it
abbrev pub fields_behind : Around → w.Asked → Bool → ℕ → List Field → List Variable → List cl.Field
fields_behind a asked final_one first found rest = map (field a) found ++ cl.more_fields asked final_one (first + length found) (more_variables_of rest)

pub more_step : (a : Around) (asked : w.Asked) (final_one : Bool) (first : ℕ) (found found2 : List Field) (all ys : List Variable) (i : ℕ) (x : Variable) (whole : List cl.Field) →
    ys ≡ all → i < length ys → x ≡ get_or ys i x →
    map (field a) found2 ≡ map (field a) found ++ record { name = y.word_of x.name; index = first + length found; asked = asked; is_final = final_one } ∷ [] →
    fields_behind a asked final_one first found (drop i all) ≡ whole → fields_behind a asked final_one first found2 (drop (i + 1) all) ≡ whole
more_step a asked final_one first found found2 all ys i x whole same below is pushed done =
    let one : cl.Field = record { name = y.word_of x.name; index = first + length found; asked = asked; is_final = final_one } in
    let longer : length found2 ≡ length found + 1 = counted a found found2 (one ∷ []) pushed in
    let next : first + length found2 ≡ (first + length found) + 1 = omega arith in
    ap (λ (l : List cl.Field). l ++ cl.more_fields asked final_one (first + length found2) (more_variables_of (drop (i + 1) all))) pushed
    ∙ ap (λ (n : ℕ). (map (field a) found ++ one ∷ []) ++ cl.more_fields asked final_one n (more_variables_of (drop (i + 1) all))) next
    ∙ append_assoc (map (field a) found) (one ∷ []) (cl.more_fields asked final_one ((first + length found) + 1) (more_variables_of (drop (i + 1) all)))
    ∙ ap (λ (l : List Variable). map (field a) found ++ cl.more_fields asked final_one (first + length found) (more_variables_of l)) (sym (rest_at all ys i x same below is))
    ∙ done

pub more_end : (a : Around) (asked : w.Asked) (final_one : Bool) (first : ℕ) (found : List Field) (all ys : List Variable) (i : ℕ) (whole : List cl.Field) →
    ys ≡ all → length ys ≤ i → fields_behind a asked final_one first found (drop i all) ≡ whole → map (field a) found ≡ whole
more_end a asked final_one first found all ys i whole same past done =
    sym (append-nil (map (field a) found))
    ∙ ap (λ (l : List Variable). map (field a) found ++ cl.more_fields asked final_one (first + length found) (more_variables_of l)) (sym (none_at all ys i same past)) ∙ done

-- the fields of a declaration behind those before it
declared_behind : (a : Around) (st : w.State) (first : ℕ) (found found2 found3 : List Field) (x : Variables) (asked : w.Asked) (final_one : Bool) →
    asked ≡ y.asked_of_kind st (view.variable_kind (out-Variables x).kind) → final_one ≡ y.is_final (view.variable_kind (out-Variables x).kind) →
    map (field a) found2 ≡ map (field a) found ++ record { name = y.word_of (out-Variables x).name; index = first + length found; asked = asked; is_final = final_one } ∷ [] →
    map (field a) found3 ≡ map (field a) found2 ++ cl.more_fields asked final_one (first + length found2) (more_variables_of (out-Variables x).more.items) →
    map (field a) found3 ≡ map (field a) found ++ cl.fields_of st (first + length found) (view.variables x)
declared_behind a st first found found2 found3 x asked final_one asks finals pushed behind =
    let kind = view.variable_kind (out-Variables x).kind in
    let more = more_variables_of (out-Variables x).more.items in
    let n = first + length found in
    let one : w.Asked → Bool → cl.Field = λ k b. record { name = y.word_of (out-Variables x).name; index = n; asked = k; is_final = b } in
    let all : w.Asked → Bool → List cl.Field = λ k b. map (field a) found ++ (one k b ∷ cl.more_fields k b (n + 1) more) in
    let longer : length found2 ≡ length found + 1 = counted a found found2 (one asked final_one ∷ []) pushed in
    let next : first + length found2 ≡ (first + length found) + 1 = omega arith in
    behind
    ∙ ap (λ (l : List cl.Field). l ++ cl.more_fields asked final_one (first + length found2) more) pushed
    ∙ ap (λ (k : ℕ). (map (field a) found ++ one asked final_one ∷ []) ++ cl.more_fields asked final_one k more) next
    ∙ append_assoc (map (field a) found) (one asked final_one ∷ []) (cl.more_fields asked final_one (n + 1) more)
    ∙ ap (λ (k : w.Asked). all k final_one) asks ∙ ap (λ (b : Bool). all (y.asked_of_kind st kind) b) finals
    ∙ ap (λ (v : t.Variables). map (field a) found ++ cl.fields_of st n v) (sym (view_the_variables x))

pub declared_ok : {T E : Type 0} (r : Result T E) (a : Around) (st : w.State) (first : ℕ) (found found2 found3 : List Field) (x : Variables) (asked : w.Asked) (final_one : Bool) →
    asked ≡ y.asked_of_kind st (view.variable_kind (out-Variables x).kind) → final_one ≡ y.is_final (view.variable_kind (out-Variables x).kind) →
    map (field a) found2 ≡ map (field a) found ++ record { name = y.word_of (out-Variables x).name; index = first + length found; asked = asked; is_final = final_one } ∷ [] →
    OnOk r (map (field a) found3 ≡ map (field a) found2 ++ cl.more_fields asked final_one (first + length found2) (more_variables_of (out-Variables x).more.items)) →
    OnOk r (map (field a) found3 ≡ map (field a) found ++ cl.fields_of st (first + length found) (view.variables x))
declared_ok r a st first found found2 found3 x asked final_one asks finals pushed behind =
    on_ok_weaker r (declared_behind a st first found found2 found3 x asked final_one asks finals pushed) behind

-- the fields of a member behind those before it
abbrev pub members_behind : Around → w.State → ℕ → List Field → List Member → List cl.Field
members_behind a st first found rest = map (field a) found ++ cl.own_fields st (first + length found) (map unit_view.member rest)

abbrev pub fields_at : w.State → ℕ → Member → List cl.Field
fields_at st n x = cl.member_fields st n (cl.is_static x.modifier) (unit_view.member_kind x.kind)

pub members_step : (a : Around) (st : w.State) (first : ℕ) (found found2 : List Field) (all ys : List Member) (i : ℕ) (x : Member) (whole : List cl.Field) →
    ys ≡ all → i < length ys → x ≡ get_or ys i x → map (field a) found2 ≡ map (field a) found ++ fields_at st (first + length found) x →
    members_behind a st first found (drop i all) ≡ whole → members_behind a st first found2 (drop (i + 1) all) ≡ whole
members_step a st first found found2 all ys i x whole same below is added done =
    let one = fields_at st (first + length found) x in
    let longer : length found2 ≡ length found + length one = counted a found found2 one added in
    let next : first + length found2 ≡ (first + length found) + length one = omega arith in
    ap (λ (l : List cl.Field). l ++ cl.own_fields st (first + length found2) (map unit_view.member (drop (i + 1) all))) added
    ∙ ap (λ (n : ℕ). (map (field a) found ++ one) ++ cl.own_fields st n (map unit_view.member (drop (i + 1) all))) next
    ∙ append_assoc (map (field a) found) one (cl.own_fields st ((first + length found) + length one) (map unit_view.member (drop (i + 1) all)))
    ∙ ap (λ (l : List Member). map (field a) found ++ cl.own_fields st (first + length found) (map unit_view.member l)) (sym (rest_at all ys i x same below is))
    ∙ done

pub members_end : (a : Around) (st : w.State) (first : ℕ) (found : List Field) (all ys : List Member) (i : ℕ) (whole : List cl.Field) →
    ys ≡ all → length ys ≤ i → members_behind a st first found (drop i all) ≡ whole → map (field a) found ≡ whole
members_end a st first found all ys i whole same past done =
    sym (append-nil (map (field a) found))
    ∙ ap (λ (l : List Member). map (field a) found ++ cl.own_fields st (first + length found) (map unit_view.member l)) (sym (none_at all ys i same past)) ∙ done

-- the field at an index has the name
pub named_here : (a : Around) (all ys : List Field) (i : ℕ) (x : Field) (name : List ℕ) (whole : Option cl.Field) → ys ≡ all → i < length ys → x ≡ get_or ys i x →
    bytes_eq x.name.text name ≡ true → cl.field_named (map (field a) (drop i all)) name ≡ whole → whole ≡ Some (field a x)
named_here a all ys i x name whole same below is named done =
    sym done ∙ ap (λ (l : List Field). cl.field_named (map (field a) l) name) (rest_at all ys i x same below is)
    ∙ ap (λ (b : Bool). cond b (Some (field a x)) (cl.field_named (map (field a) (drop (i + 1) all)) name)) named
